use Rattle.std.proofs.Common.{◌≡◌, ◌+◌, ◌<◌, length}
use Rattle.std.specs.List.{All}
use Rattle.flow_asm.specs.Steps.{stages}
use Rattle.tx_machine.specs.Table.{passed_if}
use Rattle.tx_machine.specs.Position.{rest_of, IsStackFrame, left_at, stack_left}
use Rattle.tx_machine.proofs.walk.next_due.Given as goal

-- what is to come is the same as at the start
abbrev pub invariant-loop-stack : goal.invariant-loop-stack
invariant-loop-stack l = record {
  within : l.step < length (stages l.code);
  frames : All (IsStackFrame l.code) l.stack.items;
  rest : passed_if l.aborting (rest_of l.code l.step l.stack.items) ≡ passed_if l.aborting (rest_of l.code l.from l.fn.stack.items);
}

-- the steps that can still be taken
abbrev pub decreases-loop-stack : goal.decreases-loop-stack
decreases-loop-stack l = left_at l.code l.step + stack_left l.code l.stack.items
