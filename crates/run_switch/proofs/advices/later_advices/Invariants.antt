use Rattle.std.proofs.Common.{◌≡◌, ◌≤◌, ◌++◌, length, map}
use Rattle.run_switch.specs.Advices.{later}
use Rattle.run_switch.specs.Stored.{plain}
use Rattle.run_switch.proofs.advices.later_advices.Given as goal

abbrev pub invariant-loop-id : goal.invariant-loop-id
invariant-loop-id l = record {
  all : map plain l.list.items ≡ map (λ e. (e.0.now, e.1.now)) l.yielded;
  few : length l.list.items ≤ l.most;
  split : later (l.fn.reached.id, l.fn.reached.place) l.fn.advices.entries ≡ map (λ e. (e.0.now, e.1.now)) l.yielded ++ l.id-iterator;
}
