use Rattle.std.proofs.Common.{◌≡◌, ◌++◌, take, filter}
use Rattle.tx_machine.specs.Names.{names_of}
use Rattle.flow_model.specs.Check.{is_named}
use Rattle.tx_trace.specs.Trace.{known, texts_of}
use Rattle.tx_trace.proofs.known.known_names.Given as goal

abbrev pub invariant-loop-name : goal.invariant-loop-name
invariant-loop-name l = record {
  can : (goal.iterator-loop-name).can_next l.name-iterator;
  finite : (goal.iterator-loop-name).is_finite l.name-iterator;
  known : texts_of l.names.items ++ filter (λ n. is_named n l.code.groups) (take l.name-iterator.left (names_of l.name-iterator.rest.now))
      ≡ known l.code.groups l.text;
}
