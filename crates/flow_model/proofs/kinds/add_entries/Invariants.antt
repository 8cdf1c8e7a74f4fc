use Rattle.std.proofs.Common.{◌≡◌, ℕ, List, take}
use Rattle.flow_model.specs.Kinds.{kind_at}
use Rattle.flow_model.specs.Check.{kind_in}
use Rattle.sw_base.specs.Refusals.{or_else}
use Rattle.flow_model.proofs.kinds.add_entries.Given as goal

abbrev pub invariant-loop-entry : goal.invariant-loop-entry
invariant-loop-entry l = (q : List ℕ) → kind_at l.kinds q ≡ or_else (kind_at l.fn.kinds q) (kind_in q (take l.entry-index l.entries))
