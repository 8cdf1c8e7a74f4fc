use Rattle.std.proofs.Common.{◌≡◌, drop}
use Rattle.sw_base.specs.Refusals.{first_at}
use Rattle.iso_dialect.specs.Profiles.{refusal_at}
use Rattle.iso_dialect.proofs.refuse.refuse_rows.Given as goal

abbrev pub invariant-loop-number : goal.invariant-loop-number
invariant-loop-number l = first_at refusal_at l.number (drop l.number l.rows) ≡ first_at refusal_at 0 l.rows
