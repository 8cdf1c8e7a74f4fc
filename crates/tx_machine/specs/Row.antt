-- The journal's row of a transaction: what a restart finds of one that is not finished.
--
-- The journal's row.
--
-- `row_of`: phase, members, number notified, the participant of a due preparation (`doing`),
-- tries and saved context of a transaction that has not ended; none after its end. `IsRow` has
-- its bounds.
use Rattle.std.specs.Prelude.{◌≡◌, ℕ, ◌<◌, ◌≤◌, List, length, Option, Some, None}
use Rattle.std.specs.List.{All}
use Rattle.flow_model.specs.declared.flow.Flow.{Flow}
use Rattle.flow_model.specs.Places.{parts_of}
use Rattle.tx_machine.specs.declared.values.Phase.{Phase}
use Rattle.tx_machine.specs.declared.values.Phase.TheVariants.{Preparing, Aborting, Committing, Undoing}
use Rattle.tx_machine.specs.declared.values.Due.{Due}
use Rattle.tx_machine.specs.declared.values.Due.TheVariants as due
use Rattle.tx_machine.specs.Table.{TxState}
use Rattle.tx_machine.specs.Due.{due_of}

-- `doing` is the participant of a due preparation, which may join
pub record Row : Type 0 where
  pub phase : Phase
  pub joined : List ℕ
  pub told : ℕ
  pub doing : Option ℕ
  pub tries : ℕ
  pub saved : List ℕ

abbrev pub row_with : TxState → Option ℕ → Row
row_with s doing = record { phase = s.phase; joined = s.joined; told = s.told; doing = doing; tries = s.tries; saved = s.saved }

-- the row by the call that is due: none if the transaction has ended
abbrev pub row_at : TxState → Due → Option Row
row_at s (due.Prepare e) = Some (row_with s (Some e.participant))
row_at s (due.PrepareForAbort e) = Some (row_with s (Some e.participant))
row_at s (due.Select e) = Some (row_with s None)
row_at s (due.Commit p) = Some (row_with s None)
row_at s (due.Abort p) = Some (row_with s None)
row_at s due.Shelve = None
row_at s due.Done = None

abbrev pub row_of : Flow → TxState → Option Row
row_of f s = row_at s (due_of f s)

-- a participant of the flow, or none
abbrev pub IsDoing : ℕ → Option ℕ → Type 0
IsDoing count None = Unit {0}
IsDoing count (Some p) = p < count

-- the bounds by phase: until the outcome is decided nobody is notified; after that, somebody is left to notify and nothing
-- else is under way; a recovered transaction has one more member if a preparation was under way
abbrev pub IsInPhase : Phase → Row → Type 0
IsInPhase Preparing r = (r.told ≡ 0) × (length r.joined ≤ 1000)
IsInPhase Aborting r = (r.told ≡ 0) × (length r.joined ≤ 1000)
IsInPhase Committing r = (r.told < length r.joined) × (r.doing ≡ None) × (length r.joined ≤ 1001)
IsInPhase Undoing r = (r.told < length r.joined) × (r.doing ≡ None) × (length r.joined ≤ 1001)

-- a row that a transaction of this flow may have
pub record IsRow (f : Flow) (r : Row) : Type 0 where
  pub phase : IsInPhase r.phase r
  pub members : All (λ p. p < length (parts_of f)) r.joined
  pub doing : IsDoing (length (parts_of f)) r.doing
