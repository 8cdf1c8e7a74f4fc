-- The reply that a due call asks for is due.
-- for: machine::Machine::apply
use Rattle.std.proofs.Common.{◌≡◌, ℕ, Bool, true, false, List, [], ◌∷◌, length, refl, if◌then◌else◌}
use Rattle.std.specs.Prelude.{nat_lt, slice_index, ◌&&◌}
use Rattle.flow_model.specs.declared.flow.Flow.{Flow}
use Rattle.tx_machine.specs.declared.values.Phase.{Phase}
use Rattle.tx_machine.specs.declared.values.Phase.TheVariants.{Preparing, Aborting, Committing, Undoing}
use Rattle.tx_machine.specs.declared.values.Due.TheVariants as due
use Rattle.tx_machine.specs.Table.{TxState, Upcoming, Prepare, Select}
use Rattle.tx_machine.specs.Due.{due_at, due_of, end_by, IsReplyDue}

ends : (retry : Bool) (tries : Bool) (s : TxState) → IsReplyDue (if retry && tries then due.Shelve else due.Done) s
ends true true s = tt
ends true false s = tt
ends false b s = tt

commits : (b : Bool) (p : ℕ) (s : TxState) → nat_lt s.told (length s.joined) ≡ b →
    IsReplyDue (if b then due.Commit p else due.Done) (record s { phase = Committing })
commits true p s h = h
commits false p s h = tt

aborts : (b : Bool) (p : ℕ) (s : TxState) → nat_lt s.told (length s.joined) ≡ b →
    IsReplyDue (if b then due.Abort p else end_by s.retry s.tries) (record s { phase = Undoing })
aborts true p s h = h
aborts false p s h = ends s.retry (nat_lt 0 s.tries) (record s { phase = Undoing })

reply_due_at : (f : Flow) (s : TxState) (p : Phase) (ms : List Upcoming) → IsReplyDue (due_at f s p ms) (record s { phase = p; rest = ms })
reply_due_at f s Preparing [] = tt
reply_due_at f s Preparing (Prepare e ∷ tail) = refl
reply_due_at f s Preparing (Select e ∷ tail) = refl
reply_due_at f s Aborting [] = ends s.retry (nat_lt 0 s.tries) (record s { phase = Aborting; rest = [] })
reply_due_at f s Aborting (Prepare e ∷ tail) = refl
reply_due_at f s Aborting (Select e ∷ tail) = refl
reply_due_at f s Committing ms = commits (nat_lt s.told (length s.joined)) (slice_index s.joined s.told) (record s { rest = ms }) refl
reply_due_at f s Undoing ms = aborts (nat_lt s.told (length s.joined)) (slice_index s.joined s.told) (record s { rest = ms }) refl

pub reply_due : (f : Flow) (s : TxState) → IsReplyDue (due_of f s) s
reply_due f s = reply_due_at f s s.phase s.rest
