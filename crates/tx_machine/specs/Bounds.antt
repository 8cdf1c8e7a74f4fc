-- What every lawful list of items keeps of a transaction's state.
use Rattle.std.specs.Prelude.{◌≡◌, ◌<◌, ◌≤◌, ◌⊎◌, true, false, List, [], ◌∷◌, length}
use Rattle.std.specs.List.{All}
use Rattle.flow_model.specs.declared.flow.Flow.{Flow}
use Rattle.flow_model.specs.Places.{parts_of, IsOfParticipant}
use Rattle.tx_machine.specs.declared.values.Item.{Item}
use Rattle.tx_machine.specs.Table.{TxState, Upcoming, Prepare, Select, is_open, next}

-- after these items, the newest first
abbrev pub after_newest : Flow → TxState → List Item → TxState
after_newest f s [] = s
after_newest f s (x ∷ past) = next f (after_newest f s past) x

-- what is to come is of a participant of the flow
abbrev pub IsOfFlow : Flow → Upcoming → Type 0
IsOfFlow f (Prepare e) = IsOfParticipant f e
IsOfFlow f (Select e) = IsOfParticipant f e

-- until the outcome is decided nobody is notified, there are no more members than answers and choices, and without
-- anything to come there is no member
pub record IsUndecided (s : TxState) : Type 0 where
  pub untold : s.told ≡ 0
  pub members : length s.joined ≤ s.calls
  pub ended : s.rest ≡ [] → s.joined ≡ []

-- A state that a lawful list leads to. At most 1,000 answers and choices, and fewer if more is to come; at most 1,001
-- members (at most 1,000 unless the transaction is a recovered one), all of them of the flow, of which no more are
-- notified than there are.
pub record IsProper (f : Flow) (s : TxState) : Type 0 where
  pub calls : s.calls ≤ 1000
  pub more : (s.rest ≡ []) ⊎ (s.calls < 1000)
  pub undecided : is_open s.phase ≡ true → IsUndecided s
  pub decided : is_open s.phase ≡ false → s.rest ≡ []
  pub few : length s.joined ≤ 1001
  pub told : s.told ≤ length s.joined
  pub joined : All (λ p. p < length (parts_of f)) s.joined
  pub rest : All (IsOfFlow f) s.rest
