-- Where a transaction stands, also a journalled one: its state in the specified table, the row that it was opened from, and
-- its recover calls; and what the outcome law needs of that.
use Rattle.std.specs.Prelude.{◌≡◌, ℕ, ◌<◌, ◌≤◌, Bool, true, false, not, ◌&&◌, List, [], length, Option, Some, None, slice_get, nat_lt}
use Rattle.flow_model.specs.declared.flow.Flow.{Flow}
use Rattle.flow_model.specs.declared.numbering.Part.{Part}
use Rattle.flow_model.specs.Places.{parts_of}
use Rattle.tx_machine.specs.declared.values.Phase.{Phase}
use Rattle.tx_machine.specs.declared.values.Phase.TheVariants.{Preparing, Aborting, Committing, Undoing}
use Rattle.tx_machine.specs.declared.values.Due.{Due}
use Rattle.tx_machine.specs.declared.values.Due.TheVariants.{Prepare, PrepareForAbort, Select, Commit, Abort, Shelve, Done}
use Rattle.tx_machine.specs.declared.values.Item.TheVariants as item
use Rattle.tx_machine.specs.Table.{TxState, Upcoming, next, opening, reopening}
use Rattle.tx_machine.specs.Due.{due_at, due_of}
use Rattle.tx_machine.specs.Row.{Row, row_at, IsInPhase}
use Rattle.outcome_calls.specs.Trail.{listed, is_committing}
use Rattle.outcome_calls.specs.One.{Decision, Undecided, ToCommit, ToAbort, DueCall, Preparation, Selection, Telling, Recovery, NoCall, FullReply, Answer, Chosen}
use Rattle.outcome_calls.specs.One.{Advice, Restored, Standing, commits}

-- where a transaction stands; `recovered` says that it is a journalled one
pub record FullState : Type 0 where
  pub state : TxState
  -- the row of a journalled transaction, until a member was notified
  pub opened : Option Row
  pub recovered : Bool
  -- the recover call of the member that is to be notified was made
  pub restored : Bool

-- what a taken transaction starts with: the tries left and the context
abbrev pub Head : Type 0
Head = ℕ × List ℕ

-- a transaction of this life
abbrev pub own : TxState → FullState
own s = record { state = s; opened = None; recovered = false; restored = false }

-- where a taken transaction begins
abbrev pub begin : Flow → Head → FullState
begin f head = own (opening f head.0 head.1)

-- where one reply leads
abbrev pub after : Flow → FullState → FullReply → FullState
after f st (Answer b c) = record st { state = next f st.state (item.Answer b c) }
after f st (Chosen t) = record st { state = next f st.state (item.Choice t) }
after f st (Advice a) = record st { state = next f st.state (item.Told a); opened = None; restored = false }
after f st Restored = record st { restored = true }

-- whether the participant has the mark by which it restores its context before it is notified
abbrev pub is_recovering : Option Part → Bool
is_recovering None = false
is_recovering (Some p) = p.kind.recovers

-- the same by the participant's number
abbrev pub recovers : Flow → ℕ → Bool
recovers f p = is_recovering (slice_get (parts_of f) p)

-- the call to the member that is to be notified: its recover call (`true`), or the outcome
abbrev pub outcome_due : Bool → ℕ → DueCall
outcome_due true p = Recovery p
outcome_due false p = Telling p

-- whether the recover call comes first: the transaction is journalled, p is recovering, and it was not made yet
abbrev pub restores : Flow → FullState → ℕ → Bool
restores f st p = (st.recovered && not st.restored) && recovers f p

-- the due call, as the law sees it
abbrev pub seen : Flow → FullState → Due → DueCall
seen f st (Prepare s) = Preparation s.participant
seen f st (PrepareForAbort s) = Preparation s.participant
seen f st (Select s) = Selection s.participant
seen f st (Commit p) = outcome_due (restores f st p) p
seen f st (Abort p) = outcome_due (restores f st p) p
seen f st Shelve = NoCall
seen f st Done = NoCall

-- the due call of a state
abbrev pub due : Flow → FullState → DueCall
due f st = seen f st (due_of f st.state)

-- the journal's row of a state, whose phase is given separately
abbrev pub table_row : Due → Phase → TxState → Option Row
table_row d ph s = row_at (record s { phase = ph }) d

-- the row that the journal has; for a journalled transaction of which no member was notified yet, the one that it had
abbrev pub row_in : Option Row → Due → Phase → TxState → Option Row
row_in (Some r) d ph s = Some r
row_in None d ph s = table_row d ph s

abbrev pub decision : Phase → Decision
decision Preparing = Undecided
decision Aborting = Undecided
decision Committing = ToCommit
decision Undoing = ToAbort

-- what the law needs of a state, whose phase and rest are given separately
abbrev pub standing_at : Flow → FullState → Phase → List Upcoming → Standing
standing_at f st ph ms = record {
  decision = decision ph;
  members = st.state.joined;
  told = st.state.told;
  due = seen f st (due_at f st.state ph ms);
  restored = st.restored;
  row = row_in st.opened (due_at f st.state ph ms) ph st.state;
}

-- the same with the state's own phase and rest
abbrev pub standing : Flow → FullState → Standing
standing f st = standing_at f st st.state.phase st.state.rest

-- A journalled transaction, before anybody is notified: it is committed if it was committing, and otherwise aborted.
abbrev pub reopen : Row → FullState
reopen r = record { state = reopening (is_committing r.phase) (listed r) r.told r.tries r.saved; opened = Some r; recovered = true; restored = false }

-- the row is within the bounds of its phase
abbrev pub PhaseFits : Row → Type 0
PhaseFits r = IsInPhase r.phase r

-- the state of a journalled transaction of which no member was notified yet
pub record IsOpenedFrom (r : Row) (ph : Phase) (st : FullState) : Type 0 where
  pub phase : is_committing r.phase ≡ commits (decision ph)
  pub told : r.told ≡ st.state.told
  pub members : (n : ℕ) → n < r.told → slice_get r.joined n ≡ slice_get st.state.joined n
  pub listed : listed r ≡ st.state.joined
  pub ok : PhaseFits r

-- states that the table leads to, before the outcome is decided and after
pub record WhileOpen (ms : List Upcoming) (st : FullState) : Type 0 where
  pub none : st.state.told ≡ 0
  pub ended : ms ≡ [] → st.state.joined ≡ []
  pub opened : st.opened ≡ None
  pub restored : st.restored ≡ false
  pub few : st.state.calls ≤ 1000
  pub more : (ms ≡ [] → ⊥) → st.state.calls < 1000
  pub members : length st.state.joined ≤ st.state.calls

pub record WhileTelling (ph : Phase) (st : FullState) : Type 0 where
  pub room : st.state.told ≤ length st.state.joined
  pub opened : (r : Row) → st.opened ≡ Some r → IsOpenedFrom r ph st
  pub restored : st.restored ≡ true → nat_lt st.state.told (length st.state.joined) ≡ true
  pub members : length st.state.joined ≤ 1001

-- the same by the phase; `ms` is what is to come
abbrev pub StateFitsIn : Phase → List Upcoming → FullState → Type 0
StateFitsIn Preparing ms st = WhileOpen ms st
StateFitsIn Aborting ms st = WhileOpen ms st
StateFitsIn Committing ms st = WhileTelling Committing st
StateFitsIn Undoing ms st = WhileTelling Undoing st

-- a state that the table leads to
abbrev pub StateFits : FullState → Type 0
StateFits st = StateFitsIn st.state.phase st.state.rest st

-- whether the reply is one to the call that is due
abbrev pub answers : DueCall → FullReply → Bool
answers (Preparation p) (Answer b c) = true
answers (Selection p) (Chosen t) = true
answers (Telling p) (Advice a) = true
answers (Recovery p) Restored = true
answers _ _ = false
