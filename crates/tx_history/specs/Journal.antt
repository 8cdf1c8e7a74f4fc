-- The journal that a history makes, and the change that each entry is.
use Rattle.std.specs.Prelude.{◌≡◌, ℕ, ◌+◌, Bool, true, false, List, [], ◌∷◌, ◌++◌, length, map, Option, Some, None, nat_lt, option_map, unwrap_or, slice_get}
use Rattle.std.specs.Prelude.{if◌then◌else◌, ◌<◌, ◌≤◌, ◌==◌, ◌||◌}
use Rattle.flow_model.specs.declared.flow.Flow.{Flow}
use Rattle.flow_model.specs.Places.{parts_of}
use Rattle.tx_machine.specs.declared.values.Item.{Item}
use Rattle.tx_machine.specs.declared.values.Item.TheVariants.{Answer, Choice, Told as ToldOne}
use Rattle.tx_machine.specs.Table.{TxState, is_due}
use Rattle.tx_machine.specs.Row.{Row as TxRow, row_of}
use Rattle.tx_history.specs.declared.event.Event.{Event}
use Rattle.tx_history.specs.declared.event.Event.TheVariants.{Offered, Taken, Answered, Chose, Told, Recovered, Released, Acked, Broke, Cleared, LetGo, Closed}
use Rattle.tx_history.specs.declared.journal.WaitingContext.{WaitingContext}
use Rattle.tx_history.specs.declared.journal.Row.{Row}
use Rattle.tx_history.specs.declared.journal.JournalView.{JournalView}
use Rattle.tx_history.specs.declared.event.Change.{Change}
use Rattle.tx_history.specs.declared.event.Entry.{Entry}
use Rattle.tx_history.specs.Keys.{gather, look, put_by, put_some, put_new, put_place, place_lt}
use Rattle.tx_machine.specs.Bounds.{after_newest}
use Rattle.tx_history.specs.History.{Start, name_of, is_ended, reopened, next_id, ids, takes, own_items, serves, state_of, shelf, shelved}
use Rattle.tx_history.specs.History.{recovering, restores}
use Rattle.tx_history.specs.History.{holds, is_held, arrivals, advice_place, put_advice}

-- a transaction's row as the journal has it: participants by name
abbrev pub named_row : Flow → TxRow → Row
named_row f r = record {
  phase = r.phase;
  joined = map (name_of f) r.joined;
  told = r.told;
  doing = option_map (name_of f) r.doing;
  tries =
      r.tries;
  context = r.saved;
}

-- the row of a transaction that is not finished
abbrev pub row : Flow → TxState → Option Row
row f st = option_map (named_row f) (row_of f st)

-- whether the journalled transaction was closed, because it had nobody to notify
abbrev pub is_closed : List Event → ℕ → Bool
is_closed [] id = false
is_closed (Closed k ∷ past) id = (k == id) || is_closed past id
is_closed (_ ∷ past) id = is_closed past id

-- a journalled transaction keeps its row until a member is notified
abbrev pub row_since : Flow → Row → List Item → Option Row
row_since f r [] = Some r
row_since f r (x ∷ xs) = row f (after_newest f (reopened f r) (x ∷ xs))

-- the row now of a journalled transaction, by the row that it had, if any, and whether it was closed
abbrev pub old_row : Flow → Option Row → Bool → List Item → Option Row
old_row f None closed items = None
old_row f (Some r) true items = None
old_row f (Some r) false items = row_since f r items

-- the row under an id
abbrev pub row_at : Flow → Start → List Event → ℕ → Option Row
row_at f v past id =
    if nat_lt id v.view.next_id then old_row f (look id v.view.rows) (is_closed past id) (own_items f v past id)
    else row f (state_of f v past id)

-- the stored advices, each under its transaction's id and its member's place
abbrev pub advices : Flow → Start → List Event → List ((ℕ × ℕ) × List ℕ)
advices f v [] = v.view.advices
advices f v (Told s a ∷ past) = put_place (put_advice (advice_place f v past s) a) (advices f v past)
advices f v (Acked id place ∷ past) = put_by place_lt (id, place) None (advices f v past)
advices f v (_ ∷ past) = advices f v past

-- what the history so far makes of the journal
abbrev pub journal : Flow → Start → List Event → JournalView
journal f v past =
    record {
      next_id = next_id v past;
      rows = gather (row_at f v past) 1 (ids v past);
      shelf = shelf f v past;
      advices = advices f v past;
    }

-- the journal after a change
abbrev pub applied : Change → JournalView → JournalView
applied change j =
    record {
      next_id = unwrap_or change.next_id j.next_id;
      rows = put_some change.row j.rows;
      shelf = put_new change.shelved (if change.emptied then [] else j.shelf);
      advices = put_place change.advice j.advices;
    }

abbrev pub no_change : Change
no_change = record { next_id = None; row = None; shelved = None; emptied = false; advice = None }

-- what a change puts on the shelf under this id
abbrev pub shelved_change : ℕ → Option WaitingContext → Option (ℕ × WaitingContext)
shelved_change id None = None
shelved_change id (Some w) = Some (id, w)

-- the change of one transaction: its row, the shelf if it goes there, and this advice
abbrev pub touched : Flow → Start → List Event → Option ((ℕ × ℕ) × Option (List ℕ)) → Option ℕ → Change
touched f v past advice None = no_change
touched f v past advice (Some id) =
    record {
      next_id = None;
      row = Some (id, row f (state_of f v past id));
      shelved = shelved_change id (shelved f (state_of f v past id) true);
      emptied = false;
      advice = advice;
    }

-- the change of the newest entry
abbrev pub change : Flow → Start → List Event → Change
change f v [] = no_change
change f v (Taken s ∷ past) =
    record {
      next_id = Some (next_id v past + 1);
      row = Some (next_id v past, row f (state_of f v (Taken s ∷ past) (next_id v past)));
      shelved =
          None;
      emptied = false;
      advice = None;
    }
change f v (Answered s b c ∷ past) = touched f v (Answered s b c ∷ past) None (serves f v past s)
change f v (Chose s t ∷ past) = touched f v (Chose s t ∷ past) None (serves f v past s)
change f v (Told s a ∷ past) = touched f v (Told s a ∷ past) (put_advice (advice_place f v past s) a) (serves f v past s)
change f v (Released ∷ past) = record { next_id = None; row = None; shelved = None; emptied = true; advice = None }
change f v (Acked id place ∷ past) = record { next_id = None; row = None; shelved = None; emptied = false; advice = Some ((id, place), None) }
change f v (Closed id ∷ past) = record { next_id = None; row = Some (id, None); shelved = None; emptied = false; advice = None }
change f v (_ ∷ past) = no_change

-- the entries, oldest first
abbrev pub entries : Flow → Start → List Event → List Entry
entries f v [] = []
entries f v (e ∷ past) = entries f v past ++ record { number = length past + 1; event = e; change = change f v (e ∷ past) } ∷ []

-- what is accepted, the written mark aside

-- the journalled transactions with nobody to notify, ids rising
abbrev pub to_close : Flow → List (ℕ × Row) → List ℕ
to_close f [] = []
to_close f (r ∷ rows) = if is_ended f (reopened f r.1) then r.0 ∷ to_close f rows else to_close f rows

-- the session holds a transaction whose due call this is the reply to
abbrev pub GivesItem : Flow → Start → List Event → ℕ → Item → Type 0
GivesItem f v past s x = (id : ℕ) × (holds f v past s ≡ Some id) × (is_due (state_of f v past id) x ≡ true) × (restores f v past id ≡ None)

-- each event's condition, by the events before it
abbrev pub IsAccepted : Flow → Start → List Event → Event → Type 0
IsAccepted f v past (Offered c) = Unit {0}
IsAccepted f v past (Taken s) = (recovering f v past ≡ None) × (holds f v past s ≡ None) × (takes past < length (arrivals f v past))
    × (next_id v past < 9223372036854775807)
IsAccepted f v past (Answered s b c) = GivesItem f v past s (Answer b c)
IsAccepted f v past (Chose s t) = GivesItem f v past s (Choice t)
IsAccepted f v past (Told s a) = GivesItem f v past s (ToldOne a)
IsAccepted f v past (Recovered s c) = (id : ℕ) × (call : ℕ × Bool) × (holds f v past s ≡ Some id) × (restores f v past id ≡ Some call)
IsAccepted f v past Released = Unit {0}
IsAccepted f v past (Acked id place) = (a : List ℕ) × (n : ℕ) × (slice_get (advices f v past) n ≡ Some ((id, place), a))
IsAccepted f v past (Broke p) = p < length (parts_of f)
IsAccepted f v past (Cleared p) = p < length (parts_of f)
IsAccepted f v past (LetGo s) = is_held f v past s ≡ true
IsAccepted f v past (Closed id) = slice_get (to_close f v.view.rows) (length past) ≡ Some id

-- whether it is a closing entry
abbrev pub closes : Event → Bool
closes (Closed id) = true
closes _ = false

-- the closing entries come first, and a history has at most 1,048,576 entries unless they are more
abbrev pub InTurn : Flow → Start → List Event → Bool → Type 0
InTurn f v past true = Unit {0}
InTurn f v past false = (length (to_close f v.view.rows) ≤ length past) × (length past < 1048576)

-- each entry was accepted after those before it
abbrev pub IsLawful : Flow → Start → List Event → Type 0
IsLawful f v [] = Unit {0}
IsLawful f v (e ∷ past) = IsAccepted f v past e × InTurn f v past (closes e) × IsLawful f v past

-- the entry's change leads from the journal before it to the journal after it
abbrev pub Leads : Flow → Start → List Event → Event → Type 0
Leads f v past e = applied (change f v (e ∷ past)) (journal f v past) ≡ journal f v (e ∷ past)

-- what the changes of all entries make of the view
abbrev pub written : Flow → Start → List Event → JournalView
written f v [] = v.view
written f v (e ∷ past) = applied (change f v (e ∷ past)) (written f v past)
