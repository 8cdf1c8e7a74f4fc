-- What the entries of a run say.
use Rattle.std.specs.Prelude.{◌≡◌, ℕ, ◌==◌, ◌&&◌, Bool, true, false, List, [], ◌∷◌, ◌++◌, length, filter, map, drop, slice_get, Option, Some, None, is_none}
use Rattle.std.specs.Prelude.{is_some}
use Rattle.tx_history.specs.declared.event.Event.{Event}
use Rattle.tx_history.specs.declared.event.Event.TheVariants as event
use Rattle.tx_history.specs.declared.journal.Row.{Row}
use Rattle.tx_history.specs.declared.event.Entry.{Entry}
use Rattle.tx_history.specs.Journal.{entries}
use Rattle.tx_engine.specs.World.{World}

-- all entries of an engine's history, the oldest first
abbrev pub all_of : World → List Entry
all_of w = entries w.flow w.start w.past

-- the entries of a run that began at this world
abbrev pub run_entries : World → World → List Entry
run_entries start w = drop (length start.past) (all_of w)

-- the event is one that this session made
abbrev pub is_own_event : ℕ → Event → Bool
is_own_event s (event.Taken t) = t == s
is_own_event s (event.Answered t byte context) = t == s
is_own_event s (event.Chose t text) = t == s
is_own_event s (event.Told t advice) = t == s
is_own_event s (event.Recovered t context) = t == s
is_own_event s _ = false

-- the entry's event is one
abbrev pub is_own : ℕ → Entry → Bool
is_own s e = is_own_event s e.event

-- the numbers of the entries that this session made
abbrev pub own_numbers : ℕ → List Entry → List ℕ
own_numbers s es = map (λ e. e.number) (filter (is_own s) es)

-- the row of the entry's transaction is dropped: it ended
abbrev pub drops_row : Option (ℕ × Option Row) → Bool
drops_row (Some (id, None)) = true
drops_row _ = false

-- by done, or on the shelf
abbrev pub ends_done : Entry → Bool
ends_done e = drops_row e.change.row && is_none e.change.shelved

abbrev pub ends_shelved : Entry → Bool
ends_shelved e = drops_row e.change.row && is_some e.change.shelved

abbrev pub count_done : List Entry → ℕ
count_done es = length (filter ends_done es)

abbrev pub count_shelved : List Entry → ℕ
count_shelved es = length (filter ends_shelved es)

-- each list of receipts has the numbers of that session's entries
abbrev pub AllOwn : {V : Type 0} → (V → List ℕ) → List Entry → List V → Type 0
AllOwn {V} items es receipts = (s : ℕ) (v : V) → slice_get receipts s ≡ Some v → items v ≡ own_numbers s es

-- the bytes of the contexts that were offered, in order
abbrev pub offered_by : Event → List (List ℕ)
offered_by (event.Offered c) = c ∷ []
offered_by _ = []

abbrev pub offered_of : List Entry → List (List ℕ)
offered_of [] = []
offered_of (e ∷ es) = offered_by e.event ++ offered_of es
