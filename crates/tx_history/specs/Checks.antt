-- The tests by which a view is found sound, as they compute.
use Rattle.std.specs.Prelude.{ℕ, ◌+◌, ◌==◌, Bool, true, ◌&&◌, nat_le, nat_lt, List, [], ◌∷◌, length, Option, Some, None, is_none, is_some, not, if◌then◌else◌}
use Rattle.tx_machine.specs.Table.{is_open}
use Rattle.tx_history.specs.declared.journal.JournalView.{JournalView}
use Rattle.tx_history.specs.declared.journal.Row.{Row}
use Rattle.tx_history.specs.declared.journal.WaitingContext.{WaitingContext}
use Rattle.tx_history.specs.Keys.{look, place_lt}

-- the ids rise from n on and are below m
abbrev pub rises : {A : Type 0} → ℕ → ℕ → List (ℕ × A) → Bool
rises n m [] = nat_le n m
rises n m (x ∷ xs) = (nat_le n x.0 && nat_lt x.0 m) && rises (x.0 + 1) m xs

-- no id with a row is on the shelf
abbrev pub are_apart : List (ℕ × Row) → List (ℕ × WaitingContext) → Bool
are_apart [] shelf = true
are_apart (r ∷ rows) shelf = not (is_some (look r.0 shelf)) && are_apart rows shelf

-- the numbers of members that were notified and that joined fit the phase
abbrev pub counts_fit : Row → Bool
counts_fit r =
    if is_open r.phase then (r.told == 0) && nat_le (length r.joined) 1000
    else (is_none r.doing && nat_lt r.told (length r.joined)) && nat_le (length r.joined) 1001

-- the id is from 1 on and below n, and the member at most 1,000
abbrev pub place_fits : ℕ → ℕ × ℕ → Bool
place_fits n place = (nat_le 1 place.0 && nat_lt place.0 n) && nat_le place.1 1000

-- the place is above the one before it
abbrev pub follows : Option (ℕ × ℕ) → ℕ × ℕ → Bool
follows None place = true
follows (Some before) place = place_lt before place

-- the places fit, and each is above the one before it
abbrev pub places_rise : Option (ℕ × ℕ) → ℕ → List ((ℕ × ℕ) × List ℕ) → Bool
places_rise before n [] = true
places_rise before n (x ∷ xs) = (follows before x.0 && place_fits n x.0) && places_rise (Some x.0) n xs

-- what is asked of the next id, of the ids and of the places, and how many rows there are
abbrev pub numbers_fit : JournalView → Bool
numbers_fit v =
    (nat_le v.next_id 9223372036854775807 && nat_le (length v.rows) 16)
    && (((rises 1 v.next_id v.rows && rises 1 v.next_id v.shelf) && are_apart v.rows v.shelf) && places_rise None v.next_id v.advices)
