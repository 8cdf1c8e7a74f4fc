-- A book of days as a list of numbers can show it: no two books have one code.
use Rattle.std.specs.Prelude.{◌≡◌, ℕ, List, if◌then◌else◌, ◌==◌, refl}
use Rattle.std.specs.Coded.{Coded, code_by, coded_ℕ, coded_list, coded×}
use Rattle.day_book.specs.declared.item.DayItem.{DayItem}
use Rattle.day_book.specs.declared.item.State.{State}
use Rattle.day_book.specs.declared.item.State.TheVariants.{Open, Used, Reversed}
use Rattle.day_book.specs.Items.{PlainDays}

-- the number of a state, and the state of a number
abbrev pub state_number : State → ℕ
state_number Open = 0
state_number Used = 1
state_number Reversed = 2

abbrev pub state_at : ℕ → State
state_at n = if n == 0 then Open else if n == 1 then Used else Reversed

pub state_back : (s : State) → state_at (state_number s) ≡ s
state_back Open = refl
state_back Used = refl
state_back Reversed = refl

abbrev pub state_code : Coded State
state_code = code_by ℕ coded_ℕ state_number state_at state_back

-- an item's card, request, amount, day and state
abbrev pub ItemParts : Type 0
ItemParts = List ℕ × (List ℕ × (ℕ × (ℕ × State)))

abbrev pub item_parts_code : Coded ItemParts
item_parts_code = coded× (coded_list coded_ℕ)
    (coded× (coded_list coded_ℕ) (coded× coded_ℕ (coded× coded_ℕ state_code)))

abbrev pub item_of : ItemParts → DayItem
item_of p = record {
  card = p.0;
  request = p.1.0;
  amount = p.1.1.0;
  day = p.1.1.1.0;
  state = p.1.1.1.1;
}

abbrev pub item_code : Coded DayItem
item_code =
    code_by ItemParts item_parts_code
    (λ i. (i.card, (i.request, (i.amount, (i.day, i.state))))) item_of (λ _. refl)

abbrev pub days_code : Coded PlainDays
days_code =
    code_by (ℕ × List (ℕ × DayItem)) (coded× coded_ℕ (coded_list (coded× coded_ℕ item_code)))
    (λ b. (b.limit, b.items)) (λ p. record { limit = p.0; items = p.1 }) (λ _. refl)
