-- What the participant keeps, as a list of numbers: the items in memory, the first day in reach, the day that it takes for
-- today, and the salt. No two are shown alike. Of the file nothing is shown: what it has is tied to the items.
use Rattle.std.specs.Prelude.{ℕ, List, refl}
use Rattle.std.specs.Coded.{Coded, code_by, coded_ℕ, coded_list, coded×}
use Rattle.day_book.specs.Items.{PlainDays}
use Rattle.lasting_book.specs.Shown.{days_code}
use Rattle.lasting_book.specs.Tied.{Lasting}
use Rattle.sw_participant.specs.Shown.{shown}

pub record Keeping : Type 0 where
  pub days : PlainDays
  pub reach : ℕ
  pub today : ℕ
  pub salt : List ℕ

abbrev pub keeping_code : Coded Keeping
keeping_code = code_by (PlainDays × (ℕ × (ℕ × List ℕ)))
    (coded× days_code (coded× coded_ℕ (coded× coded_ℕ (coded_list coded_ℕ))))
    (λ k. (k.days, (k.reach, (k.today, k.salt))))
    (λ p. record { days = p.0; reach = p.1.0; today = p.1.1.0; salt = p.1.1.1 }) (λ _. refl)

abbrev pub shown_keeping : Keeping → List ℕ
shown_keeping k = shown keeping_code k

-- what a book and a day show
abbrev pub keeping : {S : Type 0} → Lasting S → ℕ → Keeping
keeping book today = record { days = book.days; reach = book.reach; today = today; salt = book.file.salt }
