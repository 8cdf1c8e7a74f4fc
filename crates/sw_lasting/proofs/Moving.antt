-- A reservation moves today on to its day.
-- for: hold::move_on, hold::note_held
use Rattle.std.proofs.Common.{◌≡◌, ℕ, ◌-◌, max, ap, ◌∙◌}
use Rattle.day_book.specs.Items.{with_items}
use Rattle.day_book.specs.Changes.{forgotten}
use Rattle.lasting_book.specs.Tied.{Lasting}
use Rattle.sw_lasting.specs.Holding.{moved_on, with_days}
use Rattle.sw_lasting.specs.Keeping.{Keeping, keeping}
use Rattle.sw_lasting.proofs.Held.{keeping_with}

-- one item is forgotten, if its day is out of reach
with_one_less : Keeping → Keeping
with_one_less k = with_days (forgotten k.reach k.days.items) k

pub moved : {S : Type 0} (b : Lasting S) (advanced : Lasting S) (once : Lasting S) (twice : Lasting S) (first : ℕ) (day : ℕ) (today : ℕ) → first ≡ day - 1
    → advanced ≡ record b { reach = max b.reach first } → once.days ≡ with_items advanced.days (forgotten advanced.reach advanced.days.items)
    → once.file ≡ advanced.file → once.reach ≡ advanced.reach → twice.days ≡ with_items once.days (forgotten once.reach once.days.items)
    → twice.file ≡ once.file → twice.reach ≡ once.reach → keeping twice day ≡ moved_on day (keeping b today)
unfolding with_one_less
moved {S} b advanced once twice first day today before is_advanced days file reach days2 file2 reach2 =
    let put_on : ℕ → Lasting S = λ n. record b { reach = max b.reach n } in
    keeping_with once twice (forgotten once.reach once.days.items) day days2 file2 reach2
    ∙ ap with_one_less (keeping_with advanced once (forgotten advanced.reach advanced.days.items) day days file reach)
    ∙ ap (λ z. with_one_less (with_one_less (keeping z day))) (is_advanced ∙ ap put_on before)
