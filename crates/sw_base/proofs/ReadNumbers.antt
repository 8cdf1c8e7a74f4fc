-- Decimal digits, as std reads them.
-- for: numbers::read_number
use Rattle.std.proofs.Common.{◌≡◌, ◌<◌, ◌^◌, ℕ, true, List, length, Result, Ok, Err, rules, arith}
use Rattle.std.proofs.lemmas.Bool.Decides.{nat_tests}
use Rattle.std.proofs.lemmas.Str.Parse.{IsNumeralModel, numerals_by_value}
use Rattle.std.specs.Char.{is_ascii_digit}
use Rattle.std.specs.List.{list_all}
use Rattle.std.specs.Result.{OkIff, result_ok}
use Rattle.std.specs.Str.Parse.{digits_value}
use Rattle.sw_base.specs.Spelling.{number_spelled}

pub digits_model : IsNumeralModel (λ ds. list_all is_ascii_digit ds ≡ true) (digits_value 10)
digits_model = numerals_by_value _ (search rules)

pub number_read : {E : Type 0} (word : List ℕ) (r : Result ℕ E) → list_all is_ascii_digit word ≡ true
    → OkIff r ((0 < length word) × (digits_value 10 word < 2 ^ 64)) (digits_value 10 word)
    → result_ok r ≡ number_spelled word
number_read word (Ok n) digits read = rw digits (grind (arith, nat_tests, read.0.0, read.0.1, read.1))
number_read word (Err e) digits read = rw digits (grind (arith, nat_tests, read))
