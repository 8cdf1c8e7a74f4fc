use Rattle.std.proofs.Common.{◌∙◌, sym}
use Rattle.std.proofs.lemmas.Str.Parse.{parse_digits}
use Rattle.sw_base.proofs.ReadNumbers.{digits_model, number_read}
use Rattle.sw_base.proofs.numbers.read_number.Goals as goal

pub returns-then-is_digits : goal.returns-then-is_digits
returns-then-is_digits c =
    let word = c.args.word.now in
    let digits = sym c.is_digits.ensures ∙ c.if-is_digits.true in
    rw c.ok.ensures.value
    (number_read word c.parse.result digits (parse_digits digits_model 64 word c.parse.result c.parse.ensures.value.0 digits))
