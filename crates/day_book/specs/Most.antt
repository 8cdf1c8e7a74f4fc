-- The largest numbers of a book of days.
use Rattle.std.specs.Prelude.{ℕ}

-- what a limit may be at most: 15 digits
abbrev pub max_limit : ℕ
max_limit = 999999999999999

-- what an amount may be at most: the 12 digits of field 4
abbrev pub max_amount : ℕ
max_amount = 999999999999

-- what the amounts of a card on a day may be at most together: the greatest number of a file's cell
abbrev pub max_sum : ℕ
max_sum = 9223372036854775807
