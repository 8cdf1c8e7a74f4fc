-- A moment as a text, in UTC (ISO 8601, extended format, with milliseconds).
use Rattle.std.specs.Prelude.{◌≡◌, ℕ, ◌+◌, ◌/◌, ◌%◌, pos, List, [], ◌∷◌, ◌++◌, codes, unsigned_abs}
use Rattle.jiff_core.specs.Date.{epoch_day}
use Rattle.sw_base.specs.Digits.{two_digits}
use Rattle.jiff_core.specs.declared.civil.date.Date.{Date}

abbrev pub three_digits : ℕ → List ℕ
three_digits n = (48 + n / 100) ∷ (48 + n / 10 % 10) ∷ (48 + n % 10) ∷ []

abbrev pub four_digits : ℕ → List ℕ
four_digits n = (48 + n / 1000) ∷ (48 + n / 100 % 10) ∷ (48 + n / 10 % 10) ∷ (48 + n % 10) ∷ []

-- YEAR-MONTH-DAY
abbrev pub date_text : Date → List ℕ
date_text d = four_digits (unsigned_abs d.year) ++ codes "-" ++ two_digits d.month ++ codes "-" ++ two_digits d.day

-- HOUR:MINUTE:SECOND.MILLISECONDS after this many milliseconds of a day
abbrev pub clock_text : ℕ → List ℕ
clock_text n =
    two_digits (n / 3600000) ++ codes ":" ++ two_digits (n / 60000 % 60) ++ codes ":" ++ two_digits (n / 1000 % 60) ++ codes "." ++ three_digits (n % 1000)

-- the moment this many milliseconds after the start of 1970
abbrev pub IsMoment : ℕ → List ℕ → Type 0
IsMoment milliseconds text =
    (date : Date) × (epoch_day date ≡ pos (milliseconds / 86400000 % 2932897))
    × (text ≡ date_text date ++ codes "T" ++ clock_text (milliseconds % 86400000) ++ codes "Z")
