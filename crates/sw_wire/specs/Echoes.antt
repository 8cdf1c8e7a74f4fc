-- Echo tests: network management requests with fields 7 (month, day, hour, minute and second, in UTC), 11 and 70.
use Rattle.std.specs.Prelude.{◌≡◌, ℕ, ◌/◌, ◌%◌, pos, List, [], ◌++◌, Some, codes}
use Rattle.jiff_core.specs.Date.{epoch_day}
use Rattle.jiff_core.specs.declared.civil.date.Date.{Date}
use Rattle.iso_codec.specs.Spelling.{spelling}
use Rattle.iso_msg.specs.Messages.{PlainMessage, with_value}
use Rattle.sw_base.specs.Digits.{number_of, two_digits}
use Rattle.sw_frame.specs.Stream.{Framed}

-- of a date and the seconds of its day
abbrev pub stamp_of : Date → ℕ → List ℕ
stamp_of date time =
    two_digits date.month ++ two_digits date.day ++ two_digits (time / 3600) ++ two_digits (time / 60 % 60) ++ two_digits (time % 60)

-- of this many seconds since the start of 1970
abbrev pub IsStamp : ℕ → List ℕ → Type 0
IsStamp seconds stamp =
    (date : Date) × (epoch_day date ≡ pos (seconds / 86400 % 2932897)) × (stamp ≡ stamp_of date (seconds % 86400))

-- 301 is the code of an echo test
abbrev pub echo_message : List ℕ → List ℕ → PlainMessage
echo_message stamp stan = record {
  mti = codes "0800";
  fields = with_value 70 (codes "301") (with_value 11 stan (with_value 7 stamp []));
}

-- the frame of one
abbrev pub IsEcho : ℕ → ℕ → List ℕ → Type 0
IsEcho seconds stan bytes =
    (stamp digits : List ℕ) × IsStamp seconds stamp × (number_of digits ≡ Some stan) × Framed bytes (spelling (echo_message stamp digits))
