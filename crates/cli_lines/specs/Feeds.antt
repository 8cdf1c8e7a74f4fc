-- Bytes as lines, each of which ends in its line feed; the last one may lack it.
use Rattle.std.specs.Prelude.{◌==◌, ◌+◌, ℕ, Bool, List, nat_lt, length, take}
use Rattle.std.specs.List.{position_or_len}

abbrev pub is_line_feed : ℕ → Bool
is_line_feed b = b == 10

abbrev pub has_line_feed : List ℕ → Bool
has_line_feed bytes = nat_lt (position_or_len is_line_feed bytes) (length bytes)

-- up to the first line feed and with it, or all if there is none; `after_first` says what follows
abbrev pub first_line : List ℕ → List ℕ
first_line bytes = take (position_or_len is_line_feed bytes + 1) bytes
