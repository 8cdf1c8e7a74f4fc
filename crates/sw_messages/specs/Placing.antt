-- Values put into a message, and parts put into a text.
--
-- - *Placed, copied*: a value put where its field takes it;
--   the fields of these numbers that are there.
use Rattle.std.specs.Prelude.{ℕ, List, [], ◌∷◌, ◌++◌, length, take, drop}
use Rattle.std.specs.Prelude.{Option, Some, None, is_none, if◌then◌else◌}
use Rattle.iso_msg.specs.Messages.{Fields, value_at, with_value}
use Rattle.iso_msg.specs.Values.{refusal}

-- a value put, if its field takes it
abbrev pub with_field : ℕ → Option (List ℕ) → Fields → Fields
with_field n None fields = fields
with_field n (Some value) fields =
    if is_none (refusal n value) then with_value n value fields else fields

-- the fields with these numbers that are there
abbrev pub copied : List ℕ → Fields → Fields → Fields
copied [] from to = to
copied (n ∷ ns) from to = copied ns from (with_field n (value_at n from) to)

-- with a part over as many bytes, from `at` on
abbrev pub put_at : ℕ → List ℕ → List ℕ → List ℕ
put_at at part bytes = take at bytes ++ (part ++ drop (length part) (drop at bytes))
