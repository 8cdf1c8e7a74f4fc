-- The key of a message: what its request and its response have in common.
--
-- - *Key of a message*: the first three digits of the message type,
--   field 41, and field 11. The third digit is as a request has it (1 as 0, 3 as 2, 5 as 4).
--   Field 41 is without outer spaces, padded left with `0` to 16. A message without 41 or 11 has
--   none.
use Rattle.std.specs.Prelude.{ℕ, ◌-◌, ◌==◌, List, [], ◌∷◌, ◌++◌, length, take, reverse, replicate}
use Rattle.std.specs.Prelude.{Option, Some, None, if◌then◌else◌, slice_index}
use Rattle.iso_msg.specs.Messages.{PlainMessage, value_at}

-- the third digit of a message type, a response read as its request: 1 as 0, 3 as 2, 5 as 4
abbrev pub request_digit : ℕ → ℕ
request_digit d = if d == 49 then 48 else (if d == 51 then 50 else (if d == 53 then 52 else d))

-- without the spaces in front
abbrev pub unspaced : List ℕ → List ℕ
unspaced [] = []
unspaced (c ∷ cs) = if c == 32 then unspaced cs else c ∷ cs

-- without the spaces after
abbrev pub unspaced_end : List ℕ → List ℕ
unspaced_end text = reverse (unspaced (reverse text))

-- without the spaces on either side
abbrev pub trimmed : List ℕ → List ℕ
trimmed text = unspaced_end (unspaced text)

-- a text with `0`s in front of it, up to this length
abbrev pub padded : ℕ → List ℕ → List ℕ
padded width text = replicate (width - length text) 48 ++ text

-- the key by its parts: type, terminal, STAN
abbrev pub key_by : List ℕ → List ℕ → List ℕ → List ℕ
key_by mti terminal stan =
    take 2 mti ++ request_digit (slice_index mti 2) ∷ padded 16 (trimmed terminal) ++ stan

-- field 41 is the terminal, field 11 the STAN; a message without one of them has no key
abbrev pub key_with : List ℕ → Option (List ℕ) → Option (List ℕ) → Option (List ℕ)
key_with mti (Some terminal) (Some stan) = Some (key_by mti terminal stan)
key_with mti _ _ = None

abbrev pub key : PlainMessage → Option (List ℕ)
key m = key_with m.mti (value_at 41 m.fields) (value_at 11 m.fields)
