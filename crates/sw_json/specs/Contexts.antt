-- The context that bytes spell.
use Rattle.std.specs.Prelude.{ℕ, zero, suc, ◌+◌, ◌*◌, Bool, true, ◌&&◌, nat_le, nat_lt, List, [], ◌∷◌, length, take, drop, Option, Some, None, is_none}
use Rattle.std.specs.Prelude.{option_and_then, if◌then◌else◌}
use Rattle.std.specs.Str.{bytes_eq}
use Rattle.sw_context.specs.Names.{is_name}
use Rattle.sw_context.specs.Pairs.{Pairs, find}
use Rattle.sw_context.specs.Spelling.{bytes_of}

-- an entry, and the bytes after it
abbrev pub Front : Type 0
Front = (List ℕ × List ℕ) × List ℕ

-- the entry of a name whose value is at the front: two bytes of length, the high byte first, and the value
abbrev pub value_at : List ℕ → List ℕ → Front
value_at name (high ∷ low ∷ rest) = ((name, take (256 * high + low) rest), drop (256 * high + low) rest)
value_at name _ = ((name, []), [])

-- the entry at the front: a byte of length, the name, and its value
abbrev pub entry_at : List ℕ → Front
entry_at (n ∷ rest) = value_at (take n rest) (drop n rest)
entry_at [] = (([], []), [])

-- this many entries, one after the other
unfoldable pub entries_at : ℕ → List ℕ → Pairs
entries_at zero bytes = []
entries_at (suc n) bytes = (entry_at bytes).0 ∷ entries_at n (entry_at bytes).1

-- one byte with the number of entries, and the entries
abbrev pub pairs_at : List ℕ → Pairs
pairs_at (n ∷ rest) = entries_at n rest
pairs_at [] = []

-- whether these are entries of different names
abbrev pub are_entries : Pairs → Bool
are_entries [] = true
are_entries (e ∷ es) = is_name e.0 && nat_lt (length e.1) 65536 && is_none (find e.0 es) && are_entries es

-- whether a context has these entries, and these bytes
abbrev pub is_spelling : Pairs → List ℕ → Bool
is_spelling es bytes = nat_le (length es) 64 && are_entries es && bytes_eq (bytes_of es) bytes

-- the context that bytes spell; none where they are those of no context
unfoldable pub context_at : List ℕ → Option Pairs
context_at bytes = if is_spelling (pairs_at bytes) bytes then Some (pairs_at bytes) else None

-- the value under a name in the context that bytes spell; none where they spell none, or it has no such entry
abbrev pub noted : List ℕ → List ℕ → Option (List ℕ)
noted name bytes = option_and_then (find name) (context_at bytes)
