-- A context's bytes.
use Rattle.std.specs.Prelude.{◌≡◌, ℕ, ◌/◌, ◌%◌, List, ◌∷◌, ◌++◌, length, Result, Ok, Err}
use Rattle.std.specs.List.{flat_map}
use Rattle.sw_context.specs.Pairs.{Pairs, AreEntries, IsContext}
use Rattle.sw_context.specs.declared.error.ContextError.{ContextError}
use Rattle.sw_context.specs.declared.error.ContextError.TheVariants.{OutOfMemory, BadBytes}

-- a name: one byte of length, and the name
abbrev pub name_bytes : List ℕ → List ℕ
name_bytes name = length name ∷ name

-- a value: two bytes of length, the high byte first, and the value
abbrev pub value_bytes : List ℕ → List ℕ
value_bytes value = length value / 256 ∷ length value % 256 ∷ value

abbrev pub entry_bytes : List ℕ × List ℕ → List ℕ
entry_bytes e = name_bytes e.0 ++ value_bytes e.1

-- a context: one byte with the number of entries, and the entries in order
abbrev pub bytes_of : Pairs → List ℕ
bytes_of es = length es ∷ flat_map entry_bytes es

-- the bytes are those of a context
abbrev pub IsSpelled : List ℕ → Type 0
IsSpelled bytes = (es : Pairs) × IsContext es × (bytes ≡ bytes_of es)

-- the bytes are those of `count` entries
abbrev pub Spells : ℕ → List ℕ → Type 0
Spells count bytes = (es : Pairs) × AreEntries es × (length es ≡ count) × (bytes ≡ flat_map entry_bytes es)

-- What reading answers: the context whose bytes these are, or that there is none. Out of memory comes only where there is one.
abbrev pub IsReading : List ℕ → Result Pairs ContextError → Type 0
IsReading bytes (Ok es) = IsContext es × (bytes ≡ bytes_of es)
IsReading bytes (Err BadBytes) = IsSpelled bytes → ⊥
IsReading bytes (Err OutOfMemory) = IsSpelled bytes
IsReading bytes (Err _) = ⊥
