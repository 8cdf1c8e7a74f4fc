-- What a participant answers, and what it does where it has no part.
use Rattle.std.specs.Prelude.{◌≡◌, ℕ, List, []}
use Rattle.sw_context.specs.Pairs.{Pairs}

-- ready without joining, and nothing to save (PREPARED, NO_JOIN, READONLY)
abbrev pub passes : ℕ
passes = 0xc1

-- refused without joining (NO_JOIN)
abbrev pub refuses : ℕ
refuses = 0x40

-- ready without joining (PREPARED, NO_JOIN)
abbrev pub leaves_notes : ℕ
leaves_notes = 0x41

-- ready, to be notified of the outcome, and nothing to save (PREPARED, READONLY)
abbrev pub joins : ℕ
joins = 0x81

-- a preparation that has no part in the transaction
abbrev pub PassesOver : List ℕ → Pairs → ℕ → List ℕ → Pairs → Type 0
PassesOver o x byte p y = (p ≡ o) × (byte ≡ passes) × (y ≡ x)

-- a selection of no group
abbrev pub SelectsNone : List ℕ → List ℕ → List ℕ → Type 0
SelectsNone o text p = (p ≡ o) × (text ≡ [])
