-- The rule of an intake: what was put is what was got, followed by what it holds, which is no more than the largest capacity.
-- At most one pass may put, and it knows what was put. The same for getting.
use Rattle.std.specs.Prelude.{◌≡◌, ◌≤◌, ◌^◌, ◌%◌, ℕ, Bool, true, ◌++◌, List, length}
use mathlib.Core.Option.{some}
use lib.ListN.{get_elem?}
use Rattle.tx_intake.specs.declared.rule.Side.{Side}

abbrev pub side : {A : Type 0} → Bool → Bool → List A → List A → Side A
side puts gets put got = record { puts = puts; gets = gets; put = put; got = got }

-- a pass that may put is the putter's, and knows what was put; the same for getting
abbrev pub Fits : {A : Type 0} → ℕ → ℕ → List A → List A → ℕ → Side A → Type 0
Fits putter getter put got pass v =
    (v.puts ≡ true → (pass ≡ putter) × (v.put ≡ put)) × (v.gets ≡ true → (pass ≡ getter) × (v.got ≡ got))

-- the rule, by what the intake holds and by what each pass may do and knows
abbrev pub Passed : {A : Type 0} → List A → List (Side A) → Type 0
Passed {A} held views = (putter : ℕ) × (getter : ℕ) × (put : List A) × (got : List A) × (put ≡ got ++ held)
    × ((pass : ℕ) (v : Side A) → get_elem? views pass ≡ some v → Fits putter getter put got pass v) × (length held ≤ 4096)

-- the same where a law holds of what was put
abbrev pub Lawful : {A : Type 0} → (List A → Type 0) → List A → List (Side A) → Type 0
Lawful may held views = (passed : Passed held views) × may passed.2

-- what was put, of which this was got, keeps the law
abbrev pub LawfulAfter : {A : Type 0} → (List A → Type 0) → List A → Type 0
LawfulAfter {A} may got = (held : List A) × may (got ++ held)

-- what the getter knows where it finds nothing
abbrev pub HeldOfGot : {A : Type 0} → (List A → Type 0) → Side A → List A → Type 0
HeldOfGot may v held = v.gets ≡ true → may (v.got ++ held)

-- what the putter knows of what is held
abbrev pub HeldOfPut : {A : Type 0} → Side A → List A → Type 0
HeldOfPut {A} v held = v.puts ≡ true → (got : List A) × (v.put ≡ got ++ held)

-- what both ends together know of what is held
abbrev pub HeldOfBoth : {A : Type 0} → Side A → List A → Type 0
HeldOfBoth v held = (v.put ≡ v.got ++ held) × (length held ≤ 4096)

-- the number of an end's items, as it is counted
abbrev pub IsCounted : {A : Type 0} → ℕ → List A → Type 0
IsCounted count passed = count ≡ length passed % 2 ^ 64
