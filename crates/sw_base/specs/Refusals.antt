-- Refusals in order: which of several is reported, and what a call that has refusals answers.
use Rattle.std.specs.Prelude.{◌≡◌, ℕ, ◌+◌, Bool, List, [], ◌∷◌, Option, Some, None, Result, Ok, Err, if◌then◌else◌}

-- the first of two refusals
abbrev pub or_else : {A : Type 0} → Option A → Option A → Option A
or_else (Some e) later = Some e
or_else None later = later

-- a refusal if something holds
abbrev pub refused_if : {E : Type 0} → Bool → E → Option E
refused_if holds e = if holds then Some e else None

-- the first of several refusals
abbrev pub first_of : {E : Type 0} → List (Option E) → Option E
first_of [] = None
first_of (t ∷ ts) = or_else t (first_of ts)

-- the first refusal of items, each of which is tested with its number
abbrev pub first_at : {A E : Type 0} → (ℕ → A → Option E) → ℕ → List A → Option E
first_at t n [] = None
first_at t n (x ∷ xs) = or_else (t n x) (first_at t (n + 1) xs)

-- no refusal is an acceptance
abbrev pub refused : {E : Type 0} → Option E → Result (Unit {0}) E
refused None = Ok tt
refused (Some e) = Err e

-- What a call answers whose first refusal in order is known. If there is none, the call is done, or memory was
-- refused and everything is as before; if there is one, that is the answer and everything is as before.
abbrev pub Accepts : {A E : Type 0} → E → Option E → Result A E → (A → Type 0) → Type 0 → Type 0
Accepts memory None (Ok x) done same = done x
Accepts memory None (Err e) done same = (e ≡ memory) × same
Accepts memory (Some refusal) r done same = (r ≡ Err refusal) × same
