-- Reading that stops at the first fault.
use Rattle.std.specs.Prelude.{◌≡◌, ℕ, ◌+◌, List, [], ◌∷◌, Result, Ok, Err}
use Rattle.flow_toml.specs.declared.error.FlowTomlError.{FlowTomlError}
use Rattle.flow_toml.specs.declared.error.FlowTomlError.TheVariants.{OutOfMemory, Toml}

infixl 10 ◌>>=◌
abbrev pub ◌>>=◌ : {A B : Type 0} → Result A FlowTomlError → (A → Result B FlowTomlError) → Result B FlowTomlError
(Ok x) >>= f = f x
(Err e) >>= f = Err e

-- each item's reading in turn, by its number, to the first fault
abbrev pub each : {A B : Type 0} → (ℕ → A → Result B FlowTomlError) → ℕ → List A → Result (List B) FlowTomlError
each f n [] = Ok []
each f n (x ∷ xs) = f n x >>= λ y. each f (n + 1) xs >>= λ ys. Ok (y ∷ ys)

-- What a function over parsed tables answered, seen by view, is what they read as, unless memory ran
-- out; and a parsed text is TOML.
abbrev pub Fails : {Y : Type 0} → FlowTomlError → Result Y FlowTomlError → Type 0
Fails OutOfMemory read = Unit {0}
Fails (Toml t) read = ⊥
Fails e read = read ≡ Err e

abbrev pub GivesFlow : {X Y : Type 0} → (X → Y) → Result X FlowTomlError → Result Y FlowTomlError → Type 0
GivesFlow view (Ok x) read = read ≡ Ok (view x)
GivesFlow view (Err e) read = Fails e read
