-- Reading that stops at the first fault.
use Rattle.std.specs.Prelude.{◌≡◌, Option, Some, None, Result, Ok, Err}
use Rattle.flow_load.specs.declared.error.LoadError.{LoadError}
use Rattle.flow_load.specs.declared.error.LoadError.TheVariants.{OutOfMemory}

infixl 10 ◌>>=◌
abbrev pub ◌>>=◌ : {A B : Type 0} → Result A LoadError → (A → Result B LoadError) → Result B LoadError
(Ok x) >>= f = f x
(Err e) >>= f = Err e

-- the value, or the fault if there is none
abbrev pub found : {A : Type 0} → LoadError → Option A → Result A LoadError
found e None = Err e
found e (Some x) = Ok x

-- why nothing was read
abbrev pub fault_of : {A : Type 0} → Result A LoadError → Option LoadError
fault_of (Ok x) = None
fault_of (Err e) = Some e

-- What a function that takes no memory answered, seen by view, is what the reading gives.
abbrev pub Exactly : {X Y : Type 0} → (X → Y) → Result X LoadError → Result Y LoadError → Type 0
Exactly view (Ok x) read = read ≡ Ok (view x)
Exactly view (Err e) read = read ≡ Err e

-- The same, unless memory ran out.
abbrev pub Fails : {Y : Type 0} → LoadError → Result Y LoadError → Type 0
Fails OutOfMemory read = Unit {0}
Fails e read = read ≡ Err e

-- What a function that takes memory answered, seen by view, is what the reading gives, unless memory ran out.
abbrev pub GivesImage : {X Y : Type 0} → (X → Y) → Result X LoadError → Result Y LoadError → Type 0
GivesImage view (Ok x) read = read ≡ Ok (view x)
GivesImage view (Err e) read = Fails e read
