-- The line of a host's state.
-- for: state::opening_text, state::HostState::line
use Rattle.std.proofs.Common.{◌≡◌, ◌≢◌, ℕ, zero, suc, List, [], ◌∷◌, ◌++◌, Result, Ok, Err, codes, refl}
use Rattle.std.specs.Prelude.{IfOk}
use Rattle.sw_wire.specs.States.{IsOpeningText, IsStateLine, IsStateText}
use Rattle.sw_wire.specs.declared.state.HostState.{HostState}
use Rattle.sw_wire.specs.declared.times.HostTimes.{HostTimes}

pub opening_is : {T E : Type 0} (bytes : T → List ℕ) (r : Result T E) (number : ℕ) (cause : List ℕ) → number ≢ 0
    → IfOk r (λ text. bytes text ≡ codes "cannot be opened: " ++ cause) → IfOk r (λ text. IsOpeningText number (bytes text))
opening_is bytes (Err e) number cause some is = tt
opening_is bytes (Ok text) zero cause some is = absurd (some refl)
opening_is bytes (Ok text) (suc number) cause some is = (cause, is)

pub line_is : {T E : Type 0} (bytes : T → List ℕ) (r : Result T E) (name : List ℕ) (times : HostTimes) (state : HostState) (text : List ℕ)
    → IsStateText times state text → IfOk r (λ line. bytes line ≡ codes "cardswitch: host " ++ name ++ codes ": " ++ text ++ 10 ∷ [])
    → IfOk r (λ line. IsStateLine name times state (bytes line))
line_is bytes (Err e) name times state text says is = tt
line_is bytes (Ok line) name times state text says is = (text, says, is)
