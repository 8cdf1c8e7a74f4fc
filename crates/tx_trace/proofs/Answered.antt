-- What a call that may run out of memory answers, where it answers.
-- for: tracer::Tracer
use Rattle.std.proofs.Common.{◌≡◌, Ok, Err, Option, Some, None, String, Global, false, sym}
use Rattle.std.specs.Prelude.{Result, IfOk, is_some, option_map, string_bytes}
use Rattle.tx_trace.specs.Trace.{Text}

pub answered_so : {A E : Type 0} (P Q : A → Type 0) (r : Result A E) → ((x : A) → P x → Q x) → IfOk r P → IfOk r Q
answered_so P Q (Ok x) h p = h x p
answered_so P Q (Err e) h p = tt

pub answered_both : {A E : Type 0} (P Q R : A → Type 0) (r : Result A E) → ((x : A) → P x → Q x → R x) → IfOk r P → IfOk r Q → IfOk r R
answered_both P Q R (Ok x) h p q = h x p q
answered_both P Q R (Err e) h p q = tt

-- where no line is answered, there is none
pub none_shown : (o : Option (String Global)) (t : Option Text) → is_some o ≡ false → option_map (λ (s : String Global). string_bytes s) o ≡ t → t ≡ None
none_shown None t h is = sym is
none_shown (Some s) t h is = absurd (cc)
