-- The longest of several prefixes, however they are taken together.
-- for: route::route_for
use Rattle.std.proofs.Common.{◌≡◌, ℕ, Bool, true, false, cond, nat_lt, length, Option, Some, None, refl, sym, ap, ◌∙◌, arith}
use Rattle.std.proofs.lemmas.Bool.{ltb-true, ltb-false, lt-ltb, le-ltb}
use Rattle.sw_parts.specs.declared.route.Routing.{Routing}
use Rattle.sw_parts.specs.Routes.{longer}

pub longer_none : (a : Option Routing) → longer a None ≡ a
longer_none None = refl
longer_none (Some r) = refl

pub longer_assoc : (a b c : Option Routing) → longer (longer a b) c ≡ longer a (longer b c)
longer_assoc None b c = refl
longer_assoc (Some r) None c = refl
longer_assoc (Some r) (Some q) None = longer_none (longer (Some r) (Some q))
longer_assoc (Some r) (Some q) (Some s) = by (nat_lt (length r.prefix) (length q.prefix)) refl (nat_lt (length q.prefix) (length s.prefix)) refl
  where
    n : ℕ
    n = length r.prefix

    by : (d : Bool) → nat_lt (length r.prefix) (length q.prefix) ≡ d → (e : Bool) → nat_lt (length q.prefix) (length s.prefix) ≡ e
        → longer (cond d (Some q) (Some r)) (Some s) ≡ longer (Some r) (cond e (Some s) (Some q))
    by true f true g = ap (λ z. cond z (Some s) (Some q)) g ∙ sym
        (ap (λ z. cond z (Some s) (Some r)) (lt-ltb (length r.prefix) (length s.prefix)
        (omega (arith, ltb-true (length r.prefix) (length q.prefix) f, ltb-true (length q.prefix) (length s.prefix) g))))
    by true f false g = ap (λ z. cond z (Some s) (Some q)) g ∙ sym (ap (λ z. cond z (Some q) (Some r)) f)
    by false f true g = refl
    by false f false g = ap (λ z. cond z (Some s) (Some r)) (le-ltb (length r.prefix) (length s.prefix)
        (omega (arith, ltb-false (length r.prefix) (length q.prefix) f, ltb-false (length q.prefix) (length s.prefix) g)))
        ∙ sym (ap (λ z. cond z (Some q) (Some r)) f)
