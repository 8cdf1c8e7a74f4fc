-- Tests and choices taken apart.
-- for: the lemmas on fields, and iso_codec's
use Rattle.std.proofs.Common.{◌≡◌, Bool, true, false, cond, ◌&&◌, ◌||◌, ◌⊎◌, inl, inr, Some, Result, Ok, Err, ℕ, eqb, refl}
use Rattle.std.proofs.lemmas.Bool.{eqb-true, eqb-false}

pub and_both : (a b : Bool) → (a && b) ≡ true → (a ≡ true) × (b ≡ true)
and_both true b h = (refl, h)
and_both false b h = absurd cc

pub or_either : (a b : Bool) → (a || b) ≡ true → (a ≡ true) ⊎ (b ≡ true)
or_either true b h = inl refl
or_either false b h = inr h

-- which way a test went
pub chosen : {A : Type 0} (b : Bool) (x y z : A) → cond b x y ≡ z → ((b ≡ true) × (x ≡ z)) ⊎ ((b ≡ false) × (y ≡ z))
chosen true x y z e = inl (refl, e)
chosen false x y z e = inr (refl, e)

pub some_is : {A : Type 0} (x y : A) → Some x ≡ Some y → x ≡ y
some_is x y e = cc

abbrev done : {A E : Type 0} → (E → E) → A → Result A E
done g x = Ok x

abbrev failed : {A E : Type 0} → (A → A) → E → Result A E
failed g x = Err x

pub ok_is : (x y : ℕ) → done (λ (e : ℕ). e) x ≡ done (λ (e : ℕ). e) y → x ≡ y
ok_is x y e = cc

pub err_is : (x y : ℕ) → failed (λ (e : ℕ). e) x ≡ failed (λ (e : ℕ). e) y → x ≡ y
err_is x y e = cc

pub ok_err : (x y : ℕ) → done (λ (e : ℕ). e) x ≡ failed (λ (e : ℕ). e) y → ⊥
ok_err x y e = cc

true_or : (b : Bool) → (b ≡ false → ⊥) → b ≡ true
true_or true f = refl
true_or false f = absurd (f refl)

pub equal-eqb : (a b : ℕ) → a ≡ b → eqb a b ≡ true
equal-eqb a b e = true_or (eqb a b) (λ h. eqb-false a b h e)

false_or : (b : Bool) (P : Type 0) → (b ≡ true → P) → (P → ⊥) → b ≡ false
false_or true P f g = absurd (g (f refl))
false_or false P f g = refl

pub eqb-false_from : (a b : ℕ) → (a ≡ b → ⊥) → eqb a b ≡ false
eqb-false_from a b h = false_or (eqb a b) (a ≡ b) (eqb-true a b) h
