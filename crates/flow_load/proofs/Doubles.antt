-- Participants with the name of an earlier one.
-- for: groups::first_double
use Rattle.std.specs.Prelude.{min, is_some}
use Rattle.std.specs.Str.{bytes_eq}
use Rattle.std.proofs.Common.{◌≡◌, ℕ, zero, suc, ◌+◌, ◌<◌, ◌≤◌, Bool, true, false, List, [], ◌∷◌, ◌++◌, length, take, drop, get_or, Some, None, refl, sym, ap}
use Rattle.std.proofs.Common.{◌∙◌, arith, inl, inr, nat_lt, cond}
use Rattle.std.proofs.lemmas.List.{take_more, drop_more, length-take-le}
use Rattle.std.proofs.lemmas.Bool.{cases_Bool}
use Rattle.std.proofs.lemmas.Bool.Decides.{nat_tests}
use Rattle.flow_model.specs.declared.numbering.Part.{Part}
use Rattle.flow_model.specs.Places.{number_in}
use Rattle.flow_asm.specs.Numbering.{known}
use Rattle.flow_asm.proofs.NumberMap.{pushed}
use Rattle.flow_load.specs.Groups.{double_from}

pub number_take : (parts : List Part) (name : List ℕ) (m : ℕ) → number_in (take m parts) name ≡ min (number_in parts name) (min m (length parts))
number_take [] name zero = refl
number_take [] name (suc m) = omega arith
number_take (p ∷ ps) name zero = omega arith
number_take (p ∷ ps) name (suc m) =
    elim (cases_Bool (bytes_eq p.name name)) [
      | inl here ↦ rw here (omega arith)
      | inr on ↦ rw (on, number_take ps name m) (omega arith)
    ]

some_when : (b : Bool) (n : ℕ) → is_some (cond b (Some n) None) ≡ b
some_when true n = refl
some_when false n = refl

below_min : (a n : ℕ) → nat_lt (min a n) n ≡ nat_lt a n
below_min a n =
    elim (cases_Bool (nat_lt a n)) [
      | inl low ↦ rw low (grind (arith, nat_tests))
      | inr high ↦ rw high (grind (arith, nat_tests))
    ]

-- a name that one of the first n has
pub seen_is : (parts : List Part) (n : ℕ) (name : List ℕ) → n ≤ length parts → is_some (known (take n parts) name) ≡ nat_lt (number_in parts name) n
seen_is parts n name h =
    let few : min n (length parts) ≡ n = omega arith in
    let number : number_in (take n parts) name ≡ min (number_in parts name) n = number_take parts name n ∙ ap (min (number_in parts name)) few in
    some_when (nat_lt (number_in (take n parts) name) (length (take n parts))) (number_in (take n parts) name)
    ∙ ap (nat_lt (number_in (take n parts) name)) (length-take-le n parts h)
    ∙ ap (λ m. nat_lt m n) number
    ∙ below_min (number_in parts name) n

front_is : (parts : List Part) (n : ℕ) (p : Part) → n < length parts → p ≡ get_or parts n p → drop n parts ≡ p ∷ drop (n + 1) parts
front_is parts n p h is = drop_more parts n p h ∙ ap (λ q. q ∷ drop (n + 1) parts) (sym is)

pub double_here : (parts : List Part) (n : ℕ) (p : Part) → n < length parts → p ≡ get_or parts n p → is_some (known (take n parts) p.name) ≡ true →
    double_from parts n (drop n parts) ≡ Some n
double_here parts n p h is seen =
    let test : nat_lt (number_in parts p.name) n ≡ true = sym (seen_is parts n p.name (omega arith)) ∙ seen in
    ap (double_from parts n) (front_is parts n p h is) ∙ ap (λ b. cond b (Some n) (double_from parts (n + 1) (drop (n + 1) parts))) test

pub double_later : (parts : List Part) (n : ℕ) (p : Part) → n < length parts → p ≡ get_or parts n p → is_some (known (take n parts) p.name) ≡ false →
    double_from parts n (drop n parts) ≡ double_from parts (n + 1) (drop (n + 1) parts)
double_later parts n p h is seen =
    let test : nat_lt (number_in parts p.name) n ≡ false = sym (seen_is parts n p.name (omega arith)) ∙ seen in
    ap (double_from parts n) (front_is parts n p h is) ∙ ap (λ b. cond b (Some n) (double_from parts (n + 1) (drop (n + 1) parts))) test

-- the numbers of one more participant
pub known_more : (parts : List Part) (n : ℕ) (p : Part) (q : List ℕ) → n < length parts → p ≡ get_or parts n p → is_some (known (take n parts) p.name) ≡ false
    → cond (bytes_eq p.name q) (Some n) (known (take n parts) q) ≡ known (take (n + 1) parts) q
known_more parts n p q h is seen =
    let long : n ≡ length (take n parts) = sym (length-take-le n parts (omega arith)) in
    ap (λ k. cond (bytes_eq p.name q) (Some k) (known (take n parts) q)) long
    ∙ pushed (take n parts) p q seen
    ∙ sym (ap (λ ps. known ps q) (take_more parts n p h ∙ ap (λ y. take n parts ++ y ∷ []) (sym is)))
