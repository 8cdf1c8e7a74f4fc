-- The map of numbers, with one more participant.
-- for: numbering::number_of, numbering::number_entry, numbering::number_groups
use Rattle.std.specs.Str.{bytes_eq}
use Rattle.std.proofs.Common.{◌≡◌, ℕ, suc, ◌+◌, ◌<◌, ◌≤◌, Bool, true, false, ⊎_elim, List, [], ◌∷◌, ◌++◌, length, Some, None, is_some, refl, sym, ap}
use Rattle.std.proofs.Common.{◌∙◌, cond, subst, arith, if◌then◌else◌}
use Rattle.std.specs.Prelude.{nat_lt}
use Rattle.std.proofs.lemmas.Bool.{cases_Bool, le-ltb, ltb-false}
use Rattle.std.proofs.lemmas.Bool.Decides.{Decides-ltb}
use Rattle.std.proofs.lemmas.List.{length_push}
use Rattle.std.proofs.lemmas.Slice.Eq.{bytes_eq-Decides}
use Rattle.flow_model.specs.declared.flow.Entry.{Entry}
use Rattle.flow_model.specs.declared.numbering.Part.{Part}
use Rattle.flow_model.specs.Places.{add_new, number_in}
use Rattle.flow_asm.specs.Numbering.{known}
use Rattle.flow_model.proofs.Numbers.{number_cons, number_here, number_kept}
use Rattle.flow_model.proofs.FirstKinds.{absent}

number_within : (parts : List Part) (name : List ℕ) → number_in parts name ≤ length parts
number_within [] name = omega arith
number_within (p ∷ ps) name = ⊎_elim (λ (e : bytes_eq p.name name ≡ true). (let l : number_in (p ∷ ps) name ≤ suc (length ps) =
    omega (arith, number_here p ps name e) in l)) (λ (e : bytes_eq p.name name ≡ false). (let l : number_in (p ∷ ps) name ≤ suc (length ps) =
    omega (arith, number_cons p ps name e, number_within ps name) in l)) (cases_Bool (bytes_eq p.name name))

-- a name that none of the participants has
unknown : (parts : List Part) (name : List ℕ) → nat_lt (number_in parts name) (length parts) ≡ false → number_in parts name ≡ length parts
unknown parts name h = omega (arith, number_within parts name, ltb-false (number_in parts name) (length parts) h)

-- is the last participant's, or again none's
number_last : (parts : List Part) (p : Part) (name : List ℕ) → number_in parts name ≡ length parts →
    number_in (parts ++ p ∷ []) name ≡ length parts + (if bytes_eq p.name name then 0 else 1)
number_last [] p name h = by (bytes_eq p.name name)
  where
    by : (b : Bool) → (if b then 0 else 0 + 1) ≡ 0 + (if b then 0 else 1)
    by true = refl
    by false = refl
number_last (x ∷ xs) p name h =
    ⊎_elim (λ (e : bytes_eq x.name name ≡ true). absurd (omega (arith, number_here x xs name e, h)))
    (λ (e : bytes_eq x.name name ≡ false). number_cons x (xs ++ p ∷ []) name e
    ∙ ap suc (number_last xs p name (let w : number_in xs name ≡ length xs = omega (arith, number_cons x xs name e, h) in w))
    ∙ (let w : suc (length xs + (if bytes_eq p.name name then 0 else 1)) ≡ suc (length xs) + (if bytes_eq p.name name then 0 else 1) = omega arith in
    w)) (cases_Bool (bytes_eq x.name name))

known_as : (parts : List Part) (name : List ℕ) (n : ℕ) → number_in parts name ≡ n → n < length parts → known parts name ≡ Some n
known_as parts name n e h = ap (λ (b : Bool). if b then Some (number_in parts name) else None)
    (subst (λ m. nat_lt m (length parts) ≡ true) (sym e) ((Decides-ltb n (length parts)).1 h)) ∙ ap Some e

not_known : (parts : List Part) (name : List ℕ) → length parts ≤ number_in parts name → known parts name ≡ None
not_known parts name h = ap (λ (b : Bool). if b then Some (number_in parts name) else None) (le-ltb (number_in parts name) (length parts) h)

none_known : (b : Bool) (n : ℕ) → (if b then Some n else None) ≡ None → b ≡ false
none_known true n h = absurd (cc)
none_known false n h = refl

some_known : (b : Bool) (n : ℕ) → is_some (if b then Some n else None) ≡ true → b ≡ true
some_known true n h = refl
some_known false n h = absurd (cc)

known_push : (parts : List Part) (p : Part) (name : List ℕ) → known parts p.name ≡ None →
    cond (bytes_eq p.name name) (Some (length parts)) (known parts name) ≡ known (parts ++ p ∷ []) name
known_push parts p name none =
    ⊎_elim (λ (same : bytes_eq p.name name ≡ true).
    (let e : p.name ≡ name = (bytes_eq-Decides p.name name).0 same in
    let new : nat_lt (number_in parts name) (length parts) ≡ false = subst (λ (q : List ℕ). nat_lt (number_in parts q) (length parts) ≡ false) e
    (none_known (nat_lt (number_in parts p.name) (length parts)) (number_in parts p.name) none) in
    let n : number_in (parts ++ p ∷ []) name ≡ length parts = number_last parts p name (unknown parts name new)
    ∙ ap (λ (b : Bool). length parts + (if b then 0 else 1)) same ∙ (let w : length parts + 0 ≡ length parts = omega arith in w) in
    ap (λ (b : Bool). cond b (Some (length parts)) (known parts name)) same
    ∙ sym (known_as (parts ++ p ∷ []) name (length parts) n (omega (arith, length_push parts p)))))
    (λ (other : bytes_eq p.name name ≡ false).
    ap (λ (b : Bool). cond b (Some (length parts)) (known parts name)) other ∙
    ⊎_elim (λ (old : nat_lt (number_in parts name) (length parts) ≡ true).
    (let h : number_in parts name < length parts = (Decides-ltb (number_in parts name) (length parts)).0 old in
    known_as parts name (number_in parts name) refl h ∙ sym (known_as (parts ++ p ∷ []) name (number_in parts name) (number_kept parts (p ∷ []) name h)
    (omega (arith, length_push parts p, h)))))
    (λ (new : nat_lt (number_in parts name) (length parts) ≡ false).
    (let n : number_in (parts ++ p ∷ []) name ≡ length parts + 1 = number_last parts p name (unknown parts name new)
    ∙ ap (λ (b : Bool). length parts + (if b then 0 else 1)) other in
    not_known parts name (ltb-false (number_in parts name) (length parts) new)
    ∙ sym (not_known (parts ++ p ∷ []) name (omega (arith, length_push parts p, n)))))
    (cases_Bool (nat_lt (number_in parts name) (length parts))))
    (cases_Bool (bytes_eq p.name name))

-- a participant that is known adds nothing
pub add_known : (parts : List Part) (e : Entry) → is_some (known parts e.participant) ≡ true → parts ≡ add_new parts e
add_known parts e h = sym (ap (λ (b : Bool). if b then parts else parts ++ record { name = e.participant; kind = e.kind } ∷ [])
    (some_known (nat_lt (number_in parts e.participant) (length parts)) (number_in parts e.participant) h))

pub add_unknown : (parts : List Part) (e : Entry) → is_some (known parts e.participant) ≡ false →
    parts ++ record { name = e.participant; kind = e.kind } ∷ [] ≡ add_new parts e
add_unknown parts e h = sym (ap (λ (b : Bool). if b then parts else parts ++ record { name = e.participant; kind = e.kind } ∷ [])
    (none_known (nat_lt (number_in parts e.participant) (length parts)) (number_in parts e.participant) (absent (known parts e.participant) h)))

pub pushed : (parts : List Part) (p : Part) (name : List ℕ) → is_some (known parts p.name) ≡ false →
    cond (bytes_eq p.name name) (Some (length parts)) (known parts name) ≡ known (parts ++ p ∷ []) name
pushed parts p name h = known_push parts p name (absent (known parts p.name) h)

pub found_number : (parts : List Part) (name : List ℕ) (n : ℕ) → Some n ≡ known parts name → n ≡ number_in parts name
found_number parts name n h = by (nat_lt (number_in parts name) (length parts)) h
  where
    by : (b : Bool) → Some n ≡ (if b then Some (number_in parts name) else None) → n ≡ number_in parts name
    by true e = cc
    by false e = absurd (cc)

pub no_number : (parts : List Part) (name : List ℕ) → None ≡ known parts name → length parts ≡ number_in parts name
no_number parts name h = sym (unknown parts name (none_known (nat_lt (number_in parts name) (length parts)) (number_in parts name) (sym h)))

pub none_yet : (name : List ℕ) → None ≡ known [] name
none_yet name = sym (not_known [] name (omega arith))
