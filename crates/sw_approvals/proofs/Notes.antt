-- What a note changes in a context, and what it leaves.
-- for: laws::approvals_are_said
use Rattle.std.proofs.Common.{◌≡◌, ◌⊎◌, inl, inr, ◌∙◌, ℕ, ◌+◌, ◌<◌, ◌≤◌, nat_le, ◌&&◌, Bool, true, false, List, [], ◌∷◌, length, Option, Some, None, is_none, ap, arith, codes, refl}
use Rattle.std.proofs.Common.{subst, sym, true≢false, if◌then◌else◌}
use Rattle.std.specs.Str.{bytes_eq}
use Rattle.std.proofs.lemmas.Bool.Decides.{nat_tests}
use Rattle.std.proofs.lemmas.Slice.Eq.{bytes_eq-Decides}
use Rattle.sw_context.specs.Names.{is_name}
use Rattle.sw_context.specs.Pairs.{Pairs, find, refusal, with_value, without}
use Rattle.sw_context.specs.declared.error.ContextError.TheVariants.{Full}
use Rattle.sw_messages.specs.Requests.{noted}

same_name : (name : List ℕ) → bytes_eq name name ≡ true
same_name name = (bytes_eq-Decides name name).1 refl

put : (es : Pairs) (name value : List ℕ) → find name (with_value es name value) ≡ Some value
put [] name value = ap (λ (b : Bool). if b then Some value else None) (same_name name)
put (e ∷ es) name value = by (put es name value) (bytes_eq name e.0) refl
  where
    by : find name (with_value es name value) ≡ Some value → (b : Bool) → bytes_eq name e.0 ≡ b
        → find name (if b then (e.0, value) ∷ es else e ∷ with_value es name value) ≡ Some value
    by later true h = ap (λ (c : Bool). if c then Some value else find name es) h
    by later false h = ap (λ (c : Bool). if c then Some e.1 else find name (with_value es name value)) h ∙ later

put_other : (es : Pairs) (other name value : List ℕ) → bytes_eq other name ≡ false → find other (with_value es name value) ≡ find other es
put_other [] other name value differ = ap (λ (b : Bool). if b then Some value else None) differ
put_other (e ∷ es) other name value differ = by (put_other es other name value differ) (bytes_eq name e.0) refl
  where
    by : find other (with_value es name value) ≡ find other es → (b : Bool) → bytes_eq name e.0 ≡ b
        → find other (if b then (e.0, value) ∷ es else e ∷ with_value es name value) ≡ find other (e ∷ es)
    by later true h =
        let is : name ≡ e.0 = (bytes_eq-Decides name e.0).0 h in
        let no : bytes_eq other e.0 ≡ false = subst (λ (n : List ℕ). bytes_eq other n ≡ false) is differ in
        ap (λ (c : Bool). if c then Some value else find other es) no ∙ sym (ap (λ (c : Bool). if c then Some e.1 else find other es) no)
    by later false h = ap (λ (r : Option (List ℕ)). if bytes_eq other e.0 then Some e.1 else r) later

pub without_other : (es : Pairs) (other name : List ℕ) → bytes_eq other name ≡ false → find other (without name es) ≡ find other es
without_other [] other name differ = refl
without_other (e ∷ es) other name differ = by (without_other es other name differ) (bytes_eq name e.0) refl
  where
    by : find other (without name es) ≡ find other es → (b : Bool) → bytes_eq name e.0 ≡ b
        → find other (if b then es else e ∷ without name es) ≡ find other (e ∷ es)
    by later true h =
        let is : name ≡ e.0 = (bytes_eq-Decides name e.0).0 h in
        let no : bytes_eq other e.0 ≡ false = subst (λ (n : List ℕ). bytes_eq other n ≡ false) is differ in
        sym (ap (λ (c : Bool). if c then Some e.1 else find other es) no)
    by later false h = ap (λ (r : Option (List ℕ)). if bytes_eq other e.0 then Some e.1 else r) later

pub noted_other : (x : Pairs) (other name value : List ℕ) → bytes_eq other name ≡ false → find other (noted x name value) ≡ find other x
noted_other x other name value differ = by (is_none (refusal x name value))
  where
    by : (b : Bool) → find other (if b then with_value x name value else x) ≡ find other x
    by true = put_other x other name value differ
    by false = refl

-- the note is there, or everything is as before
pub noted_same : (x : Pairs) (name value : List ℕ) → (find name (noted x name value) ≡ Some value) ⊎ (find name (noted x name value) ≡ find name x)
noted_same x name value = by (is_none (refusal x name value))
  where
    by : (b : Bool) → (find name (if b then with_value x name value else x) ≡ Some value) ⊎ (find name (if b then with_value x name value else x) ≡ find name x)
    by true = inl (put x name value)
    by false = inr refl

longer : (es : Pairs) (name value : List ℕ) → length (with_value es name value) ≤ length es + 1
longer [] name value = grind arith
longer (e ∷ es) name value = by (longer es name value) (bytes_eq name e.0)
  where
    by : length (with_value es name value) ≤ length es + 1 → (b : Bool)
        → length (if b then (e.0, value) ∷ es else e ∷ with_value es name value) ≤ length (e ∷ es) + 1
    by more true = grind arith
    by more false = grind arith

pub noted_longer : (x : Pairs) (name value : List ℕ) → length (noted x name value) ≤ length x + 1
noted_longer x name value = by (is_none (refusal x name value))
  where
    by : (b : Bool) → length (if b then with_value x name value else x) ≤ length x + 1
    by true = longer x name value
    by false = grind arith

roomy : (x : Pairs) → length x < 64 → refusal x (codes "late") (codes "1") ≡ None
unfolding refusal is_name
roomy x h =
    let few : nat_le 64 (length x) ≡ false = grind (arith, nat_tests) in
    ap (λ (b : Bool). if b && is_none (find (codes "late") x) then Some Full else None) few

pub late_noted : (x : Pairs) → length x < 64 → find (codes "late") (noted x (codes "late") (codes "1")) ≡ Some (codes "1")
late_noted x h =
    ap (λ (r : Option _). find (codes "late") (if is_none r then with_value x (codes "late") (codes "1") else x)) (roomy x h)
    ∙ put x (codes "late") (codes "1")

-- the code of an approval is there
abbrev pub IsZero : Pairs → Type 0
IsZero x = find (codes "rc") x ≡ Some (codes "00")

pub some_same : {A : Type 0} {a b : A} → Some a ≡ Some b → a ≡ b
some_same e = cc

-- a note of another code is no approval
pub other_code : (x : Pairs) (value : List ℕ) → bytes_eq value (codes "00") ≡ false → IsZero (noted x (codes "rc") value) → IsZero x
other_code x value differ h = by (noted_same x (codes "rc") value)
  where
    by : (find (codes "rc") (noted x (codes "rc") value) ≡ Some value) ⊎ (find (codes "rc") (noted x (codes "rc") value) ≡ find (codes "rc") x) → IsZero x
    by (inl is) =
        let same : value ≡ codes "00" = some_same (sym is ∙ h) in
        absurd (true≢false (sym ((bytes_eq-Decides value (codes "00")).1 same) ∙ differ))
    by (inr is) = sym is ∙ h
