-- Laws of lists of entries.
-- for: context::Context::put, take, context::reading::put_entries
use Rattle.std.proofs.Common.{◌≡◌, ℕ, suc, ◌+◌, ◌<◌, ◌≤◌, Bool, true, false, cond, not, nat_le, nat_lt, ◌&&◌, List, [], ◌∷◌, ◌++◌, length, Option, Some, None}
use Rattle.std.proofs.Common.{is_none, refl, sym, ap, subst, ◌∙◌, true≢false, arith}
use Rattle.std.specs.Str.{bytes_eq}
use Rattle.std.proofs.lemmas.Bool.Decides.{nat_tests}
use Rattle.std.proofs.lemmas.List.{length-append}
use Rattle.std.proofs.lemmas.Slice.Eq.{bytes_eq-Decides}
use Rattle.sw_context.specs.Names.{is_name}
use Rattle.sw_context.specs.Pairs.{Pairs, find, with_value, without, IsEntry, AreEntries, IsContext, refusal, IsRefusal}
use Rattle.sw_context.specs.declared.error.ContextError.{ContextError}
use Rattle.sw_context.specs.declared.error.ContextError.TheVariants.{OutOfMemory, Full, BadName, BadBytes, ValueTooLong}

-- ---- names

differ-back : (a b : List ℕ) → bytes_eq a b ≡ false → bytes_eq b a ≡ false
differ-back a b h = by (bytes_eq b a) refl
  where
    by : (r : Bool) → bytes_eq b a ≡ r → r ≡ false
    by false e = refl
    by true e = absurd (true≢false (sym ((bytes_eq-Decides a b).1 (sym ((bytes_eq-Decides b a).0 e))) ∙ h))

-- ---- look-ups

pub absent : {A : Type 0} (b : Bool) (x : A) (r : Option A) → cond b (Some x) r ≡ None → (b ≡ false) × (r ≡ None)
absent true x r h = absurd cc
absent false x r h = (refl, h)

find-cons : (name : List ℕ) (e : List ℕ × List ℕ) (es : Pairs) → bytes_eq name e.0 ≡ false → find name es ≡ None → find name (e ∷ es) ≡ None
find-cons name e es differ none = ap (λ b. cond b (Some e.1) (find name es)) differ ∙ none

find-append : (name : List ℕ) (xs ys : Pairs) → find name (xs ++ ys) ≡ None → (find name xs ≡ None) × (find name ys ≡ None)
find-append name [] ys h = (refl, h)
find-append name (x ∷ xs) ys h =
    let first = absent (bytes_eq name x.0) x.1 (find name (xs ++ ys)) h in
    let rest = find-append name xs ys first.1 in
    (find-cons name x xs first.0 rest.0, rest.1)

find-with_value_other : (other : List ℕ) (es : Pairs) (name value : List ℕ) → bytes_eq other name ≡ false → find other es ≡ None →
    find other (with_value es name value) ≡ None
find-with_value_other other [] name value differ none = find-cons other (name, value) [] differ refl
find-with_value_other other (e ∷ es) name value differ none =
    let first = absent (bytes_eq other e.0) e.1 (find other es) none in
    let by : (b : Bool) → find other (cond b ((e.0, value) ∷ es) (e ∷ with_value es name value)) ≡ None = λ b.
    elim b as (λ c. find other (cond c ((e.0, value) ∷ es) (e ∷ with_value es name value)) ≡ None) [
      | true ↦ find-cons other (e.0, value) es first.0 first.1
      | false ↦ find-cons other e (with_value es name value) first.0 (find-with_value_other other es name value differ first.1)
    ] in
    by (bytes_eq name e.0)

find-without : (other : List ℕ) (name : List ℕ) (es : Pairs) → find other es ≡ None → find other (without name es) ≡ None
find-without other name [] none = refl
find-without other name (e ∷ es) none =
    let first = absent (bytes_eq other e.0) e.1 (find other es) none in
    let by : (b : Bool) → find other (cond b es (e ∷ without name es)) ≡ None = λ b.
    elim b as (λ c. find other (cond c es (e ∷ without name es)) ≡ None) [
      | true ↦ first.1
      | false ↦ find-cons other e (without name es) first.0 (find-without other name es first.1)
    ] in
    by (bytes_eq name e.0)

-- a new name goes last
pub with_value-new : (es : Pairs) (name value : List ℕ) → find name es ≡ None → with_value es name value ≡ es ++ (name, value) ∷ []
with_value-new [] name value none = refl
with_value-new (e ∷ es) name value none =
    let first = absent (bytes_eq name e.0) e.1 (find name es) none in
    ap (λ b. cond b ((e.0, value) ∷ es) (e ∷ with_value es name value)) first.0
    ∙ ap (λ (z : Pairs). e ∷ z) (with_value-new es name value first.1)

-- ---- contexts

AreEntries-with_value : (es : Pairs) (name value : List ℕ) → IsEntry (name, value) → AreEntries es → AreEntries (with_value es name value)
AreEntries-with_value [] name value entry are = (entry, refl, tt)
AreEntries-with_value (e ∷ es) name value entry are = by (bytes_eq name e.0) refl (AreEntries-with_value es name value entry are.2)
  where
    by : (b : Bool) → bytes_eq name e.0 ≡ b → AreEntries (with_value es name value) → AreEntries (cond b ((e.0, value) ∷ es) (e ∷ with_value es name value))
    by true same more = ((are.0.0, entry.1), are.1, are.2)
    by false differ more = (are.0, find-with_value_other e.0 es name value (differ-back name e.0 differ) are.1, more)

AreEntries-without : (name : List ℕ) (es : Pairs) → AreEntries es → AreEntries (without name es)
AreEntries-without name [] are = tt
AreEntries-without name (e ∷ es) are = by (bytes_eq name e.0) (AreEntries-without name es are.2)
  where
    by : (b : Bool) → AreEntries (without name es) → AreEntries (cond b es (e ∷ without name es))
    by true more = are.2
    by false more = (are.0, find-without e.0 name es are.1, more)

length-with_value : (es : Pairs) (name value : List ℕ) → length (with_value es name value) ≤ length es + 1
length-with_value [] name value = omega arith
length-with_value (e ∷ es) name value = by (bytes_eq name e.0) (length-with_value es name value)
  where
    by : (b : Bool) → length (with_value es name value) ≤ length es + 1 → length (cond b ((e.0, value) ∷ es) (e ∷ with_value es name value)) ≤ length
        (e ∷ es) + 1
    by true more = omega arith
    by false more = omega arith

length-with_value_there : (es : Pairs) (name value : List ℕ) → is_none (find name es) ≡ false → length (with_value es name value) ≡ length es
length-with_value_there [] name value there = absurd cc
length-with_value_there (e ∷ es) name value there = by (bytes_eq name e.0) there (λ h. length-with_value_there es name value h)
  where
    by : (b : Bool) → is_none (cond b (Some e.1) (find name es)) ≡ false → (is_none (find name es) ≡ false → length (with_value es name value) ≡ length es)
        → length (cond b ((e.0, value) ∷ es) (e ∷ with_value es name value)) ≡ length (e ∷ es)
    by true h more = refl
    by false h more = ap (λ n. suc n) (more h)

length-without : (name : List ℕ) (es : Pairs) → length (without name es) ≤ length es
length-without name [] = omega arith
length-without name (e ∷ es) = by (bytes_eq name e.0) (length-without name es)
  where
    by : (b : Bool) → length (without name es) ≤ length es → length (cond b es (e ∷ without name es)) ≤ length (e ∷ es)
    by true more = omega arith
    by false more = omega arith

-- an error that comes first, or the refusal after it
first-refusal : (b : Bool) (e : ContextError) (r : Option ContextError) → IsRefusal e (Some e) → ((f : ContextError) → r ≡ Some f → IsRefusal f r)
    → (f : ContextError) → cond b (Some e) r ≡ Some f → IsRefusal f (cond b (Some e) r)
first-refusal true e r this more f h = let same : e ≡ f = cc in subst (λ g. IsRefusal g (Some e)) same this
first-refusal false e r this more f h = more f h

-- what `refusal` names is the error that the call answers
pub refused : (es : Pairs) (name value : List ℕ) (e : ContextError) → refusal es name value ≡ Some e → IsRefusal e (refusal es name value)
unfolding refusal
refused es name value e h =
    first-refusal (not (is_name name)) BadName _ refl
    (first-refusal (nat_lt 65535 (length value)) ValueTooLong _ refl
    (first-refusal (nat_le 64 (length es) && is_none (find name es)) Full None refl (λ f g. absurd (none-some f g))))
    e h
  where
    none-some : (f : ContextError) → None ≡ Some f → ⊥
    none-some f g = cc

-- where there is no refusal, only memory can run out
pub wants-memory : (e : ContextError) (r : Option ContextError) → IsRefusal e r → r ≡ None → e ≡ OutOfMemory
wants-memory OutOfMemory r h none = refl
wants-memory Full r h none = absurd cc
wants-memory BadName r h none = absurd cc
wants-memory BadBytes r h none = absurd cc
wants-memory ValueTooLong r h none = absurd cc

-- with a value that it accepts, a context is still a context
pub IsContext-with_value : (es : Pairs) (name value : List ℕ) → IsContext es → refusal es name value ≡ None → IsContext (with_value es name value)
unfolding refusal
IsContext-with_value es name value is h =
    let named = absent (not (is_name name)) BadName _ h in
    let short = absent (nat_lt 65535 (length value)) ValueTooLong _ named.1 in
    let room = absent (nat_le 64 (length es) && is_none (find name es)) Full None short.1 in
    let name_is : is_name name ≡ true = sure (is_name name) named.0 in
    let value_is : length value < 65536 = grind (arith, nat_tests, short.0) in
    (fits (is_none (find name es)) refl room.0, AreEntries-with_value es name value (name_is, value_is) is.1)
  where
    sure : (b : Bool) → not b ≡ false → b ≡ true
    sure true e = refl
    sure false e = absurd cc

    below : (n : ℕ) → (nat_le 64 n && true) ≡ false → n < 64
    below n e = grind (arith, nat_tests)

    fits : (b : Bool) → is_none (find name es) ≡ b → (nat_le 64 (length es) && is_none (find name es)) ≡ false → length (with_value es name value) ≤ 64
    fits true e room = let few = below (length es) (ap (λ b. nat_le 64 (length es) && b) (sym e) ∙ room) in omega (arith, few, length-with_value es name value)
    fits false e room = omega (arith, is.0, length-with_value_there es name value e)

-- and so it is without a name
pub IsContext-without : (name : List ℕ) (es : Pairs) → IsContext es → IsContext (without name es)
IsContext-without name es is = (omega (arith, is.0, length-without name es), AreEntries-without name es is.1)

-- ---- entries put one after the other

AreEntries-before : (xs : Pairs) (e : List ℕ × List ℕ) (ys : Pairs) → AreEntries (xs ++ e ∷ ys) → (find e.0 xs ≡ None) × IsEntry e
AreEntries-before [] e ys are = (refl, are.0)
AreEntries-before (x ∷ xs) e ys are =
    let rest = AreEntries-before xs e ys are.2 in
    let after = find-append x.0 xs (e ∷ ys) are.1 in
    let differ = absent (bytes_eq x.0 e.0) e.1 (find x.0 ys) after.1 in
    (find-cons e.0 x xs (differ-back x.0 e.0 differ.0) rest.0, rest.1)

-- the first of the entries that are left is accepted, and comes last
pub put-next : (xs : Pairs) (e : List ℕ × List ℕ) (ys : Pairs) → IsContext (xs ++ e ∷ ys)
    → (refusal xs e.0 e.1 ≡ None) × (with_value xs e.0 e.1 ≡ xs ++ e ∷ [])
unfolding refusal
put-next xs e ys is =
    let before = AreEntries-before xs e ys is.1 in
    let few : length xs < 64 = omega (arith, is.0, length-append xs (e ∷ ys)) in
    let short : nat_lt 65535 (length e.1) ≡ false = grind (arith, nat_tests, before.1.1) in
    let room : nat_le 64 (length xs) ≡ false = grind (arith, nat_tests, few) in (
      ap (λ b. cond (not b) (Some BadName) (rest (nat_lt 65535 (length e.1)) (nat_le 64 (length xs)))) before.1.0 ∙ ap (λ b. rest b (nat_le 64 (length xs)))
          short ∙ ap (rest false) room,
      with_value-new xs e.0 e.1 before.0,
    )
  where
    rest : Bool → Bool → Option ContextError
    rest b c = cond b (Some ValueTooLong) (cond (c && is_none (find e.0 xs)) (Some Full) None)

pub AreEntries-after : (xs ys : Pairs) → AreEntries (xs ++ ys) → AreEntries ys
AreEntries-after [] ys are = are
AreEntries-after (x ∷ xs) ys are = AreEntries-after xs ys are.2
