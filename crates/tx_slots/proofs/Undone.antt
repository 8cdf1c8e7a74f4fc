-- A key that was put into a map and taken out again.
-- for: maps::put_both
use Rattle.std.proofs.Common.{◌≡◌, ℕ, Bool, true, false, List, [], ◌∷◌, Option, Some, None, refl, ap, arith}
use Rattle.std.specs.Prelude.{if◌then◌else◌, ◌==◌}
use Rattle.std.proofs.lemmas.Bool.Decides.{nat_tests}
use Rattle.std.specs.Ordering.{nat_cmp, ordering_reverse}
use Rattle.std.specs.declared.cmp.Ordering.{Ordering}
use Rattle.std.specs.declared.cmp.Ordering.TheVariants.{Less, Equal, Greater}
use Rattle.std.specs.Map.{remove_entry}
use Rattle.std.specs.BTreeMap.{insert_entry, is_at}
use Rattle.std.proofs.lemmas.Map.Lookups.{exact_unsigned}
use Rattle.std.proofs.lemmas.Cmp.{nat_cmp_total}
use Rattle.tx_history.specs.Keys.{look}

undone_at : {A : Type 0} (x : ℕ × A) (xs : List (ℕ × A)) (id : ℕ) (v : A) → look id (x ∷ xs) ≡ None → nat_cmp id id ≡ Equal →
    (look id xs ≡ None → remove_entry (is_at (nat_cmp id)) (insert_entry nat_cmp xs id v) ≡ xs)
    → (r : Ordering) → nat_cmp id x.0 ≡ r → remove_entry (is_at (nat_cmp id)) (insert_entry nat_cmp (x ∷ xs) id v) ≡ x ∷ xs
undone_at x xs id v none same ih Less e = rw (e, same) refl
undone_at x xs id v none same ih Equal e =
    let eq : id ≡ x.0 = exact_unsigned id x.0 e in
    let yes : (x.0 == id) ≡ true = grind (arith, nat_tests) in
    let some = rw yes at none in
    absurd (cc)
undone_at {A = A} x xs id v none same ih Greater e = rw (e, e) (ap (λ (l : List (ℕ × A)). x ∷ l) (ih (later (x.0 == id) (look id xs) none)))
  where
    later : (b : Bool) (o : Option A) → (if b then Some x.1 else o) ≡ None → o ≡ None
    later true o h = absurd (cc)
    later false o h = h

pub self_at : (r : Ordering) → r ≡ ordering_reverse r → r ≡ Equal
self_at Less h = absurd (cc)
self_at Equal h = refl
self_at Greater h = absurd (cc)

pub cmp_self : (id : ℕ) → nat_cmp id id ≡ Equal
cmp_self id = self_at (nat_cmp id id) (nat_cmp_total.antisymm id id)

pub undone : {A : Type 0} (xs : List (ℕ × A)) (id : ℕ) (v : A) → look id xs ≡ None → remove_entry (is_at (nat_cmp id)) (insert_entry nat_cmp xs id v) ≡ xs
undone [] id v none = rw (cmp_self id) refl
undone (x ∷ xs) id v none = undone_at x xs id v none (cmp_self id) (undone xs id v) (nat_cmp id x.0) refl
