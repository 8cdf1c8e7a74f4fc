-- Rows without a fault are readable, and the members of a readable row have names.
-- for: faults::view_of, reading::names_of
use Rattle.std.proofs.Common.{◌≡◌, ℕ, zero, suc, ◌+◌, ◌<◌, ℤ, pos, Bool, true, false, int_eq, if◌then◌else◌, List, [], ◌∷◌, length, get_or}
use Rattle.std.proofs.Common.{None, refl, sym, ap, subst, ◌∙◌, true≢false, arith}
use Rattle.std.specs.List.{All, AllByRecursion}
use Rattle.std.proofs.lemmas.Bool.{and_parts}
use Rattle.std.proofs.lemmas.Cmp.{int_eq_equiv}
use Rattle.std.proofs.lemmas.List.Elements.{All-cons, All-nil}
use Rattle.sqlite_value.specs.Order.{Row, column, bytes}
use Rattle.sqlite_keyed.proofs.ListLemmas.{all_both, all_weaker}
use Rattle.sw_context.specs.Names.{is_name}
use Rattle.journal_rows.specs.declared.layout.Layout.{Layout}
use Rattle.journal_rows.specs.Reads.{int_at, members_of, value_of}
use Rattle.journal_rows.specs.Faults.{IsFault, IsFirstBad, IsTx, ShelfFits, are_placed, bad_advice, bad_member, bad_meta, bad_part, is_placed}
use Rattle.journal_rows.specs.Faults.{members_table, orphan, unplaced}
use Rattle.journal_rows.specs.Readable.{IsReadable, IsShelfReadable}
use Rattle.journal_rows.proofs.ExactFaults.{least_none}
use Rattle.journal_rows.proofs.Views.{NoFault, all_passed, none_bad, none_first}

-- a member whose transaction has its members in their places has a name

named_in : (id : ℤ) (at : ℕ) (members : List Row) (i : ℕ) (d : Row) → i < length members → are_placed at (members_of id members) ≡ true →
    int_eq (int_at (get_or members i d) 0) id ≡ true → is_name (bytes (column (get_or members i d) 2)) ≡ true
named_in id at [] i d low placed is = absurd (omega (arith, low))
named_in id at (m ∷ ms) i d low placed is =
    go (int_eq (int_at m 0) id) refl (λ at i low. named_in id at ms i d low) i low placed is
  where
    go : (b : Bool) → int_eq (int_at m 0) id ≡ b
        → ((at : ℕ) (i : ℕ) → i < length ms → are_placed at (members_of id ms) ≡ true → int_eq (int_at (get_or ms i d) 0) id ≡ true
        → is_name (bytes (column (get_or ms i d) 2)) ≡ true)
        → (i : ℕ) → i < length (m ∷ ms) → are_placed at (if b then m ∷ members_of id ms else members_of id ms) ≡ true
        → int_eq (int_at (get_or (m ∷ ms) i d) 0) id ≡ true → is_name (bytes (column (get_or (m ∷ ms) i d) 2)) ≡ true
    go true e later zero low placed is = (and_parts _ _ (and_parts _ _ (and_parts (is_placed at m) _ placed).0).1).1
    go true e later (suc i) low placed is = later (at + 1) i (omega (arith, low)) (and_parts (is_placed at m) _ placed).1 is
    go false e later zero low placed is = absurd (true≢false (sym is ∙ e))
    go false e later (suc i) low placed is = later at i (omega (arith, low)) placed is

pub member_named : (id : ℤ) (members : List Row) (i : ℕ) (r : Row) → i < length members → are_placed 0 (members_of id members) ≡ true →
    r ≡ get_or members i r → int_at r 0 ≡ id → is_name (bytes (column r 2)) ≡ true
member_named id members i r low placed at is =
    let equal : int_eq (int_at r 0) id ≡ true = ap (λ n. int_eq n id) is ∙ int_eq_equiv.refl id in
    subst (λ (x : Row). int_eq (int_at x 0) id ≡ true → is_name (bytes (column x 2)) ≡ true) (sym at) (named_in id 0 members i r low placed) equal

-- rows without a fault

all_at : {A : Type 0} (P : A → Type 0) (xs : List A) → AllByRecursion P xs → All P xs
all_at P [] h = All-nil P
all_at P (x ∷ xs) h = All-cons P x xs h.0 (all_at P xs h.1)

module _ (layout : Layout) (parts meta tx members shelf advices : List Row) (f : IsFault layout parts meta tx members shelf advices None) where
  abbrev next : ℤ
  next = value_of (pos 2) meta

  none : NoFault (bad_meta layout meta) (bad_part 0 parts) f.in_tx (bad_member tx members) f.in_shelf (bad_advice next advices)
  none = all_passed (members_table layout) (bad_meta layout meta) (bad_part 0 parts) f.in_tx (bad_member tx members) f.in_shelf (bad_advice next advices)
      (sym f.first)

  pub tx_readable : All (IsReadable members) tx
  unfolding none
  tx_readable =
      let fits = none_first (IsTx next members) 0 tx (subst (λ bad. IsFirstBad (IsTx next members) 0 tx bad) none.tx f.is_tx) in
      let placed = none_bad (λ r. are_placed 0 (members_of (int_at r 0) members)) tx (least_none (orphan tx members) (unplaced members tx) none.member).1 in
      all_at (IsReadable members) tx (all_both (λ r. (k : ℕ) × IsTx next members k r) (λ r. are_placed 0 (members_of (int_at r 0) members) ≡ true)
      (IsReadable members) (λ r is here. record { cells = is.1.fits.cells; placed = here }) tx fits placed)

  pub shelf_readable : All IsShelfReadable shelf
  shelf_readable =
      let fits = none_first (ShelfFits next tx) 0 shelf (subst (λ bad. IsFirstBad (ShelfFits next tx) 0 shelf bad) none.shelf f.is_shelf) in
      all_at IsShelfReadable shelf (all_weaker (λ r. (k : ℕ) × ShelfFits next tx k r) IsShelfReadable (λ r is. (and_parts _ _ is.1.good).1) shelf fits)
