-- The row of a table that has a rowid.
-- for: the crates above
use Rattle.std.proofs.Common.{arith, ◌≡◌, ◌⊎◌, inl, inr, ◌<ℤ◌, ℤ, List, [], ◌∷◌, map, filter, Bool, true, false, cond, int_eq, int_cmp, is_eq, Equal}
use Rattle.std.proofs.Common.{IsTrue, refl, sym, ap, subst, ◌∙◌}
use Rattle.std.specs.List.{AllByRecursion}
use Rattle.std.proofs.lemmas.Int.{ints}
use Rattle.sqlite_trees.proofs.TreeLemmas.{not_true}
use Rattle.std.proofs.lemmas.Cmp.{tied_itself}
use Rattle.sqlite.specs.declared.types.Value.TheVariants.{Int}
use Rattle.sqlite_value.specs.Order.{Row, column, value_cmp}
use Rattle.sqlite_value.proofs.OrderLemmas.{value_cmp_total, value_cmp-Int}
use Rattle.sqlite_trees.specs.Tree.{rowid, has_rowid}
use Rattle.sqlite_trees.specs.View.{is_int}
use Rattle.sqlite_rules.specs.Lists.{Has}
use Rattle.sqlite_rules.specs.Edit.{id_in}
use Rattle.sqlite_rules.proofs.TableLemmas.{int_is}
use Rattle.sqlite_keyed.specs.Keyed.{IsKeyedBy}
use Rattle.store_base.proofs.StoredRows.{Pair, split, key}
use Rattle.store_base.proofs.DeleteLemmas.{int_tie}

pub not_tied : (a b : ℤ) → (a ≡ b → ⊥) → int_eq a b ≡ false
not_tied a b h = not_true _ (λ e. h (int_tie a b e))

pub same_int : (a : ℤ) → int_eq a a ≡ true
same_int a = ap is_eq (tied_itself_int a)
  where
    tied_itself_int : (a : ℤ) → int_cmp a a ≡ Equal
    tied_itself_int a = sym (value_cmp-Int a a) ∙ tied_itself value_cmp_total (Int a)

-- the elements with this key are none, or one
pub one_found : {X : Type 0} (key : X → ℤ) (id : ℤ) (xs : List X) → IsKeyedBy key xs →
    (filter (λ x. int_eq (key x) id) xs ≡ []) ⊎ ((x : X) × (filter (λ x. int_eq (key x) id) xs ≡ x ∷ []) × (key x ≡ id) × Has xs x)
one_found key id [] h = inl refl
one_found {X} key id (x ∷ xs) h = go (one_found key id xs h.1) (int_eq (key x) id) refl
  where
    these : List X → List X
    these = filter (λ y. int_eq (key y) id)

    Found : Bool → Type 0
    Found b = (cond b (x ∷ these xs) (these xs) ≡ []) ⊎ ((y : X) × (cond b (x ∷ these xs) (these xs) ≡ y ∷ []) × (key y ≡ id) × Has (x ∷ xs) y)

    later : (ys : List X) → AllByRecursion (λ y. key x <ℤ key y) ys → key x ≡ id → these ys ≡ []
    later [] above same = refl
    later (y ∷ ys) above same =
        let apart : int_eq (key y) id ≡ false = not_tied (key y) id (λ e. let less = above.0 in omega (arith, ints, less, e, same)) in
        ap (λ b. cond b (y ∷ these ys) (these ys)) apart ∙ later ys above.1 same

    go : (these xs ≡ []) ⊎ ((y : X) × (these xs ≡ y ∷ []) × (key y ≡ id) × Has xs y) → (b : Bool) → int_eq (key x) id ≡ b → Found (int_eq (key x) id)
    go more true is = subst Found (sym is) (let same = int_tie (key x) id is in inr (x, ap (λ l. x ∷ l) (later xs h.0 same), same, inl refl))
    go more false is = subst Found (sym is) (elim more [ inl none ↦ inl none | inr it ↦ inr (it.0, it.1, it.2, inr it.3) ])

pub has_split : (rows : List Row) (r : Row) → Has rows r → Has (map split rows) (split r)
has_split [] r h = h
has_split (x ∷ rows) r (inl e) = inl (ap split e)
has_split (x ∷ rows) r (inr h) = inr (has_split rows r h)

pub has_row : (rows : List Row) (p : Pair) → Has (map split rows) p → (r : Row) × Has rows r × (p ≡ split r)
has_row [] p h = absurd h
has_row (x ∷ rows) p (inl e) = (x, inl refl, e)
has_row (x ∷ rows) p (inr h) = let it = has_row rows p h in (it.0, inr it.1, it.2)

pub row_is : (id : ℤ) (x : Row) → IsTrue (is_int (rowid x)) → has_rowid id x ≡ true → column x 0 ≡ Int id
row_is id x int here =
    let v = int_is (column x 0) int in v ∙ ap Int (int_tie _ id
    (ap is_eq (sym (value_cmp-Int (id_in (column x 0)) id) ∙ ap (λ w. value_cmp w (Int id)) (sym v)) ∙ here))
