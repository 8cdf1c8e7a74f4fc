-- A row put into a table: those below it, it, and those above it.
-- for: the crates above
use Rattle.std.proofs.Common.{◌≡◌, Bool, true, false, not, List, [], ◌∷◌, ◌++◌, filter, Less, Equal, Greater, Ordering}
use Rattle.std.proofs.Common.{is_lt, is_gt, is_eq, refl, sym, ap, ◌∙◌}
use Rattle.std.specs.List.{AllByRecursion}
use Rattle.std.specs.Ordering.{ordering_reverse}
use Rattle.sqlite.specs.declared.types.Value.{Value}
use Rattle.sqlite_value.specs.Order.{Row, value_cmp}
use Rattle.sqlite_value.proofs.OrderLemmas.{value_cmp_total}
use Rattle.sqlite_trees.proofs.TreeLemmas.{later_rowids}
use Rattle.sqlite_trees.specs.Tree.{put_row, rowid, IsTable}
use Rattle.sqlite_keyed.proofs.ListLemmas.{all_weaker, filter_all, filter_none}

abbrev pub low : Value → Row → Bool
low v r = is_lt (value_cmp (rowid r) v)

abbrev pub high : Value → Row → Bool
high v r = is_gt (value_cmp (rowid r) v)

-- all that comes after a row above the id is above it
later_high : (v w : Value) (rows : List Row) → value_cmp w v ≡ Greater → AllByRecursion (λ x. value_cmp w (rowid x) ≡ Less) rows →
    AllByRecursion (λ x. value_cmp (rowid x) v ≡ Greater) rows
later_high v w rows above up =
    all_weaker _ (λ x. value_cmp (rowid x) v ≡ Greater) (λ x less.
    let back : value_cmp v w ≡ Less = value_cmp_total.antisymm v w ∙ ap ordering_reverse above in
    value_cmp_total.antisymm (rowid x) v ∙ ap ordering_reverse (value_cmp_total.trans v w (rowid x) back less)) rows up

none_low : (v : Value) (rows : List Row) → AllByRecursion (λ x. value_cmp (rowid x) v ≡ Greater) rows → filter (low v) rows ≡ []
none_low v rows h = filter_none (low v) rows (all_weaker _ (λ x. low v x ≡ false) (λ x e. ap is_lt e) rows h)

all_high : (v : Value) (rows : List Row) → AllByRecursion (λ x. value_cmp (rowid x) v ≡ Greater) rows →
    filter (λ r. not (is_eq (value_cmp (rowid r) v))) rows ≡ filter (high v) rows
all_high v [] h = refl
all_high v (r ∷ rows) h = rw (h.0) (ap (λ l. r ∷ l) (all_high v rows h.1))

pub put_parts : (new : Row) (rows : List Row) → IsTable rows
    → put_row new (filter (λ r. not (is_eq (value_cmp (rowid r) (rowid new)))) rows) ≡ filter (low (rowid new)) rows ++ new ∷ filter (high (rowid new)) rows
put_parts new [] up = refl
put_parts new (r ∷ rows) up = go (value_cmp (rowid r) (rowid new)) refl (put_parts new rows up.1)
  where
    go : (o : Ordering) → value_cmp (rowid r) (rowid new) ≡ o
        → put_row new (filter (λ r. not (is_eq (value_cmp (rowid r) (rowid new)))) rows)
        ≡ filter (low (rowid new)) rows ++ new ∷ filter (high (rowid new)) rows
        → put_row new (filter (λ r. not (is_eq (value_cmp (rowid r) (rowid new)))) (r ∷ rows)) ≡ filter (low (rowid new)) (r ∷ rows)
        ++ new ∷ filter (high (rowid new)) (r ∷ rows)
    go Less e more = rw (e, e) (ap (λ l. r ∷ l) more)
    go Equal e more = rw e more
    go Greater e more =
        let above = later_high (rowid new) (rowid r) rows e up.0 in
        rw (e, e, none_low (rowid new) rows above) (ap (λ l. new ∷ r ∷ l) (all_high (rowid new) rows above))

-- the rows of a table that has one of this rowid, and the one that is put over it
abbrev pub apart : Row → List Row → List Row
apart new = filter (λ r. not (is_eq (value_cmp (rowid r) (rowid new))))

pub put_over : (new : Row) (rows : List Row) → IsTable rows → put_row new (apart new rows) ≡ put_row new rows
put_over new [] up = refl
put_over new (r ∷ rows) up = go (value_cmp (rowid r) (rowid new)) refl (put_over new rows up.1)
  where
    others : is_lt (value_cmp (rowid r) (rowid new)) ≡ false → apart new rows ≡ rows
    others low = filter_all (λ r. not (is_eq (value_cmp (rowid r) (rowid new)))) rows
        (all_weaker _ (λ r. not (is_eq (value_cmp (rowid r) (rowid new))) ≡ true) (λ r e. ap not e) rows (later_rowids (rowid new) r rows low up.0))

    go : (o : Ordering) → value_cmp (rowid r) (rowid new) ≡ o → put_row new (apart new rows) ≡ put_row new rows →
        put_row new (apart new (r ∷ rows)) ≡ put_row new (r ∷ rows)
    go Less e more = rw (e, e) (ap (λ l. r ∷ l) more)
    go Equal e more = let same = others (ap is_lt e) in rw (e, same) (first rows up.0)
      where
        first : (xs : List Row) → AllByRecursion (λ x. value_cmp (rowid r) (rowid x) ≡ Less) xs → put_row new xs ≡ new ∷ xs
        first [] above = refl
        first (x ∷ xs) above = rw (greater (sym (value_cmp_total.congr (rowid r) (rowid new) (rowid x) e) ∙ above.0)) refl
          where
            greater : value_cmp (rowid new) (rowid x) ≡ Less → value_cmp (rowid x) (rowid new) ≡ Greater
            greater less = value_cmp_total.antisymm (rowid x) (rowid new) ∙ ap ordering_reverse less
    go Greater e more = let same = others (ap is_lt e) in rw (e, same, e) refl

-- whatever the table has, the row is put between those below it and those above it
pub put_between : (new : Row) (rows : List Row) → IsTable rows → put_row new rows ≡ filter (low (rowid new)) rows ++ new ∷ filter (high (rowid new)) rows
put_between new rows up = sym (put_over new rows up) ∙ put_parts new rows up
