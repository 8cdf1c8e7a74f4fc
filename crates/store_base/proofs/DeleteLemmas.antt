-- DELETE from a table that no other refers to.
-- for: the crates above
use Rattle.std.proofs.Common.{◌≡◌, ◌≢◌, inl, inr, ℕ, pos, negsuc, ℤ, List, [], ◌∷◌, map, filter, Bool, true, false, cond, not, ◌||◌, Some, None, Ok, IsTrue}
use Rattle.std.proofs.Common.{Ordering, Less, Equal, Greater, int_cmp, is_eq, slice_get, refl, sym, ap, subst, ◌∙◌, true≢false}
use Rattle.std.specs.List.{list_any, list_all, AllByRecursion}
use Rattle.std.specs.List.Sorted.{IsPermutation}
use Rattle.std.proofs.lemmas.Cmp.{tied_itself, int_ranked}
use Rattle.sqlite.specs.declared.types.Value.TheVariants.{Null, Int}
use Rattle.sqlite_value.specs.Order.{Row, column, value_cmp}
use Rattle.sqlite_value.proofs.OrderLemmas.{value_cmp_total, value_cmp-Int}
use Rattle.sqlite_trees.specs.Tree.{Trees, rowid, IsTable, has_rowid, without_rowid}
use Rattle.sqlite_trees.specs.View.{IsShaped, is_int}
use Rattle.sqlite_trees.specs.declared.store.Shape.TheVariants.{Table}
use Rattle.sqlite_sql.specs.Term.{Term, col, holds, lit}
use Rattle.sqlite_sql.specs.Query.{Query, Output, output, IsAnswer, inner, end}
use Rattle.sqlite_sql.specs.Program.{overlay}
use Rattle.sqlite_schema.specs.declared.program.Program.{Program}
use Rattle.sqlite_schema.specs.declared.schema.Schema.{Schema}
use Rattle.sqlite_schema.specs.declared.schema.Table as declared
use Rattle.sqlite_schema.specs.declared.schema.Keys.TheVariants.{Enforced}
use Rattle.sqlite_schema.specs.declared.command.Command.TheVariants.{Delete}
use Rattle.sqlite_rules.specs.Lists.{Has}
use Rattle.sqlite_rules.specs.Edit.{edit_of, id_in, without_all, taken_by}
use Rattle.sqlite_rules.specs.declared.error.Rowids.TheVariants.{Given}
use Rattle.sqlite_rules.specs.Calls.{ids_of}
use Rattle.sqlite_rules.specs.Action.{works}
use Rattle.sqlite_rules.proofs.ListLemmas.{all_has, some_has, some_from, has_kept}
use Rattle.sqlite_rules.proofs.TableLemmas.{int_is}
use Rattle.sqlite_keyed.proofs.ListLemmas.{filter_all, all_of, map-map, along_permutation}
use Rattle.sqlite_typed.proofs.AnswerLemmas.{Source, last_table, at_end, matches_are}
use Rattle.sqlite.specs.Effect.{Database, IsDatabase}
use Rattle.sqlite.specs.Rows.{Written, Task}
use Rattle.sqlite.specs.Does.{Does, OnRows}
use Rattle.sqlite.specs.Listing.{understood}
use Rattle.sqlite.specs.State.{State, Executes, mode_of}
use Rattle.sqlite.proofs.Callers.{IsPlain, command_of, statement_of, runs_as, one_step}
use Rattle.store_base.proofs.WriteLemmas.{went, same_value, ends_as}
use Rattle.store_base.proofs.StoredRows.{Pair, split, whole, key, split_back, stored_rows, rising_rows}

-- the rows of one table that pass a test, as a deletion asks for them
abbrev pub rows_of : ℕ → List Term → Query
rows_of tree filter = record {
  from = inner tree end;
  filter = filter;
  group = None;
  project = col 1 0 ∷ [];
  distinct = false;
  collations = [];
  order = [];
  limit = lit (Int (negsuc 0));
  offset = lit (Int (pos 0));
}

pub int_tie : (a b : ℤ) → is_eq (int_cmp a b) ≡ true → a ≡ b
int_tie a b h = int_ranked a b Equal (sym (tied _ h))
  where
    tied : (o : Ordering) → is_eq o ≡ true → o ≡ Equal
    tied Less e = absurd (true≢false (sym e))
    tied Equal e = refl
    tied Greater e = absurd (true≢false (sym e))

-- rows of a table that are taken out by their rowids

same_row : (rows : List Row) (r s : Row) → IsTable rows → Has rows r → Has rows s → column r 0 ≡ column s 0 → r ≡ s
same_row [] r s h a b e = absurd a
same_row (x ∷ xs) r s h (inl a) (inl b) e = a ∙ sym b
same_row (x ∷ xs) r s h (inl a) (inr b) e =
    absurd (let less = all_has _ xs s h.0 b in let tie = tied_itself value_cmp_total (column s 0) in let same : column x 0 ≡ column s 0 =
    ap (λ t. column t 0) (sym a) ∙ e in cc)
same_row (x ∷ xs) r s h (inr a) (inl b) e =
    absurd (let less = all_has _ xs r h.0 a in let tie = tied_itself value_cmp_total (column r 0) in let same : column x 0 ≡ column r 0 =
    ap (λ t. column t 0) (sym b) ∙ sym e in cc)
same_row (x ∷ xs) r s h (inr a) (inr b) e = same_row xs r s h.1 a b e

filter_twice : {X : Type 0} (p q : X → Bool) (xs : List X) → filter (λ x. not (q x)) (filter (λ x. not (p x)) xs) ≡ filter (λ x. not (p x || q x)) xs
filter_twice p q [] = refl
filter_twice p q (x ∷ xs) =
    elim (p x) as (λ b. filter (λ y. not (q y)) (cond (not b) (x ∷ filter (λ y. not (p y)) xs) (filter (λ y. not (p y)) xs)) ≡ cond (not (b || q x))
    (x ∷ filter (λ y. not (p y || q y)) xs) (filter (λ y. not (p y || q y)) xs)) [
      | true ↦ filter_twice p q xs
      | false ↦ ap (λ l. cond (not (q x)) (x ∷ l) l) (filter_twice p q xs)
    ]

filter_alike : {X : Type 0} (p q : X → Bool) (xs : List X) → ((x : X) → Has xs x → p x ≡ q x) → filter (λ x. not (p x)) xs ≡ filter (λ x. not (q x)) xs
filter_alike p q [] h = refl
filter_alike p q (x ∷ xs) h =
    let rest = filter_alike p q xs (λ y there. h y (inr there)) in λ i. cond (not (h x (inl refl) i)) (x ∷ rest i) (rest i)

without_all_filter : (ids : List ℤ) (rows : List Row) → without_all rows ids ≡ filter (λ r. not (list_any (λ i. has_rowid i r) ids)) rows
without_all_filter [] rows = sym (filter_all (λ _. true) rows (all_of _ (λ _. refl) rows))
without_all_filter (i ∷ ids) rows = without_all_filter ids (without_rowid i rows) ∙ filter_twice (has_rowid i) (λ r. list_any (λ j. has_rowid j r) ids) rows

module _ (rows : List Row) (shaped : IsShaped Table rows) (P : Row → Bool) (ids : List ℤ)
    (sound : (id : ℤ) → Has ids id → (r : Row) × Has rows r × (P r ≡ true) × (column r 0 ≡ Int id))
    (complete : (r : Row) (id : ℤ) → Has rows r → P r ≡ true → column r 0 ≡ Int id → Has ids id) where
  hits : (r : Row) → Has rows r → (b : Bool) → P r ≡ b → (c : Bool) → list_any (λ i. has_rowid i r) ids ≡ c → c ≡ b
  hits r there true held true found = refl
  hits r there false fails false none = refl
  hits r there true held false none =
      let id = int_is (column r 0) (all_has (λ r. IsTrue (is_int (rowid r))) rows r shaped.1 there) in
      let one = some_from (λ i. has_rowid i r) ids (id_in (column r 0)) (complete r _ there held id)
      (ap (λ v. is_eq (value_cmp v (Int (id_in (column r 0))))) id ∙ ap is_eq (tied_itself value_cmp_total _)) in
      absurd (true≢false (sym one ∙ none))
  hits r there false fails true found =
      let id = int_is (column r 0) (all_has (λ r. IsTrue (is_int (rowid r))) rows r shaped.1 there) in
      let one = some_has (λ i. has_rowid i r) ids found in
      let it = sound one.0 one.1 in
      let tie : is_eq (int_cmp (id_in (column r 0)) one.0) ≡ true = ap is_eq (sym (value_cmp-Int _ _) ∙ ap (λ v. value_cmp v (Int one.0)) (sym id)) ∙ one.2 in
      let same : id_in (column r 0) ≡ one.0 = int_tie _ _ tie in
      let row : r ≡ it.0 = same_row rows r it.0 shaped.0 there it.1 (id ∙ ap Int same ∙ sym it.3) in
      absurd (true≢false (sym it.2 ∙ ap P (sym row) ∙ fails))

  pub taken_out : without_all rows ids ≡ filter (λ r. not (P r)) rows
  taken_out = without_all_filter ids rows ∙ filter_alike (λ r. list_any (λ i. has_rowid i r) ids) P rows (λ r there. hits r there (P r) refl _ refl)

-- lists, and what is in them

has_map : {A B : Type 0} (f : A → B) (xs : List A) (y : B) → Has (map f xs) y → (x : A) × Has xs x × (y ≡ f x)
has_map f [] y h = absurd h
has_map f (x ∷ xs) y (inl e) = (x, inl refl, e)
has_map f (x ∷ xs) y (inr h) = let it = has_map f xs y h in (it.0, inr it.1, it.2)

map_has : {A B : Type 0} (f : A → B) (xs : List A) (x : A) → Has xs x → Has (map f xs) (f x)
map_has f [] x h = absurd h
map_has f (y ∷ xs) x (inl e) = inl (ap f e)
map_has f (y ∷ xs) x (inr h) = inr (map_has f xs x h)

has_passed : {A : Type 0} (p : A → Bool) (xs : List A) (x : A) → Has (filter p xs) x → Has xs x × (p x ≡ true)
has_passed p [] x h = absurd h
has_passed {A} p (y ∷ xs) x h = go (p y) refl h (has_passed p xs x)
  where
    go : (b : Bool) → p y ≡ b → Has (cond b (y ∷ filter p xs) (filter p xs)) x → (Has (filter p xs) x → Has xs x × (p x ≡ true))
        → Has (y ∷ xs) x × (p x ≡ true)
    go true e (inl same) more = (inl same, ap p same ∙ e)
    go true e (inr there) more = let it = more there in (inr it.0, it.1)
    go false e there more = let it = more there in (inr it.0, it.1)

under : {A : Type 0} (z : A) (xs ys : List A) → ((x : A) → Has xs x → Has ys x) → (x : A) → Has (z ∷ xs) x → Has (z ∷ ys) x
under z xs ys h x (inl e) = inl e
under z xs ys h x (inr there) = inr (h x there)

swap : {A : Type 0} (y z : A) (xs : List A) (x : A) → Has (y ∷ z ∷ xs) x → Has (z ∷ y ∷ xs) x
swap y z xs x (inl e) = inr (inl e)
swap y z xs x (inr (inl e)) = inl e
swap y z xs x (inr (inr h)) = inr (inr h)

has_permuted : {A : Type 0} (xs ys : List A) → IsPermutation xs ys → ((x : A) → Has xs x → Has ys x) × ((x : A) → Has ys x → Has xs x)
has_permuted {A} = along_permutation (λ xs ys. ((x : A) → Has xs x → Has ys x) × ((x : A) → Has ys x → Has xs x))
    (λ xs. (λ x h. h, λ x h. h))
    (λ z xs ys h. (under z xs ys h.0, under z ys xs h.1))
    (λ y z xs. (swap y z xs, swap z y xs))
    (λ xs ys zs h k. (λ x there. k.0 x (h.0 x there), λ x there. h.1 x (k.1 x there)))

-- the rows that a deletion's query finds

module _ (tree : ℕ) (terms : List Term) (trees : Trees) (rows : List Row) (at : overlay trees [] tree ≡ rows) (shaped : IsShaped Table rows) (params : Row)
    (P : Row → Bool)
    (tests : (p : Pair) → list_all (holds (params ∷ whole p ∷ [])) terms ≡ P (whole p)) where
  abbrev ps : List Pair
  ps = map split rows

  abbrev source : Source (overlay trees []) (inner tree end) Pair
  source = last_table (overlay trees []) tree whole key ps (at ∙ stored_rows rows shaped.1) (rising_rows rows shaped) (at_end (overlay trees []))

  abbrev wanted : Query
  wanted = rows_of tree terms

  abbrev found : List Pair
  found = filter (λ p. P (whole p)) ps

  out : Pair → Output
  out p = ([], Int (key p) ∷ [])

  pub found_gone : (shown : List Row) → IsAnswer wanted (overlay trees []) params shown → without_all rows (ids_of shown) ≡ filter (λ r. not (P r)) rows
  unfolding out
  found_gone shown a =
      let all = matches_are wanted (overlay trees []) params source (λ p. P (whole p)) tests in
      let kept : a.kept ≡ map out found = a.distinct ∙ ap (map (output wanted)) (a.grouped ∙ all) ∙ map-map (output wanted) (λ p. params ∷ whole p ∷ [])
      found in
      let perm = has_permuted a.kept a.ordered a.same in
      let ids : ids_of shown ≡ map (λ (o : Output). id_in (rowid o.1)) a.ordered =
      ap ids_of a.shown ∙ map-map (λ (r : Row). id_in (rowid r)) (λ (o : Output). o.1) a.ordered in
      taken_out rows shaped P (ids_of shown)
      (λ id there.
      let o = has_map (λ (o : Output). id_in (rowid o.1)) a.ordered id (subst (λ l. Has l id) ids there) in
      let p = has_map out found o.0 (subst (λ l. Has l o.0) kept (perm.1 o.0 o.1)) in
      let pass = has_passed (λ p. P (whole p)) ps p.0 p.1 in
      let r = has_map split rows p.0 pass.0 in
      let back : r.0 ≡ whole (split r.0) = split_back r.0 (all_has (λ x. IsTrue (is_int (rowid x))) rows r.0 shaped.1 r.1) in
      let same : whole p.0 ≡ r.0 = ap whole r.2 ∙ sym back in
      (r.0, r.1, ap P (sym same) ∙ pass.1, sym (ap (λ x. column x 0) same) ∙ ap Int (sym (o.2 ∙ ap (λ (o : Output). id_in (rowid o.1)) p.2))))
      (λ r id there held is.
      let back : r ≡ whole (split r) = split_back r (all_has (λ x. IsTrue (is_int (rowid x))) rows r shaped.1 there) in
      let p = has_kept (λ p. P (whole p)) ps (split r) (map_has split rows r there) (ap P (sym back) ∙ held) in
      let o = perm.0 (out (split r)) (subst (λ l. Has l (out (split r))) (sym kept) (map_has out found (split r) p)) in
      subst (λ l. Has l id) (sym ids) (subst (λ n. Has (map (λ (o : Output). id_in (rowid o.1)) a.ordered) n) (ap id_in is)
      (map_has (λ (o : Output). id_in (rowid o.1)) a.ordered (out (split r)) o)))

-- this change was made to one table, and no other has changed
pub record HasEdited (schema : Schema) (tree : ℕ) (change : List Row → List Row) (old new : Database) : Type 0 where
  pub schema_is : new.schema ≡ schema
  pub sound : IsDatabase new
  pub rows : new.trees tree ≡ change (old.trees tree)
  pub others : AllByRecursion (λ t. t.tree ≢ tree → new.trees t.tree ≡ old.trees t.tree) schema.tables

module _ (schema : Schema) (at : ℕ) (table : declared.Table) (there : slice_get schema.tables at ≡ Some table) (terms : List Term) (text : List ℕ)
    (is : command_of (understood schema text) ≡ Delete at (record { lets = []; body = rows_of table.tree terms })) (plain : IsPlain (understood schema text))
    (free : (olds : List Row) → works schema Enforced 0 table.tree olds [] ≡ [])
    (seen : (trees : Trees) → overlay trees [] table.tree ≡ trees table.tree) where
  pub deletes : (old new : State) (params : Row) (P : Row → Bool) (count : ℕ) → ((p : Pair) → list_all (holds (params ∷ whole p ∷ [])) terms ≡ P (whole p))
      → old.now.schema ≡ schema
      → IsShaped Table (old.now.trees table.tree) → Executes text params old new (Ok count) →
      HasEdited schema table.tree (filter (λ r. not (P r))) old.now new.now
  deletes old new params P count tests has shaped h =
      let q : Program = record { lets = []; body = rows_of table.tree terms } in
      let command = Delete at q in
      let w = runs_as text params old new schema has command is plain count h in
      let full = statement_of text (understood schema text) in
      let does = subst (λ s. Does old.step_limit (mode_of old) params (record old.now { schema = s }) full None command (Ok (w.tally, new.now))) has
      w.changed in
      let task : Task = record { limit = old.step_limit; keys = Enforced; schema = schema; table = table; params = params } in
      let on : OnRows task (mode_of old) None command old.now.trees (Ok (w.tally, new.now)) = rw there at does in
      let done = ends_as task (mode_of old) command old.now.trees w.tally new.now on in
      let given = went done.1 in
      let edited = went given.2 in
      let trees = ap (λ (it : Written). it.trees) (same_value edited.2) in
      let edit = edit_of old.now.trees table (ids_of given.0) Given 0 [] in
      let it = one_step schema Enforced old.now.trees edited.0 edit (free (taken_by old.now.trees edit)) edited.1 in
      let gone = found_gone table.tree terms old.now.trees (old.now.trees table.tree) (seen old.now.trees) shaped params P tests given.0
      (given.1.answer Null) in
      let now : new.now.trees ≡ edited.0 = ap (λ (d : Database). d.trees) done.2 ∙ trees in
      record {
        sound = w.sound;
        schema_is = ap (λ (d : Database). d.schema) done.2;
        rows = ap (λ (d : Trees). d table.tree) now ∙ it.rows ∙ gone;
        others = subst (λ (d : Trees). AllByRecursion (λ t. t.tree ≢ table.tree → d t.tree ≡ old.now.trees t.tree) schema.tables) (sym now) it.tables;
      }
