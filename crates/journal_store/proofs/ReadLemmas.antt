-- What the queries of the journal show.
-- for: reading::read_all
use Rattle.sqlite.proofs.Callers.{unchanged_then, reads_as, IsPlain, never_commits}
use Rattle.sqlite.proofs.StateLemmas.{survives_weaker, survives_then}
use Rattle.sqlite.specs.Listing.{understood}
use Rattle.sqlite.specs.State.{State, Shown, HasCleanDisk, Survives, CommitsShowing, IsUnchanged}
use Rattle.sqlite.specs.declared.types.Value.TheVariants.{Null, Int, Text}
use Rattle.sqlite_keyed.proofs.ListLemmas.{map-map, filter_all, all_of}
use Rattle.sqlite_keyed.proofs.SortLemmas.{sort_by-map}
use Rattle.sqlite_keyed.specs.Lists.{sort_by}
use Rattle.sqlite_schema.specs.declared.schema.Schema.{Schema}
use Rattle.sqlite_schema.specs.declared.command.Command.TheVariants.{Select}
use Rattle.sqlite_sql.specs.Program.{overlay}
use Rattle.sqlite_sql.specs.Query.{Query, inner, end, page, IsAnswer}
use Rattle.sqlite_sql.specs.Term.{Term, eval_all}
use Rattle.sqlite_trees.specs.Tree.{Trees}
use Rattle.sqlite_trees.specs.View.{IsShaped}
use Rattle.sqlite_trees.specs.declared.store.Shape.TheVariants.{Table}
use Rattle.sqlite_typed.proofs.AnswerLemmas.{Source, last_table, at_end, answer_by_keys, answer_sorted, no_tie, no_tie_after}
use Rattle.sqlite_value.proofs.OrderLemmas.{value_cmp-Int, then-Equal}
use Rattle.sqlite_value.specs.Order.{Row, bytes, column, value_cmp}
use Rattle.std.proofs.Common.{arith, inl, inr, int_eq, if◌then◌else◌, IfOk, OnOk, Result, Ok, Err, map-id, ◌≡◌, ℤ, ℕ, List, [], ◌∷◌, map, filter}
use Rattle.std.proofs.Common.{true, refl, sym, ap, subst, ◌∙◌}
use Rattle.std.specs.Ordering.{ordering_then}
use Rattle.std.specs.Prelude.{Vec}
use Rattle.std.specs.declared.alloc.Global.{Global}
use Rattle.std.specs.declared.cmp.Ordering.{Ordering}
use Rattle.journal_rows.specs.Tables.{named, name_of}
use Rattle.journal_rows.specs.Reads.{shown_meta, shown_tx, shown_member, shown_shelf, shown_advice, shown_part, shown_joined, shown_name, shown_named, int_in}
use Rattle.journal_rows.specs.Reads.{place_cmp}
use Rattle.journal_tables.specs.Schema.{first_schema, journal_schema}
use Rattle.journal_tables.specs.Steps.{IsJournal}
use Rattle.journal_tables.specs.Converting.{IsFirst}
use Rattle.journal_tables.proofs.StoredRows.{Pair, split, whole, key, stored_rows, rising_rows}
use Rattle.sqlite.specs.Effect.{Database}
use Rattle.journal_store.specs.Stored.{IsEither, OnlyReads}
use Rattle.journal_store.specs.Texts.{all_meta_text, all_tx_text, all_members_text, all_joined_text, all_parts_text, all_shelf_text, all_advices_text}
use Rattle.journal_store.proofs.TextFacts.{Asks, by_rowid, by_place, meta_query, meta_names, all_meta_asks, first_meta_asks, tx_query, tx_names, all_tx_asks}
use Rattle.journal_store.proofs.TextFacts.{first_tx_asks, members_query, members_names, all_members_asks, shelf_query, shelf_names, all_shelf_asks}
use Rattle.journal_store.proofs.TextFacts.{first_shelf_asks, advices_query, advices_names, all_advices_asks, first_advices_asks, joined_query, joined_names}
use Rattle.journal_store.proofs.TextFacts.{all_joined_asks, parts_query, parts_names, all_parts_asks}

-- an answer to a query that shows every row of one table

abbrev order : Pair → Pair → Ordering
order a b = place_cmp (whole a) (whole b)

module _ (trees : Trees) (tree : ℕ) (seen : overlay trees [] tree ≡ trees tree) (shaped : IsShaped Table (trees tree)) where
  stored : overlay trees [] tree ≡ map whole (map split (trees tree))
  stored = seen ∙ stored_rows (trees tree) shaped.1

  by_rowids : (columns : List Term) (show : Row → Row) → ((p : Pair) → eval_all columns ([] ∷ whole p ∷ []) ≡ show (whole p)) → (rows : List Row) →
      IsAnswer (by_rowid tree columns) (overlay trees []) [] rows → rows ≡ map show (trees tree)
  by_rowids columns show shows rows answer =
      let ps = map split (trees tree) in
      let from : Source (overlay trees []) (inner tree end) Pair = last_table (overlay trees []) tree whole key ps stored
      (rising_rows (trees tree) shaped) (at_end (overlay trees [])) in
      let shown = λ (p : Pair). show (whole p) in
      let all : map (λ r. r) rows ≡ page (by_rowid tree columns) [] (map shown (filter (λ _. true) ps)) =
      answer_by_keys (by_rowid tree columns) (overlay trees []) [] from (λ _. true) (λ _. refl) (λ r. r) shown shows refl refl
      (λ a b. then-Equal _ ∙ value_cmp-Int (key a) (key b)) rows answer in
      sym (map-id rows) ∙ all ∙ ap (map shown) (filter_all (λ _. true) ps (all_of _ (λ _. refl) ps)) ∙ sym (map-map show whole ps)
      ∙ ap (map show) (sym (stored_rows (trees tree) shaped.1))

  by_places : (show : Row → Row) → ((p : Pair) → eval_all (by_place tree).project ([] ∷ whole p ∷ []) ≡ show (whole p)) → (rows : List Row) →
      IsAnswer (by_place tree) (overlay trees []) [] rows → rows ≡ map show (sort_by place_cmp (trees tree))
  by_places show shows rows answer =
      let ps = map split (trees tree) in
      let from : Source (overlay trees []) (inner tree end) Pair = last_table (overlay trees []) tree whole key ps stored
      (rising_rows (trees tree) shaped) (at_end (overlay trees [])) in
      let shown = λ (p : Pair). show (whole p) in
      let all : map (λ r. r) rows ≡ page (by_place tree) [] (map shown (sort_by order (filter (λ _. true) ps))) =
      answer_sorted (by_place tree) (overlay trees []) [] from (λ _. true) (λ _. refl) (λ r. r) shown shows refl refl order
      (λ a b less. no_tie_after (value_cmp (column (whole a) 1) (column (whole b) 1))
      (no_tie_after (value_cmp (column (whole a) 2) (column (whole b) 2)) (no_tie (value_cmp-Int (key a) (key b) ∙ less))))
      (λ a b. ap (λ o. ordering_then (value_cmp (column (whole a) 1) (column (whole b) 1))
      (ordering_then (value_cmp (column (whole a) 2) (column (whole b) 2)) o)) (then-Equal (value_cmp (Int (key a)) (Int (key b)))))
      rows answer in
      let every : filter (λ _. true) ps ≡ ps = filter_all (λ _. true) ps (all_of _ (λ _. refl) ps) in
      sym (map-id rows) ∙ all ∙ ap (λ l. map shown (sort_by order l)) every ∙ sym (map-map show whole (sort_by order ps))
      ∙ ap (map show) (sym (sort_by-map place_cmp whole ps)) ∙ ap (λ l. map show (sort_by place_cmp l)) (sym (stored_rows (trees tree) shaped.1))

-- what a text that is known shows, in one layout and in either

in_one : {E : Type 0} (sql : List ℕ) (schema : Schema) (q : Query) (names : List (List ℕ)) → Asks schema sql q names → (old new : State) →
    old.now.schema ≡ schema
    → (r : Result (Vec Row Global) E) (P : List Row → Type 0) → ((rows : List Row) → IsAnswer q (overlay old.now.trees []) [] rows → P rows) →
    IfOk r (λ rows. Shown sql [] old new rows.items)
    → IfOk r (λ rows. P rows.items)
in_one sql schema q names asks old new has (Err e) P give h = tt
in_one sql schema q names asks old new has (Ok rows) P give h =
    let read = reads_as sql [] old new schema has (Select (record { lets = []; body = q }) names) asks.command asks.plain asks.unlisted rows.items h in
    give rows.items (read.answer Null)

in_either : {E : Type 0} (sql : List ℕ) (q : Query) (names : List (List ℕ)) → Asks first_schema sql q names → Asks journal_schema sql q names →
    (old new : State) (r : Result (Vec Row Global) E) → IsEither old.now
    → (P : List Row → Type 0) → ((rows : List Row) → IsAnswer q (overlay old.now.trees []) [] rows → P rows) →
    IfOk r (λ rows. Shown sql [] old new rows.items)
    → IfOk r (λ rows. P rows.items)
in_either sql q names one two old new r (inl ready) P give h = in_one sql first_schema q names one old new ready.schema_is r P give h
in_either sql q names one two old new r (inr ready) P give h = in_one sql journal_schema q names two old new ready.schema r P give h

-- the tables that both layouts have alike
record AreShaped (db : Database) : Type 0 where
  meta : IsShaped Table (db.trees 0)
  tx : IsShaped Table (db.trees 1)
  shelf : IsShaped Table (db.trees 4)
  advices : IsShaped Table (db.trees 5)

either_shaped : (db : Database) → IsEither db → AreShaped db
either_shaped db (inl ready) =
    let h = ready.shaped in record { meta = h.0; tx = h.1.0; shelf = h.1.1.1.0; advices = h.1.1.1.1.0 }
either_shaped db (inr ready) =
    let h = ready.shaped in record { meta = h.0; tx = h.1.0; shelf = h.1.1.1.0; advices = h.1.1.1.1.0 }

pub reads_meta : {E : Type 0} (old new : State) (r : Result (Vec Row Global) E) → IsEither old.now →
    IfOk r (λ rows. Shown all_meta_text [] old new rows.items)
    → IfOk r (λ rows. rows.items ≡ map shown_meta (old.now.trees 0))
reads_meta old new r ready h = in_either all_meta_text meta_query meta_names first_meta_asks all_meta_asks old new r ready
    (λ rows. rows ≡ map shown_meta (old.now.trees 0))
    (by_rowids old.now.trees 0 refl (either_shaped old.now ready).meta meta_query.project shown_meta (λ p. refl)) h

pub reads_tx : {E : Type 0} (old new : State) (r : Result (Vec Row Global) E) → IsEither old.now →
    IfOk r (λ rows. Shown all_tx_text [] old new rows.items)
    → IfOk r (λ rows. rows.items ≡ map shown_tx (old.now.trees 1))
reads_tx old new r ready h = in_either all_tx_text tx_query tx_names first_tx_asks all_tx_asks old new r ready
    (λ rows. rows ≡ map shown_tx (old.now.trees 1)) (by_rowids old.now.trees 1 refl (either_shaped old.now ready).tx tx_query.project shown_tx (λ p. refl)) h

pub reads_shelf : {E : Type 0} (old new : State) (r : Result (Vec Row Global) E) → IsEither old.now →
    IfOk r (λ rows. Shown all_shelf_text [] old new rows.items)
    → IfOk r (λ rows. rows.items ≡ map shown_shelf (old.now.trees 4))
reads_shelf old new r ready h = in_either all_shelf_text shelf_query shelf_names first_shelf_asks all_shelf_asks old new r ready
    (λ rows. rows ≡ map shown_shelf (old.now.trees 4))
    (by_rowids old.now.trees 4 refl (either_shaped old.now ready).shelf shelf_query.project shown_shelf (λ p. refl)) h

pub reads_advices : {E : Type 0} (old new : State) (r : Result (Vec Row Global) E) → IsEither old.now →
    IfOk r (λ rows. Shown all_advices_text [] old new rows.items)
    → IfOk r (λ rows. rows.items ≡ map shown_advice (sort_by place_cmp (old.now.trees 5)))
reads_advices old new r ready h = in_either all_advices_text advices_query advices_names first_advices_asks all_advices_asks old new r ready
    (λ rows. rows ≡ map shown_advice (sort_by place_cmp (old.now.trees 5)))
    (by_places old.now.trees 5 refl (either_shaped old.now ready).advices shown_advice (λ p. refl)) h

pub reads_members : {E : Type 0} (old new : State) (r : Result (Vec Row Global) E) → IsFirst old.now →
    IfOk r (λ rows. Shown all_members_text [] old new rows.items)
    → IfOk r (λ rows. rows.items ≡ map shown_member (sort_by place_cmp (old.now.trees 2)))
reads_members old new r ready h = in_one all_members_text first_schema members_query members_names all_members_asks old new ready.schema_is r
    (λ rows. rows ≡ map shown_member (sort_by place_cmp (old.now.trees 2))) (by_places old.now.trees 2 refl ready.shaped.1.1.0 shown_member (λ p. refl)) h

pub reads_joined : {E : Type 0} (old new : State) (r : Result (Vec Row Global) E) → IsJournal old.now →
    IfOk r (λ rows. Shown all_joined_text [] old new rows.items)
    → IfOk r (λ rows. rows.items ≡ map shown_joined (sort_by place_cmp (old.now.trees 9)))
reads_joined old new r ready h = in_one all_joined_text journal_schema joined_query joined_names all_joined_asks old new ready.schema r
    (λ rows. rows ≡ map shown_joined (sort_by place_cmp (old.now.trees 9)))
    (by_places old.now.trees 9 refl ready.shaped.1.1.1.1.1.1.0 shown_joined (λ p. refl)) h

pub reads_parts : {E : Type 0} (old new : State) (r : Result (Vec Row Global) E) → IsJournal old.now →
    IfOk r (λ rows. Shown all_parts_text [] old new rows.items)
    → IfOk r (λ rows. rows.items ≡ map shown_part (old.now.trees 7))
reads_parts old new r ready h = in_one all_parts_text journal_schema parts_query parts_names all_parts_asks old new ready.schema r
    (λ rows. rows ≡ map shown_part (old.now.trees 7)) (by_rowids old.now.trees 7 refl ready.shaped.1.1.1.1.1.0 parts_query.project shown_part (λ p. refl)) h

module _ (sql : List ℕ) (schema : Schema) (plain : IsPlain (understood schema sql)) (old new : State) (has : old.now.schema ≡ schema) where
  pub shown_same : (rows : List Row) → Shown sql [] old new rows → IsUnchanged old new
  unfolding Shown
  shown_same rows h =
      let known = sym h.1.is ∙ ap (λ s. understood s sql) has in
      let bare = subst IsPlain (sym known) plain in
      (rw (bare.0) at h.2).3

  pub commits_nothing : (db : Trees) → CommitsShowing sql [] old db → ⊥
  commits_nothing db h = never_commits sql [] old db (subst (λ s. IsPlain (understood s sql)) (sym has) plain) h

  pub same_if : {E : Type 0} (r : Result (Vec Row Global) E) → IfOk r (λ rows. Shown sql [] old new rows.items) → OnOk r (IsUnchanged old new)
  same_if (Err e) h = tt
  same_if (Ok rows) h = shown_same rows.items h

-- the same of a database in either layout
pub same_either : {E : Type 0} (sql : List ℕ) (one : IsPlain (understood first_schema sql)) (two : IsPlain (understood journal_schema sql))
    (old new : State) (r : Result (Vec Row Global) E) → IsEither old.now
    → IfOk r (λ rows. Shown sql [] old new rows.items) → OnOk r (IsUnchanged old new)
same_either sql one two old new r (inl ready) h = same_if sql first_schema one old new ready.schema_is r h
same_either sql one two old new r (inr ready) h = same_if sql journal_schema two old new ready.schema r h

pub reads_either : (sql : List ℕ) (one : IsPlain (understood first_schema sql)) (two : IsPlain (understood journal_schema sql)) (old new : State) →
    Survives old new (CommitsShowing sql [] old) → OnlyReads IsEither old new
reads_either sql one two old new h = survives_weaker old new _ (λ _. IsEither old.now → ⊥) (λ _ db commits ready. go db commits ready) h
  where
    go : (db : Trees) → CommitsShowing sql [] old db → IsEither old.now → ⊥
    go db commits (inl ready) = commits_nothing sql first_schema one old new ready.schema_is db commits
    go db commits (inr ready) = commits_nothing sql journal_schema two old new ready.schema db commits

pub reads_first : (sql : List ℕ) (plain : IsPlain (understood first_schema sql)) (old new : State) → Survives old new (CommitsShowing sql [] old) →
    OnlyReads IsFirst old new
reads_first sql plain old new h = survives_weaker old new _ (λ _. IsFirst old.now → ⊥) (λ _ db commits ready. commits_nothing sql first_schema plain old new
    ready.schema_is db commits) h

pub only_reads : (sql : List ℕ) (plain : IsPlain (understood journal_schema sql)) (old new : State) → Survives old new (CommitsShowing sql [] old) →
    OnlyReads IsJournal old new
only_reads sql plain old new h = survives_weaker old new _ (λ _. IsJournal old.now → ⊥)
    (λ _ db commits ready. commits_nothing sql journal_schema plain old new ready.schema db commits) h

module _ (In : Database → Type 0) where
  pub reads_on : (a b c : State) → (HasCleanDisk b → In a.now → IsUnchanged a b) → OnlyReads In a b → OnlyReads In b c → OnlyReads In a c
  reads_on a b c same one two = survives_then a b c _ _ _ (λ _ db h. h)
      (λ clean db h ready. let early : HasCleanDisk b = omega (arith, two.clean) in h (subst In (sym (same early ready).0.now_is) ready)) one two

  pub still : (a b : State) → IsUnchanged a b → In a.now → In b.now
  still a b same ready = subst In (sym same.0.now_is) ready

  -- one part of the reading, and the next one
  abbrev pub Reading : State → State → Type 0
  Reading a b = (HasCleanDisk b → In a.now → IsUnchanged a b) × OnlyReads In a b

  pub then_reading : (a b c : State) → Reading a b → Reading b c → Reading a c
  then_reading a b c one two = (
    λ clean ready.
        let early : HasCleanDisk b = omega (arith, two.1.clean) in
        let same = one.0 early ready in
        unchanged_then a b c same (two.0 clean (still a b same ready)),
    reads_on a b c one.0 one.1 two.1,
  )

  pub weaker_reads : ((db : Database) → In db → IsEither db) → (a b : State) → OnlyReads IsEither a b → OnlyReads In a b
  weaker_reads either a b survives = survives_weaker a b _ (λ _. In a.now → ⊥) (λ _ db none ready. none (either a.now ready)) survives

  -- a reading of a database in either layout is one of this
  pub as_one : ((db : Database) → In db → IsEither db) → (a b : State) → (HasCleanDisk b → IsEither a.now → IsUnchanged a b) → OnlyReads IsEither a b →
      Reading a b
  as_one either a b same survives = (
    λ clean ready. same clean (either a.now ready),
    survives_weaker a b _ (λ _. In a.now → ⊥) (λ _ db none ready. none (either a.now ready)) survives,
  )

-- the names of the members as the queries show them

named_by : (parts : List Row) (n : ℤ) → shown_name (map shown_part parts) n ≡ name_of parts n
named_by [] n = refl
named_by (p ∷ parts) n = ap (λ t. if int_eq (int_in (column p 0)) n then bytes (column p 2) else t) (named_by parts n)

named_shown : (parts rows : List Row) → map (λ r. shown_named (map shown_part parts) (shown_joined r)) rows ≡ map (λ r. shown_member (named parts r)) rows
named_shown parts [] = refl
named_shown parts (r ∷ rows) = λ i. (column r 1 ∷ column r 2 ∷ Text (named_by parts (int_in (column r 3)) i) ∷ []) ∷ named_shown parts rows i

pub names_shown : (parts rows : List Row) → map (shown_named (map shown_part parts)) (map shown_joined (sort_by place_cmp rows))
    ≡ map shown_member (sort_by place_cmp (map (named parts) rows))
names_shown parts rows =
    map-map (shown_named (map shown_part parts)) shown_joined (sort_by place_cmp rows) ∙ named_shown parts (sort_by place_cmp rows)
    ∙ sym (map-map shown_member (named parts) (sort_by place_cmp rows)) ∙ ap (map shown_member) (sym (sort_by-map place_cmp (named parts) rows))
