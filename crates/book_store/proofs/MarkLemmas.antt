-- What the UPDATE that marks an item makes of the table.
-- for: statements::mark_item
use Rattle.std.proofs.Common.{◌≡◌, ◌≢◌, ◌<ℤ◌, inl, inr, ℕ, ℤ, pos, List, [], ◌∷◌, ◌++◌, map, filter, true, false, Bool, cond, if◌then◌else◌, None, Ok, Err}
use Rattle.std.proofs.Common.{Result}
use Rattle.std.proofs.Common.{OnOk, int_eq, int_lt, length, arith, refl, sym, ap, ap₂, subst, ◌∙◌}
use Rattle.std.specs.List.{AllByRecursion}
use Rattle.std.specs.List.Sorted.{IsPermutation}
use Rattle.std.proofs.lemmas.List.Sorted.{length_permutation}
use Rattle.std.proofs.lemmas.List.{map-append}
use Rattle.std.proofs.lemmas.Int.{ints}
use Rattle.sqlite_value.specs.declared.value.Value.TheVariants.{Null, Int, Blob}
use Rattle.sqlite_value.specs.Order.{Row}
use Rattle.sqlite_trees.proofs.TreeLemmas.{IsShaped-put_row}
use Rattle.sqlite_trees.specs.Tree.{Trees, put_row, without_rowid, IsTable}
use Rattle.sqlite_trees.specs.View.{IsShaped}
use Rattle.sqlite_trees.specs.declared.store.Shape.TheVariants.{Table}
use Rattle.sqlite_sql.specs.declared.ops.CompareOp.TheVariants.{Eq}
use Rattle.sqlite_sql.specs.Query.{Output, output, page, IsAnswer, inner, end}
use Rattle.sqlite_sql.specs.Program.{overlay}
use Rattle.sqlite_schema.specs.declared.command.Command.TheVariants.{Update}
use Rattle.sqlite_schema.specs.declared.schema.Keys.TheVariants.{Enforced}
use Rattle.sqlite_rules.specs.Cast.{cast_row}
use Rattle.sqlite_rules.specs.Edit.{edit_of}
use Rattle.sqlite_rules.specs.declared.error.Rowids.TheVariants.{Given}
use Rattle.sqlite_rules.specs.Calls.{ids_of}
use Rattle.sqlite_rules.specs.Action.{Writes}
use Rattle.sqlite_rules.proofs.ActionLemmas.{nil_from_length, no_works}
use Rattle.sqlite_keyed.specs.Keyed.{IsKeyedBy}
use Rattle.sqlite_keyed.proofs.ListLemmas.{filter-map, filter_same}
use Rattle.sqlite_typed.proofs.AnswerLemmas.{Source, last_table, at_end, matches_are}
use Rattle.sqlite_typed.proofs.TestLemmas.{at_ints}
use Rattle.sqlite.specs.Does.{Does}
use Rattle.sqlite.specs.Effect.{Database}
use Rattle.sqlite.specs.State.{State, ExecutesInside, mode_of}
use Rattle.sqlite.specs.declared.error.Error.{Error}
use Rattle.sqlite.specs.Rows.{Written, Task, Updates}
use Rattle.sqlite.specs.Listing.{understood}
use Rattle.sqlite.proofs.Callers.{one_permutation, one_step, runs_as, statement_of}
use Rattle.store_base.specs.Tables.{IsReady, Steps}
use Rattle.store_base.proofs.CellLemmas.{and_true, cast_int, cast_null}
use Rattle.store_base.proofs.DeleteLemmas.{HasEdited}
use Rattle.store_base.proofs.KeyedLemmas.{low, high, put_between, put_over}
use Rattle.store_base.proofs.RowidLemmas.{not_tied, one_found}
use Rattle.store_base.proofs.StepLemmas.{steps_of}
use Rattle.store_base.proofs.WriteLemmas.{ends_as, went, same_value}
use Rattle.book_store.specs.Lines.{Line, has_id, lines_of, row_of, marked}
use Rattle.book_store.specs.Schema.{item, book_schema}
use Rattle.book_store.specs.Steps.{Edits}
use Rattle.book_store.specs.Texts.{mark_item_text}
use Rattle.book_store.proofs.LineLemmas.{book_rows, lines_are, lines_rise}
use Rattle.book_store.proofs.PutLemmas.{low_is, high_is}
use Rattle.book_store.proofs.TextFacts.{mark_query, mark_item_is, mark_item_plain}

-- the marked item of a list that rises

abbrev pub mark : Line → Line
mark l = record l { reversed = pos 1 }

pub record AreAbove (id : ℤ) (lines : List Line) : Type 0 where
  pub below : filter (λ (l : Line). int_lt l.id id) lines ≡ []
  pub above : filter (λ (l : Line). int_lt id l.id) lines ≡ lines
  pub kept : marked id lines ≡ lines

pub are_above : (id : ℤ) (lines : List Line) → AllByRecursion (λ (l : Line). id <ℤ l.id) lines → AreAbove id lines
are_above id [] h = record { below = refl; above = refl; kept = refl }
are_above id (l ∷ lines) h =
    let more = are_above id lines h.1 in
    let less = h.0 in
    let apart : has_id id l ≡ false = not_tied l.id id (λ e. omega (arith, ints, less, e)) in
    let up : int_lt id l.id ≡ true = grind (arith, ints, less) in
    let down : int_lt l.id id ≡ false = grind (arith, ints, less) in
    record {
      below = ap (λ b. cond b (l ∷ filter (λ (m : Line). int_lt m.id id) lines) (filter (λ (m : Line). int_lt m.id id) lines)) down ∙ more.below;
      above = ap (λ b. cond b (l ∷ filter (λ (m : Line). int_lt id m.id) lines) (filter (λ (m : Line). int_lt id m.id) lines)) up ∙ ap (λ r. l ∷ r) more.above;
      kept = λ i. (ap (λ b. if b then mark l else l) apart) i ∷ more.kept i;
    }

none_there : (id : ℤ) (lines : List Line) → AllByRecursion (λ (l : Line). id <ℤ l.id) lines → filter (has_id id) lines ≡ []
none_there id [] h = refl
none_there id (l ∷ lines) h =
    let less = h.0 in
    let apart : has_id id l ≡ false = not_tied l.id id (λ e. omega (arith, ints, less, e)) in
    ap (λ b. cond b (l ∷ filter (has_id id) lines) (filter (has_id id) lines)) apart ∙ none_there id lines h.1

-- the items below it, it, and those above it are all of them, with it marked
marks : (id : ℤ) (x : Line) (lines : List Line) → IsKeyedBy (λ (l : Line). l.id) lines → filter (has_id id) lines ≡ x ∷ [] →
    filter (λ (l : Line). int_lt l.id id) lines ++ mark x ∷ filter (λ (l : Line). int_lt id l.id) lines ≡ marked id lines
marks id x [] h one = absurd (let e = one in cc)
marks id x (l ∷ lines) h one = go (marks id x lines h.1) (int_eq l.id id) refl (int_lt l.id id) refl
  where
    Lower : Bool → List Line
    Lower b = cond b (l ∷ filter (λ (m : Line). int_lt m.id id) lines) (filter (λ (m : Line). int_lt m.id id) lines)

    Upper : Bool → List Line
    Upper b = cond b (l ∷ filter (λ (m : Line). int_lt id m.id) lines) (filter (λ (m : Line). int_lt id m.id) lines)

    These : Bool → List Line
    These b = cond b (l ∷ filter (has_id id) lines) (filter (has_id id) lines)

    Rest : Type 0
    Rest = filter (has_id id) lines ≡ x ∷ [] →
        filter (λ (m : Line). int_lt m.id id) lines ++ mark x ∷ filter (λ (m : Line). int_lt id m.id) lines ≡ marked id lines

    go : Rest → (e : Bool) → int_eq l.id id ≡ e → (b : Bool) → int_lt l.id id ≡ b
        → filter (λ (m : Line). int_lt m.id id) (l ∷ lines) ++ mark x ∷ filter (λ (m : Line). int_lt id m.id) (l ∷ lines) ≡ marked id (l ∷ lines)
    go rest true same b lower =
        let is : l.id ≡ id = Rattle.store_base.proofs.DeleteLemmas.int_tie l.id id same in
        let all = are_above id lines (subst (λ n. AllByRecursion (λ (m : Line). n <ℤ m.id) lines) is h.0) in
        let down : int_lt l.id id ≡ false = grind (arith, ints, is) in
        let up : int_lt id l.id ≡ false = grind (arith, ints, is) in
        let found : l ∷ filter (has_id id) lines ≡ x ∷ [] = sym (ap These same) ∙ one in
        let it : x ≡ l = cc in
        ap₂ (λ a b. Lower a ++ mark x ∷ Upper b) down up ∙ ap₂ (λ a b. a ++ mark x ∷ b) all.below all.above ∙ ap (λ y. mark y ∷ lines) it
        ∙ (λ i. (ap (λ b. if b then mark l else l) (sym same)) i ∷ sym all.kept i)
    go rest false apart true lower =
        let up : int_lt id l.id ≡ false = grind (arith, ints, lower) in
        let found = sym (ap These apart) ∙ one in
        ap₂ (λ a b. Lower a ++ mark x ∷ Upper b) lower up ∙ (λ i. (ap (λ b. if b then mark l else l) (sym apart)) i ∷ rest found i)
    go rest false apart false upper =
        let less : id <ℤ l.id = grind (arith, ints, apart, upper) in
        let found = sym (ap These apart) ∙ one in
        let none = none_there id lines (further lines h.0) in
        absurd (let e : [] ≡ x ∷ [] = sym none ∙ found in cc)
      where
        further : (ms : List Line) → AllByRecursion (λ (m : Line). l.id <ℤ m.id) ms → AllByRecursion (λ (m : Line). id <ℤ m.id) ms
        further [] a = tt
        further (m ∷ ms) a =
            let more = a.0 in
            let less : id <ℤ l.id = grind (arith, ints, apart, upper) in
            (omega (arith, ints, less, more), further ms a.1)

module _ (id : ℤ) where
  abbrev params : Row
  params = Int id ∷ []

  -- what the query gives of an item: its rowid, and the row that it is to be
  abbrev cells_at : Line → Row
  cells_at l = Int l.id ∷ row_of (mark l)

  cast : (l : Line) → cast_row item (row_of l) ≡ row_of l
  cast l i = cast_int l.id i ∷ cast_null i ∷ Blob l.card ∷ Blob l.request ∷ cast_int l.amount i ∷ cast_int l.day i ∷ cast_int l.reversed i ∷ []

  -- the item was marked, and no other table has changed
  record HasMarked (lines : List Line) (db next : Trees) : Type 0 where
    rows : next 1 ≡ map row_of (marked id lines)
    shaped : IsShaped Table (next 1)
    tables : AllByRecursion (λ t. t.tree ≢ 1 → next t.tree ≡ db t.tree) book_schema.tables

  nobody : (lines : List Line) → filter (has_id id) lines ≡ [] → marked id lines ≡ lines
  nobody [] h = refl
  nobody (l ∷ lines) h = go (int_eq l.id id) refl (nobody lines)
    where
      These : Bool → List Line
      These b = cond b (l ∷ filter (has_id id) lines) (filter (has_id id) lines)

      go : (b : Bool) → int_eq l.id id ≡ b → (filter (has_id id) lines ≡ [] → marked id lines ≡ lines) → marked id (l ∷ lines) ≡ l ∷ lines
      go true is more = absurd (let e : l ∷ filter (has_id id) lines ≡ [] = sym (ap These is) ∙ h in cc)
      go false is more = λ i. (ap (λ b. if b then mark l else l) is) i ∷ more (sym (ap These is) ∙ h) i

  module _ (db : Trees) (lines : List Line) (stored : db 1 ≡ map row_of lines) (rise : IsKeyedBy (λ (l : Line). l.id) lines) (shaped : IsShaped Table (db
      1)) where
    abbrev source : Source (overlay db []) (inner 1 end) Line
    source = last_table (overlay db []) 1 row_of (λ (l : Line). l.id) lines stored rise (at_end (overlay db []))

    found : List Line
    found = filter (has_id id) lines

    rows_found : (rows : List Row) → IsAnswer mark_query (overlay db []) params rows →
        (found ≡ [] → rows ≡ []) × ((x : Line) → found ≡ x ∷ [] → rows ≡ cells_at x ∷ [])
    unfolding found
    rows_found rows a =
        let all = matches_are mark_query (overlay db []) params source (has_id id) (λ l. and_true _ ∙ at_ints false Eq l.id id) in
        let kept : a.kept ≡ map (output mark_query) (map (λ l. params ∷ row_of l ∷ []) found) =
        a.distinct ∙ ap (map (output mark_query)) (a.grouped ∙ all) in (
          (λ none. let empty : a.ordered ≡ [] = nil_from_length _
              (length_permutation _ _ a.same ∙ ap length (kept ∙ ap (λ k. map (output mark_query) (map (λ l. params ∷ row_of l ∷ []) k)) none)) in
              a.shown ∙ ap (λ l. page mark_query params (map (λ (o : Output). o.1) l)) empty),
          λ x one. let o : Output = ([], cells_at x) in
              let is : a.kept ≡ o ∷ [] = kept ∙ ap (λ k. map (output mark_query) (map (λ l. params ∷ row_of l ∷ []) k)) one in
              let ordered = one_permutation o a.ordered (subst (λ k. IsPermutation k a.ordered) is a.same) in
              a.shown ∙ ap (λ l. page mark_query params (map (λ (p : Output). p.1) l)) ordered,
        )

    abbrev Wrote : List Row → Trees → Type 0
    Wrote rows next = Writes book_schema Enforced db (edit_of db item (ids_of rows) Given 1 rows) (Ok next)

    nothing_changed : found ≡ [] → (next : Trees) → Wrote [] next → HasMarked lines db next
    unfolding found
    nothing_changed none next h =
        let done = one_step book_schema Enforced db next (edit_of db item [] Given 1 []) (no_works book_schema Enforced 0 1 []) h in
        record {
          rows = done.rows ∙ stored ∙ ap (map row_of) (sym (nobody lines none));
          shaped = subst (IsShaped Table) (sym done.rows) shaped;
          tables = done.tables;
        }

    one_changed : (x : Line) → found ≡ x ∷ [] → x.id ≡ id → (next : Trees) → Wrote (cells_at x ∷ []) next → HasMarked lines db next
    unfolding found
    one_changed x one is next h =
        let edit = edit_of db item (x.id ∷ []) Given 1 (cells_at x ∷ []) in
        let done = one_step book_schema Enforced db next edit refl h in
        let put : next 1 ≡ put_row (row_of (mark x)) (db 1) =
        done.rows ∙ ap (λ n. put_row n (without_rowid x.id (db 1))) (cast (mark x)) ∙ put_over (row_of (mark x)) (db 1) shaped.0 in
        let between = put_between (row_of (mark x)) (map row_of lines) (subst IsTable stored shaped.0) in
        let below : filter (low (Int x.id)) (map row_of lines) ≡ map row_of (filter (λ (l : Line). int_lt l.id x.id) lines) =
        filter-map (low (Int x.id)) row_of lines ∙ ap (map row_of) (filter_same _ _ (low_is x.id) lines) in
        let above : filter (high (Int x.id)) (map row_of lines) ≡ map row_of (filter (λ (l : Line). int_lt x.id l.id) lines) =
        filter-map (high (Int x.id)) row_of lines ∙ ap (map row_of) (filter_same _ _ (high_is x.id) lines) in
        let all = marks x.id x lines rise (subst (λ n. filter (has_id n) lines ≡ x ∷ []) (sym is) one) in
        record {
          rows = put ∙ ap (put_row (row_of (mark x))) stored ∙ between ∙ ap₂ (λ a b. a ++ row_of (mark x) ∷ b) below above
              ∙ sym (map-append row_of (filter (λ (l : Line). int_lt l.id x.id) lines) (mark x ∷ filter (λ (l : Line). int_lt x.id l.id) lines))
              ∙ ap (map row_of) all ∙ ap (λ n. map row_of (marked n lines)) is;
          shaped = subst (IsShaped Table) (sym put) (IsShaped-put_row (row_of (mark x)) (db 1) refl shaped);
          tables = done.tables;
        }

    changes : (limit : _) (w : Written) → Updates (record { limit = limit; keys = Enforced; schema = book_schema; table = item; params = params })
        (record { lets = []; body = mark_query }) params db (Ok w) → HasMarked lines db w.trees
    unfolding found
    changes limit w h =
        let queried = went h in
        let edited = went queried.2 in
        let rows = queried.0 in
        let given = rows_found rows (queried.1.answer Null) in
        let trees : w.trees ≡ edited.0 = ap (λ (it : Written). it.trees) (same_value edited.2) in
        subst (HasMarked lines db) (sym trees) (
        elim (one_found (λ (l : Line). l.id) id lines rise) [
          | inl none ↦ nothing_changed none edited.0 (subst (λ l. Wrote l edited.0) (given.0 none) edited.1)
          | inr it ↦ one_changed it.0 it.1 it.2 edited.0 (subst (λ l. Wrote l edited.0) (given.1 it.0 it.1) edited.1)
        ])

pub marks_item : (old next : State) (id : ℤ) (r : Result ℕ Error) → IsReady book_schema old → ExecutesInside 0 mark_item_text (Int id ∷ []) old next r
    → OnOk r (Steps book_schema (Edits (marked id)) old next)
marks_item old next id (Err e) ready h = tt
marks_item old next id (Ok count) ready h =
    let shaped = ready.now.shaped.1.0 in
    let given = params id in
    let command = Update 1 (record { lets = []; body = mark_query }) in
    let w = runs_as mark_item_text given old next book_schema ready.now.schema_is command mark_item_is mark_item_plain count h.0 in
    let full = statement_of mark_item_text (understood book_schema mark_item_text) in
    let does : Does old.step_limit (mode_of old) given (record { schema = book_schema; trees = old.now.trees }) full None command (Ok (w.tally, next.now)) =
    subst (λ s. Does old.step_limit (mode_of old) given (record old.now { schema = s }) full None command (Ok (w.tally, next.now))) ready.now.schema_is
    w.changed in
    let task : Task = record { limit = old.step_limit; keys = Enforced; schema = book_schema; table = item; params = given } in
    let done = ends_as task (mode_of old) command old.now.trees w.tally next.now does in
    let lines = lines_of old.now.trees in
    let it = changes id old.now.trees lines (book_rows old.now ready.now) (lines_rise old.now ready.now) shaped old.step_limit done.0 done.1 in
    let now = ap (λ (d : Database). d.trees) done.2 in
    let others = subst (λ (d : Trees). AllByRecursion (λ t. t.tree ≢ 1 → d t.tree ≡ old.now.trees t.tree) book_schema.tables) (sym now) it.tables in
    let rows : next.now.trees 1 ≡ map row_of (marked id lines) = ap (λ (d : Trees). d 1) now ∙ it.rows in
    let edit : HasEdited book_schema 1 (λ r. next.now.trees 1) old.now next.now = record {
      schema_is = ap (λ (d : Database). d.schema) done.2;
      sound = w.sound;
      rows = refl;
      others = others;
    } in
    let made : Edits (marked id) old.now.trees next.now.trees = record {
      lines = lines_are next.now.trees (marked id lines) rows;
      salt = others.0 (λ e. let never : 0 ≡ 1 = e in cc);
    } in
    steps_of book_schema 1 (λ r. next.now.trees 1) (Edits (marked id)) old next (λ r s. subst (λ (d : Trees). IsShaped Table (d 1)) (sym now) it.shaped)
    made ready shaped edit h.1.mode h.1.committed_is h.1.is_open
