-- What putting an item, unless its id is there, makes of the table.
-- for: statements::put_item
use Rattle.std.proofs.Common.{◌≡◌, ◌≢◌, inl, inr, ℕ, ℤ, pos, List, [], ◌∷◌, ◌++◌, map, filter, true, false, Bool, if◌then◌else◌, Option, Some, None, Ok}
use Rattle.std.proofs.Common.{Err, Result}
use Rattle.std.proofs.Common.{OnOk, is_eq, is_lt, is_gt, int_cmp, int_eq, int_lt, Greater, refl, sym, ap, ap₂, subst, ◌∙◌, arith}
use Rattle.std.specs.List.{AllByRecursion, list_any}
use Rattle.std.proofs.lemmas.Int.{ints}
use Rattle.std.proofs.lemmas.List.{map-append}
use Rattle.sqlite_value.specs.declared.value.Value.TheVariants.{Int, Blob}
use Rattle.sqlite_value.specs.Order.{Row}
use Rattle.sqlite_value.proofs.OrderLemmas.{value_cmp-Int}
use Rattle.sqlite_trees.proofs.TreeLemmas.{IsShaped-put_row}
use Rattle.sqlite_trees.specs.Tree.{Trees, put_row, has_rowid, IsTable}
use Rattle.sqlite_trees.specs.View.{IsShaped}
use Rattle.sqlite_trees.specs.declared.store.Shape.TheVariants.{Table}
use Rattle.sqlite_keyed.proofs.ListLemmas.{filter-map, filter_same}
use Rattle.sqlite_schema.specs.declared.command.Conflict.TheVariants.{Abort}
use Rattle.sqlite_schema.specs.declared.command.Source.TheVariants.{Values}
use Rattle.sqlite_schema.specs.declared.command.Command.TheVariants.{InsertOr}
use Rattle.sqlite_schema.specs.declared.schema.Keys.TheVariants.{Enforced}
use Rattle.sqlite_rules.specs.Lists.{Has}
use Rattle.sqlite_rules.specs.Cast.{cast_row}
use Rattle.sqlite_rules.specs.Edit.{edit_of, with_rowid}
use Rattle.sqlite_rules.specs.Keys.{conflicts}
use Rattle.sqlite_rules.specs.declared.error.Rowids.TheVariants.{Chosen, Given}
use Rattle.sqlite_rules.proofs.ActionLemmas.{no_works}
use Rattle.sqlite_rules.proofs.ListLemmas.{some_from}
use Rattle.sqlite.specs.Does.{Does}
use Rattle.sqlite.specs.Effect.{Database}
use Rattle.sqlite.specs.State.{State, ExecutesInside, mode_of}
use Rattle.sqlite.specs.declared.error.Error.{Error}
use Rattle.sqlite.specs.Rows.{Written, Task, Puts, Upserts, Tries, TriesEach, InsertsOr, Clears, count_of, nothing, joined as put_together}
use Rattle.sqlite.specs.Listing.{understood}
use Rattle.sqlite.proofs.Callers.{one_step, runs_as, statement_of}
use Rattle.store_base.specs.Tables.{IsReady, Steps}
use Rattle.store_base.proofs.CellLemmas.{agrees, or_false, cast_int, cast_null}
use Rattle.store_base.proofs.DeleteLemmas.{HasEdited}
use Rattle.store_base.proofs.KeyedLemmas.{low, high, put_between}
use Rattle.store_base.proofs.StepLemmas.{steps_of}
use Rattle.store_base.proofs.WriteLemmas.{ends_as, went, same_value}
use Rattle.book_store.specs.Lines.{Line, has_id, lines_of, row_of, with_line}
use Rattle.book_store.specs.Schema.{item, book_schema}
use Rattle.book_store.specs.Steps.{Edits, IsBook}
use Rattle.book_store.specs.Texts.{put_item_text}
use Rattle.book_store.proofs.LineLemmas.{book_rows, lines_are}
use Rattle.book_store.proofs.TextFacts.{item_clauses, item_terms, put_item_is, put_item_plain}

none_has : (p : Row → Bool) (rows : List Row) → ((r : Row) → Has rows r → p r ≡ true → ⊥) → list_any p rows ≡ false
none_has p [] h = refl
none_has p (x ∷ rows) h = go (p x) refl (none_has p rows (λ r has. h r (inr has)))
  where
    go : (b : Bool) → p x ≡ b → list_any p rows ≡ false → list_any p (x ∷ rows) ≡ false
    go true e more = absurd (h x (inl refl) e)
    go false e more = rw e more

-- the rows with the item, in words of rows
abbrev pub after : Line → List Row → List Row
after l rows = if list_any (has_rowid l.id) rows then rows else put_row (row_of l) rows

pub after_shaped : (l : Line) (rows : List Row) → IsShaped Table rows → IsShaped Table (after l rows)
after_shaped l rows h =
    let put = put_row (row_of l) rows in
    elim (list_any (has_rowid l.id) rows) as (λ b. IsShaped Table (if b then rows else put)) [
      | true ↦ h
      | false ↦ IsShaped-put_row (row_of l) rows refl h
    ]

-- and in words of items

row_id : (l : Line) (n : ℤ) → has_rowid n (row_of l) ≡ has_id n l
row_id l n = ap is_eq (value_cmp-Int l.id n)

any_row : (lines : List Line) (n : ℤ) → list_any (has_rowid n) (map row_of lines) ≡ list_any (has_id n) lines
any_row [] n = refl
any_row (l ∷ lines) n = λ i. Rattle.std.proofs.Common.◌||◌ (row_id l n i) (any_row lines n i)

pub low_is : (n : ℤ) (l : Line) → low (Int n) (row_of l) ≡ int_lt l.id n
low_is n l = ap is_lt (value_cmp-Int l.id n) ∙ lt (l.id) n
  where
    lt : (a b : ℤ) → is_lt (int_cmp a b) ≡ int_lt a b
    lt a b = grind (arith, ints)

pub high_is : (n : ℤ) (l : Line) → high (Int n) (row_of l) ≡ int_lt n l.id
high_is n l = ap is_gt (value_cmp-Int l.id n) ∙ gt (l.id) n
  where
    gt : (a b : ℤ) → is_gt (int_cmp a b) ≡ int_lt b a
    gt a b = grind (arith, ints)

pub put_lines : (new : Line) (lines : List Line) → IsTable (map row_of lines) → after new (map row_of lines) ≡ map row_of (with_line new lines)
put_lines new lines up =
    let below : filter (low (Int new.id)) (map row_of lines) ≡ map row_of (filter (λ l. int_lt l.id new.id) lines) =
    filter-map (low (Int new.id)) row_of lines ∙ ap (map row_of) (filter_same _ _ (low_is new.id) lines) in
    let above : filter (high (Int new.id)) (map row_of lines) ≡ map row_of (filter (λ l. int_lt new.id l.id) lines) =
    filter-map (high (Int new.id)) row_of lines ∙ ap (map row_of) (filter_same _ _ (high_is new.id) lines) in
    let put = put_between (row_of new) (map row_of lines) up ∙ ap₂ (λ a b. a ++ row_of new ∷ b) below above
    ∙ sym (map-append row_of (filter (λ l. int_lt l.id new.id) lines) (new ∷ filter (λ l. int_lt new.id l.id) lines)) in
    rw (any_row lines new.id)
    (elim (list_any (has_id new.id) lines) as (λ b. (if b then map row_of lines else put_row (row_of new) (map row_of lines))
    ≡ map row_of (if b then lines else filter (λ l. int_lt l.id new.id) lines ++ new ∷ filter (λ l. int_lt new.id l.id) lines)) [ true ↦ refl | false ↦ put ])

module _ (l : Line) where
  abbrev params : Row
  params = Int l.id ∷ Blob l.card ∷ Blob l.request ∷ Int l.amount ∷ Int l.day ∷ Int l.reversed ∷ []

  abbrev new : Row
  new = row_of l

  new_cast : cast_row item new ≡ new
  new_cast i = cast_int l.id i ∷ cast_null i ∷ Blob l.card ∷ Blob l.request ∷ cast_int l.amount i ∷ cast_int l.day i ∷ cast_int l.reversed i ∷ []

  abbrev task_of : Option ℕ → Task
  task_of limit = record { limit = limit; keys = Enforced; schema = book_schema; table = item; params = params }

  -- a row that conflicts has the id
  conflict_is : (r : Row) → conflicts (Some (0 ∷ [])) book_schema.indexes item new r ≡ has_rowid l.id r
  conflict_is r = or_false _ ∙ agrees 0 r new l.id refl

  -- the table has the item, and no other table has changed
  record HasPutItem (db next : Trees) : Type 0 where
    pub rows : next 1 ≡ after l (db 1)
    pub tables : AllByRecursion (λ t. t.tree ≢ 1 → next t.tree ≡ db t.tree) book_schema.tables

  module _ (db : Trees) (limit : Option ℕ) where
    -- where no item has the id
    puts : list_any (has_rowid l.id) (db 1) ≡ false → (w : Written) → Puts (task_of limit) new db (Ok w) → HasPutItem db w.trees
    puts free w h =
        let edited = went h in
        let trees : w.trees ≡ edited.0 = ap (λ (it : Written). it.trees) (same_value edited.2) in
        let edit = edit_of db item [] Given 0 (new ∷ []) in
        let done = one_step book_schema Enforced db edited.0 edit (no_works book_schema Enforced 0 1 edit.news) edited.1 in
        let put = put_row new (db 1) in
        record {
          rows = ap (λ (d : Trees). d 1) trees ∙ done.rows ∙ ap (λ n. put_row n (db 1)) new_cast ∙ ap (λ b. if b then db 1 else put) (sym free);
          tables = subst (λ (d : Trees). AllByRecursion (λ t. t.tree ≢ 1 → d t.tree ≡ db t.tree) book_schema.tables) (sym trees) done.tables;
        }

    -- where one has
    keeps : list_any (has_rowid l.id) (db 1) ≡ true → (w : Written) → w ≡ nothing db → HasPutItem db w.trees
    keeps taken w is =
        let trees : w.trees ≡ db = ap (λ (it : Written). it.trees) is in
        let put = put_row new (db 1) in
        record {
          rows = ap (λ (d : Trees). d 1) trees ∙ ap (λ b. if b then db 1 else put) (sym taken);
          tables = subst (λ (d : Trees). AllByRecursion (λ t. t.tree ≢ 1 → d t.tree ≡ db t.tree) book_schema.tables) (sym trees)
              ((λ e. refl), ((λ e. refl), tt));
        }

    upserts : (w : Written) → Upserts (task_of limit) Abort new db item_clauses (Ok w) → HasPutItem db w.trees
    upserts w ([], among, (found, others, h)) =
        let free = none_has (has_rowid l.id) (db 1) (λ r has e. among.complete r has (conflict_is r ∙ e)) in
        go found h free
      where
        go : (found : List Row) → Clears (task_of limit) Abort new db found (Ok w) → list_any (has_rowid l.id) (db 1) ≡ false → HasPutItem db w.trees
        go [] h free = puts free w h
        go (x ∷ more) h free = puts free w h
    upserts w (there ∷ more, among, h) =
        let r = among.sound there (inl refl) in
        keeps (some_from (has_rowid l.id) (db 1) r.0 r.1 (sym (conflict_is r.0) ∙ r.2)) w (same_value h)

    tried : (w : Written) → Tries (task_of limit) Abort item_clauses new db (Ok w) → HasPutItem db w.trees
    tried w (inl big) = absurd (let e = big.1 in cc)
    tried w (inr (None, judged, h)) = upserts w h
    tried w (inr (Some why, judged, h)) = absurd (let e = h in cc)

    each : (top : ℤ) (done : Written × ℤ) → TriesEach (task_of limit) Abort item_clauses (new ∷ []) top (nothing db) (Ok done) → HasPutItem db done.0.trees
    each top done h =
        let one = went h in
        let same : done ≡ (put_together (nothing db) one.0, _) = same_value one.2 in
        let put = tried one.0 (subst (λ (n : Row). Tries (task_of limit) Abort item_clauses (with_rowid Chosen (db 1) n) db (Ok one.0)) new_cast one.1) in
        subst (λ (t : Trees). HasPutItem db t) (sym (ap (λ (d : Written × ℤ). d.0.trees) same)) put

    inserts_or : (w : Written) → InsertsOr (task_of limit) Abort item_clauses (Values item_terms 7) db (Ok w) → HasPutItem db w.trees
    inserts_or w h =
        let given = went h in
        let counter = went given.2 in
        let done = went counter.2 in
        let counted = went done.2 in
        let rows : given.0 ≡ new ∷ [] = given.1.1 in
        let kept : counted.0 ≡ done.0.0.trees = same_value counted.1 in
        let trees : w.trees ≡ counted.0 = ap (λ (it : Written). it.trees) (same_value counted.2) in
        let all : TriesEach (task_of limit) Abort item_clauses (new ∷ []) (count_of counter.0) (nothing db) (Ok done.0) =
        subst (λ k. TriesEach (task_of limit) Abort item_clauses k (count_of counter.0) (nothing db) (Ok done.0)) rows done.1 in
        subst (λ (t : Trees). HasPutItem db t) (sym (trees ∙ kept)) (each (count_of counter.0) done.0 all)

-- rows of a book that became others
pub edits_by : (old : Database) (new : Trees) (f : List Row → List Row) (change : List Line → List Line) → IsBook old → new 1 ≡ f (old.trees 1)
    → f (map row_of (lines_of old.trees)) ≡ map row_of (change (lines_of old.trees)) → new 0 ≡ old.trees 0 → Edits change old.trees new
edits_by old new f change book rows is salt = record {
  lines = lines_are new (change (lines_of old.trees)) (rows ∙ ap f (book_rows old book) ∙ is);
  salt = salt;
}

pub puts_item : (old next : State) (l : Line) (r : Result ℕ Error) → IsReady book_schema old
    → ExecutesInside 0 put_item_text (params l) old next r → OnOk r (Steps book_schema (Edits (with_line l)) old next)
puts_item old next l (Err e) ready h = tt
puts_item old next l (Ok count) ready h =
    let shaped = ready.now.shaped.1.0 in
    let given = params l in
    let command = InsertOr 1 Abort (Values item_terms 7) item_clauses in
    let w = runs_as put_item_text given old next book_schema ready.now.schema_is command put_item_is put_item_plain count h.0 in
    let full = statement_of put_item_text (understood book_schema put_item_text) in
    let does : Does old.step_limit (mode_of old) given (record { schema = book_schema; trees = old.now.trees }) full None command (Ok (w.tally, next.now)) =
    subst (λ s. Does old.step_limit (mode_of old) given (record old.now { schema = s }) full None command (Ok (w.tally, next.now))) ready.now.schema_is
    w.changed in
    let task : Task = record { limit = old.step_limit; keys = Enforced; schema = book_schema; table = item; params = given } in
    let done = ends_as task (mode_of old) command old.now.trees w.tally next.now does in
    let put = inserts_or l old.now.trees old.step_limit done.0 done.1 in
    let now = ap (λ (d : Database). d.trees) done.2 in
    let others = subst (λ (d : Trees). AllByRecursion (λ t. t.tree ≢ 1 → d t.tree ≡ old.now.trees t.tree) book_schema.tables) (sym now) put.tables in
    let edit : HasEdited book_schema 1 (after l) old.now next.now = record {
      schema_is = ap (λ (d : Database). d.schema) done.2;
      sound = w.sound;
      rows = ap (λ (d : Trees). d 1) now ∙ put.rows;
      others = others;
    } in
    let up = subst IsTable (book_rows old.now ready.now) shaped.0 in
    let made = edits_by old.now next.now.trees (after l) (with_line l) ready.now edit.rows (put_lines l (lines_of old.now.trees) up)
    (others.0 (λ e. let never : 0 ≡ 1 = e in cc)) in
    steps_of book_schema 1 (after l) (Edits (with_line l)) old next (after_shaped l) made ready shaped edit h.1.mode h.1.committed_is h.1.is_open
