-- What the queries show.
-- for: reading::all_salt and the other queries
use Rattle.std.proofs.Common.{◌≡◌, ℕ, ◌-◌, ℤ, pos, negsuc, List, [], ◌∷◌, map, filter, take, drop, get_or, length, slice_get, true, false, Bool, ◌&&◌, ◌||◌, not, suc}
use Rattle.std.proofs.Common.{if◌then◌else◌}
use Rattle.std.proofs.Common.{Option, Some, None, option_map, option_and_then, IfOk, Result, codes, int_eq, int_le, int_lt, int_cmp, ◌+ℤ◌, map-id, refl}
use Rattle.std.proofs.Common.{sym, ap, ap₂, subst}
use Rattle.std.proofs.Common.{◌∙◌, true≢false, arith}
use Rattle.std.specs.List.{AllByRecursion, list_all, list_any}
use Rattle.std.specs.Prelude.{◌==◌}
use Rattle.std.proofs.lemmas.Bool.Decides.{nat_tests}
use Rattle.std.specs.Ordering.{ordering_then}
use Rattle.std.specs.Prelude.{Vec}
use Rattle.std.specs.declared.alloc.Global.{Global}
use Rattle.std.proofs.lemmas.Bool.{and_parts}
use Rattle.std.proofs.lemmas.List.{take-map}
use Rattle.std.proofs.lemmas.Option.{slice_get-map}
use Rattle.sqlite.specs.State.{State, Shown}
use Rattle.sqlite.specs.Effect.{Database}
use Rattle.sqlite.specs.declared.types.Value.TheVariants.{Null, Int, Blob}
use Rattle.sqlite_rules.specs.Edit.{id_in}
use Rattle.sqlite_schema.specs.Rules.{are_typed, are_present, suits, passes, has_computed, Obeys}
use Rattle.sqlite_schema.specs.declared.schema.Kind.TheVariants as kind
use Rattle.sqlite_schema.specs.declared.schema.Constraint.TheVariants.{Datatype, NotNull}
use Rattle.sqlite_sql.specs.Ops.{is_null}
use Rattle.sqlite_sql.specs.Program.{overlay}
use Rattle.sqlite_sql.specs.Query.{IsAnswer, end, inner, page}
use Rattle.sqlite_sql.specs.Term.{Term, col, eval_all, holds}
use Rattle.sqlite_sql.specs.declared.ops.CompareOp.TheVariants.{Eq, Ge, Gt}
use Rattle.sqlite_keyed.specs.Lists.{sort_by, sum_of}
use Rattle.sqlite_keyed.proofs.ListLemmas.{all_both, map-map, filter_all, all_of}
use Rattle.sqlite_typed.specs.Tests.{bytes_eq, sum_of_present}
use Rattle.sqlite_typed.proofs.AnswerLemmas.{Source, last_table, at_end, answer_sorted, first_of, no_tie, no_tie_after, sum_is}
use Rattle.sqlite_typed.proofs.TestLemmas.{at_blobs, at_ints}
use Rattle.sqlite_value.specs.Order.{Row, column}
use Rattle.sqlite_value.proofs.OrderLemmas.{value_cmp-Int, then-Equal}
use Rattle.store_base.specs.Columns.{needed}
use Rattle.store_base.proofs.CellLemmas.{and_true}
use Rattle.store_base.proofs.ReadLemmas.{by_rowid, by_rowids, shows}
use Rattle.store_base.proofs.StoredRows.{Pair, split, whole, key, stored_rows, rising_rows}
use Rattle.book_store.specs.Lines.{Line, has_id, lines_of, row_of}
use Rattle.book_store.specs.Queries.{IsSaltOf, IsSaltShown, day_cmp, days_from, first_day, firsts, last_id, last_of, of_day, of_request, open_id}
use Rattle.book_store.specs.Queries.{shown_day, shown_id}
use Rattle.book_store.specs.Queries.{counts, counts_in, next_lines, shown_line, shown_mark, shown_salt, used, used_in}
use Rattle.book_store.specs.Schema.{book_schema, salt}
use Rattle.book_store.specs.Steps.{IsBook, salt_row}
use Rattle.book_store.specs.Texts.{all_salt_text, first_day_text, first_ids_text, next_items_text, of_id_text, of_request_text, sum_text, used_text}
use Rattle.book_store.proofs.LineLemmas.{book_rows, lines_rise, null_cell}
use Rattle.book_store.proofs.TextFacts.{salt_query, salt_names, all_salt_asks, request_query, request_names, of_request_asks, day_query, day_names}
use Rattle.book_store.proofs.TextFacts.{first_day_asks, ids_query, ids_names, first_ids_asks, next_query, next_names, next_items_asks, used_query, sum_query}
use Rattle.book_store.proofs.TextFacts.{sum_names, used_asks, sum_asks, id_query, of_id_asks}

-- the rows of `salt`

-- a row of `salt` as its type has it
abbrev IsSaltRow : Row → Type 0
IsSaltRow r = r ≡ column r 0 ∷ Null ∷ column r 2 ∷ []

is_salt_row : (r : Row) → are_typed (Some 0) 0 salt.columns (drop 1 r) ≡ true → are_present (Some 0) 0 salt.columns r ≡ true → IsSaltRow r
is_salt_row [] t p = absurd (true≢false (sym p))
is_salt_row (a ∷ []) t p = absurd (true≢false (sym p))
is_salt_row (a ∷ b ∷ []) t p = absurd (true≢false (sym p))
is_salt_row (a ∷ b ∷ c ∷ d ∷ rest) t p =
    let t₁ = and_parts (is_null b) ((suits (needed (codes "bytes") kind.Blob) c) && false) t in
    absurd (true≢false (sym (and_parts (suits (needed (codes "bytes") kind.Blob) c) false t₁.1).1))
is_salt_row (a ∷ b ∷ c ∷ []) t p = λ i. a ∷ null_cell b (and_parts _ _ t).0 i ∷ c ∷ []

salt_rows : (db : Database) → IsBook db → AllByRecursion IsSaltRow (db.trees 0)
salt_rows db book =
    let obeys = subst (λ s. Obeys s db.trees) book.schema_is book.sound.obeys in
    all_both (λ r. passes Datatype book_schema db.trees salt r ≡ true) (λ r. passes NotNull book_schema db.trees salt r ≡ true) IsSaltRow
    (λ r t p. is_salt_row r (and_parts _ (has_computed salt r) t).0 p) (db.trees 0) (obeys.rules Datatype).0 (obeys.rules NotNull).0

pub reads_salt : {E : Type 0} (old new : State) (r : Result (Vec Row Global) E) → IsBook old.now → IfOk r (λ rows. Shown all_salt_text [] old new rows.items)
    → IfOk r (λ rows. rows.items ≡ map shown_salt (old.now.trees 0))
reads_salt old new r book h = shows book_schema all_salt_text salt_query salt_names all_salt_asks old new book.schema_is [] r
    (λ rows. rows ≡ map shown_salt (old.now.trees 0)) (λ rows a. gives rows a) h
  where
    ps : List Pair
    ps = map split (old.now.trees 0)

    stored : old.now.trees 0 ≡ map whole ps
    stored = stored_rows (old.now.trees 0) book.shaped.0.1

    gives : (rows : List Row) → IsAnswer salt_query (overlay old.now.trees []) [] rows → rows ≡ map shown_salt (old.now.trees 0)
    gives rows a =
        by_rowids old.now.trees 0 whole key ps stored (rising_rows (old.now.trees 0) book.shaped.0) (λ p. refl) [] [] (λ _. true) (λ _. refl)
        salt_query.project salt_query.limit (λ p. shown_salt (whole p)) (λ p. refl) rows a
        ∙ ap (map (λ p. shown_salt (whole p))) (filter_all (λ _. true) ps (all_of _ (λ _. refl) ps)) ∙ sym (map-map shown_salt whole ps)
        ∙ ap (map shown_salt) (sym stored)

-- the salt that the rows show is that of the table
pub salt_known : (db : Database) (shown : List Row) (r : Option (List ℕ)) → IsBook db → shown ≡ map shown_salt (db.trees 0) → IsSaltShown shown r →
    IsSaltOf (db.trees 0) r
salt_known db shown (Some bytes) book is h = one (db.trees 0) (sym is ∙ h) (salt_rows db book)
  where
    one : (rows : List Row) → map shown_salt rows ≡ (Int (pos 1) ∷ Blob bytes ∷ []) ∷ [] → AllByRecursion IsSaltRow rows → rows ≡ salt_row bytes ∷ []
    one [] e h = absurd (let f = e in cc)
    one (r ∷ []) e h =
        let first : column r 0 ≡ Int (pos 1) = ap (λ (l : List Row). column (get_or l 0 []) 0) e in
        let last : column r 2 ≡ Blob bytes = ap (λ (l : List Row). column (get_or l 0 []) 1) e in
        λ i. (h.0 ∙ (λ j. first j ∷ Null ∷ last j ∷ [])) i ∷ []
    one (r ∷ s ∷ rows) e h = absurd (let f = e in cc)
salt_known db shown None book is h = λ salted. h salted.bytes salted.long (is ∙ ap (map shown_salt) salted.row)

same_length : {A B : Type 0} (f : A → B) (xs : List A) → length (map f xs) ≡ length xs
same_length f [] = refl
same_length f (x ∷ xs) = ap Rattle.std.proofs.Common.suc (same_length f xs)

firsts_map : {A B : Type 0} (f : A → B) (most : ℤ) (xs : List A) → firsts most (map f xs) ≡ map f (firsts most xs)
firsts_map f (pos n) xs = take-map f n xs
firsts_map f (negsuc n) xs = refl

-- the items

module _ (old new : State) (book : IsBook old.now) where
  abbrev lines : List Line
  lines = lines_of old.now.trees

  stored_lines : old.now.trees 1 ≡ map row_of lines
  stored_lines = book_rows old.now book

  of_lines : (params : Row) (terms : List Term) (P : Line → Bool) → ((l : Line) → list_all (holds (params ∷ row_of l ∷ [])) terms ≡ P l)
      → (columns : List Term) (limit : Term) (show : Line → Row) → ((l : Line) → eval_all columns (params ∷ row_of l ∷ []) ≡ show l)
      → (rows : List Row) → IsAnswer (by_rowid 1 terms columns limit) (overlay old.now.trees []) params rows
      → rows ≡ page (by_rowid 1 terms columns limit) params (map show (filter P lines))
  of_lines params terms P tests columns limit show shown rows a =
      by_rowids old.now.trees 1 row_of (λ (l : Line). l.id) lines stored_lines (lines_rise old.now book) (λ l. refl) params terms P tests columns limit
      show shown
      rows a

  pub reads_request : {E : Type 0} (request : List ℕ) (r : Result (Vec Row Global) E) → IfOk r (λ rows. Shown of_request_text (Blob request ∷ []) old new
      rows.items)
      → IfOk r (λ rows. rows.items ≡ map shown_mark (of_request request lines))
  reads_request request r h = shows book_schema of_request_text request_query request_names of_request_asks old new book.schema_is (Blob request ∷ []) r
      (λ rows. rows ≡ map shown_mark (of_request request lines))
      (λ rows a. of_lines (Blob request ∷ []) request_query.filter (λ l. bytes_eq l.request request)
      (λ l. and_true _ ∙ at_blobs false Eq l.request request) request_query.project request_query.limit shown_mark (λ l. refl) rows a) h

  pub reads_ids : {E : Type 0} (day most : ℤ) (r : Result (Vec Row Global) E)
      → IfOk r (λ rows. Shown first_ids_text (Int day ∷ Int most ∷ []) old new rows.items)
      → IfOk r (λ rows. rows.items ≡ firsts most (map shown_id (of_day day lines)))
  reads_ids day most r h = shows book_schema first_ids_text ids_query ids_names first_ids_asks old new book.schema_is (Int day ∷ Int most ∷ []) r
      (λ rows. rows ≡ firsts most (map shown_id (of_day day lines)))
      (λ rows a. of_lines (Int day ∷ Int most ∷ []) ids_query.filter (λ (l : Line). int_eq l.day day)
      (λ l. and_true _ ∙ at_ints false Eq l.day day) ids_query.project ids_query.limit shown_id (λ l. refl) rows a) h

  pub reads_id : {E : Type 0} (id : ℤ) (r : Result (Vec Row Global) E)
      → IfOk r (λ rows. Shown of_id_text (Int id ∷ []) old new rows.items)
      → IfOk r (λ rows. rows.items ≡ map shown_id (filter (has_id id) lines))
  reads_id id r h = shows book_schema of_id_text id_query ids_names of_id_asks old new book.schema_is (Int id ∷ []) r
      (λ rows. rows ≡ map shown_id (filter (has_id id) lines))
      (λ rows a. of_lines (Int id ∷ []) id_query.filter (has_id id)
      (λ l. and_true _ ∙ at_ints false Eq l.id id) id_query.project id_query.limit shown_id (λ l. refl) rows a) h

  pub reads_days : {E : Type 0} (from : ℤ) (r : Result (Vec Row Global) E) → IfOk r (λ rows. Shown first_day_text (Int from ∷ []) old new rows.items)
      → IfOk r (λ rows. rows.items ≡ take 1 (map shown_day (days_from from lines)))
  reads_days from r h = shows book_schema first_day_text day_query day_names first_day_asks old new book.schema_is (Int from ∷ []) r
      (λ rows. rows ≡ take 1 (map shown_day (days_from from lines))) gives h
    where
      tests : (l : Line) → list_all (holds ((Int from ∷ []) ∷ row_of l ∷ [])) day_query.filter ≡ int_le from l.day
      tests l = and_true _ ∙ at_ints false Ge l.day from

      gives : (rows : List Row) → IsAnswer day_query (overlay old.now.trees []) (Int from ∷ []) rows → rows ≡ take 1 (map shown_day (days_from from lines))
      gives rows a =
          let from_all : Source (overlay old.now.trees []) (inner 1 end) Line = last_table (overlay old.now.trees []) 1 row_of (λ (l : Line). l.id) lines
          stored_lines (lines_rise old.now book) (at_end (overlay old.now.trees [])) in
          let all : map (λ r. r) rows ≡ page day_query (Int from ∷ []) (map shown_day (sort_by day_cmp (filter (λ (l : Line). int_le from l.day) lines))) =
          answer_sorted day_query (overlay old.now.trees []) (Int from ∷ []) from_all (λ (l : Line). int_le from l.day) tests (λ r. r) shown_day (λ l.
          refl) refl refl
          day_cmp (λ x y less. no_tie_after (int_cmp x.day y.day) (no_tie less))
          (λ x y. ap₂ ordering_then (value_cmp-Int x.day y.day) (then-Equal _ ∙ value_cmp-Int x.id y.id)) rows a in
          sym (map-id rows) ∙ all

  pub reads_next : {E : Type 0} (after day most : ℤ) (r : Result (Vec Row Global) E)
      → IfOk r (λ rows. Shown next_items_text (Int after ∷ Int day ∷ Int most ∷ []) old new rows.items)
      → IfOk r (λ rows. rows.items ≡ map shown_line (next_lines after day most lines))
  reads_next after day most r h = shows book_schema next_items_text next_query next_names next_items_asks old new book.schema_is
      (Int after ∷ Int day ∷ Int most ∷ []) r (λ rows. rows ≡ map shown_line (next_lines after day most lines))
      (λ rows a. of_lines (Int after ∷ Int day ∷ Int most ∷ []) next_query.filter (λ (l : Line). int_lt after l.id && int_le day l.day)
      (λ l. λ i. at_ints false Gt l.id after i && (and_true _ ∙ at_ints false Ge l.day day) i) next_query.project next_query.limit shown_line (λ l. refl) rows a
      ∙ firsts_map shown_line most (filter (λ (l : Line). int_lt after l.id && int_le day l.day) lines)) h

  summed : (xs : List Line) → sum_of_present (map (λ (l : Line). Some l.amount) xs) ≡ sum_of (λ (l : Line). l.amount) xs
  summed [] = refl
  summed (l ∷ xs) = ap (λ n. l.amount +ℤ n) (summed xs)

  abbrev all_lines : Source (overlay old.now.trees []) (inner 1 end) Line
  all_lines = last_table (overlay old.now.trees []) 1 row_of (λ (l : Line). l.id) lines stored_lines (lines_rise old.now book) (at_end (overlay
      old.now.trees []))

  pub reads_used : {E : Type 0} (card : List ℕ) (day : ℤ) (r : Result (Vec Row Global) E)
      → IfOk r (λ rows. Shown used_text (Blob card ∷ Int day ∷ []) old new rows.items)
      → IfOk r (λ rows. rows.items ≡ (Int (used card day lines) ∷ []) ∷ [])
  reads_used card day r h = shows book_schema used_text used_query sum_names used_asks old new book.schema_is (Blob card ∷ Int day ∷ []) r
      (λ rows. rows ≡ (Int (used card day lines) ∷ []) ∷ [])
      (λ rows a. sum_is used_query (overlay old.now.trees []) (Blob card ∷ Int day ∷ []) all_lines (counts card day)
      (λ l. λ i. at_blobs false Eq l.card card i && (at_ints false Eq l.day day i && (and_true _ ∙ at_ints false Eq l.reversed (pos 0)) i))
      (col 1 4) (λ (l : Line). Some l.amount) (λ l. refl) refl refl refl rows a
      ∙ ap (λ n. (Int n ∷ []) ∷ []) (summed (filter (counts card day) lines))) h

  pub reads_sum : {E : Type 0} (day : ℤ) (r : Result (Vec Row Global) E) → IfOk r (λ rows. Shown sum_text (Int day ∷ []) old new rows.items)
      → IfOk r (λ rows. rows.items ≡ (Int (used_in day lines) ∷ []) ∷ [])
  reads_sum day r h = shows book_schema sum_text sum_query sum_names sum_asks old new book.schema_is (Int day ∷ []) r
      (λ rows. rows ≡ (Int (used_in day lines) ∷ []) ∷ [])
      (λ rows a. sum_is sum_query (overlay old.now.trees []) (Int day ∷ []) all_lines (counts_in day)
      (λ l. λ i. at_ints false Eq l.day day i && (and_true _ ∙ at_ints false Eq l.reversed (pos 0)) i)
      (col 1 4) (λ (l : Line). Some l.amount) (λ l. refl) refl refl refl rows a
      ∙ ap (λ n. (Int n ∷ []) ∷ []) (summed (filter (counts_in day) lines))) h

-- what is made of the rows

pub first_is : (n : ℤ) (rows : List Row) → rows ≡ (Int n ∷ []) ∷ [] → option_map (λ (r : Row). id_in (column r 0)) (slice_get rows 0) ≡ Some n
first_is n rows is = ap (λ (l : List Row). option_map (λ (r : Row). id_in (column r 0)) (slice_get l 0)) is

pub open_some : (ls : List Line) (rows : List Row) (row : Row) → rows ≡ map shown_mark ls → Some row ≡ slice_get rows (length rows - 1)
    → open_id ls ≡ (if int_eq (id_in (column row 1)) (pos 0) then Some (id_in (column row 0)) else None)
open_some ls rows row is found = go (last_of ls) (there ls rows is ∙ sym found)
  where
    Tested : Option Line → Option ℤ
    Tested = option_and_then (λ (l : Line). if int_eq l.reversed (pos 0) then Some l.id else None)

    there : (ls : List Line) (rows : List Row) → rows ≡ map shown_mark ls → option_map shown_mark (last_of ls) ≡ slice_get rows (length rows - 1)
    there ls rows is =
        sym (slice_get-map shown_mark ls (length ls - 1)) ∙ ap (λ n. slice_get (map shown_mark ls) (n - 1)) (sym (same_length shown_mark ls))
        ∙ ap (λ (l : List Row). slice_get l (length l - 1)) (sym is)

    go : (o : Option Line) → option_map shown_mark o ≡ Some row
        → option_and_then (λ (l : Line). if int_eq l.reversed (pos 0) then Some l.id else None) o
        ≡ (if int_eq (id_in (column row 1)) (pos 0) then Some (id_in (column row 0)) else None)
    go None e = absurd (let f = e in cc)
    go (Some l) e =
        let same : shown_mark l ≡ row = cc in
        ap (λ (r : Row). if int_eq (id_in (column r 1)) (pos 0) then Some (id_in (column r 0)) else None) same

pub open_none : (ls : List Line) (rows : List Row) → rows ≡ map shown_mark ls → None ≡ slice_get rows (length rows - 1) → open_id ls ≡ None
open_none ls rows is found = go (last_of ls) (there ls rows is ∙ sym found)
  where
    there : (ls : List Line) (rows : List Row) → rows ≡ map shown_mark ls → option_map shown_mark (last_of ls) ≡ slice_get rows (length rows - 1)
    there ls rows is =
        sym (slice_get-map shown_mark ls (length ls - 1)) ∙ ap (λ n. slice_get (map shown_mark ls) (n - 1)) (sym (same_length shown_mark ls))
        ∙ ap (λ (l : List Row). slice_get l (length l - 1)) (sym is)

    go : (o : Option Line) → option_map shown_mark o ≡ None → option_and_then (λ (l : Line). if int_eq l.reversed (pos 0) then Some l.id else None) o ≡ None
    go None e = refl
    go (Some l) e = absurd (let f = e in cc)

-- there are rows where an item passes
pub any_shown : (P : Line → Bool) (ls : List Line) (rows : List Row) → rows ≡ map shown_id (filter P ls) → (length rows == 0) ≡ not (list_any P ls)
any_shown P ls rows is = ap (λ (l : List Row). length l == 0) is ∙ go ls
  where
    more : (n : ℕ) → (suc n == 0) ≡ false
    more n = grind (arith, nat_tests)

    go : (ls : List Line) → (length (map shown_id (filter P ls)) == 0) ≡ not (list_any P ls)
    go [] = refl
    go (l ∷ ls) = by (P l) (go ls)
      where
        by : (b : Bool) → (length (map shown_id (filter P ls)) == 0) ≡ not (list_any P ls)
            → (length (map shown_id (if b then l ∷ filter P ls else filter P ls)) == 0) ≡ not (b || list_any P ls)
        by true rest = more (length (map shown_id (filter P ls)))
        by false rest = rest

pub day_found : (from : ℤ) (ls : List Line) (rows : List Row) → rows ≡ take 1 (map shown_day (days_from from ls))
    → option_map (λ (r : Row). id_in (column r 0)) (slice_get rows 0) ≡ first_day from ls
day_found from ls rows is =
    ap (option_map (λ (r : Row). id_in (column r 0))) (first_of (map shown_day (days_from from ls)) is ∙ slice_get-map shown_day (days_from from ls) 0)
    ∙ go (slice_get (days_from from ls) 0)
  where
    go : (o : Option Line) → option_map (λ (r : Row). id_in (column r 0)) (option_map shown_day o) ≡ option_map (λ (l : Line). l.day) o
    go None = refl
    go (Some l) = refl

pub id_found : (day most : ℤ) (ls : List Line) (rows : List Row) → rows ≡ firsts most (map shown_id (of_day day ls))
    → option_map (λ (r : Row). id_in (column r 0)) (slice_get rows (length rows - 1)) ≡ last_id day most ls
id_found day most ls rows is =
    let these = firsts most (of_day day ls) in
    let shown : rows ≡ map shown_id these = is ∙ firsts_map shown_id most (of_day day ls) in
    let last : slice_get rows (length rows - 1) ≡ option_map shown_id (last_of these) =
    ap (λ (l : List Row). slice_get l (length l - 1)) shown ∙ ap (λ n. slice_get (map shown_id these) (n - 1)) (same_length shown_id these)
    ∙ slice_get-map shown_id these (length these - 1) in
    ap (option_map (λ (r : Row). id_in (column r 0))) last ∙ go (last_of these)
  where
    go : (o : Option Line) → option_map (λ (r : Row). id_in (column r 0)) (option_map shown_id o) ≡ option_map (λ (l : Line). l.id) o
    go None = refl
    go (Some l) = refl
