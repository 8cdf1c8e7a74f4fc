-- What a SELECT over one table shows.
-- for: the crates above
use Rattle.std.proofs.Common.{◌≡◌, ℕ, pos, ℤ, None, List, [], ◌∷◌, Bool, false, IfOk, OnOk, Result, Ok, Err, map, filter, map-id, refl, sym, ap, ap₂}
use Rattle.std.proofs.Common.{subst, ◌∙◌}
use Rattle.std.specs.List.{list_all}
use Rattle.std.specs.Prelude.{Vec}
use Rattle.std.specs.declared.alloc.Global.{Global}
use Rattle.sqlite.specs.Listing.{understood, reads_listing}
use Rattle.sqlite.specs.State.{State, Shown, Survives, CommitsShowing, IsUnchanged}
use Rattle.sqlite.specs.declared.types.Value.TheVariants.{Null, Int}
use Rattle.sqlite.proofs.Callers.{reads_as, IsPlain, command_of, never_commits}
use Rattle.sqlite.proofs.StateLemmas.{survives_weaker}
use Rattle.sqlite_schema.specs.declared.schema.Schema.{Schema}
use Rattle.sqlite_schema.specs.declared.command.Command.TheVariants.{Select}
use Rattle.sqlite_sql.specs.Program.{overlay}
use Rattle.sqlite_sql.specs.Query.{Query, inner, end, page, IsAnswer}
use Rattle.sqlite_sql.specs.Term.{Term, col, lit, eval_all, holds}
use Rattle.sqlite_trees.specs.Tree.{Trees}
use Rattle.sqlite_typed.proofs.AnswerLemmas.{Source, last_table, at_end, answer_by_keys}
use Rattle.sqlite_keyed.specs.Keyed.{IsKeyedBy}
use Rattle.sqlite_value.specs.Order.{Row, column, value_cmp}
use Rattle.sqlite_value.specs.Keys.{ascending}
use Rattle.sqlite_value.specs.declared.keys.Collation.TheVariants.{Binary}
use Rattle.sqlite_value.proofs.OrderLemmas.{value_cmp-Int, then-Equal}
use Rattle.store_base.specs.Tables.{IsKept, OnlyReads}

-- what a SELECT means over a schema: its query, and the names of its columns
pub record Asks (schema : Schema) (text : List ℕ) (query : Query) (names : List (List ℕ)) : Type 0 where
  pub command : command_of (understood schema text) ≡ Select (record { lets = []; body = query }) names
  pub unlisted : reads_listing schema text ≡ false
  pub plain : IsPlain (understood schema text)

-- some columns of the rows of a table that pass a test, in the order of the rowids
abbrev pub by_rowid : ℕ → List Term → List Term → Term → Query
by_rowid tree filter columns limit = record {
  from = inner tree end;
  filter = filter;
  group = None;
  project = columns;
  distinct = false;
  collations = [];
  order = (col 1 0, ascending Binary) ∷ [];
  limit = limit;
  offset = lit (Int (pos 0));
}

module _ {X : Type 0} (trees : Trees) (tree : ℕ) (encode : X → Row) (key : X → ℤ) (xs : List X) (stored : overlay trees [] tree ≡ map encode xs)
    (keyed : IsKeyedBy key xs) (first : (x : X) → column (encode x) 0 ≡ Int (key x)) (params : Row) (terms : List Term) (P : X → Bool)
    (tests : (x : X) → list_all (holds (params ∷ encode x ∷ [])) terms ≡ P x) where
  abbrev pub source : Source (overlay trees []) (inner tree end) X
  source = last_table (overlay trees []) tree encode key xs stored keyed (at_end (overlay trees []))

  pub by_rowids : (columns : List Term) (limit : Term) (show : X → Row) → ((x : X) → eval_all columns (params ∷ encode x ∷ []) ≡ show x)
      → (rows : List Row) → IsAnswer (by_rowid tree terms columns limit) (overlay trees []) params rows
      → rows ≡ page (by_rowid tree terms columns limit) params (map show (filter P xs))
  by_rowids columns limit show shows rows answer =
      let q = by_rowid tree terms columns limit in
      let all : map (λ r. r) rows ≡ page q params (map show (filter P xs)) =
      answer_by_keys q (overlay trees []) params source P tests (λ r. r) show shows refl refl
      (λ a b. then-Equal _ ∙ ap₂ value_cmp (first a) (first b) ∙ value_cmp-Int (key a) (key b)) rows answer in
      sym (map-id rows) ∙ all

-- what a text that is known shows
module _ (schema : Schema) (sql : List ℕ) (q : Query) (names : List (List ℕ)) (asks : Asks schema sql q names) (old new : State) (has : old.now.schema ≡ schema)
    (params : Row) where
  pub shows : {E : Type 0} (r : Result (Vec Row Global) E) (P : List Row → Type 0) → ((rows : List Row) → IsAnswer q (overlay old.now.trees []) params
      rows → P rows)
      → IfOk r (λ rows. Shown sql params old new rows.items)
      → IfOk r (λ rows. P rows.items)
  shows (Err e) P give h = tt
  shows (Ok rows) P give h =
      let read = reads_as sql params old new schema has (Select (record { lets = []; body = q }) names) asks.command asks.plain asks.unlisted rows.items h in
      give rows.items (read.answer Null)

  shown_same : (rows : List Row) → Shown sql params old new rows → IsUnchanged old new
  unfolding Shown
  shown_same rows h =
      let known = sym h.1.is ∙ ap (λ s. understood s sql) has in
      let bare = subst IsPlain (sym known) asks.plain in
      (rw (bare.0) at h.2).3

  pub same_if : {E : Type 0} (r : Result (Vec Row Global) E) → IfOk r (λ rows. Shown sql params old new rows.items) → OnOk r (IsUnchanged old new)
  same_if (Err e) h = tt
  same_if (Ok rows) h = shown_same rows.items h

pub only_reads : (schema : Schema) (sql : List ℕ) (plain : IsPlain (understood schema sql)) (params : Row) (old new : State)
    → Survives old new (CommitsShowing sql params old) → OnlyReads schema old new
only_reads schema sql plain params old new h = survives_weaker old new _ (λ _. IsKept schema old.now → ⊥)
    (λ _ db commits ready. never_commits sql params old db (subst (λ s. IsPlain (understood s sql)) (sym ready.schema_is) plain) commits) h
