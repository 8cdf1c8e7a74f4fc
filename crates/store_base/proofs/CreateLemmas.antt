-- What CREATE TABLE makes of a database whose schema is known.
-- for: the crates above
use Rattle.std.proofs.Common.{◌≡◌, ℕ, List, [], ◌∷◌, None, Ok, false, sym, ap, subst, ◌∙◌}
use Rattle.std.specs.List.{AllByRecursion}
use Rattle.sqlite_schema.specs.declared.schema.Table.{Table}
use Rattle.sqlite_schema.specs.declared.schema.Schema.{Schema}
use Rattle.sqlite_schema.specs.declared.command.Command.TheVariants.{CreateTable}
use Rattle.sqlite_catalog.specs.Change.{created, next_tree}
use Rattle.sqlite_keyed.proofs.ListLemmas.{all-append}
use Rattle.sqlite.specs.Compile.{table_defined_by}
use Rattle.sqlite.specs.Does.{Tally, lacks_sequence}
use Rattle.sqlite.specs.Effect.{Database, IsDatabase}
use Rattle.sqlite.specs.Listing.{understood}
use Rattle.sqlite.specs.State.{State, Writes, Executes}
use Rattle.sqlite.proofs.Callers.{IsPlain, command_of, statement_of, runs_as}
use Rattle.store_base.proofs.WriteLemmas.{same_value, went}

-- what a text means over a schema: it makes this table, which leads to the next schema
pub record MakesTable (schema next : Schema) (table : Table) (text : List ℕ) : Type 0 where
  pub defined : table_defined_by text ≡ Ok table
  pub next_is : created schema table ≡ next
  pub command : command_of (understood schema text) ≡ CreateTable
  pub statement : statement_of text (understood schema text) ≡ text
  pub plain : IsPlain (understood schema text)

-- one more table, which is empty; the others are as they were
pub record IsCreated (schema next : Schema) (old new : State) : Type 0 where
  pub schema_is : new.now.schema ≡ next
  pub sound : IsDatabase new.now
  pub kept : AllByRecursion (λ t. new.now.trees t.tree ≡ old.now.trees t.tree) schema.tables
  pub empty : new.now.trees (next_tree schema) ≡ []

module _ (schema next : Schema) (table : Table) (text : List ℕ) (means : MakesTable schema next table text) where
  pub one_created : lacks_sequence next ≡ false → (old new : State) (count : ℕ) → old.now.schema ≡ schema → Executes text [] old new (Ok count) →
      IsCreated schema next old new
  one_created uncounted old new count has h =
      let runs = runs_as text [] old new schema has CreateTable means.command means.plain count h in
      let w = subst (λ t. Writes old new None CreateTable t [] count) means.statement runs in
      let all = went w.changed in
      let first = went all.1 in
      let made = first.1 in
      let same : made.table ≡ table = same_value (sym made.defined ∙ means.defined) in
      let schema_is : first.0.schema ≡ next = made.is ∙ ap (λ s. created s made.table) has ∙ ap (created schema) same ∙ means.next_is in
      let off : lacks_sequence first.0.schema ≡ false = ap lacks_sequence schema_is ∙ uncounted in
      let now : new.now ≡ first.0 = ap (λ (p : Tally × Database). p.1) (same_value all.2) ∙ same_value (rw off at first.2) in
      let others = subst (λ (s : Schema). AllByRecursion (λ t. first.0.trees t.tree ≡ old.now.trees t.tree) s.tables) has made.others in
      let here : first.0.trees (next_tree schema) ≡ [] = subst (λ s. first.0.trees (next_tree s) ≡ []) has made.empty in
      record {
        schema_is = ap (λ (d : Database). d.schema) now ∙ schema_is;
        sound = w.sound;
        kept = subst (λ (d : Database). AllByRecursion (λ (t : Table). d.trees t.tree ≡ old.now.trees t.tree) schema.tables) (sym now) others;
        empty = ap (λ (d : Database). d.trees (next_tree schema)) now ∙ here;
      }

  -- what holds of each tree of the schema and of the new one holds of each of the next schema
  pub each_tree : (P : ℕ → Type 0) → AllByRecursion (λ (t : Table). P t.tree) schema.tables → P (next_tree schema) →
      AllByRecursion (λ (t : Table). P t.tree) next.tables
  each_tree P old new = subst (λ (s : Schema). AllByRecursion (λ (t : Table). P t.tree) s.tables) means.next_is
      (all-append (λ (t : Table). P t.tree) schema.tables (record table { tree = next_tree schema } ∷ []) old (new, tt))
