-- What one INSERT of one row makes of the tables.
-- for: the crates above
use Rattle.std.proofs.Common.{◌≡◌, ◌≢◌, ◌⊎◌, inl, inr, ℕ, ◌/◌, List, [], ◌∷◌, length, slice_get, if◌then◌else◌, MatchBool, Bool, false, Some, None, Ok, Err}
use Rattle.std.proofs.Common.{Result, sym, ap, subst, ◌∙◌}
use Rattle.std.specs.List.{AllByRecursion}
use Rattle.sqlite_value.specs.Order.{Row}
use Rattle.sqlite_trees.specs.Tree.{Trees, put_row}
use Rattle.sqlite_sql.specs.Term.{Term}
use Rattle.sqlite_schema.specs.declared.schema.Table.{Table}
use Rattle.sqlite_schema.specs.declared.schema.Schema.{Schema}
use Rattle.sqlite_schema.specs.declared.command.Source.TheVariants.{Values}
use Rattle.sqlite_schema.specs.declared.command.Command.{Command}
use Rattle.sqlite_schema.specs.declared.command.Command.TheVariants.{Insert}
use Rattle.sqlite_rules.specs.Cast.{cast_row}
use Rattle.sqlite_rules.specs.Edit.{edit_of, with_rowid, Applies}
use Rattle.sqlite_rules.specs.declared.error.Rowids.TheVariants.{Chosen, Above}
use Rattle.sqlite_rules.proofs.ActionLemmas.{no_works}
use Rattle.sqlite.specs.Effect.{Database, IsDatabase, value_rows}
use Rattle.sqlite.specs.Rows.{Written, Task, Inserts, stamped, rowids_for, count_of}
use Rattle.sqlite.specs.Does.{Tally, Does, OnRows, WritesRows}
use Rattle.sqlite.specs.declared.run.Mode.{Mode}
use Rattle.sqlite_schema.specs.declared.schema.Keys.TheVariants.{Enforced}
use Rattle.sqlite_rules.specs.Action.{Writes}
use Rattle.sqlite.specs.Listing.{understood}
use Rattle.sqlite.specs.State.{State, Executes, mode_of}
use Rattle.sqlite.proofs.Callers.{IsPlain, command_of, statement_of, runs_as, one_step}

-- a part that gave a value did not stop on the way
pub went : {B E R : Type 0} {b : B} {Stops : E → Type 0} → ((stop : E) × Stops stop × (Ok b ≡ Err stop)) ⊎ R → R
went (inl stopped) = absurd (let e = stopped.2 in cc)
went (inr on) = on

pub same_value : {B E : Type 0} {a b : B} → ◌≡◌ {A = Result B E} (Ok a) (Ok b) → a ≡ b
same_value e = cc

-- the table has one more row, and no other table has changed
pub record HasPut (schema : Schema) (table : Table) (old new : Database) (row : Row) : Type 0 where
  pub schema_is : new.schema ≡ schema
  pub sound : IsDatabase new
  pub rows : new.trees table.tree ≡ put_row (with_rowid Chosen (old.trees table.tree) row) (old.trees table.tree)
  pub others : AllByRecursion (λ t. t.tree ≢ table.tree → new.trees t.tree ≡ old.trees t.tree) schema.tables

-- what a statement on rows ends with
pub ends_as : (task : Task) (mode : Mode) (command : Command) (db : Trees) (tally : Tally) (after : Database) →
    OnRows task mode None command db (Ok (tally, after))
    → (w : Written) × WritesRows task db command (Ok w) × (after ≡ record { schema = task.schema; trees = w.trees }) × (tally.rows ≡ Some (length w.rows))
ends_as task mode command db tally after h =
    let done = went h in
    let rest = went (went done.2).2 in
    (done.0, done.1, ap (λ (p : Tally × Database). p.1) (same_value rest.2), ap (λ (p : Tally × Database). p.0.rows) (same_value rest.2))

pub passed_over : (b c : Bool) (P Q : Type 0) → b ≡ false → MatchBool (if b then c else false) P Q → Q
passed_over b c P Q e h = rw e at h

one_insert : (task : Task) (terms : List Term) (width : ℕ) (db : Trees) (w : Written) (source : Row) → task.table.is_counted ≡ false
    → value_rows (stamped task.table task.params) width (length terms / width) terms ≡ source ∷ [] → Inserts task (Values terms width) db (Ok w)
    → Applies task.schema task.keys db (edit_of db task.table [] Chosen 0 (source ∷ [])) w.trees
one_insert task terms width db w source uncounted one h =
    let given = went h in
    let counter = went given.2 in
    let written = went counter.2 in
    let counted = went written.2 in
    let rows : given.0 ≡ source ∷ [] = given.1.1 ∙ one in
    let kept : counted.0 ≡ written.0 = same_value (passed_over task.table.is_counted _ _ _ uncounted counted.1) in
    let trees : w.trees ≡ written.0 = ap (λ (it : Written). it.trees) (same_value counted.2) ∙ kept in
    let edit = edit_of db task.table [] Chosen 0 (source ∷ []) in
    let way : rowids_for task.table (count_of counter.0) ≡ Chosen = ap (λ b. if b then Above (count_of counter.0) else Chosen) uncounted in
    let wrote : Writes task.schema task.keys db edit (Ok written.0) =
    subst (λ r. Writes task.schema task.keys db (edit_of db task.table [] r 0 (source ∷ [])) (Ok written.0)) way
    (subst (λ s. Writes task.schema task.keys db (edit_of db task.table [] (rowids_for task.table (count_of counter.0)) 0 s) (Ok written.0)) rows written.1) in
    subst (Applies task.schema task.keys db edit) (sym trees)
    (one_step task.schema task.keys db written.0 edit (no_works task.schema task.keys 0 task.table.tree edit.news) wrote)

module _ (schema : Schema) (at : ℕ) (table : Table) (there : slice_get schema.tables at ≡ Some table) (uncounted : table.is_counted ≡ false)
    (terms : List Term) (width : ℕ) (text : List ℕ) (is : command_of (understood schema text) ≡ Insert at (Values terms width))
    (plain : IsPlain (understood schema text)) where
  pub inserts : (old new : State) (params : Row) (source : Row) (count : ℕ) → old.now.schema ≡ schema →
      value_rows (stamped table params) width (length terms / width) terms ≡ source ∷ []
      → Executes text params old new (Ok count) → HasPut schema table old.now new.now (cast_row table source)
  inserts old new params source count has one h =
      let command = Insert at (Values terms width) in
      let w = runs_as text params old new schema has command is plain count h in
      let full = statement_of text (understood schema text) in
      let does = subst (λ s. Does old.step_limit (mode_of old) params (record old.now { schema = s }) full None command (Ok (w.tally, new.now))) has
      w.changed in
      let task : Task = record { limit = old.step_limit; keys = Enforced; schema = schema; table = table; params = params } in
      let on : OnRows task (mode_of old) None command old.now.trees (Ok (w.tally, new.now)) = rw there at does in
      let done = ends_as task (mode_of old) command old.now.trees w.tally new.now on in
      let applied = one_insert task terms width old.now.trees done.0 source uncounted one done.1 in
      record {
        sound = w.sound;
        schema_is = ap (λ (d : Database). d.schema) done.2;
        rows = ap (λ (d : Database). d.trees table.tree) done.2 ∙ applied.rows;
        others = subst (λ (d : Trees). AllByRecursion (λ t. t.tree ≢ table.tree → d t.tree ≡ old.now.trees t.tree) schema.tables)
            (sym (ap (λ (d : Database). d.trees) done.2)) applied.tables;
      }
