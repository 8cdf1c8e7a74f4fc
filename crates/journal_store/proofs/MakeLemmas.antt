-- What CREATE TABLE makes of a transaction.
-- for: tables::create_all, tables::fill
use Rattle.std.proofs.Common.{map, ◌≡◌, ℕ, List, [], ◌∷◌, Ok, Err, Result, OnOk, refl, sym, ap, subst, ◌∙◌, false, pos}
use Rattle.std.specs.List.{AllByRecursion}
use Rattle.sqlite_trees.specs.Tree.{put_row}
use Rattle.sqlite_trees.specs.View.{IsShaped}
use Rattle.sqlite_trees.specs.declared.store.Shape.TheVariants as shape
use Rattle.sqlite_schema.specs.declared.schema.Table.{Table}
use Rattle.sqlite_schema.specs.declared.schema.Schema.{Schema}
use Rattle.sqlite.specs.Does.{lacks_sequence}
use Rattle.sqlite.specs.declared.error.Error.{Error}
use Rattle.sqlite.specs.State.{State, ExecutesInside}
use Rattle.std.specs.Ordering.{match_ordering}
use Rattle.sqlite_value.proofs.OrderLemmas.{value_cmp-Int}
use Rattle.sqlite_keyed.proofs.ListLemmas.{all_both}
use Rattle.journal_tables.proofs.CreateLemmas.{MakesTable, one_created, each_tree}
use Rattle.journal_rows.specs.Tables.{Tables, named, tables_of, meta_row, with_meta}
use Rattle.journal_tables.specs.Schema.{meta, tx, member, shelf, advice, four_schema, first_schema, part_schema, journal_schema}
use Rattle.journal_tables.specs.Steps.{IsReady, Steps}
use Rattle.journal_tables.specs.Converting.{IsKept, More}
use Rattle.journal_store.specs.Texts.{meta_text, tx_text, member_text, shelf_text, advice_text}
use Rattle.journal_store.specs.Making.{no_schema, meta_schema, tx_schema, member_schema, IsStage, Makes, Fills}
use Rattle.journal_store.proofs.TextFacts.{meta_means, tx_means, member_means, shelf_means, advice_means}

module _ (schema next : Schema) (table : Table) (text : List ℕ) (means : MakesTable schema next table text) (uncounted : lacks_sequence next ≡ false) where
  creates : (old new : State) (r : Result ℕ Error) → IsStage schema old → ExecutesInside 0 text [] old new r → OnOk r (Makes next old new)
  creates old new (Err e) stage h = tt
  creates old new (Ok count) stage h =
      let made = one_created schema next table text means uncounted old new count stage.schema_is h.0 in
      let none : AllByRecursion (λ (t : Table). new.now.trees t.tree ≡ []) schema.tables =
      all_both _ _ _ (λ t p q. p ∙ q) schema.tables made.kept stage.empty in
      record {
        stage = record {
          schema_is = made.schema_is;
          mode = h.1.mode;
          empty = each_tree schema next table text means (λ n. new.now.trees n ≡ []) none made.empty;
        };
        sound = made.sound;
        committed = h.1.committed_is;
        is_open = h.1.is_open;
      }

pub creates_meta : (old new : State) (r : Result ℕ Error) → IsStage no_schema old → ExecutesInside 0 meta_text [] old new r
    → OnOk r (Makes meta_schema old new)
creates_meta = creates no_schema meta_schema meta meta_text meta_means refl

pub creates_tx : (old new : State) (r : Result ℕ Error) → IsStage meta_schema old → ExecutesInside 0 tx_text [] old new r → OnOk r (Makes tx_schema old new)
creates_tx = creates meta_schema tx_schema (record tx { tree = 0 }) tx_text tx_means refl

pub creates_member : (old new : State) (r : Result ℕ Error) → IsStage tx_schema old → ExecutesInside 0 member_text [] old new r →
    OnOk r (Makes member_schema old new)
creates_member = creates tx_schema member_schema (record member { tree = 0 }) member_text member_means refl

pub creates_shelf : (old new : State) (r : Result ℕ Error) → IsStage member_schema old → ExecutesInside 0 shelf_text [] old new r →
    OnOk r (Makes four_schema old new)
creates_shelf = creates member_schema four_schema (record shelf { tree = 0 }) shelf_text shelf_means refl

pub creates_advice : (old new : State) (r : Result ℕ Error) → IsStage four_schema old → ExecutesInside 0 advice_text [] old new r →
    OnOk r (Makes first_schema old new)
creates_advice = creates four_schema first_schema (record advice { tree = 0 }) advice_text advice_means refl

-- layout 1 with no row in its tables
pub first_kept : (old new : State) → Makes first_schema old new → IsKept first_schema new.now
first_kept old new m =
    let at = λ (t : ℕ) (e : new.now.trees t ≡ []). subst (IsShaped shape.Table) (sym e) (tt, tt) in
    let e = m.stage.empty in
    record {
      schema_is = m.stage.schema_is;
      sound = m.sound;
      shaped = (at 0 e.0, (at 1 e.1.0, (at 2 e.1.1.0, (at 4 e.1.1.1.0, (at 5 e.1.1.1.1.0, tt)))));
    }

-- those of layout 1, and the two that layout 2 has besides
pub both_made : (a b c d : State) → Makes first_schema a b → More first_schema part_schema b c → More part_schema journal_schema c d → Makes journal_schema a d
both_made a b c d one two three =
    let e = one.stage.empty in
    let h = two.kept in
    let k = three.kept in
    record {
      stage = record {
        schema_is = three.now.schema_is;
        mode = three.mode;
        empty = (
          k.0 ∙ h.0 ∙ e.0,
          (
            k.1.0 ∙ h.1.0 ∙ e.1.0,
            (
              k.1.1.0 ∙ h.1.1.0 ∙ e.1.1.0,
              (
                k.1.1.1.0 ∙ h.1.1.1.0 ∙ e.1.1.1.0,
                (k.1.1.1.1.0 ∙ h.1.1.1.1.0 ∙ e.1.1.1.1.0, (k.1.1.1.1.1.0 ∙ two.empty, (three.empty, tt))),
              ),
            ),
          ),
        );
      };
      sound = three.now.sound;
      committed = three.committed ∙ two.committed ∙ one.committed;
      is_open = three.is_open;
    }

-- the tables are ready to be filled
pub made_ready : (old new : State) → Makes journal_schema old new → IsReady new
made_ready old new m =
    let at = λ (t : ℕ) (e : new.now.trees t ≡ []). subst (IsShaped shape.Table) (sym e) (tt, tt) in
    let e = m.stage.empty in
    record {
      now = record {
        schema = m.stage.schema_is;
        sound = m.sound;
        shaped = (at 0 e.0, (at 1 e.1.0, (at 2 e.1.1.0, (at 4 e.1.1.1.0, (at 5 e.1.1.1.1.0, (at 7 e.1.1.1.1.1.0, (at 9 e.1.1.1.1.1.1.0, tt)))))));
      };
      mode = m.stage.mode;
    }

two_rows : put_row (meta_row (pos 2) (pos 1)) (meta_row (pos 1) (pos 2) ∷ []) ≡ meta_row (pos 1) (pos 2) ∷ meta_row (pos 2) (pos 1) ∷ []
two_rows =
    let a = meta_row (pos 1) (pos 2) in
    let b = meta_row (pos 2) (pos 1) in
    ap (λ o. match_ordering o (a ∷ b ∷ []) (b ∷ []) (b ∷ a ∷ [])) (value_cmp-Int (pos 1) (pos 2))

abbrev no_rows : Tables
no_rows = record { meta = []; part = []; tx = []; member = []; shelf = []; advice = [] }

pub filled : (a b c d : State) → Makes journal_schema a b → Steps (with_meta (pos 1) (pos 2)) b c → Steps (with_meta (pos 2) (pos 1)) c d → Fills a d
filled a b c d m one two =
    let e = m.stage.empty in
    let none : tables_of b.now.trees ≡ no_rows = λ i. record {
      meta = e.0 i;
      part = e.1.1.1.1.1.0 i;
      tx = e.1.0 i;
      member =
          map (named (e.1.1.1.1.1.0 i)) (e.1.1.1.1.1.1.0 i);
      shelf = e.1.1.1.0 i;
      advice = e.1.1.1.1.0 i;
    } in
    record {
      ready = two.ready;
      tables = two.tables ∙ ap (λ t. with_meta (pos 2) (pos 1) t) one.tables ∙ ap (λ t. with_meta (pos 2) (pos 1) (with_meta (pos 1) (pos 2) t)) none
          ∙ (λ i. record { meta = two_rows i; part = []; tx = []; member = []; shelf = []; advice = [] });
      committed = two.committed ∙ one.committed ∙ m.committed;
      is_open = two.is_open;
    }
