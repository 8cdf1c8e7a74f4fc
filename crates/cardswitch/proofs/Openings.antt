-- Journals that were opened.
-- for: journals::open_file, journals::open_in_memory
use Rattle.std.proofs.Common.{◌≡◌, ◌≢◌, ℕ, List, Result, Ok, Err, IfOk, codes, refl, sym, ap, ◌∙◌, subst, inr}
use Rattle.sqlite_trees.specs.declared.store.Store.{Ghosts}
use Rattle.sqlite_trees.specs.declared.memory.MemStore.{MemStore}
use Rattle.sqlite_schema.specs.declared.schema.Schema.{Schema}
use Rattle.sqlite_catalog.specs.Listing.{IsSound}
use Rattle.sqlite.specs.Effect.{Database}
use Rattle.sqlite.specs.Held.{Held, IsNew, state}
use Rattle.sqlite.specs.State.{HasCleanDisk, IsLive, Opens}
use Rattle.sqlite.specs.Steps.{IsEmpty, over_memory}
use Rattle.sqlite.proofs.Callers.{memory_is_clean}
use Rattle.journal_store.specs.Kept.{IsCleanJournal, Kept, kept}
use Rattle.journal_store.specs.Opened.{blank_view}
use Rattle.journal_store.specs.Making.{no_schema}
use Rattle.cardswitch.specs.Journals.{IsNewJournal, IsOfFile, IsOpenedOf}

-- a connection that was opened is of no path that is refused
opened_path : {A E : Type 0} (path refused : List ℕ) (conn : A) (e : E) → (path ≡ refused → Ok conn ≡ Err e) → path ≢ refused
opened_path path refused conn e refuses same = let differ : Ok conn ≡ Err e = refuses same in cc

-- a journal that was opened of a file's connection is the file's
pub of_file : {S E F : Type 0} (g : Ghosts S) (path : List ℕ) (conn : Held S) (e : F) (r : Result (Kept S) E)
    → (path ≡ codes ":memory:" → Ok conn ≡ Err e) → IsNew conn → (HasCleanDisk (state g conn) → Opens (state g conn) × IsLive (state g conn))
    → IfOk r (IsOpenedOf g conn) → IfOk r (IsOfFile g path)
of_file g path conn e (Ok j) memory is_new found opened = record {
  is_file = opened_path path (codes ":memory:") conn e memory;
  conn = conn;
  is_new =
      is_new;
  found = found;
  opened = opened;
}
of_file g path conn e (Err f) memory is_new found opened = opened

-- an empty database has no table
empty_is_sound : (conn : Held MemStore) → IsEmpty (state over_memory conn) → IsSound no_schema (state over_memory conn).committed.trees
empty_is_sound conn empty =
    subst (λ (x : Schema). IsSound x (state over_memory conn).committed.trees)
    (ap (λ (db : Database). db.schema) (sym empty.0.clean) ∙ empty.2)
    (empty.1 empty.0.is_open).1

-- a journal that was opened of an empty database in memory is new
pub new_journal : {E : Type 0} (conn : Held MemStore) (r : Result (Kept MemStore) E)
    → IsEmpty (state over_memory conn) → IfOk r (IsOpenedOf over_memory conn) → IfOk r IsNewJournal
new_journal conn (Ok j) empty opened =
    let clean : IsCleanJournal (kept over_memory j) = memory_is_clean j.held in
    let db : Database = (state over_memory conn).committed in
    record {
      fresh = opened.fresh;
      clean = clean;
      blank = opened.view clean db blank_view refl (inr (inr (empty_is_sound conn empty, refl)));
    }
new_journal conn (Err e) empty opened = opened
