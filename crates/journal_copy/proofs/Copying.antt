-- The journal that disks in memory hold.
-- for: looking::look
use Rattle.std.proofs.Common.{◌≡◌, ℕ, Bool, true, List, length, Option, Some, None, sym, ap, subst, inl, inr, ◌∙◌}
use Rattle.std.proofs.lemmas.Bool.{and_from}
use Rattle.sqlite_disk.specs.declared.Disk as disk
use Rattle.sqlite_disk.specs.declared.Files.{Files}
use Rattle.sqlite_wal.specs.Recovery.{Image}
use Rattle.sqlite_pool.specs.Pool.{state as pool_state}
use Rattle.sqlite_store.specs.FileStore.{view}
use Rattle.sqlite_store.specs.declared.store.FileStore.{FileStore}
use Rattle.sqlite_trees.specs.Tree.{Trees}
use Rattle.sqlite_trees.proofs.Doubt.{no_doubt}
use Rattle.sqlite_schema.specs.declared.schema.Schema.{Schema}
use Rattle.sqlite_catalog.specs.Listing.{IsSound}
use Rattle.sqlite.specs.Effect.{Database}
use Rattle.sqlite.specs.Held.{Held}
use Rattle.sqlite.specs.State.{HasCleanDisk}
use Rattle.sqlite.specs.Files.{AreFoundIn, Finds, IsOpened, file_state, over_files}
use Rattle.journal_rows.specs.Tables.{Tables}
use Rattle.journal_rows.specs.declared.error.BadRow.{BadRow}
use Rattle.journal_tables.specs.Schema.{first_schema, journal_schema}
use Rattle.journal_store.specs.Kept.{OpensAs}
use Rattle.journal_store.specs.Left.{doubt_of}
use Rattle.journal_store.specs.Making.{no_schema}
use Rattle.journal_store.proofs.Opens.{same_count}
use Rattle.journal_store.specs.declared.journal.Left.{Left}
use Rattle.journal_store.specs.declared.journal.Left.TheVariants.{Closed, Open}
use Rattle.journal_copy.specs.Copied.{HoldsFault, HoldsJournal, IsLayoutOf, image_of}
use Rattle.journal_copy.specs.Found.{IfBadRow, IsFaultBy, IsFoundBy, IsOtherFault, layout_by}
use Rattle.journal_copy.specs.declared.error.LookError.{LookError}
use Rattle.journal_copy.specs.declared.error.LookError.TheVariants as error
use Rattle.journal_copy.specs.declared.found.FoundJournal.{FoundJournal}

-- ---- the layout

layout_of : (db : Trees) (s : Schema) (layout : ℕ) (t : Tables) → IsSound s db → layout_by (length s.tables) ≡ Some layout → OpensAs db t
    → IsLayoutOf db layout
layout_of db s layout t sound is (inl o) =
    let seven : Some 2 ≡ Some layout = sym (ap layout_by (same_count s journal_schema db sound o.0)) ∙ is in
    let same : layout ≡ 2 = cc in
    inl (o.0, same)
layout_of db s layout t sound is (inr (inl o)) =
    let five : Some 1 ≡ Some layout = sym (ap layout_by (same_count s first_schema db sound o.0)) ∙ is in
    let same : layout ≡ 1 = cc in
    inr (o.0, same)
layout_of db s layout t sound is (inr (inr o)) =
    let none : ◌≡◌ {A = Option ℕ} None (Some layout) = sym (ap layout_by (same_count s no_schema db sound o.0)) ∙ is in
    absurd cc

-- ---- disks that return what was written

-- the bytes that the disks hold
found_in : (a b db log : List ℕ) (trees : Trees) → a ≡ log → b ≡ db → AreFoundIn (image_of b a) trees → AreFoundIn (image_of db log) trees
found_in a b db log trees log_is db_is found =
    subst (λ (ys : List ℕ). AreFoundIn (image_of ys log) trees) db_is (subst (λ (xs : List ℕ). AreFoundIn (image_of b xs) trees) log_is found)

module _ {D : Type 0} {g : disk.Ghosts D} (honest : (d : D) → g.is_clean d ≡ true) where
  clean : (it : FileStore D g) → (view it).is_clean ≡ true
  unfolding pool_state
  clean it = and_from _ _ (honest _) (honest _)

  no_doubt_of : (left : Left (FileStore D g)) → doubt_of over_files left ≡ 0
  no_doubt_of (Open c) = no_doubt (view c.store).is_clean (clean c.store)
  no_doubt_of (Closed s) = no_doubt (view s).is_clean (clean s)

  holds_journal_by : (db log : List ℕ) (files : Files D) (conn : Held (FileStore D g)) (f : FoundJournal) → g.seen files.log ≡ log → g.seen files.db ≡ db
      → (HasCleanDisk (file_state conn) → IsOpened conn) → (HasCleanDisk (file_state conn) → Finds files conn) → IsFoundBy over_files conn f
      → HoldsJournal (image_of db log) f.layout f.view
  holds_journal_by db log files conn f log_is db_is opened finds found =
      let is_clean = no_doubt (view conn.store).is_clean (clean conn.store) in
      let open_now = opened is_clean in
      let read = found.reads (no_doubt (view found.last.held.store).is_clean (clean found.last.held.store)) in
      let trees = (file_state conn).committed.trees in
      let sound : IsSound (file_state conn).now.schema trees = subst (λ (d : Database). IsSound (file_state conn).now.schema d.trees) open_now.0.clean
      (found.live read.0).0 in
      record {
        db = trees;
        found = found_in (g.seen files.log) (g.seen files.db) db log trees log_is db_is (finds is_clean).reads;
        layout = layout_of trees (file_state conn).now.schema f.layout read.1.0 sound found.layout read.1.1;
        tables = read.1.0;
        opened = read.1.1;
        reads = read.1.2;
      }

  holds_fault_by : (db log : List ℕ) (files : Files D) (conn : Held (FileStore D g)) (e : LookError) → g.seen files.log ≡ log → g.seen files.db ≡ db
      → (HasCleanDisk (file_state conn) → Finds files conn) → IfBadRow (IsFaultBy over_files conn) e → IfBadRow (HoldsFault (image_of db log)) e
  holds_fault_by db log files conn (error.BadRow bad rest) log_is db_is finds (inl h) =
      let is_clean = no_doubt (view conn.store).is_clean (clean conn.store) in (
        (file_state conn).committed.trees,
        found_in (g.seen files.log) (g.seen files.db) db log _ log_is db_is (finds is_clean).reads,
        inl (h.1 (no_doubt_of h.0)),
      )
  holds_fault_by db log files conn (error.BadRow bad rest) log_is db_is finds (inr h) =
      let is_clean = no_doubt (view conn.store).is_clean (clean conn.store) in (
        (file_state conn).committed.trees,
        found_in (g.seen files.log) (g.seen files.db) db log _ log_is db_is (finds is_clean).reads,
        inr (h.1 (no_doubt (view h.0.held.store).is_clean (clean h.0.held.store))),
      )
  holds_fault_by db log files conn error.NotAJournal log_is db_is finds h = tt
  holds_fault_by db log files conn (error.Database e) log_is db_is finds h = tt
  holds_fault_by db log files conn error.OutOfMemory log_is db_is finds h = tt

pub holds_journal : {D : Type 0} {g : disk.Ghosts D} (db log : List ℕ) (files : Files D) (conn : Held (FileStore D g)) (f : FoundJournal) →
    g.seen files.log ≡ log → g.seen files.db ≡ db
    → (HasCleanDisk (file_state conn) → IsOpened conn) → (HasCleanDisk (file_state conn) → Finds files conn) → IsFoundBy over_files conn f
    → ((d : D) → g.is_clean d ≡ true) → HoldsJournal (image_of db log) f.layout f.view
holds_journal db log files conn f log_is db_is opened finds found honest = holds_journal_by honest db log files conn f log_is db_is opened finds found

pub holds_fault : {D : Type 0} {g : disk.Ghosts D} (db log : List ℕ) (files : Files D) (conn : Held (FileStore D g)) (e : LookError) →
    g.seen files.log ≡ log → g.seen files.db ≡ db
    → (HasCleanDisk (file_state conn) → Finds files conn) → IfBadRow (IsFaultBy over_files conn) e
    → ((d : D) → g.is_clean d ≡ true) → IfBadRow (HoldsFault (image_of db log)) e
holds_fault db log files conn e log_is db_is finds h honest = holds_fault_by honest db log files conn e log_is db_is finds h
