-- The view that is read of the tables.
-- for: journal::Journal::view
use Rattle.std.proofs.Common.{◌≡◌, ◌≤◌, List, map, Result, Ok, Err, IfOk, false, refl, sym, ◌∙◌}
use Rattle.sqlite.specs.Effect.{Database}
use Rattle.sqlite_value.specs.Order.{Row}
use Rattle.tx_history.specs.declared.journal.JournalView.{JournalView}
use Rattle.tx_history.specs.Views.{IsOk}
use Rattle.journal_rows.specs.Answer.{IsReading}
use Rattle.journal_rows.specs.Reads.{Stands, shown_part, shown_meta, shown_tx, shown_shelf, members_in, advices_in}
use Rattle.journal_rows.specs.Tables.{Tables, tables_of}
use Rattle.journal_rows.specs.declared.error.RowsError.{RowsError}
use Rattle.journal_tables.proofs.Types.{standing_from}
use Rattle.journal_tables.proofs.UniqueAdvices.{sound_from}
use Rattle.journal_tables.specs.Steps.{IsJournal}
use Rattle.journal_store.specs.Means.{Means, Reads}
use Rattle.journal_store.specs.Stored.{Holds}
use Rattle.journal_store.specs.declared.error.JournalError.{JournalError}
use Rattle.journal_store.specs.declared.error.JournalError.TheVariants.{Store, Failed, OutOfMemory, BadRow}
use Rattle.journal_rows.specs.declared.layout.Layout.{Layout}
use Rattle.journal_rows.specs.declared.layout.Layout.TheVariants.{Second}
use Rattle.journal_store.specs.declared.reading.Stored.{Stored}

-- what the rows that are read represent is what the rows of the tables represent
pub reading_of : (layout : Layout) (t : Tables) (s : Stored) (p a b m d e : List Row) (r : Result JournalView RowsError) → Holds t s → p ≡ s.parts.items →
    a ≡ s.meta.items → b ≡ s.tx.items → m ≡ s.members.items → d ≡ s.shelf.items
    → e ≡ s.advices.items → IsReading layout p a b m d e r
    → IsReading layout (map shown_part t.part) (map shown_meta t.meta) (map shown_tx t.tx) (members_in t) (map shown_shelf t.shelf) (advices_in t) r
reading_of layout t s p a b m d e r h ep ea eb em ed ee reads =
    let fp : p ≡ map shown_part t.part = ep ∙ h.parts in
    let fa : a ≡ map shown_meta t.meta = ea ∙ h.meta in
    let fb : b ≡ map shown_tx t.tx = eb ∙ h.tx in
    let fm : m ≡ members_in t = em ∙ h.members in
    let fd : d ≡ map shown_shelf t.shelf = ed ∙ h.shelf in
    let fe : e ≡ advices_in t = ee ∙ h.advices in
    rw (fp, fa, fb, fm, fd, fe) at reads

-- what is read of layout 2 is the view of the journal
pub means_of : (t : Tables) (r : Result JournalView JournalError) → Reads Second t r → Means t false r
means_of t (Ok v) h = (record { sound = h.0; reads = sym h.1 }, refl)
means_of t (Err (BadRow bad)) h = (h, refl)
means_of t (Err OutOfMemory) h = (h, refl)
means_of t (Err Failed) h = absurd h
means_of t (Err (Store cause)) h = absurd h

-- the tables of a journal represent the view that is read from them
pub stands_if : (db : Database) (r : Result JournalView JournalError) → IsJournal db → Means (tables_of db.trees) false r
    → IfOk r (Stands (tables_of db.trees))
stands_if db (Ok v) j m = standing_from db v j m.0
stands_if db (Err e) j m = tt

-- and it is sound
pub sound_if : (db : Database) (r : Result JournalView JournalError) → IsJournal db → Means (tables_of db.trees) false r →
    IfOk r (λ v. v.next_id ≤ 9223372036854775807) → IfOk r IsOk
sound_if db (Ok v) j m last = sound_from db v j m.0 last
sound_if db (Err e) j m last = tt
