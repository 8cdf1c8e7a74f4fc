-- What an answer of `view` says of the tables.
use Rattle.std.specs.Prelude.{◌≡◌, ⊤, Bool, true, false, None, Some, Result, Ok, Err}
use Rattle.tx_history.specs.declared.journal.JournalView.{JournalView}
use Rattle.journal_rows.specs.Tables.{Tables}
use Rattle.journal_rows.specs.Faults.{IsFaultAs, IsFaultIn, IsViewIn}
use Rattle.journal_rows.specs.Reads.{read}
use Rattle.journal_rows.specs.declared.layout.Layout.{Layout}
use Rattle.journal_store.specs.declared.error.JournalError.{JournalError}
use Rattle.journal_store.specs.declared.error.JournalError.TheVariants.{Store, Failed, OutOfMemory, BadRow}

abbrev pub IsStore : JournalError → Type 0
IsStore (Store cause) = ⊤
IsStore _ = ⊥

-- not the refusal of a journal that failed at an earlier call
abbrev pub IsNotFailed : JournalError → Type 0
IsNotFailed Failed = ⊥
IsNotFailed _ = ⊤

-- The journal that the tables represent, or their first row at fault. Only a refusal of the store makes the journal fail.
abbrev pub Means : Tables → Bool → Result JournalView JournalError → Type 0
Means t failed (Ok v) = IsViewIn t v × (failed ≡ false)
Means t failed (Err (BadRow bad)) = IsFaultIn t (Some bad) × (failed ≡ false)
Means t failed (Err OutOfMemory) = IsFaultIn t None × (failed ≡ false)
Means t failed (Err Failed) = failed ≡ true
Means t failed (Err (Store cause)) = failed ≡ true

-- the same of reading a database in a layout, where nothing fails
abbrev pub Reads : Layout → Tables → Result JournalView JournalError → Type 0
Reads layout t (Ok v) = IsFaultAs layout t None × (v ≡ read t)
Reads layout t (Err (BadRow bad)) = IsFaultAs layout t (Some bad)
Reads layout t (Err OutOfMemory) = IsFaultAs layout t None
Reads layout t (Err Failed) = ⊥
Reads layout t (Err (Store cause)) = ⊥
