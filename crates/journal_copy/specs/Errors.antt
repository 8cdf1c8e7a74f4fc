-- What the errors of the parts become: out of memory is reported as such.
use Rattle.std.specs.Prelude.{None}
use Rattle.journal_store.specs.declared.error.Cause.TheVariants.{Memory}
use Rattle.journal_store.specs.declared.error.JournalError.{JournalError}
use Rattle.journal_store.specs.declared.error.JournalError.TheVariants as journal
use Rattle.journal_copy.specs.declared.error.LookError.{LookError}
use Rattle.journal_copy.specs.declared.error.LookError.TheVariants.{BadRow, NotAJournal, OutOfMemory}

-- another database is refused as a file that is not a journal
abbrev pub error_of_journal : JournalError → LookError
error_of_journal (journal.BadRow bad) = BadRow bad None
error_of_journal journal.OutOfMemory = OutOfMemory
error_of_journal (journal.Store Memory) = OutOfMemory
error_of_journal (journal.Store _) = NotAJournal
error_of_journal journal.Failed = NotAJournal
