-- What `journal` has done, and why it ends early. What a file holds no clause can say, nor that its bytes are of one moment.
use Rattle.std.specs.Prelude.{◌≡◌, ◌⊎◌, ⊤, ℕ, List, [], Option, Some, None}
use Rattle.std.specs.Io.KnownBytes.{Appends}
use Rattle.tx_history.specs.declared.journal.JournalView.{JournalView}
use Rattle.journal_store.specs.declared.error.JournalError.{JournalError}
use Rattle.journal_store.specs.declared.error.JournalError.TheVariants as journal
use Rattle.journal_rows.specs.declared.error.BadRow.{BadRow}
use Rattle.journal_copy.specs.Copied.{HoldsFault, HoldsJournal, image_of}
use Rattle.journal_copy.specs.Rest.{IsSomeRest}
use Rattle.journal_copy.specs.declared.rest.Rest.{Rest}
use Rattle.cli_io.specs.Written.{AppendsBeginning}
use Rattle.cli_journal.specs.Shown.{journal_in}
use Rattle.cli_options.specs.declared.choice.JournalOptions.{JournalOptions}
use Rattle.cardswitch.specs.declared.error.RunError.{RunError}
use Rattle.cardswitch.specs.declared.looking.Sight.{Sight}
use Rattle.cardswitch.specs.declared.looking.Sight.TheVariants.{Beside, Whole}
use Rattle.cardswitch.specs.declared.error.RunError.TheVariants as error

-- what is printed of a journal without these rows at fault
unfoldable pub shown_text : JournalOptions → ℕ → List BadRow → JournalView → List ℕ
shown_text o layout out view = journal_in o.style layout out view

-- the layout and the view of the journal that the bytes of a file and of its log hold
pub record IsCopied (layout : ℕ) (view : JournalView) : Type 0 where
  pub db : List ℕ
  pub log : List ℕ
  pub holds : HoldsJournal (image_of db log) layout view

-- the first row at fault of the journal that the bytes of a file and of its log hold
abbrev pub IsCopyFault : BadRow → Type 0
IsCopyFault bad = (db : List ℕ) × (log : List ℕ) × HoldsFault (image_of db log) bad

-- a copy of a journal is shown whole where no row is at fault; otherwise the first one is known, and the journal without such
-- rows is shown
abbrev pub IsSight : Sight → Type 0
IsSight (Whole found) = IsCopied found.layout found.view
IsSight (Beside bad rest) = IsCopyFault bad × IsSomeRest rest

-- the text of a journal without its rows at fault, which are named as left out
abbrev pub text_of : JournalOptions → Rest → List ℕ
text_of o rest = shown_text o rest.layout rest.left_out.items rest.view

-- the text of what is shown of a journal
abbrev pub seen_text : JournalOptions → Sight → List ℕ
seen_text o (Whole found) = shown_text o found.layout [] found.view
seen_text o (Beside bad rest) = text_of o rest

abbrev pub error_of_row : List ℕ → BadRow → RunError
error_of_row path bad = error.Journal path (journal.BadRow bad)

-- the text of a journal without a row at fault was written
abbrev pub IsLooked : JournalOptions → Option (List ℕ) → Option (List ℕ) → Type 0
IsLooked o before after =
    (layout : ℕ) × (view : JournalView) × IsCopied layout view
    × Appends before after (shown_text o layout [] view)

-- the text of one with rows at fault was written
abbrev pub IsLookedBeside : JournalOptions → BadRow → Option (List ℕ) → Option (List ℕ) → Type 0
IsLookedBeside o bad before after =
    IsCopyFault bad × ((rest : Rest) × IsSomeRest rest × Appends before after (text_of o rest))

-- a beginning of either was written
abbrev pub IsLookedInPart : JournalOptions → Option (List ℕ) → Option (List ℕ) → Type 0
IsLookedInPart o before after =
    (s : Sight) × IsSight s × AppendsBeginning before after (seen_text o s)

-- a journal refuses only for a row at fault
abbrev pub IsRowFault : JournalError → Type 0
IsRowFault (journal.BadRow bad) = IsCopyFault bad
IsRowFault _ = ⊥

-- why there is no journal of the file at a path to show
abbrev pub IsFoundFault : List ℕ → RunError → Type 0
IsFoundFault path (error.JournalFile p cause) = p ≡ path
IsFoundFault path (error.Journal p cause) = (p ≡ path) × IsRowFault cause
IsFoundFault path error.OutOfMemory = ⊤
IsFoundFault path _ = ⊥

-- what is written where a row is at fault: nothing, or the text of everything else
abbrev pub IsRowReported : JournalOptions → Option (List ℕ) → Option (List ℕ) → JournalError → Type 0
IsRowReported o before after (journal.BadRow bad) =
    IsCopyFault bad × ((after ≡ before) ⊎ IsLookedBeside o bad before after)
IsRowReported o before after _ = ⊥

-- why its text is not written, or not that of a whole journal: it is not found, and nothing is written; a row is at fault; or
-- writing failed
abbrev pub IsLookFault : JournalOptions → Option (List ℕ) → Option (List ℕ) → RunError → Type 0
IsLookFault o before after (error.JournalFile p cause) = (p ≡ o.path.now) × (after ≡ before)
IsLookFault o before after (error.Journal p cause) = (p ≡ o.path.now) × IsRowReported o before after cause
IsLookFault o before after (error.Write e) = IsLookedInPart o before after
IsLookFault o before after error.OutOfMemory = (after ≡ before) ⊎ IsLookedInPart o before after
IsLookFault o before after _ = ⊥
