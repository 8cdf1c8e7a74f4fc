-- What is shown of a journal, in either form.
use Rattle.std.specs.Prelude.{ℕ, List, ◌++◌, Option, Some, None}
use Rattle.std.specs.List.{flat_map}
use Rattle.sw_context.specs.Pairs.{Pairs}
use Rattle.sw_json.specs.Contexts.{context_at}
use Rattle.tx_history.specs.declared.journal.JournalView.{JournalView}
use Rattle.tx_history.specs.declared.journal.Row.{Row}
use Rattle.tx_history.specs.declared.journal.WaitingContext.{WaitingContext}
use Rattle.cli_forms.specs.declared.masking.Masking.{Masking}
use Rattle.cli_decode.specs.Decoded.{frame_text}
use Rattle.journal_rows.specs.declared.error.BadRow.{BadRow}
use Rattle.cli_forms.specs.declared.journal.JournalForm.{JournalForm}
use Rattle.cli_forms.specs.declared.journal.JournalForm.TheVariants as form
use Rattle.cli_forms.specs.declared.journal.Style.{Style}
use Rattle.cli_journal.specs.declared.owner.Owner.{Owner}
use Rattle.cli_journal.specs.declared.owner.Owner.TheVariants.{Transaction, Shelf}
use Rattle.cli_journal.specs.Entries.{Text}
use Rattle.cli_journal.specs.Json.{advised_json, entry_json, head_json, place_members, refused_json, row_json, waiting_json}
use Rattle.cli_journal.specs.LeftOut.{left_out_as}
use Rattle.cli_journal.specs.Owners.{id_of}
use Rattle.cli_journal.specs.Text.{entry_text, head_text, place_text, refused_text, row_text, waiting_text}

-- ---- a context

abbrev pub entry_as : JournalForm → Masking → Owner → Text × Text → Text
entry_as form.Text k o e = entry_text k (id_of o) e
entry_as form.Json k o e = entry_json k o e

abbrev pub refused_as : JournalForm → Owner → Text
refused_as form.Text o = refused_text
refused_as form.Json o = refused_json o

abbrev pub entry_in : Style → Owner → Text × Text → Text
entry_in s o e = entry_as s.form s.masking o e

-- the lines of the entries, or that of a context that is refused
abbrev pub entries_in : Style → Owner → Option Pairs → Text
entries_in s o (Some es) = flat_map (entry_in s o) es
entries_in s o None = refused_as s.form o

-- the lines of the context that bytes spell
unfoldable pub context_in : Style → Owner → List ℕ → Text
context_in s o bytes = entries_in s o (context_at bytes)

-- ---- the items

abbrev pub row_as : JournalForm → ℕ → Row → Text
row_as form.Text id r = row_text id r
row_as form.Json id r = row_json id r

-- the lines of a transaction, and then those of its context
abbrev pub row_in : Style → ℕ × Row → Text
row_in s r = row_as s.form r.0 r.1 ++ context_in s (Transaction r.0) r.1.context

abbrev pub waiting_as : JournalForm → ℕ → WaitingContext → Text
waiting_as form.Text id w = waiting_text id w
waiting_as form.Json id w = waiting_json id w

-- the same of a context of the shelf
abbrev pub waiting_in : Style → ℕ × WaitingContext → Text
waiting_in s w = waiting_as s.form w.0 w.1 ++ context_in s (Shelf w.0) w.1.context

-- an advice of this place, and the lines of its message
abbrev pub advice_as : JournalForm → ℕ → ℕ × ℕ → Text → Text
advice_as form.Text next_id place message = place_text next_id place ++ message
advice_as form.Json next_id place message = place_members next_id place ++ advised_json message

-- the same of an advice and its message, the age by the next id
abbrev pub advice_in : Style → ℕ → (ℕ × ℕ) × List ℕ → Text
advice_in s next_id a = advice_as s.form next_id a.0 (frame_text s.masking a.0.0 a.1)

-- ---- the journal

-- by the layout and the next id
abbrev pub head_as : JournalForm → ℕ → ℕ → Text
head_as form.Text layout next_id = head_text layout next_id
head_as form.Json layout next_id = head_json layout next_id

abbrev pub items_in : Style → JournalView → Text
items_in s v =
    flat_map (row_in s) v.rows ++ (flat_map (waiting_in s) v.shelf ++ flat_map (advice_in s v.next_id) v.advices)

-- the layout, the next id, the rows that are left out, and then transactions, shelf and advices, each in the order of the view
abbrev pub journal_in : Style → ℕ → List BadRow → JournalView → Text
journal_in s layout out v = head_as s.form layout v.next_id ++ (flat_map (left_out_as s.form) out ++ items_in s v)
