-- The lines of the rows at fault that are left out of what is shown.
use Rattle.std.specs.Prelude.{◌++◌, codes}
use Rattle.std.specs.Fmt.{signed_decimal}
use Rattle.journal_rows.specs.declared.error.BadRow.{BadRow}
use Rattle.journal_rows.specs.declared.error.JournalTable.{JournalTable}
use Rattle.journal_rows.specs.declared.error.JournalTable.TheVariants.{Advice, Joined, Member, Meta, Part, Shelf, Tx}
use Rattle.cli_forms.specs.declared.journal.JournalForm.{JournalForm}
use Rattle.cli_forms.specs.declared.journal.JournalForm.TheVariants as form
use Rattle.cli_journal.specs.Entries.{Text}

-- a table as the error of a bad row names it
abbrev pub table_name : JournalTable → Text
table_name Meta = codes "Meta"
table_name Part = codes "Part"
table_name Tx = codes "Tx"
table_name Member = codes "Member"
table_name Joined = codes "Joined"
table_name Shelf = codes "Shelf"
table_name Advice = codes "Advice"

-- `left out TABLE ID`
abbrev pub left_out_line : BadRow → Text
left_out_line bad = codes "left out " ++ (table_name bad.table ++ (codes " " ++ (signed_decimal bad.id ++ codes "\n")))

-- `{"left_out":"TABLE","id":ID}`
abbrev pub left_out_json : BadRow → Text
left_out_json bad =
    codes "{\"left_out\":\"" ++ (table_name bad.table ++ (codes "\",\"id\":" ++ (signed_decimal bad.id ++ codes "}\n")))

abbrev pub left_out_as : JournalForm → BadRow → Text
left_out_as form.Text bad = left_out_line bad
left_out_as form.Json bad = left_out_json bad
