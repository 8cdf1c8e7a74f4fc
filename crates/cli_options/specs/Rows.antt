-- What a row of the table of subcommands says.
use Rattle.std.specs.Prelude.{Bool, List, [], ◌∷◌, Some}
use Rattle.clap.specs.Words.{App, Rule, Text, new_app, new_rule, with_rule, with_subcommand}
use Rattle.clap.specs.declared.builder.action.ArgAction.TheVariants.{SetTrue}
use Rattle.cli_options.specs.declared.table.CommandRow.{CommandRow}
use Rattle.cli_options.specs.declared.table.Given.{Given}
use Rattle.cli_options.specs.declared.table.Given.TheVariants.{Value, Optional, Flag, Word}
use Rattle.cli_options.specs.declared.table.OptionRow.{OptionRow}

-- an option with a value, or with one that may be left out, a flag, or a word of its own
abbrev pub rule_with : Text → Given → Bool → Rule
rule_with name (Value value) required = record (new_rule name) { long = Some name; value_names = 1; required = required }
rule_with name (Optional value missing) required =
    record (new_rule name) { long = Some name; value_names = 1; range = Some (record { start_inclusive = 0; end_inclusive = 1 }); missing = missing.now ∷ []; required = required }
rule_with name Flag required = record (new_rule name) { long = Some name; action = Some SetTrue; required = required }
rule_with name (Word value) required = record (new_rule name) { value_names = 1; required = required }

abbrev pub rule_for : OptionRow → Rule
rule_for row = rule_with row.name.now row.given row.is_required

abbrev pub with_options : App → List OptionRow → App
with_options app [] = app
with_options app (row ∷ rows) = with_options (with_rule app (rule_for row)) rows

abbrev pub app_for : CommandRow → App
app_for row = with_options (new_app row.name.now) row.options.now

abbrev pub with_commands : App → List CommandRow → App
with_commands app [] = app
with_commands app (row ∷ rows) = with_commands (with_subcommand app (app_for row).top) rows
