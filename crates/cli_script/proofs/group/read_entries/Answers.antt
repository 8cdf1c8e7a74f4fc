use Rattle.std.proofs.Common.{◌∙◌, sym}
use Rattle.cli_script.proofs.Spelled.{bad_refused, good_refused}
use Rattle.cli_script.specs.Groups.{entry_spelled}
use Rattle.cli_script.specs.Words.{further_words}
use Rattle.cli_script.specs.declared.error.LineError.TheVariants.{Marks}
use Rattle.cli_script.proofs.group.read_entries.Goals as goal

pub returns-in-Err : goal.returns-in-Err
returns-in-Err c =
    bad_refused entry_spelled Marks (further_words c.args.text.now) (sym c.has_bad_entry.ensures ∙ c.if-has_bad_entry.true)

pub returns-in-Err-2 : goal.returns-in-Err-2
returns-in-Err-2 c =
    good_refused entry_spelled Marks (further_words c.args.text.now) (sym c.has_bad_entry.ensures ∙ c.if-has_bad_entry.false)
