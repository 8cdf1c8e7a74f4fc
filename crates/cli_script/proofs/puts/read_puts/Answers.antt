use Rattle.std.proofs.Common.{◌∙◌, sym}
use Rattle.cli_script.proofs.Spelled.{bad_refused, good_refused}
use Rattle.cli_script.specs.Puts.{put_spelled}
use Rattle.cli_script.specs.Words.{further_words}
use Rattle.cli_script.specs.declared.error.LineError.TheVariants.{Entry}
use Rattle.cli_script.proofs.puts.read_puts.Goals as goal

pub returns-in-Err : goal.returns-in-Err
returns-in-Err c =
    bad_refused put_spelled Entry (further_words c.args.text.now) (sym c.has_bad_put.ensures ∙ c.if-has_bad_put.true)

pub returns-in-Err-2 : goal.returns-in-Err-2
returns-in-Err-2 c =
    good_refused put_spelled Entry (further_words c.args.text.now) (sym c.has_bad_put.ensures ∙ c.if-has_bad_put.false)
