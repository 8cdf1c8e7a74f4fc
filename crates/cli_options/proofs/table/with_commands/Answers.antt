use Rattle.std.proofs.lemmas.List.{drop_all}
use Rattle.clap.specs.Words.{app_of}
use Rattle.cli_options.proofs.Rows.{command_added}
use Rattle.cli_options.proofs.table.with_commands.Goals as goal

pub loop-row-preserved : goal.loop-row-preserved
loop-row-preserved c =
    command_added (app_of c.loop-row.program) _ _ _ c.args.rows.now c.loop-row.row-index _ c.loop-row-test.true
    (c.in_ok-program.ensures.shape c.in_ok-command_of.ensures.local) c.in_ok-command_of.ensures.shape c.loop-row.invariant

pub returns : goal.returns
returns c = rw (drop_all c.loop-row.row-index c.args.rows.now c.loop-row-test.false) at c.loop-row.invariant
