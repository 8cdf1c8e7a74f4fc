use Rattle.std.proofs.Common.{◌∙◌, refl}
use Rattle.std.proofs.lemmas.List.{drop_all}
use Rattle.clap.specs.Words.{app_of}
use Rattle.cli_options.proofs.Rows.{option_added}
use Rattle.cli_options.proofs.table.command_of.Goals as goal

pub loop-option-preserved : goal.loop-option-preserved
loop-option-preserved c = record {
  shape = option_added (app_of c.loop-option.command) _ _ _ c.args.row.options.now c.loop-option.option-index _ c.loop-option-test.true
      (c.in_ok-command.ensures.shape c.option_of.ensures.local) c.option_of.ensures.rule c.loop-option.invariant.shape;
  local = c.in_ok-command.ensures.globals ∙ rw (c.loop-option.invariant.local, c.option_of.ensures.local) refl;
}

pub returns-clause-shape : goal.returns-clause-shape
returns-clause-shape c = rw (drop_all c.loop-option.option-index c.args.row.options.now c.loop-option-test.false) at c.loop-option.invariant.shape

pub returns-clause-local : goal.returns-clause-local
returns-clause-local c = c.loop-option.invariant.local
