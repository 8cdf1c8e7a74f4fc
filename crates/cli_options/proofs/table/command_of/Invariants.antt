use Rattle.std.proofs.Common.{◌≡◌, drop}
use Rattle.clap.specs.Words.{app_of}
use Rattle.cli_options.specs.CommandLine.{IsLocal}
use Rattle.cli_options.specs.Rows.{app_for, with_options}
use Rattle.cli_options.proofs.table.command_of.Given as goal

abbrev pub invariant-loop-option : goal.invariant-loop-option
invariant-loop-option l = record {
  shape : with_options (app_of l.command) (drop l.option-index l.row.options.now) ≡ app_for l.row;
  local : IsLocal l.command;
}
