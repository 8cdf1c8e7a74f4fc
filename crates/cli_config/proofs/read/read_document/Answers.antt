use Rattle.std.proofs.Common.{◌≡◌, None, arith, subst, sym}
use Rattle.std.proofs.lemmas.Grind.{common_steps}
use Rattle.toml.specs.View.{table_view}
use Rattle.cli_config.specs.Checked.{IsChecked}
use Rattle.cli_config.specs.Faults.{first_fault}
use Rattle.cli_config.proofs.CheckedConfig.{config_checked}
use Rattle.cli_config.proofs.read.read_document.Goals as goal

pub returns-in_ok-config_of-in-None-clause-checked : goal.returns-in_ok-config_of-in-None-clause-checked
returns-in_ok-config_of-in-None-clause-checked c =
    let none : first_fault (table_view c.args.top.now) ≡ None = grind (arith, common_steps) in
    subst IsChecked (sym c.in_ok-config_of-in-None.ensures) (config_checked (table_view c.args.top.now) none)
