-- Which flow and configuration are taken together.
use Rattle.std.specs.Prelude.{◌≡◌, ⊤, ℕ, List, Option, None, Some}
use Rattle.std.specs.Borrow.{Bor}
use Rattle.flow_model.specs.Check.{IsChecked}
use Rattle.flow_model.specs.declared.flow.Flow.{Flow}
use Rattle.cli_config.specs.declared.config.Config.{Config}
use Rattle.cli_check.specs.Refusals.{RefusesSetUp}
use Rattle.cli_check.specs.SetUps.{set_up_of}
use Rattle.cli_check.specs.declared.error.CheckError.{CheckError}
use Rattle.sw_rules.specs.Checked.{IsSetUpChecked}
use Rattle.sw_rules.specs.Spelling.{unknown_from}

-- the set-up is checked, and the configuration allows no rule that there is not
pub record IsSetUpTaken (f : Flow) (c : Config) : Type 0 where
  pub known : unknown_from 0 (set_up_of c).allow ≡ None
  pub checked : IsSetUpChecked f (set_up_of c)

-- a run with a configuration file takes a checked set-up alone; one without takes any
abbrev pub TakesSetUp : Option (Bor (List ℕ)) → Flow → Config → Type 0
TakesSetUp None f c = ⊤
TakesSetUp (Some path) f c = IsSetUpTaken f c

-- why it refuses a set-up: one without a configuration file refuses none
abbrev pub IsMistake : Option (Bor (List ℕ)) → Config → CheckError → Type 0
IsMistake None c e = ⊥
IsMistake (Some path) c e = (f : Flow) × IsChecked f × RefusesSetUp f (set_up_of c) e
