-- What `check` has done, and why it refuses its files. What these hold no clause can say.
use Rattle.std.specs.Prelude.{◌≡◌, ⊤, ℕ, List, Option, None, Some}
use Rattle.std.specs.Borrow.{Bor}
use Rattle.flow_model.specs.Check.{IsChecked}
use Rattle.flow_model.specs.declared.flow.Flow.{Flow}
use Rattle.cli_check.specs.Refusals.{RefusesSetUp}
use Rattle.cli_check.specs.SetUps.{set_up_of}
use Rattle.cli_config.specs.declared.config.Config.{Config}
use Rattle.cli_options.specs.CommandLine.{text_of}
use Rattle.cli_options.specs.declared.choice.CheckOptions.{CheckOptions}
use Rattle.run_setup.specs.Profiles.{IsProfileOf}
use Rattle.cardswitch.specs.Runs.{IsConfigAt}
use Rattle.cardswitch.specs.SetUps.{IsMistake, IsSetUpTaken}
use Rattle.cardswitch.specs.declared.error.RunError.{RunError}
use Rattle.cardswitch.specs.declared.error.RunError.TheVariants as error

-- `check` has taken its files
pub record IsCheckDone (o : CheckOptions) : Type 0 where
  pub flow : Flow
  pub config : Config
  pub is_flow : IsChecked flow
  pub stated : IsConfigAt o.config config
  pub taken : IsSetUpTaken flow config

-- the faults of `check`: its flow file, its configuration file, a profile file that this names, and the mistakes of what they hold
abbrev pub IsCheckFault : CheckOptions → RunError → Type 0
IsCheckFault o (error.FlowFile path cause) = path ≡ o.flow.now
IsCheckFault o (error.ConfigFile path cause) = text_of o.config ≡ Some path
IsCheckFault o (error.ProfileFile path cause) = (c : Config) × IsConfigAt o.config c × IsProfileOf c path
IsCheckFault o (error.SetUp e) = (f : Flow) × (c : Config) × IsChecked f × IsConfigAt o.config c × RefusesSetUp f (set_up_of c) e
IsCheckFault o error.OutOfMemory = ⊤
IsCheckFault o _ = ⊥

-- why a run refuses its set-up
abbrev pub IsRunMistake : Option (Bor (List ℕ)) → Config → RunError → Type 0
IsRunMistake path c (error.SetUp e) = IsMistake path c e
IsRunMistake path c error.OutOfMemory = ⊤
IsRunMistake path c _ = ⊥
