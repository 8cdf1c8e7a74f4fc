-- Why a flow and a configuration are not taken together.
use Rattle.std.specs.Prelude.{◌≡◌, ⊤, ℕ, List, None}
use Rattle.flow_model.specs.declared.flow.Flow.{Flow}
use Rattle.sw_rules.specs.Checked.{IsSetUpChecked}
use Rattle.sw_rules.specs.Spelling.{unknown_from}
use Rattle.sw_rules.specs.declared.set_up.SetUp.{SetUp}
use Rattle.cli_check.specs.declared.error.CheckError.{CheckError}
use Rattle.cli_check.specs.declared.error.CheckError.TheVariants.{Mistakes, OutOfMemory, UnknownRule}

-- there is a name that no rule has
abbrev pub RefusesRules : List (List ℕ) → CheckError → Type 0
RefusesRules names OutOfMemory = ⊤
RefusesRules names (UnknownRule u) = ¬ (unknown_from 0 names ≡ None)
RefusesRules names (Mistakes m) = ⊥

-- the same, or the set-up is not checked
abbrev pub RefusesSetUp : Flow → SetUp → CheckError → Type 0
RefusesSetUp f s OutOfMemory = ⊤
RefusesSetUp f s (UnknownRule u) = ¬ (unknown_from 0 s.allow ≡ None)
RefusesSetUp f s (Mistakes m) = ¬ IsSetUpChecked f s
