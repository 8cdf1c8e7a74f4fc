-- The errors that end a run, made of those of its parts: out of memory is reported as such.
use Rattle.std.specs.Prelude.{ℕ}
use Rattle.cli_io.specs.declared.error.IoError.TheVariants.{OutOfMemory}
use Rattle.cli_script.specs.declared.error.ScriptError.{ScriptError}
use Rattle.cli_script.specs.declared.error.ScriptError.TheVariants as script
use Rattle.tx_plant.specs.declared.turn.PlantError.TheVariants as plant
use Rattle.cli_step.specs.declared.error.ActionError.{ActionError}
use Rattle.cli_step.specs.declared.error.ActionError.TheVariants as act
use Rattle.cli_step.specs.declared.error.StepError.{StepError}
use Rattle.cli_step.specs.declared.error.StepError.TheVariants.{Io, Journal, Plant, Script}

-- the error of the action on this line
abbrev pub at_line : ℕ → ActionError → StepError
at_line line act.OutOfMemory = Io OutOfMemory
at_line line (act.Plant plant.OutOfMemory) = Io OutOfMemory
at_line line (act.Plant (plant.Journal cause)) = Journal line cause
at_line line (act.Plant cause) = Plant line cause

abbrev pub error_of_script : ScriptError → StepError
error_of_script script.OutOfMemory = Io OutOfMemory
error_of_script e = Script e
