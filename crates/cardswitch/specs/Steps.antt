-- What `step` has done, and why it ends early. What a flow file holds no clause can say; the flow of one is checked.
use Rattle.std.specs.Prelude.{◌≡◌, ⊤, ℕ, Bool, true, false, List, Option, Some, None, IfSome}
use Rattle.std.specs.Borrow.{Bor}
use Rattle.flow_model.specs.Check.{IsChecked}
use Rattle.flow_model.specs.declared.flow.Flow.{Flow}
use Rattle.cli_options.specs.CommandLine.{text_of}
use Rattle.run_switch.specs.Links.{switch_routes}
use Rattle.cli_step.specs.Prompts.{IsFaultOf, IsPrompted, SomeIsMade}
use Rattle.cli_step.specs.Runs.{Grows, IsRun}
use Rattle.cli_step.specs.declared.cast.Cast.{Cast}
use Rattle.cli_step.specs.declared.cast.Cast.TheVariants.{Scripted, Switch}
use Rattle.cli_step.specs.declared.error.StepError.{StepError}
use Rattle.cli_step.specs.declared.error.StepError.TheVariants as script
use Rattle.sw_simulated.specs.declared.setup.SimulatedSetup.{SimulatedSetup}
use Rattle.cardswitch.specs.Runs.{IsFlowFault}
use Rattle.cardswitch.specs.declared.error.RunError.{RunError}
use Rattle.cardswitch.specs.declared.error.RunError.TheVariants as error

-- the flow of the flow file that `--flow` names; none without it
abbrev pub IsFileFlow : Option (Bor (List ℕ)) → Option Flow → Type 0
IsFileFlow None file = file ≡ None
IsFileFlow (Some path) file = (flow : Flow) × IsChecked flow × (file ≡ Some flow)

-- why no flow is taken of that file
abbrev pub IsFileFlowFault : Option (Bor (List ℕ)) → RunError → Type 0
IsFileFlowFault None e = ⊥
IsFileFlowFault (Some path) e = IsFlowFault path.now e

-- the script that was to be read, where its bytes are known, was run over this flow, and its text written
abbrev pub RunsScript : Option Flow → Option (List ℕ) → Option (List ℕ) → Option (List ℕ) → Type 0
RunsScript file unread before after = IfSome unread (λ script. IsRun file script before after)

-- `step` has run the script of its input, over the flow of its flow file where it was given one
abbrev pub IsStepped : Option (Bor (List ℕ)) → Option (List ℕ) → Option (List ℕ) → Option (List ℕ) → Type 0
IsStepped path unread before after = (file : Option Flow) × IsFileFlow path file × RunsScript file unread before after

-- a script, its plant or its journal is refused; failed reads and writes and out of memory have errors of their own
abbrev pub IsScriptCause : StepError → Type 0
IsScriptCause (script.Io e) = ⊥
IsScriptCause _ = ⊤

-- why a script was not run to its end; what was written before stands, and after it what its lines printed till then
abbrev pub IsScriptFault : Option (List ℕ) → Option (List ℕ) → RunError → Type 0
IsScriptFault before after (error.Read e) = Grows before after
IsScriptFault before after (error.Step e) = IsScriptCause e × Grows before after
IsScriptFault before after (error.Write e) = Grows before after
IsScriptFault before after error.OutOfMemory = Grows before after
IsScriptFault before after _ = ⊥

-- the faults of `step`, the first of which it reports: its flow file, before which nothing is written, then those of its script
abbrev pub IsStepFault : Option (Bor (List ℕ)) → Option (List ℕ) → Option (List ℕ) → RunError → Type 0
IsStepFault path before after (error.FlowFile p cause) = (text_of path ≡ Some p) × (after ≡ before)
IsStepFault path before after e = IsScriptFault before after e

-- the lines that were to be read, where their bytes are known, were asked for and answered over this flow
abbrev pub PromptsOver : Option Flow → Option (List ℕ) → Option (List ℕ) → Option (List ℕ) → Option (List ℕ) → Option (List ℕ) → Type 0
PromptsOver file unread out err out_after err_after = IfSome unread (λ input. IsPrompted file input out err out_after err_after)

-- `step` has answered the lines of its input at a prompt, over the flow of its flow file where it was given one
abbrev pub IsPromptedStep : Option (Bor (List ℕ)) → Option (List ℕ) → Option (List ℕ) → Option (List ℕ) → Option (List ℕ) → Option (List ℕ) → Type 0
IsPromptedStep path unread out err out_after err_after =
    (file : Option Flow) × IsFileFlow path file × PromptsOver file unread out err out_after err_after

-- a refused line does not end a session at a prompt
abbrev pub IsSessionFault : RunError → Type 0
IsSessionFault (error.Step e) = IsFaultOf SomeIsMade e
IsSessionFault _ = ⊤

-- why a session at a prompt ends early
abbrev pub IsPromptFault : Option (Bor (List ℕ)) → Option (List ℕ) → Option (List ℕ) → RunError → Type 0
IsPromptFault path before after e = IsStepFault path before after e × IsSessionFault e

-- with a prompt or without one; of what a prompt reports this says nothing
abbrev pub IsSteppedBy : Bool → Option (Bor (List ℕ)) → Option (List ℕ) → Option (List ℕ) → Option (List ℕ) → Type 0
IsSteppedBy false path unread before after = IsStepped path unread before after
IsSteppedBy true path unread before after =
    (err : Option (List ℕ)) × (err_after : Option (List ℕ)) × IsPromptedStep path unread before err after err_after

-- why it ends early, with a prompt or without one
abbrev pub IsStepFaultBy : Bool → Option (Bor (List ℕ)) → Option (List ℕ) → Option (List ℕ) → RunError → Type 0
IsStepFaultBy false path before after e = IsStepFault path before after e
IsStepFaultBy true path before after e = IsPromptFault path before after e

-- the limits and routes of the switch's own participants
pub record IsSwitchSetup (setup : SimulatedSetup) : Type 0 where
  pub limit : setup.limit ≡ 10000
  pub stand_in : setup.stand_in ≡ 1000
  pub routes : setup.routes ≡ switch_routes

-- whose participants a script's flow has
abbrev pub IsCastBy : Bool → Cast → Type 0
IsCastBy false who = who ≡ Scripted
IsCastBy true who = (setup : SimulatedSetup) × (who ≡ Switch setup) × IsSwitchSetup setup
