-- The run of a script: what its lines do to a plant, one after the other, and what they print.
use Rattle.std.specs.Prelude.{◌≡◌, ◌≢◌, ◌⊎◌, ⊤, ℕ, ◌+◌, false, List, [], ◌∷◌, ◌++◌, length, take, Option, Some, None, Result, Ok, Err}
use Rattle.std.specs.Io.KnownBytes.{Appends, Keeps}
use Rattle.cli_io.specs.Errors.{IsOfWriting}
use Rattle.cli_io.specs.declared.error.IoError.TheVariants as io
use Rattle.cli_script.specs.Grammar.{meaning_of}
use Rattle.flow_model.specs.Places.{parts_of}
use Rattle.flow_model.specs.declared.flow.Flow.{Flow}
use Rattle.cli_script.specs.Scripts.{IsActionRefusal, IsOpened, IsOpenedAs, crowds, line_of, others_of}
use Rattle.cli_script.specs.declared.actions.Actions.{Actions}
use Rattle.cli_script.specs.declared.line.Action.{Action}
use Rattle.cli_script.specs.declared.line.Action.TheVariants as action
use Rattle.cli_script.specs.declared.script.Script.{Script}
use Rattle.cli_script.specs.declared.line.ScriptLine.TheVariants as line
use Rattle.sw_seating.specs.Seating.{AreSeated}
use Rattle.tx_history.specs.declared.journal.JournalView.{JournalView}
use Rattle.tx_plant.specs.Plant.{Opened, Seen}
use Rattle.tx_plant.specs.declared.turn.Turn.{Turn}
use Rattle.tx_trace.specs.Trace.{Text}
use Rattle.cli_step.specs.Auto.{Autos}
use Rattle.cli_step.specs.Errors.{at_line}
use Rattle.cli_step.specs.Doing.{Point, Says, session_of, turn_of}
use Rattle.cli_step.specs.Shown.{ShowsAction}
use Rattle.cli_step.specs.declared.error.ActionError.{ActionError}
use Rattle.cli_step.specs.declared.error.ActionError.TheVariants as act
use Rattle.tx_plant.specs.declared.turn.PlantError.TheVariants as plant
use Rattle.cli_step.specs.declared.error.StepError.{StepError}
use Rattle.cli_step.specs.declared.error.StepError.TheVariants as error

-- what a line does that is not a turn: `auto`, or it shows something
abbrev pub Queries : Action → Point → Text → Point → Type 0
Queries action.Auto p text q = Autos p text q
Queries a p text q = ShowsAction a p text × (q ≡ p)

-- by the turn that the action asks for, if it asks for one
abbrev pub ActsBy : Option Turn → Action → Point → Text → Point → Type 0
ActsBy (Some t) a p text q = Says t (session_of a) p text q
ActsBy None a p text q = Queries a p text q

-- the line was run, and printed this
abbrev pub Acts : Action → Point → Text → Point → Type 0
Acts a p text q = ActsBy (turn_of a) a p text q

-- what a line printed that was not done: nothing, or the lines of `auto` up to then
abbrev pub IsLeft : Action → Text → Type 0
IsLeft action.Auto text = ⊤
IsLeft a text = text ≡ []

-- lines were run one after the other, with the text of all
abbrev pub Plays : List Action → Point → Text → Point → Type 0
Plays [] p text q = (text ≡ []) × (q ≡ p)
Plays (a ∷ acts) p text q =
    (w : Point) × (one : Text) × (other : Text) × Acts a p one w × Plays acts w other q × (text ≡ one ++ other)

-- the first line means this action
abbrev pub Means : List ℕ → Action → Type 0
Means script a = (script ≢ []) × (meaning_of (line_of script) ≡ Ok (line.Action a)) × (crowds a ≡ false)

-- the first lines mean these actions, and this follows
abbrev pub AreLines : List Action → List ℕ → List ℕ → Type 0
AreLines [] script rest = rest ≡ script
AreLines (a ∷ acts) script rest = Means script a × AreLines acts (others_of script) rest

-- the lines of a script before those that are left were run, and their texts written
pub record Ran (script left : Actions) (p : Point) (before : Option (List ℕ)) (q : Point) (after : Option (List ℕ)) : Type 0 where
  pub acts : List Action
  pub lines : AreLines acts script.rest.now left.rest.now
  pub count : left.lines ≡ script.lines + length acts
  pub text : Text
  pub plays : Plays acts p text q
  pub written : Appends before after text

-- the output failed
abbrev pub IsWriting : StepError → Type 0
IsWriting (error.Io e) = IsOfWriting e
IsWriting e = ⊥

-- why a line's text is not reported as written: the output failed, with a beginning of it written, or the line was not done
abbrev pub IsUnwritten : Option (List ℕ) → Option (List ℕ) → Text → Result Unit ActionError → ℕ → StepError → Type 0
IsUnwritten before after text ran line e = ((count : ℕ) × Appends before after (take count text))
    × (IsWriting e ⊎ (Appends before after text × ((x : ActionError) × (ran ≡ Err x) × (e ≡ at_line line x))))

-- the journal refused, or memory ran out
abbrev pub IsOfJournal : ActionError → Type 0
IsOfJournal act.OutOfMemory = ⊤
IsOfJournal (act.Plant plant.OutOfMemory) = ⊤
IsOfJournal (act.Plant (plant.Journal cause)) = ⊤
IsOfJournal _ = ⊥

-- something was written, and what was there before remains
abbrev pub Grows : Option (List ℕ) → Option (List ℕ) → Type 0
Grows before after = (text : Text) × Appends before after text

-- a line was run, and its text written
abbrev pub RunsLine : Action → Point → Option (List ℕ) → Point → Option (List ℕ) → Type 0
RunsLine a p before q after = (more : Text) × Acts a p more q × Appends before after more

-- a line was not done, or the output failed with a beginning of its text written
abbrev pub IsLineFailed : Action → Point → Option (List ℕ) → Option (List ℕ) → ℕ → StepError → Type 0
IsLineFailed a p before after line e = (more : Text) × (IsLeft a more ⊎ ((q : Point) × Acts a p more q))
    × ((count : ℕ) × Appends before after (take count more))
    × (IsWriting e ⊎ (IsLeft a more × Appends before after more × ((x : ActionError) × (e ≡ at_line line x))))

-- what was written of the next line, which was not done or not written
abbrev pub IsOfNext : List ℕ → Point → Text → Type 0
IsOfNext rest p text = (text ≡ []) ⊎ ((a : Action) × Means rest a × (IsLeft a text ⊎ ((q : Point) × Acts a p text q)))

-- the next line means an action, and was not done
abbrev pub IsFailed : List ℕ → Text → Type 0
IsFailed rest text = (a : Action) × Means rest a × IsLeft a text

-- why a run ends early after this many lines and before the rest: `text` is of the former, `more` of the next line
abbrev pub IsCause : StepError → ℕ → List ℕ → Option (List ℕ) → Option (List ℕ) → Text → Text → Type 0
IsCause (error.Script e) lines rest before after text more =
    (rest ≢ []) × IsActionRefusal (lines + 1) (line_of rest) (meaning_of (line_of rest)) e × Appends before after text
IsCause (error.Plant n e) lines rest before after text more = (n ≡ lines + 1) × IsFailed rest more × Appends before after (text ++ more)
IsCause (error.NoParticipant name) lines rest before after text more = ⊥
IsCause (error.Journal n e) lines rest before after text more = (n ≡ lines + 1) × IsFailed rest more × Appends before after (text ++ more)
IsCause (error.Io (io.Write e)) lines rest before after text more = ⊤
IsCause (error.Io io.OutOfMemory) lines rest before after text more = ⊤
IsCause (error.Io _) lines rest before after text more = Appends before after text

-- a run ended early: what was written is a beginning of the texts of its lines
pub record Stopped (script : Actions) (p : Point) (before : Option (List ℕ)) (e : StepError) (after : Option (List ℕ)) : Type 0 where
  pub acts : List Action
  pub rest : List ℕ
  pub lines : AreLines acts script.rest.now rest
  pub at : Point
  pub text : Text
  pub plays : Plays acts p text at
  pub more : Text
  pub next : IsOfNext rest at more
  pub count : ℕ
  pub written : Appends before after (take count (text ++ more))
  pub cause : IsCause e (script.lines + length acts) rest before after text more

-- a plant was made of the flow, with this many sessions: its engine is opened on a journal that has not failed, and its stations
-- have the names of the flow's participants
pub record Begun (flow : Flow) (sessions : ℕ) (p : Point) : Type 0 where
  pub journal : Seen
  pub fresh : journal.failed ≡ false
  pub view : JournalView
  pub opened : Opened flow sessions view journal p.plant.core p.plant.journal
  pub seated : AreSeated p.names (parts_of flow)

-- all of these lines were run, and their texts written
pub record RanAll (lines : List ℕ) (p : Point) (before : Option (List ℕ)) (q : Point) (after : Option (List ℕ)) : Type 0 where
  pub acts : List Action
  pub means : AreLines acts lines []
  pub text : Text
  pub plays : Plays acts p text q
  pub written : Appends before after text

-- the lines of a script and then others were run over such a plant, and their texts written
pub record PlayedOn (flow : Flow) (sessions : ℕ) (script : Actions) (others : List ℕ) (before after : Option (List ℕ)) : Type 0 where
  pub start : Point
  pub begun : Begun flow sessions start
  pub between : Point
  pub written : Option (List ℕ)
  pub first : RanAll script.rest.now start before between written
  pub end : Point
  pub rest : RanAll others between written end after

-- all lines of a script were run over such a plant, and their texts written
pub record Played (flow : Flow) (sessions : ℕ) (script : Actions) (before after : Option (List ℕ)) : Type 0 where
  pub start : Point
  pub begun : Begun flow sessions start
  pub left : Actions
  pub end : Point
  pub ran : Ran script left start before end after
  pub all : left.rest.now ≡ []

-- a whole script was run, over the flow of a flow file where there is one; a script of only settings writes nothing
abbrev pub IsRun : Option Flow → List ℕ → Option (List ℕ) → Option (List ℕ) → Type 0
IsRun file script before after =
    (IsOpenedAs file script None × Keeps before after)
    ⊎ ((s : Script) × IsOpened file script s × Played s.flow s.sessions s.actions before after)
