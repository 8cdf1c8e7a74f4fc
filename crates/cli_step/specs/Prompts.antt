-- A session at a prompt: what each of its lines does to a plant, and what it writes.
use Rattle.std.specs.Prelude.{◌≡◌, ◌≢◌, ◌⊎◌, ⊤, ℕ, Bool, true, false, List, [], ◌∷◌, ◌++◌, codes, Option, Some, None, is_some}
use Rattle.std.specs.Io.KnownBytes.{Appends}
use Rattle.cli_lines.specs.Feeds.{first_line}
use Rattle.cli_script.specs.Grammar.{meaning_of}
use Rattle.cli_script.specs.Heads.{IsPlacedSetting}
use Rattle.cli_script.specs.Scripts.{HasNoSetting, IsActionRefusal, IsRefusedAt, IsStated, IsUnstated, line_of, others_of}
use Rattle.cli_script.specs.declared.error.ScriptError.{ScriptError}
use Rattle.cli_script.specs.declared.error.ScriptError.TheVariants as script
use Rattle.cli_script.specs.declared.line.Action.{Action}
use Rattle.cli_script.specs.declared.line.Action.TheVariants as action
use Rattle.cli_script.specs.declared.script.Opening.{Opening}
use Rattle.flow_model.specs.declared.flow.Flow.{Flow}
use Rattle.tx_history.specs.declared.journal.JournalView.{JournalView}
use Rattle.tx_engine.specs.Opening.{open_refusal}
use Rattle.tx_engine.specs.declared.error.EngineError.TheVariants as engine
use Rattle.tx_plant.specs.declared.turn.PlantError.{PlantError}
use Rattle.tx_plant.specs.declared.turn.PlantError.TheVariants as plant
use Rattle.tx_trace.specs.Trace.{Text}
use Rattle.cli_step.specs.Doing.{Point, world_of}
use Rattle.cli_step.specs.PromptWords.{prompt_word_of, prompt_word_text}
use Rattle.cli_step.specs.Runs.{Acts, Begun, Means}
use Rattle.cli_step.specs.Shown.{IsReadableLine}
use Rattle.cli_step.specs.Typed.{kept, typed}
use Rattle.cli_step.specs.declared.typed.Typed.{Typed}
use Rattle.cli_step.specs.declared.typed.Typed.TheVariants.{Nothing, Quit, Line}
use Rattle.cli_step.specs.declared.error.StepError.{StepError}
use Rattle.cli_step.specs.declared.error.StepError.TheVariants as error
use Rattle.cli_step.specs.declared.prompt_words.TheConstants.{HELP}
use Rattle.cli_step.specs.declared.prompt_words.PromptWord.{PromptWord}
use Rattle.cli_step.specs.declared.prompt_words.PromptWord.TheVariants as word
use Rattle.cli_step.specs.declared.opening.HeadLine.{HeadLine}
use Rattle.cli_step.specs.declared.opening.HeadLine.TheVariants as head

abbrev pub prompt : Text
prompt = codes "cardswitch> "

-- a plant between two lines, and what is written on standard output and standard error, where that is known
pub record Scene : Type 0 where
  pub at : Point
  pub out : Option (List ℕ)
  pub err : Option (List ℕ)

abbrev pub scene : Point → Option (List ℕ) → Option (List ℕ) → Scene
scene p out err = record { at = p; out = out; err = err }

-- a refusal was reported
abbrev pub IsReported : Option (List ℕ) → Option (List ℕ) → Type 0
IsReported before after = (text : Text) × Appends before after (codes "cardswitch: " ++ text)

-- the prompt was written, and nothing else changed
pub record Prompted (a b : Scene) : Type 0 where
  pub at : b.at ≡ a.at
  pub out : Appends a.out b.out prompt
  pub err : b.err ≡ a.err

-- the line is refused after the settings; memory did not run out
pub record IsRefusedLine (line : List ℕ) : Type 0 where
  pub number : ℕ
  pub cause : ScriptError
  pub is_refusal : cause ≢ script.OutOfMemory
  pub refused : IsActionRefusal number (line_of line) (meaning_of (line_of line)) cause

-- a word of the prompt shows its text, and changes nothing
pub record ShowsWord (w : PromptWord) (a b : Scene) : Type 0 where
  pub at : b.at ≡ a.at
  pub out : Appends a.out b.out (prompt_word_text w (world_of a.at))
  pub err : b.err ≡ a.err

-- the session whose saved context an action shows
abbrev pub saved_session : Action → Option ℕ
saved_session (action.Saved s) = Some s
saved_session _ = None

-- a saved context is shown with its values as text where they are printable; any other action is done as in a script
abbrev pub ActsOrShows : Option ℕ → Action → Point → Text → Point → Type 0
ActsOrShows (Some s) act p text q = IsReadableLine (world_of p) s text × (q ≡ p)
ActsOrShows None act p text q = Acts act p text q

-- an action that was typed at the prompt
abbrev pub ActsTyped : Action → Point → Text → Point → Type 0
ActsTyped act p text q = ActsOrShows (saved_session act) act p text q

-- an action is done, and its text is written
pub record Does (line : List ℕ) (a b : Scene) : Type 0 where
  pub action : Action
  pub means : Means line action
  pub text : Text
  pub acts : ActsTyped action a.at text b.at
  pub out : Appends a.out b.out text
  pub err : b.err ≡ a.err

-- a line is refused, which is reported; nothing else changes
pub record Refuses (line : List ℕ) (a b : Scene) : Type 0 where
  pub refused : IsRefusedLine line
  pub at : b.at ≡ a.at
  pub out : b.out ≡ a.out
  pub err : IsReported a.err b.err

abbrev pub IsRunOrReported : List ℕ → Scene → Scene → Type 0
IsRunOrReported line a b = Does line a b ⊎ Refuses line a b

-- a word of the prompt shows its text; any other line is run, or its refusal reported
abbrev pub AnswersBy : Option PromptWord → List ℕ → Scene → Scene → Type 0
AnswersBy (Some w) line a b = ShowsWord w a b
AnswersBy None line a b = IsRunOrReported line a b

-- a line was answered
abbrev pub Answers : List ℕ → Scene → Scene → Type 0
Answers line a b = AnswersBy (prompt_word_of (line_of line)) line a b

-- what was typed was answered: a comment, and an empty line with nothing to repeat, by nothing
abbrev pub AnswersTyped : Typed → List ℕ → Scene → Scene → Type 0
AnswersTyped Nothing line a b = b ≡ a
AnswersTyped Quit line a b = ⊥
AnswersTyped Line line a b = Answers line a b

-- lines were asked for and answered, one after the other; `last` is the line that an empty one repeats
abbrev pub Talks : List ℕ → List (List ℕ) → Scene → Scene → Type 0
Talks last [] a b = b ≡ a
Talks last (line ∷ lines) a b = (asked : Scene) × (answered : Scene) × Prompted a asked
    × AnswersTyped (typed last line) (kept last line) asked answered × Talks (kept last line) lines answered b

-- these are the first lines, and this follows
abbrev pub AreFirst : List (List ℕ) → List ℕ → List ℕ → Type 0
AreFirst [] bytes rest = rest ≡ bytes
AreFirst (line ∷ lines) bytes rest = (bytes ≢ []) × (line ≡ first_line bytes) × AreFirst lines (others_of bytes) rest

-- at the end of the input the prompt is written, and a line feed
abbrev pub IsLeft : Option (List ℕ) → Option (List ℕ) → Type 0
IsLeft before after = (asked : Option (List ℕ)) × Appends before asked prompt × Appends asked after (10 ∷ [])

-- the first line is `quit`
abbrev pub Quits : List ℕ → Type 0
Quits rest = (rest ≢ []) × ((last : List ℕ) × (typed last (first_line rest) ≡ Quit))

-- a session ends at the end of the input
pub record Leaves (a b : Scene) : Type 0 where
  pub left : IsLeft a.out b.out
  pub err : b.err ≡ a.err
  pub at : b.at ≡ a.at

-- a session ends at the end of the input, or at `quit`, after which nothing more is read
abbrev pub EndsTalk : List ℕ → Scene → Scene → Type 0
EndsTalk rest a b = ((rest ≡ []) × Leaves a b) ⊎ (Quits rest × Prompted a b)

-- all lines of the input were answered, up to its end or to `quit`
pub record Talked (kept input : List ℕ) (a b : Scene) : Type 0 where
  pub lines : List (List ℕ)
  pub rest : List ℕ
  pub are : AreFirst lines input rest
  pub last : Scene
  pub talks : Talks kept lines a last
  pub ends : EndsTalk rest last b

-- what a line of a script is before a flow is opened
abbrev pub IsScriptHeadLine : Bool → List ℕ → HeadLine → Type 0
IsScriptHeadLine has_file line head.Help = ⊥
IsScriptHeadLine has_file line head.Setting = IsPlacedSetting has_file line
IsScriptHeadLine has_file line head.Opens = HasNoSetting line
IsScriptHeadLine has_file line (head.Refused cause) =
    (cause ≢ script.OutOfMemory) × ((before : ℕ) × IsRefusedAt has_file before line cause)

-- the same of any line, by the word of the prompt that it is
abbrev pub IsHeadLineBy : Option PromptWord → Bool → List ℕ → HeadLine → Type 0
IsHeadLineBy (Some word.Help) has_file line kind = kind ≡ head.Help
IsHeadLineBy (Some word.List) has_file line kind = kind ≡ head.Opens
IsHeadLineBy (Some word.Info) has_file line kind = kind ≡ head.Opens
IsHeadLineBy None has_file line kind = IsScriptHeadLine has_file line kind

abbrev pub IsHeadLine : Bool → List ℕ → HeadLine → Type 0
IsHeadLine has_file line kind = IsHeadLineBy (prompt_word_of (line_of line)) has_file line kind

-- the settings that were taken so far, line after line, and what is written
pub record Heading : Type 0 where
  pub settings : List ℕ
  pub out : Option (List ℕ)
  pub err : Option (List ℕ)

abbrev pub heading : List ℕ → Option (List ℕ) → Option (List ℕ) → Heading
heading settings out err = record { settings = settings; out = out; err = err }

-- the number of sessions is refused
abbrev pub HasBadSessions : Flow → ℕ → Type 0
HasBadSessions flow sessions = (view : JournalView) × (open_refusal flow view sessions ≡ Some engine.BadSessions)

-- the settings are refused: one of them, the flow that they state, or the number of sessions
abbrev pub IsUnopened : Option Flow → List ℕ → Type 0
IsUnopened file settings =
    ((line : ℕ) × (cause : ScriptError) × (cause ≢ script.OutOfMemory) × IsUnstated file settings line cause)
    ⊎ ((o : Opening) × IsStated file settings o × HasBadSessions o.flow o.sessions)

-- a refusal is reported; settings and output stay
pub record StaysHead (a b : Heading) : Type 0 where
  pub settings : b.settings ≡ a.settings
  pub out : b.out ≡ a.out
  pub err : IsReported a.err b.err

-- what a line does that opens no flow
abbrev pub HeadActs : Option Flow → HeadLine → List ℕ → Heading → Heading → Type 0
HeadActs file head.Help line a b =
    (b.settings ≡ a.settings) × Appends a.out b.out HELP.now × (b.err ≡ a.err)
HeadActs file head.Setting line a b = (b.settings ≡ a.settings ++ line) × (b.out ≡ a.out) × (b.err ≡ a.err)
HeadActs file head.Opens line a b = IsUnopened file a.settings × StaysHead a b
HeadActs file (head.Refused cause) line a b = StaysHead a b

-- a line was answered that opens no flow
abbrev pub HeadAnswers : Option Flow → List ℕ → Heading → Heading → Type 0
HeadAnswers file line a b = (kind : HeadLine) × IsHeadLine (is_some file) line kind × HeadActs file kind line a b

-- the prompt was written, and nothing else changed
pub record HeadPrompted (a b : Heading) : Type 0 where
  pub settings : b.settings ≡ a.settings
  pub out : Appends a.out b.out prompt
  pub err : b.err ≡ a.err

-- what was typed was answered; no line is repeated, since a setting that is given twice may be refused
abbrev pub HeadTyped : Option Flow → Typed → List ℕ → Heading → Heading → Type 0
HeadTyped file Nothing line a b = b ≡ a
HeadTyped file Quit line a b = ⊥
HeadTyped file Line line a b = HeadAnswers file line a b

-- lines were asked for and answered that open no flow, one after the other
abbrev pub HeadTalks : Option Flow → List (List ℕ) → Heading → Heading → Type 0
HeadTalks file [] a b = b ≡ a
HeadTalks file (line ∷ lines) a b = (asked : Heading) × (answered : Heading) × HeadPrompted a asked
    × HeadTyped file (typed [] line) (kept [] line) asked answered × HeadTalks file lines answered b

-- a plant was made of the flow, the line was answered over it, and then all others of the input
pub record TalkedOver (flow : Flow) (sessions : ℕ) (line others : List ℕ) (out err out_after err_after : Option (List ℕ)) : Type 0 where
  pub start : Point
  pub begun : Begun flow sessions start
  pub answered : Scene
  pub first : Answers line (scene start out err) answered
  pub end : Scene
  pub rest : Talked line others answered end
  pub out_is : out_after ≡ end.out
  pub err_is : err_after ≡ end.err

-- the settings opened a flow, over whose plant the line and the others of the input were answered
pub record OpenedOver (file : Option Flow) (settings line others : List ℕ) (out err out_after err_after : Option (List ℕ)) : Type 0 where
  pub opening : Opening
  pub stated : IsStated file settings opening
  pub over : TalkedOver opening.flow opening.sessions line others out err out_after err_after

-- the line is one that opens it
abbrev pub OpenedAt : Option Flow → List ℕ → List ℕ → List ℕ → Option (List ℕ) → Option (List ℕ) → Option (List ℕ) → Option (List ℕ) → Type 0
OpenedAt file settings line others out err out_after err_after =
    IsHeadLine (is_some file) line head.Opens × OpenedOver file settings line others out err out_after err_after

-- the input, the output and the error output are as they were
abbrev pub AreSame : {L W E : Type 0} → L → L → W → W → E → E → Type 0
AreSame lines lines_now out out_now err err_now = (lines_now ≡ lines) × (out_now ≡ out) × (err_now ≡ err)

-- the flow was opened at the line that was typed first
pub record OpensHead (file : Option Flow) (rest : List ℕ) (asked : Heading) (out_after err_after : Option (List ℕ)) : Type 0 where
  pub some : rest ≢ []
  pub line : typed [] (first_line rest) ≡ Line
  pub opened : OpenedAt file asked.settings (kept [] (first_line rest)) (others_of rest) asked.out asked.err out_after err_after

-- the input ended, or `quit` was typed, or a flow was opened
abbrev pub EndsHead : Option Flow → List ℕ → Heading → Option (List ℕ) → Option (List ℕ) → Type 0
EndsHead file rest asked out_after err_after =
    ((rest ≡ []) × Appends asked.out out_after (10 ∷ []) × (err_after ≡ asked.err))
    ⊎ (Quits rest × (out_after ≡ asked.out) × (err_after ≡ asked.err))
    ⊎ OpensHead file rest asked out_after err_after

-- all lines of the input were asked for and answered, over the flow of a flow file where there is one
pub record IsPrompted (file : Option Flow) (input : List ℕ) (out err out_after err_after : Option (List ℕ)) : Type 0 where
  pub lines : List (List ℕ)
  pub rest : List ℕ
  pub are : AreFirst lines input rest
  pub last : Heading
  pub talks : HeadTalks file lines (heading [] out err) last
  pub asked : Heading
  pub prompted : HeadPrompted last asked
  pub ends : EndsHead file rest asked out_after err_after

-- the number of sessions is refused
abbrev pub is_of_sessions : PlantError → Bool
is_of_sessions (plant.Engine engine.BadSessions) = true
is_of_sessions _ = false

-- why a session ends early: a fault that is not of a line. A refused number of sessions is one only once a plant was made
abbrev pub IsFaultOf : Type 0 → StepError → Type 0
IsFaultOf Made (error.Script e) = ⊥
IsFaultOf Made (error.Plant n cause) = is_of_sessions cause ≡ true → Made
IsFaultOf Made e = ⊤

-- a plant was made of this flow
abbrev pub IsMade : Flow → ℕ → Type 0
IsMade flow sessions = (start : Point) × Begun flow sessions start

-- a plant was made
abbrev pub SomeIsMade : Type 0
SomeIsMade = (flow : Flow) × (sessions : ℕ) × IsMade flow sessions
