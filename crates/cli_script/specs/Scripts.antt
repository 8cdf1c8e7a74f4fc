-- A script: the settings at its head, and the lines after them.
use Rattle.std.specs.Prelude.{◌≡◌, ◌≢◌, ◌⊎◌, ⊤, ℕ, ◌+◌, ◌&&◌, Bool, true, false, List, [], ◌∷◌, length, Option, Some, None, Result, Ok, Err, is_some}
use Rattle.std.specs.Borrow.{Bor}
use Rattle.std.specs.List.{after_first, before_first, list_any}
use Rattle.flow_model.specs.Check.{IsChecked, first_fault}
use Rattle.flow_model.specs.declared.error.FlowError.{FlowError}
use Rattle.flow_model.specs.declared.flow.Flow.{Flow}
use Rattle.cli_io.specs.Quoting.{quoted}
use Rattle.cli_script.specs.Grammar.{meaning_of}
use Rattle.cli_lines.specs.Feeds.{is_line_feed}
use Rattle.sw_scripted.specs.Puts.{is_crowded}
use Rattle.cli_script.specs.Settings.{IsKeptOf, IsRepliesOf, stated_flow, stated_sessions}
use Rattle.cli_script.specs.declared.error.LineError.{LineError}
use Rattle.cli_script.specs.declared.error.LineError.TheVariants as refusal
use Rattle.cli_script.specs.declared.error.ScriptError.{ScriptError}
use Rattle.cli_script.specs.declared.error.ScriptError.TheVariants as error
use Rattle.cli_script.specs.declared.actions.Actions.{Actions}
use Rattle.cli_script.specs.declared.line.Action.{Action}
use Rattle.cli_script.specs.declared.line.Action.TheVariants.{Offer}
use Rattle.cli_script.specs.declared.line.ScriptLine.{ScriptLine}
use Rattle.cli_script.specs.declared.line.ScriptLine.TheVariants as line
use Rattle.cli_script.specs.declared.line.Setting.{Setting}
use Rattle.cli_script.specs.declared.line.Setting.TheVariants as setting
use Rattle.cli_script.specs.declared.script.Opening.{Opening}
use Rattle.cli_script.specs.declared.script.Script.{Script}
use Rattle.cli_script.specs.declared.settings.Settings.{Settings}

-- the first line
abbrev pub line_of : List ℕ → List ℕ
line_of script = before_first is_line_feed script

-- what follows the first line
abbrev pub others_of : List ℕ → List ℕ
others_of script = after_first is_line_feed script

-- the first line of the script means this setting
abbrev pub BeginsWith : List ℕ → Setting → Type 0
BeginsWith script s = (script ≢ []) × (meaning_of (line_of script) ≡ Ok (line.Setting s))

-- the script begins with the lines of these settings, and this comes after them
abbrev pub IsAfter : List Setting → List ℕ → List ℕ → Type 0
IsAfter [] script rest = rest ≡ script
IsAfter (s ∷ ss) script rest = BeginsWith script s × IsAfter ss (others_of script) rest

-- the line has a meaning, as has every line at which out of memory is reported
abbrev pub IsMeant : Result ScriptLine LineError → Type 0
IsMeant meaning = (x : ScriptLine) × (meaning ≡ Ok x)

-- the first line of the script means an action
abbrev pub BeginsWithAction : List ℕ → Type 0
BeginsWithAction script = (script ≢ []) × ((a : Action) × (meaning_of (line_of script) ≡ Ok (line.Action a)))

-- the settings end here: the script is at its end, or its first line means an action
abbrev pub HasNoSetting : List ℕ → Type 0
HasNoSetting rest = (rest ≡ []) ⊎ BeginsWithAction rest

abbrev pub gives_group : Setting → Bool
gives_group (setting.Flow g) = true
gives_group _ = false

-- beside a flow file no line gives a group
abbrev pub is_misplaced : Bool → Setting → Bool
is_misplaced has_file s = has_file && gives_group s

-- the error of the line of this number and text
abbrev pub error_at : ℕ → List ℕ → LineError → ScriptError
error_at n text refusal.OutOfMemory = error.OutOfMemory
error_at n text cause = error.Line n cause (quoted text)

-- the line of this number is reported, and its text
abbrev pub NamesLine : ℕ → List ℕ → ℕ → List ℕ → Type 0
NamesLine number text n found = (n ≡ number) × (found ≡ quoted text)

-- why the line of this number, text and meaning is refused
abbrev pub IsLineRefusal : Bool → ℕ → List ℕ → Result ScriptLine LineError → ScriptError → Type 0
IsLineRefusal has_file number text meaning (error.Line n cause found) =
    NamesLine number text n found × (meaning ≡ Err cause)
IsLineRefusal has_file number text meaning (error.FlowBesideFile n found) =
    NamesLine number text n found
    × ((s : Setting) × (meaning ≡ Ok (line.Setting s)) × (is_misplaced has_file s ≡ true))
IsLineRefusal has_file number text meaning (error.LateSetting n found) = ⊥
IsLineRefusal has_file number text meaning (error.Crowded n found) = ⊥
IsLineRefusal has_file number text meaning (error.Flow n cause) = ⊥
IsLineRefusal has_file number text meaning error.OutOfMemory = IsMeant meaning

-- the next line is refused, which comes after this many others
abbrev pub IsRefusedAt : Bool → ℕ → List ℕ → ScriptError → Type 0
IsRefusedAt has_file lines rest e =
    IsLineRefusal has_file (lines + 1) (line_of rest) (meaning_of (line_of rest)) e

-- the next setting with what follows its line, or none, or why its line is refused
abbrev pub IsNextSetting : Bool → ℕ → List ℕ → Result (Option (Setting × Bor (List ℕ))) ScriptError → Type 0
IsNextSetting has_file lines rest (Ok None) = HasNoSetting rest
IsNextSetting has_file lines rest (Ok (Some p)) =
    BeginsWith rest p.0 × (is_misplaced has_file p.0 ≡ false) × (p.1.now ≡ others_of rest)
IsNextSetting has_file lines rest (Err e) =
    (rest ≢ []) × IsRefusedAt has_file lines rest e

-- what was kept of the lines of settings at the head of a script
pub record IsHeadRead (has_file : Bool) (script : List ℕ) (kept : Settings) (rest : List ℕ) (lines : ℕ) : Type 0 where
  pub stated : List Setting
  pub count : length stated ≡ lines
  pub after : IsAfter stated script rest
  pub states : IsKeptOf stated kept
  pub placed : list_any (is_misplaced has_file) stated ≡ false

-- why a script is refused at its head: the first line that is refused, after lines of settings that are not
pub record IsHeadRefused (has_file : Bool) (script : List ℕ) (e : ScriptError) : Type 0 where
  pub stated : List Setting
  pub rest : List ℕ
  pub after : IsAfter stated script rest
  pub placed : list_any (is_misplaced has_file) stated ≡ false
  pub some : rest ≢ []
  pub refused : IsRefusedAt has_file (length stated) rest e

-- why a script is refused after these settings: the next line is, or at the first action the flow that they state
abbrev pub IsRefusalAfter : Option Flow → List Setting → List ℕ → ScriptError → Type 0
IsRefusalAfter file ss rest (error.Flow n cause) =
    (n ≡ length ss + 1) × BeginsWithAction rest × (first_fault (stated_flow file ss) ≡ Some cause)
IsRefusalAfter file ss rest e = IsRefusedAt (is_some file) (length ss) rest e

-- the lines before the one that is reported are settings that are allowed there, so that it is the first fault
pub record IsScriptRefused (file : Option Flow) (script : List ℕ) (e : ScriptError) : Type 0 where
  pub stated : List Setting
  pub rest : List ℕ
  pub after : IsAfter stated script rest
  pub placed : list_any (is_misplaced (is_some file)) stated ≡ false
  pub some : rest ≢ []
  pub refused : IsRefusalAfter file stated rest e

-- all of the script's settings state the flow, which is checked, and the replies; the other lines are to come
pub record IsOpened (file : Option Flow) (script : List ℕ) (s : Script) : Type 0 where
  pub stated : List Setting
  pub after : IsAfter stated script s.actions.rest.now
  pub placed : list_any (is_misplaced (is_some file)) stated ≡ false
  pub acts : BeginsWithAction s.actions.rest.now
  pub count : length stated ≡ s.actions.lines
  pub flow : s.flow ≡ stated_flow file stated
  pub checked : IsChecked s.flow
  pub sessions : s.sessions ≡ stated_sessions stated
  pub replies : IsRepliesOf stated s.replies

-- a script of only settings has nothing to come
abbrev pub IsOpenedAs : Option Flow → List ℕ → Option Script → Type 0
IsOpenedAs file script None = (ss : List Setting) × IsAfter ss script [] × (list_any (is_misplaced (is_some file)) ss ≡ false)
IsOpenedAs file script (Some s) = IsOpened file script s

-- the settings at the head of these bytes state the flow, which is checked, the number of sessions and the replies
pub record IsStated (file : Option Flow) (settings : List ℕ) (o : Opening) : Type 0 where
  pub stated : List Setting
  pub rest : List ℕ
  pub after : IsAfter stated settings rest
  pub ends : HasNoSetting rest
  pub placed : list_any (is_misplaced (is_some file)) stated ≡ false
  pub flow : o.flow ≡ stated_flow file stated
  pub checked : IsChecked o.flow
  pub sessions : o.sessions ≡ stated_sessions stated
  pub replies : IsRepliesOf stated o.replies

-- the flow that they state is refused
pub record HasFlowFault (file : Option Flow) (settings : List ℕ) (cause : FlowError) : Type 0 where
  pub stated : List Setting
  pub rest : List ℕ
  pub after : IsAfter stated settings rest
  pub ends : HasNoSetting rest
  pub placed : list_any (is_misplaced (is_some file)) stated ≡ false
  pub fault : first_fault (stated_flow file stated) ≡ Some cause

-- why they are not opened at the line of this number: one of their lines is refused, or their flow is
abbrev pub IsUnstated : Option Flow → List ℕ → ℕ → ScriptError → Type 0
IsUnstated file settings line (error.Flow n cause) = (n ≡ line) × HasFlowFault file settings cause
IsUnstated file settings line error.OutOfMemory = ⊤
IsUnstated file settings line e = IsHeadRefused (is_some file) settings e

-- the context that the line offers has too many names
abbrev pub crowds : Action → Bool
crowds (Offer ps) = is_crowded ps
crowds _ = false

-- why the line of this number, text and meaning is refused after the settings
abbrev pub IsActionRefusal : ℕ → List ℕ → Result ScriptLine LineError → ScriptError → Type 0
IsActionRefusal number text meaning (error.Line n cause found) =
    NamesLine number text n found × (meaning ≡ Err cause)
IsActionRefusal number text meaning (error.LateSetting n found) =
    NamesLine number text n found × ((s : Setting) × (meaning ≡ Ok (line.Setting s)))
IsActionRefusal number text meaning (error.Crowded n found) =
    NamesLine number text n found × ((a : Action) × (meaning ≡ Ok (line.Action a)) × (crowds a ≡ true))
IsActionRefusal number text meaning (error.FlowBesideFile n found) = ⊥
IsActionRefusal number text meaning (error.Flow n cause) = ⊥
IsActionRefusal number text meaning error.OutOfMemory = IsMeant meaning

-- how many bytes are not read yet
abbrev pub bytes_left : Actions → ℕ
bytes_left a = length a.rest.now

-- the next action and what follows its line, or the end, or why the next line is refused; the last two change nothing
abbrev pub IsNextAction : Actions → Actions → Result (Option Action) ScriptError → Type 0
IsNextAction old new (Ok None) = (old.rest.now ≡ []) × (new ≡ old)
IsNextAction old new (Ok (Some a)) = (old.rest.now ≢ []) × (new.rest.now ≡ others_of old.rest.now)
    × (new.lines ≡ old.lines + 1) × (meaning_of (line_of old.rest.now) ≡ Ok (line.Action a)) × (crowds a ≡ false)
IsNextAction old new (Err e) = let text = line_of old.rest.now in
    (old.rest.now ≢ []) × IsActionRefusal (old.lines + 1) text (meaning_of text) e × (new ≡ old)
