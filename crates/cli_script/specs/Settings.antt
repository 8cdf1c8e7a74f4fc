-- What the settings of a script state.
use Rattle.std.specs.Prelude.{◌≡◌, ℕ, List, [], ◌∷◌, ◌++◌, min, Option, Some, None, unwrap_or}
use Rattle.std.specs.List.{flat_map}
use Rattle.sw_base.specs.Refusals.{or_else}
use Rattle.sw_scripted.specs.declared.participant.QueuedAnswer.{QueuedAnswer}
use Rattle.sw_scripted.specs.declared.puts.Put.{Put}
use Rattle.flow_model.specs.declared.flow.Flow.{Flow}
use Rattle.flow_model.specs.declared.flow.Group.{Group}
use Rattle.cli_script.specs.Queues.{at_name}
use Rattle.cli_script.specs.Replies.{advices_at, answers_at, choices_at, restores_at}
use Rattle.cli_script.specs.declared.line.Setting.{Setting}
use Rattle.cli_script.specs.declared.line.Setting.TheVariants as setting
use Rattle.cli_script.specs.declared.replies.Replies.{Replies}
use Rattle.cli_script.specs.declared.settings.Settings.{Settings}

-- what one setting states: the retries, the sessions, a group
abbrev pub retries_in : Setting → Option ℕ
retries_in (setting.Retries n) = Some n
retries_in _ = None

abbrev pub sessions_in : Setting → Option ℕ
sessions_in (setting.Sessions n) = Some n
sessions_in _ = None

abbrev pub groups_in : Setting → List Group
groups_in (setting.Flow g) = g ∷ []
groups_in _ = []

-- what is queued for the name q
abbrev pub answers_in : List ℕ → Setting → List QueuedAnswer
answers_in q (setting.Answer name answer) = at_name q name (answer ∷ []) []
answers_in q _ = []

abbrev pub choices_in : List ℕ → Setting → List (List ℕ)
choices_in q (setting.Choose name text) = at_name q name (text ∷ []) []
choices_in q _ = []

abbrev pub advices_in : List ℕ → Setting → List (List ℕ)
advices_in q (setting.Advice name body) = at_name q name (body ∷ []) []
advices_in q _ = []

abbrev pub restores_in : List ℕ → Setting → List (List Put)
restores_in q (setting.Restore name puts) = at_name q name (puts ∷ []) []
restores_in q _ = []

-- what the last line that says something says
abbrev pub last_in : (Setting → Option ℕ) → List Setting → Option ℕ
last_in f [] = None
last_in f (s ∷ ss) = or_else (last_in f ss) (f s)

-- a flow keeps its retries in a byte; a larger number is refused as 255 is
abbrev pub retries_or : ℕ → Option ℕ → ℕ
retries_or default None = default
retries_or default (Some n) = min n 255

-- the groups of the flow file or else those of the `flow` lines, with the retries of the last `retries`
-- line or else the file's
abbrev pub stated_flow : Option Flow → List Setting → Flow
stated_flow (Some f) ss = record { retries = retries_or f.retries (last_in retries_in ss); groups = f.groups }
stated_flow None ss = record { retries = retries_or 0 (last_in retries_in ss); groups = flat_map groups_in ss }

-- the number of the last `sessions` line, or else 2
abbrev pub stated_sessions : List Setting → ℕ
stated_sessions ss = unwrap_or (last_in sessions_in ss) 2

-- what was kept of the settings so far; a further one is added
pub record AddsSetting (old : Settings) (s : Setting) (new : Settings) : Type 0 where
  pub retries : new.retries ≡ or_else (retries_in s) old.retries
  pub sessions : new.sessions ≡ or_else (sessions_in s) old.sessions
  pub groups : new.groups.items ≡ old.groups.items ++ groups_in s
  pub answers : (q : List ℕ) → answers_at new.replies q ≡ answers_at old.replies q ++ answers_in q s
  pub choices : (q : List ℕ) → choices_at new.replies q ≡ choices_at old.replies q ++ choices_in q s
  pub advices : (q : List ℕ) → advices_at new.replies q ≡ advices_at old.replies q ++ advices_in q s
  pub restores : (q : List ℕ) → restores_at new.replies q ≡ restores_at old.replies q ++ restores_in q s

-- the replies are those of these settings, in their order
pub record IsRepliesOf (ss : List Setting) (replies : Replies) : Type 0 where
  pub answers : (q : List ℕ) → answers_at replies q ≡ flat_map (answers_in q) ss
  pub choices : (q : List ℕ) → choices_at replies q ≡ flat_map (choices_in q) ss
  pub advices : (q : List ℕ) → advices_at replies q ≡ flat_map (advices_in q) ss
  pub restores : (q : List ℕ) → restores_at replies q ≡ flat_map (restores_in q) ss

-- what is kept is what these settings say, in their order
pub record IsKeptOf (ss : List Setting) (kept : Settings) : Type 0 where
  pub retries : kept.retries ≡ last_in retries_in ss
  pub sessions : kept.sessions ≡ last_in sessions_in ss
  pub groups : kept.groups.items ≡ flat_map groups_in ss
  pub replies : IsRepliesOf ss kept.replies
