-- The settings at the head of a script, one line after the other.
-- for: script::read_head, script::next_setting, script::open_script, script::open_settings, actions::Actions::next
use Rattle.std.proofs.Common.{◌≡◌, ◌≢◌, ◌∙◌, ◌+◌, ◌<◌, ◌++◌, ◌∷◌, [], ℕ, Bool, false, List, length, Option, None, Some, Result, Ok, Err, inl, inr, is_some}
use Rattle.std.proofs.Common.{refl, sym, ap, arith, length-append, length-drop, append-nil}
use Rattle.std.proofs.lemmas.List.Concat.{flat_map-append}
use Rattle.std.proofs.lemmas.List.Folds.{list_any-append}
use Rattle.std.specs.List.{flat_map, list_any}
use Rattle.sw_base.specs.Refusals.{or_else}
use Rattle.flow_model.specs.Check.{first_fault}
use Rattle.flow_model.specs.declared.error.FlowError.{FlowError}
use Rattle.flow_model.specs.declared.flow.Flow.{Flow}
use Rattle.cli_script.proofs.Causes.{memory_meant}
use Rattle.cli_script.specs.Grammar.{Answers, meaning_of}
use Rattle.cli_script.specs.Scripts.{BeginsWith, BeginsWithAction, HasNoSetting, IsAfter, IsHeadRead, IsActionRefusal, IsHeadRefused, IsLineRefusal, IsMeant}
use Rattle.cli_script.specs.Scripts.{IsRefusedAt, IsRefusalAfter, IsScriptRefused, IsUnstated, error_at, is_misplaced, others_of}
use Rattle.cli_script.specs.Settings.{AddsSetting, IsKeptOf, advices_in, answers_in, choices_in, groups_in, last_in, restores_in, retries_in, sessions_in}
use Rattle.cli_script.specs.Settings.{stated_flow}
use Rattle.cli_script.specs.declared.error.LineError.{LineError}
use Rattle.cli_script.specs.declared.error.LineError.TheVariants.{OutOfMemory}
use Rattle.cli_script.specs.declared.error.ScriptError.{ScriptError}
use Rattle.cli_script.specs.declared.error.ScriptError.TheVariants as error
use Rattle.cli_script.specs.declared.line.ScriptLine.{ScriptLine}
use Rattle.cli_script.specs.declared.line.ScriptLine.TheVariants as line
use Rattle.cli_script.specs.declared.line.Setting.{Setting}
use Rattle.cli_script.specs.declared.settings.Settings.{Settings}

pub fewer : (rest : List ℕ) → rest ≢ [] → length (others_of rest) < length rest
fewer [] some = absurd (some refl)
fewer (b ∷ bs) some = grind (arith, length-drop)

pub one_more : (ss : List Setting) (s : Setting) (script rest : List ℕ) → IsAfter ss script rest → BeginsWith rest s
    → IsAfter (ss ++ s ∷ []) script (others_of rest)
one_more [] s script rest after begins = (rw after at begins, ap others_of after)
one_more (t ∷ ts) s script rest after begins = (after.0, one_more ts s (others_of script) rest after.1 begins)

or_none : (r : Option ℕ) → r ≡ or_else r None
or_none None = refl
or_none (Some n) = refl

or_or : (r a b : Option ℕ) → or_else (or_else r a) b ≡ or_else r (or_else a b)
or_or None a b = refl
or_or (Some n) a b = refl

last_more : (f : Setting → Option ℕ) (ss : List Setting) (s : Setting)
    → last_in f (ss ++ s ∷ []) ≡ or_else (f s) (last_in f ss)
last_more f [] s = or_none (f s)
last_more f (t ∷ ts) s = ap (λ r. or_else r (f t)) (last_more f ts s) ∙ or_or (f s) (last_in f ts) (f t)

flat_more : {A : Type 0} (f : Setting → List A) (ss : List Setting) (s : Setting)
    → flat_map f (ss ++ s ∷ []) ≡ flat_map f ss ++ f s
flat_more f ss s = flat_map-append f ss (s ∷ []) ∙ ap (λ x. flat_map f ss ++ x) (append-nil (f s))

kept_more : (ss : List Setting) (s : Setting) (old new : Settings) → IsKeptOf ss old → AddsSetting old s new
    → IsKeptOf (ss ++ s ∷ []) new
kept_more ss s old new kept adds = record {
  retries = adds.retries ∙ ap (or_else (retries_in s)) kept.retries ∙ sym (last_more retries_in ss s);
  sessions = adds.sessions ∙ ap (or_else (sessions_in s)) kept.sessions ∙ sym (last_more sessions_in ss s);
  groups = adds.groups ∙ ap (λ gs. gs ++ groups_in s) kept.groups ∙ sym (flat_more groups_in ss s);
  replies = record {
    answers = λ q. adds.answers q ∙ ap (λ xs. xs ++ answers_in q s) (kept.replies.answers q) ∙ sym (flat_more (answers_in q) ss s);
    choices = λ q. adds.choices q ∙ ap (λ xs. xs ++ choices_in q s) (kept.replies.choices q) ∙ sym (flat_more (choices_in q) ss s);
    advices = λ q. adds.advices q ∙ ap (λ xs. xs ++ advices_in q s) (kept.replies.advices q) ∙ sym (flat_more (advices_in q) ss s);
    restores = λ q. adds.restores q ∙ ap (λ xs. xs ++ restores_in q s) (kept.replies.restores q) ∙ sym (flat_more (restores_in q) ss s);
  };
}

pub none_more : (p : Setting → Bool) (ss : List Setting) (s : Setting) → list_any p ss ≡ false → p s ≡ false
    → list_any p (ss ++ s ∷ []) ≡ false
none_more p ss s none one = rw (list_any-append p ss (s ∷ []), none, one) refl

pub head_more : (has_file : Bool) (script rest : List ℕ) (old new : Settings) (lines : ℕ) (s : Setting)
    → IsHeadRead has_file script old rest lines → BeginsWith rest s → is_misplaced has_file s ≡ false
    → AddsSetting old s new → IsHeadRead has_file script new (others_of rest) (lines + 1)
head_more has_file script rest old new lines s head begins placed adds = record {
  stated = head.stated ++ s ∷ [];
  count = length-append head.stated (s ∷ []) ∙ ap (λ n. n + 1) head.count;
  after = one_more head.stated s script rest head.after begins;
  states = kept_more head.stated s old new head.states adds;
  placed = none_more (is_misplaced has_file) head.stated s head.placed placed;
}

pub meant : (meaning : Result ScriptLine LineError) (x : ScriptLine) → Answers meaning (Ok x) → meaning ≡ Ok x
meant (Ok y) x answers = ap Ok (sym answers)
meant (Err e) x answers = cc

-- what `read_line` refuses is refused at its line
line_refused_as : (has_file : Bool) (number : ℕ) (text : List ℕ) (meaning : Result ScriptLine LineError) (cause : LineError)
    → (Answers meaning (Err OutOfMemory) → IsMeant meaning) → Answers meaning (Err cause)
    → IsLineRefusal has_file number text meaning (error_at number text cause)
line_refused_as has_file number text meaning OutOfMemory memory answers = memory answers
line_refused_as has_file number text (Ok x) cause memory answers = cc
line_refused_as has_file number text (Err e) cause memory answers = ((refl, refl), sym answers)

pub line_refused : (has_file : Bool) (number : ℕ) (text : List ℕ) (cause : LineError) → Answers (meaning_of text) (Err cause)
    → IsLineRefusal has_file number text (meaning_of text) (error_at number text cause)
line_refused has_file number text cause answers =
    line_refused_as has_file number text (meaning_of text) cause (memory_meant text) answers

-- so it is after the settings
action_refused_as : (number : ℕ) (text : List ℕ) (meaning : Result ScriptLine LineError) (cause : LineError)
    → (Answers meaning (Err OutOfMemory) → IsMeant meaning) → Answers meaning (Err cause)
    → IsActionRefusal number text meaning (error_at number text cause)
action_refused_as number text meaning OutOfMemory memory answers = memory answers
action_refused_as number text (Ok x) cause memory answers = cc
action_refused_as number text (Err e) cause memory answers = ((refl, refl), sym answers)

pub action_refused : (number : ℕ) (text : List ℕ) (cause : LineError) → Answers (meaning_of text) (Err cause)
    → IsActionRefusal number text (meaning_of text) (error_at number text cause)
action_refused number text cause answers =
    action_refused_as number text (meaning_of text) cause (memory_meant text) answers

-- memory may run out at a setting
pub setting_refused : (has_file : Bool) (script rest : List ℕ) (kept : Settings) (lines : ℕ) (s : Setting)
    → IsHeadRead has_file script kept rest lines → BeginsWith rest s → IsHeadRefused has_file script error.OutOfMemory
setting_refused has_file script rest kept lines s head begins = record {
  stated = head.stated;
  rest = rest;
  after = head.after;
  placed = head.placed;
  some = begins.0;
  refused = (line.Setting s, begins.1);
}

-- where a script goes on after its settings, it does so with an action
pub acts : (rest : List ℕ) → HasNoSetting rest → length rest ≢ 0 → BeginsWithAction rest
acts rest (inl none) some = absurd (some (ap length none))
acts rest (inr begins) some = begins

-- the flow that the settings state is refused at the first action
pub flow_refused : (file : Option Flow) (script rest : List ℕ) (kept : Settings) (lines : ℕ) (f : Flow) (cause : FlowError)
    → IsHeadRead (is_some file) script kept rest lines → BeginsWithAction rest
    → ((ss : List Setting) → IsKeptOf ss kept → f ≡ stated_flow file ss) → first_fault f ≡ Some cause
    → IsScriptRefused file script (error.Flow (lines + 1) cause)
flow_refused file script rest kept lines f cause head begins states fault = record {
  stated = head.stated;
  rest = rest;
  after = head.after;
  placed = head.placed;
  some = begins.0;
  refused = (ap (λ n. n + 1) (sym head.count), begins, ap first_fault (sym (states head.stated head.states)) ∙ fault);
}

-- a refusal at a script's head is one of the script
pub head_refused : (file : Option Flow) (script : List ℕ) (e : ScriptError) → IsHeadRefused (is_some file) script e
    → IsScriptRefused file script e
head_refused file script e head = record {
  stated = head.stated;
  rest = head.rest;
  after = head.after;
  placed = head.placed;
  some = head.some;
  refused = as_script e head.refused;
} where
  as_script : (d : ScriptError) → IsRefusedAt (is_some file) (length head.stated) head.rest d
      → IsRefusalAfter file head.stated head.rest d
  as_script (error.Line n cause found) refused = refused
  as_script (error.FlowBesideFile n found) refused = refused
  as_script (error.LateSetting n found) refused = refused
  as_script (error.Crowded n found) refused = refused
  as_script (error.Flow n cause) refused = absurd refused
  as_script error.OutOfMemory refused = refused

-- and the flow that the settings of a prompt state
pub stated_refused : (file : Option Flow) (settings rest : List ℕ) (kept : Settings) (lines line : ℕ) (f : Flow) (cause : FlowError)
    → IsHeadRead (is_some file) settings kept rest lines → HasNoSetting rest
    → ((ss : List Setting) → IsKeptOf ss kept → f ≡ stated_flow file ss) → first_fault f ≡ Some cause
    → IsUnstated file settings line (error.Flow line cause)
stated_refused file settings rest kept lines line f cause head ends states fault = (
  refl,
  record {
    stated = head.stated;
    rest = rest;
    after = head.after;
    ends = ends;
    placed = head.placed;
    fault = ap first_fault (sym (states head.stated head.states)) ∙ fault;
  },
)

-- a refusal at their head
pub head_unstated : (file : Option Flow) (settings : List ℕ) (line : ℕ) (e : ScriptError) → IsHeadRefused (is_some file) settings e
    → IsUnstated file settings line e
head_unstated file settings line (error.Line n cause found) head = head
head_unstated file settings line (error.FlowBesideFile n found) head = head
head_unstated file settings line (error.LateSetting n found) head = head
head_unstated file settings line (error.Crowded n found) head = head
head_unstated file settings line (error.Flow n cause) head = absurd head.refused
head_unstated file settings line error.OutOfMemory head = tt
