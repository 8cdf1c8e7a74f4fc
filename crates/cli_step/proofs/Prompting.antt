-- A session at a prompt, one line after the other.
-- for: prompt::ask, prompt::leave, prompt::report, prompt::show_word, prompt::answer, prompt::talk, opening::talk_over, opening::run_prompted
use Rattle.std.proofs.Common.{◌≡◌, ◌≢◌, ◌∙◌, ◌++◌, ◌∷◌, [], ℕ, ◌+◌, Bool, true, false, List, Option, None, Some, IfSome, Result, Err, Ok}
use Rattle.std.proofs.Common.{IfErr, OnOk, ap, inl, inr, refl, sym, subst}
use Rattle.std.specs.Bool.{⊤}
use Rattle.std.specs.Borrow.{Bor}
use Rattle.std.specs.Io.KnownBytes.{Appends}
use Rattle.cli_io.specs.Written.{AppendsBeginning}
use Rattle.cli_lines.specs.Lines.{IsNextLine}
use Rattle.cli_script.specs.Grammar.{meaning_of}
use Rattle.cli_script.specs.Heads.{IsPlacedSetting}
use Rattle.cli_script.specs.Scripts.{IsActionRefusal, IsNextAction, IsNextSetting, line_of, others_of}
use Rattle.cli_script.specs.declared.actions.Actions.{Actions}
use Rattle.cli_script.specs.declared.error.ScriptError.{ScriptError}
use Rattle.cli_script.specs.declared.error.ScriptError.TheVariants as script
use Rattle.cli_script.specs.declared.line.Action.{Action}
use Rattle.cli_script.specs.declared.line.Setting.{Setting}
use Rattle.flow_model.specs.declared.flow.Flow.{Flow}
use Rattle.tx_engine.specs.declared.error.EngineError.TheVariants as engine
use Rattle.tx_plant.specs.Plant.{Seen, Unmade}
use Rattle.tx_plant.specs.declared.turn.PlantError.{PlantError}
use Rattle.tx_plant.specs.declared.turn.PlantError.TheVariants as plant
use Rattle.tx_trace.specs.Trace.{Text}
use Rattle.cli_step.proofs.Joining.{Known, if_some}
use Rattle.cli_step.specs.Doing.{Point, world_of}
use Rattle.cli_step.specs.Errors.{at_line}
use Rattle.cli_step.specs.Prompts.{ActsOrShows, Answers, AnswersBy, AnswersTyped, AreFirst, HasBadSessions, HeadAnswers, HeadPrompted, HeadTalks, HeadTyped}
use Rattle.cli_step.specs.Prompts.{IsFaultOf, IsHeadLine, IsHeadLineBy, IsPrompted, IsReported, IsRunOrReported, Leaves, OpenedAt, Prompted, Scene}
use Rattle.cli_step.specs.Prompts.{Heading, Talked, TalkedOver, Talks, heading, is_of_sessions, saved_session, scene}
use Rattle.cli_step.specs.Shown.{IsReadableLine}
use Rattle.cli_step.specs.Typed.{kept, typed}
use Rattle.cli_step.specs.declared.typed.Typed.{Typed}
use Rattle.cli_step.specs.declared.typed.Typed.TheVariants.{Line, Nothing, Quit}
use Rattle.cli_step.specs.PromptWords.{prompt_word_of}
use Rattle.cli_step.specs.Runs.{Begun, Grows, IsLineFailed, IsOfJournal, IsWriting, Means, RunsLine}
use Rattle.cli_step.specs.declared.error.ActionError.{ActionError}
use Rattle.cli_step.specs.declared.error.ActionError.TheVariants as act
use Rattle.cli_step.specs.declared.error.StepError.{StepError}
use Rattle.cli_step.specs.declared.opening.HeadLine.{HeadLine}
use Rattle.cli_step.specs.declared.prompt_words.PromptWord.{PromptWord}
use Rattle.cli_step.specs.declared.error.StepError.TheVariants as error

-- faults

pub writing_fault : (Made : Type 0) (e : StepError) → IsWriting e → IsFaultOf Made e
writing_fault Made (error.Io e) w = tt
writing_fault Made (error.Script e) w = absurd w
writing_fault Made (error.Plant n e) w = absurd w
writing_fault Made (error.NoParticipant name) w = absurd w
writing_fault Made (error.Journal n e) w = absurd w

action_fault : (n : ℕ) (Made : Type 0) → Made → (e : ActionError) → IsFaultOf Made (at_line n e)
action_fault n Made made act.OutOfMemory = tt
action_fault n Made made (act.Plant plant.OutOfMemory) = tt
action_fault n Made made (act.Plant (plant.Journal cause)) = tt
action_fault n Made made (act.Plant (plant.Engine cause)) = λ _. made
action_fault n Made made (act.Plant (plant.Seating cause)) = λ _. made

pub journal_fault : (n : ℕ) (Made : Type 0) (e : ActionError) → IsOfJournal e → IsFaultOf Made (at_line n e)
journal_fault n Made act.OutOfMemory h = tt
journal_fault n Made (act.Plant plant.OutOfMemory) h = tt
journal_fault n Made (act.Plant (plant.Journal cause)) h = tt
journal_fault n Made (act.Plant (plant.Engine cause)) h = absurd h
journal_fault n Made (act.Plant (plant.Seating cause)) h = absurd h

-- any other refusal of a plant than that of its number of sessions
pub other_fault : (n : ℕ) (e : PlantError) → is_of_sessions e ≡ false → IsFaultOf ⊥ (at_line n (act.Plant e))
other_fault n plant.OutOfMemory other = tt
other_fault n (plant.Journal cause) other = tt
other_fault n (plant.Engine cause) other = λ is. let both : true ≡ false = sym is ∙ other in cc
other_fault n (plant.Seating cause) other = λ is. cc

-- a fault remains one where more is known of plants
pub fault_more : {First Second : Type 0} → (First → Second) → (e : StepError) → IsFaultOf First e → IsFaultOf Second e
fault_more f (error.Script e) h = absurd h
fault_more f (error.Plant n e) h = λ is. f (h is)
fault_more f (error.NoParticipant name) h = tt
fault_more f (error.Journal n e) h = tt
fault_more f (error.Io e) h = tt

pub line_fault : (a : Action) (p : Point) (before after : Known) (n : ℕ) (e : StepError) → IsLineFailed a p before after n e
    → IsFaultOf ⊤ e
line_fault a p before after n e (more, printed, beginning, inl writing) = writing_fault ⊤ e writing
line_fault a p before after n e (more, printed, beginning, inr why) =
    subst (IsFaultOf ⊤) (sym why.2.1) (action_fault n ⊤ tt why.2.0)

-- what was written before remains

pub beginning_grows : (before after : Known) (text : Text) → AppendsBeginning before after text → Grows before after
beginning_grows before after text (first, rest, joined, written) = (first, written)

failed_grows : (a : Action) (p : Point) (before after : Known) (n : ℕ) (e : StepError) → IsLineFailed a p before after n e
    → Grows before after
failed_grows a p before after n e (more, printed, (count, written), why) = (_, written)

ran_line_grows : (a : Action) (p q : Point) (before after : Known) → RunsLine a p before q after → Grows before after
ran_line_grows a p q before after (more, acts, written) = (more, written)

-- lines one after the other

-- the line that is kept after these
abbrev pub kept_after : List ℕ → List (List ℕ) → List ℕ
kept_after last [] = last
kept_after last (line ∷ lines) = kept_after (kept last line) lines

kept_more : (last : List ℕ) (lines : List (List ℕ)) (line : List ℕ) → kept_after last (lines ++ line ∷ []) ≡ kept (kept_after last lines) line
kept_more last [] line = refl
kept_more last (l ∷ lines) line = kept_more (kept last l) lines line

-- a line was typed, and what it means was done, after the line that is kept
abbrev pub DoesTyped : List ℕ → List ℕ → Scene → Scene → Type 0
DoesTyped last line a b = AnswersTyped (typed last line) (kept last line) a b

pub talks_more : (last : List ℕ) (lines : List (List ℕ)) (line : List ℕ) (a b asked c : Scene) → Talks last lines a b → Prompted b asked
    → DoesTyped (kept_after last lines) line asked c → Talks last (lines ++ line ∷ []) a c
talks_more last [] line a b asked c same prompted answers = (asked, c, subst (λ s. Prompted s asked) same prompted, answers, refl)
talks_more last (l ∷ lines) line a b asked c (first, second, one, other, more) prompted answers =
    (first, second, one, other, talks_more (kept last l) lines line second b asked c more prompted answers)

abbrev pub HeadDoesTyped : Option Flow → List ℕ → Heading → Heading → Type 0
HeadDoesTyped file line a b = HeadTyped file (typed [] line) (kept [] line) a b

pub head_talks_more : (file : Option Flow) (lines : List (List ℕ)) (line : List ℕ) (a b asked c : Heading) → HeadTalks file lines a b
    → HeadPrompted b asked → HeadDoesTyped file line asked c → HeadTalks file (lines ++ line ∷ []) a c
head_talks_more file [] line a b asked c same prompted answers =
    (asked, c, subst (λ s. HeadPrompted s asked) same prompted, answers, refl)
head_talks_more file (l ∷ lines) line a b asked c (first, second, one, other, more) prompted answers =
    (first, second, one, other, head_talks_more file lines line second b asked c more prompted answers)

pub first_more : (lines : List (List ℕ)) (line bytes rest after : List ℕ) → AreFirst lines bytes rest → AreFirst (line ∷ []) rest after
    → AreFirst (lines ++ line ∷ []) bytes after
first_more [] line bytes rest after same one = subst (λ (l : List ℕ). AreFirst (line ∷ []) l after) same one
first_more (l ∷ lines) line bytes rest after (some, is, more) one = (some, is, first_more lines line (others_of bytes) rest after more one)

-- lines were answered up to here, where the bytes that were to come are known; `last` is kept first, and `later` after them
pub record TalkedTo (last later bytes : List ℕ) (now : Known) (a b : Scene) : Type 0 where
  pub lines : List (List ℕ)
  pub rest : List ℕ
  pub is : now ≡ Some rest
  pub are : AreFirst lines bytes rest
  pub keeps : later ≡ kept_after last lines
  pub talks : Talks last lines a b

abbrev pub TalksTo : List ℕ → List ℕ → Known → Known → Scene → Scene → Type 0
TalksTo last later None now a b = Unit {0}
TalksTo last later (Some bytes) now a b = TalkedTo last later bytes now a b

pub none_talked : (last : List ℕ) (known : Known) (a : Scene) → TalksTo last last known known a a
none_talked last None a = tt
none_talked last (Some bytes) a = record { lines = []; rest = bytes; is = refl; are = refl; keeps = refl; talks = refl }

pub talks_on : (last later : List ℕ) (x y z : Known) (line : List ℕ) (a b asked c : Scene) → TalksTo last later x y a b
    → IsNextLine y z (Some line) → Prompted b asked → DoesTyped later line asked c → TalksTo last (kept later line) x z a c
talks_on last later None y z line a b asked c to next prompted answers = tt
talks_on last later (Some bytes) y z line a b asked c to next prompted answers =
    let is : IsNextLine (Some to.rest) z (Some line) = subst (λ (k : Known). IsNextLine k z (Some line)) to.is next in
    let done : DoesTyped (kept_after last to.lines) line asked c = subst (λ (l : List ℕ). DoesTyped l line asked c) to.keeps answers in
    record {
      lines = to.lines ++ line ∷ [];
      rest = others_of to.rest;
      is = is.2;
      are = first_more to.lines line bytes to.rest (others_of to.rest) to.are (is.0, is.1, refl);
      keeps = ap (λ l. kept l line) to.keeps ∙ sym (kept_more last to.lines line);
      talks = talks_more last to.lines line a b asked c to.talks prompted done;
    }

-- a comment, or an empty line with nothing to repeat
pub nothing_typed : (last line : List ℕ) (kind : Typed) (a : Scene) → kind ≡ typed last line → kind ≡ Nothing → DoesTyped last line a a
nothing_typed last line kind a is nothing =
    subst (λ (k : Typed). AnswersTyped k (kept last line) a a) (sym nothing ∙ is) refl

-- a line that is answered
pub line_typed : (last line : List ℕ) (kind : Typed) (a b : Scene) → kind ≡ typed last line → kind ≡ Line → Answers (kept last line) a b
    → DoesTyped last line a b
line_typed last line kind a b is line_is answers =
    subst (λ (k : Typed). AnswersTyped k (kept last line) a b) (sym line_is ∙ is) answers

pub talked : (last later : List ℕ) (x y z : Known) (a b c : Scene) → TalksTo last later x y a b → IsNextLine y z None → Leaves b c
    → IfSome x (λ input. Talked last input a c)
talked last later None y z a b c to next leaves = tt
talked last later (Some bytes) y z a b c to next leaves =
    let is : IsNextLine (Some to.rest) z None = subst (λ (k : Known). IsNextLine k z None) to.is next in
    record { lines = to.lines; rest = to.rest; are = to.are; last = b; talks = to.talks; ends = inl (is.0, leaves) }

pub quits : (last later : List ℕ) (x y z : Known) (line : List ℕ) (a b c : Scene) → TalksTo last later x y a b → IsNextLine y z (Some line)
    → typed later line ≡ Quit → Prompted b c → IfSome x (λ input. Talked last input a c)
quits last later None y z line a b c to next quit prompted = tt
quits last later (Some bytes) y z line a b c to next quit prompted =
    let is : IsNextLine (Some to.rest) z (Some line) = subst (λ (k : Known). IsNextLine k z (Some line)) to.is next in
    record {
      lines = to.lines;
      rest = to.rest;
      are = to.are;
      last = b;
      talks = to.talks;
      ends = inr ((is.0, (later, subst (λ (l : List ℕ). typed later l ≡ Quit) is.1 quit)), prompted);
    }

-- the same before a flow is opened

pub record HeadTalkedTo (file : Option Flow) (bytes : List ℕ) (now : Known) (a b : Heading) : Type 0 where
  pub lines : List (List ℕ)
  pub rest : List ℕ
  pub is : now ≡ Some rest
  pub are : AreFirst lines bytes rest
  pub talks : HeadTalks file lines a b

abbrev pub HeadTalksTo : Option Flow → Known → Known → Heading → Heading → Type 0
HeadTalksTo file None now a b = Unit {0}
HeadTalksTo file (Some bytes) now a b = HeadTalkedTo file bytes now a b

head_none : (file : Option Flow) (known : Known) (a : Heading) → HeadTalksTo file known known a a
head_none file None a = tt
head_none file (Some bytes) a = record { lines = []; rest = bytes; is = refl; are = refl; talks = refl }

pub head_first : (file : Option Flow) (known : Known) (settings : List ℕ) (out err : Known) → settings ≡ []
    → HeadTalksTo file known known (heading [] out err) (heading settings out err)
head_first file known settings out err none =
    subst (λ (s : List ℕ). HeadTalksTo file known known (heading [] out err) (heading s out err)) (sym none) (head_none file known (heading [] out err))

pub head_on : (file : Option Flow) (x y z : Known) (line : List ℕ) (a b asked c : Heading) → HeadTalksTo file x y a b
    → IsNextLine y z (Some line) → HeadPrompted b asked → HeadDoesTyped file line asked c → HeadTalksTo file x z a c
head_on file None y z line a b asked c to next prompted answers = tt
head_on file (Some bytes) y z line a b asked c to next prompted answers =
    let is : IsNextLine (Some to.rest) z (Some line) = subst (λ (k : Known). IsNextLine k z (Some line)) to.is next in
    record {
      lines = to.lines ++ line ∷ [];
      rest = others_of to.rest;
      is = is.2;
      are = first_more to.lines line bytes to.rest (others_of to.rest) to.are (is.0, is.1, refl);
      talks = head_talks_more file to.lines line a b asked c to.talks prompted answers;
    }

-- what was typed before a flow is opened
pub head_nothing : (file : Option Flow) (line : List ℕ) (kind : Typed) (a : Heading) → kind ≡ typed [] line → kind ≡ Nothing → HeadDoesTyped file line a a
head_nothing file line kind a is nothing = subst (λ (k : Typed). HeadTyped file k (kept [] line) a a) (sym nothing ∙ is) refl

pub head_line : (file : Option Flow) (line : List ℕ) (kind : Typed) (a b : Heading) → kind ≡ typed [] line → kind ≡ Line
    → HeadAnswers file (kept [] line) a b → HeadDoesTyped file line a b
head_line file line kind a b is line_is answers = subst (λ (k : Typed). HeadTyped file k (kept [] line) a b) (sym line_is ∙ is) answers

pub head_left : (file : Option Flow) (x y z : Known) (out err : Known) (b asked : Heading) (out_after err_after : Known)
    → HeadTalksTo file x y (heading [] out err) b → IsNextLine y z None → HeadPrompted b asked → Appends asked.out out_after (10 ∷ [])
    → err_after ≡ asked.err → IfSome x (λ input. IsPrompted file input out err out_after err_after)
head_left file None y z out err b asked out_after err_after to next prompted left same = tt
head_left file (Some bytes) y z out err b asked out_after err_after to next prompted left same =
    let is : IsNextLine (Some to.rest) z None = subst (λ (k : Known). IsNextLine k z None) to.is next in
    record {
      lines = to.lines;
      rest = to.rest;
      are = to.are;
      last = b;
      talks = to.talks;
      asked = asked;
      prompted = prompted;
      ends = inl (is.0, left, same);
    }

pub head_opened : (file : Option Flow) (x y z : Known) (line : List ℕ) (out err : Known) (b asked : Heading) (out_after err_after : Known)
    → HeadTalksTo file x y (heading [] out err) b → IsNextLine y z (Some line) → HeadPrompted b asked → typed [] line ≡ Line
    → IfSome z (λ others. OpenedAt file asked.settings (kept [] line) others asked.out asked.err out_after err_after)
    → IfSome x (λ input. IsPrompted file input out err out_after err_after)
head_opened file None y z line out err b asked out_after err_after to next prompted line_is opened = tt
head_opened file (Some bytes) y z line out err b asked out_after err_after to next prompted line_is opened =
    let is : IsNextLine (Some to.rest) z (Some line) = subst (λ (k : Known). IsNextLine k z (Some line)) to.is next in
    let over : OpenedAt file asked.settings (kept [] line) (others_of to.rest) asked.out asked.err out_after err_after =
    subst (λ (k : Known). IfSome k (λ others. OpenedAt file asked.settings (kept [] line) others asked.out asked.err out_after err_after)) is.2 opened in
    record {
      lines = to.lines;
      rest = to.rest;
      are = to.are;
      last = b;
      talks = to.talks;
      asked = asked;
      prompted = prompted;
      ends = inr (inr (record {
        some = is.0;
        line = subst (λ (l : List ℕ). typed [] l ≡ Line) is.1 line_is;
        opened =
            subst (λ (l : List ℕ). OpenedAt file asked.settings (kept [] l) (others_of to.rest) asked.out asked.err out_after err_after) is.1 over;
      }));
    }

pub head_quits : (file : Option Flow) (x y z : Known) (line : List ℕ) (out err : Known) (b asked : Heading) → HeadTalksTo file x y (heading [] out err) b
    → IsNextLine y z (Some line) → HeadPrompted b asked → typed [] line ≡ Quit → IfSome x (λ input. IsPrompted file input out err asked.out asked.err)
head_quits file None y z line out err b asked to next prompted quit = tt
head_quits file (Some bytes) y z line out err b asked to next prompted quit =
    let is : IsNextLine (Some to.rest) z (Some line) = subst (λ (k : Known). IsNextLine k z (Some line)) to.is next in
    record {
      lines = to.lines;
      rest = to.rest;
      are = to.are;
      last = b;
      talks = to.talks;
      asked = asked;
      prompted = prompted;
      ends = inr (inl ((is.0, ([], subst (λ (l : List ℕ). typed [] l ≡ Quit) is.1 quit)), refl, refl));
    }

-- a plant that is not made for its number of sessions

of_sessions : (e : PlantError) → is_of_sessions e ≡ true → e ≡ plant.Engine engine.BadSessions
of_sessions (plant.Engine engine.BadSessions) is = refl
of_sessions (plant.Engine (engine.UnknownParticipant id name)) is = cc
of_sessions (plant.Engine engine.Busy) is = cc
of_sessions (plant.Engine engine.Empty) is = cc
of_sessions (plant.Engine engine.Recovering) is = cc
of_sessions (plant.Engine engine.IdsSpent) is = cc
of_sessions (plant.Engine engine.NotDue) is = cc
of_sessions (plant.Engine engine.NoAdvice) is = cc
of_sessions (plant.Engine engine.NoParticipant) is = cc
of_sessions (plant.Engine engine.NotHeld) is = cc
of_sessions (plant.Engine engine.BadMark) is = cc
of_sessions (plant.Engine engine.NoSession) is = cc
of_sessions (plant.Engine engine.HistoryFull) is = cc
of_sessions (plant.Engine engine.OutOfMemory) is = cc
of_sessions (plant.Engine engine.InUse) is = cc
of_sessions (plant.Engine engine.NotWritten) is = cc
of_sessions (plant.Seating e) is = cc
of_sessions (plant.Journal e) is = cc
of_sessions plant.OutOfMemory is = cc

pub bad_sessions : (flow : Flow) (n : ℕ) (names : List (List ℕ)) (j k : Seen) (e : PlantError) → is_of_sessions e ≡ true
    → Unmade flow n names j e k → HasBadSessions flow n
bad_sessions flow n names j k e is unmade =
    let why : Unmade flow n names j (plant.Engine engine.BadSessions) k = subst (λ (x : PlantError). Unmade flow n names j x k) (of_sessions e is) unmade in
    (why.1.0, why.1.3)

pub talked_over : (flow : Flow) (n : ℕ) (line : List ℕ) (z : Known) (start : Point) (out err : Known) (answered end : Scene) → Begun flow n start
    → Answers line (scene start out err) answered → IfSome z (λ others. Talked line others answered end)
    → IfSome z (λ others. TalkedOver flow n line others out err end.out end.err)
talked_over flow n line z start out err answered end begun first rest = if_some z (λ others talked. record {
  start = start;
  begun = begun;
  answered = answered;
  first = first;
  end = end;
  rest = talked;
  out_is = refl;
  err_is = refl;
}) rest

-- a line of a script, as its next action has it

pub does : (old new : Actions) (line : List ℕ) (action : Action) (p q : Point) (out out_after err : Known) → old.rest.now ≡ line
    → IsNextAction old new (Ok (Some action)) → saved_session action ≡ None → RunsLine action p out q out_after
    → IsRunOrReported line (scene p out err) (scene q out_after err)
does old new line action p q out out_after err same next other (text, acts, written) = inl (record {
  action = action;
  means = subst (λ (l : List ℕ). Means l action) same (next.0, next.3, next.4);
  text = text;
  acts = subst (λ (o : Option ℕ). ActsOrShows o action p text q) (sym other) acts;
  out = written;
  err = refl;
})

pub shows_saved : (old new : Actions) (line : List ℕ) (action : Action) (s : ℕ) (p : Point) (out out_after err : Known) → old.rest.now ≡ line
    → IsNextAction old new (Ok (Some action)) → saved_session action ≡ Some s
    → ((text : Text) × IsReadableLine (world_of p) s text × Appends out out_after text)
    → IsRunOrReported line (scene p out err) (scene p out_after err)
shows_saved old new line action s p out out_after err same next session (text, shown, written) = inl (record {
  action = action;
  means = subst (λ (l : List ℕ). Means l action) same (next.0, next.3, next.4);
  text = text;
  acts = subst (λ (o : Option ℕ). ActsOrShows o action p text p) (sym session) (shown, refl);
  out = written;
  err = refl;
})

pub refuses : (old new : Actions) (line : List ℕ) (cause : ScriptError) (p : Point) (out err err_after : Known) → old.rest.now ≡ line
    → IsNextAction old new (Err cause) → cause ≢ script.OutOfMemory → IsReported err err_after
    → IsRunOrReported line (scene p out err) (scene p out err_after)
refuses old new line cause p out err err_after same next is_refusal reported = inr (record {
  refused = record {
    number = old.lines + 1;
    cause = cause;
    is_refusal = is_refusal;
    refused = subst (λ (l : List ℕ). IsActionRefusal (old.lines + 1) (line_of l) (meaning_of (line_of l)) cause) same next.1;
  };
  at = refl;
  out = refl;
  err = reported;
})

-- a line, by the word of the prompt that it is

pub answers_by : (o : Option PromptWord) (line : List ℕ) (a b : Scene) → o ≡ prompt_word_of (line_of line) → AnswersBy o line a b
    → Answers line a b
answers_by o line a b same answers = subst (λ (x : Option PromptWord). AnswersBy x line a b) same answers

-- a line that was run, or not
pub line_grows : (a : Action) (p q : Point) (before after : Known) (n : ℕ) (r : Result Unit StepError)
    → OnOk r (RunsLine a p before q after) → IfErr r (IsLineFailed a p before after n) → Grows before after
line_grows a p q before after n (Ok u) ran failed = ran_line_grows a p q before after ran
line_grows a p q before after n (Err e) ran failed = failed_grows a p before after n e failed

pub head_by : (o : Option PromptWord) (has_file : Bool) (line : List ℕ) (kind : HeadLine) → o ≡ prompt_word_of (line_of line)
    → IsHeadLineBy o has_file line kind → IsHeadLine has_file line kind
head_by o has_file line kind same is = subst (λ (x : Option PromptWord). IsHeadLineBy x has_file line kind) same is

pub placed : (has_file : Bool) (n : ℕ) (text : List ℕ) (p : Setting × Bor (List ℕ)) → IsNextSetting has_file n text (Ok (Some p))
    → IsPlacedSetting has_file text
placed has_file n text p next = (p.0, next.0, next.1)
