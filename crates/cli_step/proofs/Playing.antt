-- The lines of a script, run one after the other.
-- for: script::run_actions
use Rattle.std.proofs.Common.{◌≡◌, ◌∷◌, ◌++◌, ◌∙◌, ◌⊎◌, [], ℕ, suc, ◌+◌, List, length, take, Option, Some, Result, Ok, Err, IfErr, OnErr, OnOk, inl, inr, refl}
use Rattle.std.proofs.Common.{ap, append-nil, append_assoc, arith, length-append, subst, sym}
use Rattle.std.proofs.KnownBytes.{Appends-kept, Appends-nil, Appends-trans}
use Rattle.std.proofs.lemmas.List.{take_all}
use Rattle.std.specs.Io.KnownBytes.{Appends, Keeps}
use Rattle.cli_script.specs.Scripts.{IsNextAction, others_of}
use Rattle.cli_script.specs.declared.actions.Actions.{Actions}
use Rattle.cli_script.specs.declared.error.ScriptError.{ScriptError}
use Rattle.cli_script.specs.declared.error.ScriptError.TheVariants as script
use Rattle.cli_script.specs.declared.line.Action.{Action}
use Rattle.tx_plant.specs.declared.turn.PlantError.TheVariants as plant
use Rattle.tx_trace.specs.Trace.{Text}
use Rattle.cli_step.specs.Doing.{Adds, Point}
use Rattle.cli_step.specs.Errors.{at_line, error_of_script}
use Rattle.cli_step.specs.Runs.{Acts, AreLines, IsCause, IsFailed, IsLeft, IsLineFailed, IsUnwritten, IsWriting, Means, Plays, Ran, RunsLine, Stopped}
use Rattle.cli_step.specs.declared.error.ActionError.{ActionError}
use Rattle.cli_step.specs.declared.error.ActionError.TheVariants as act
use Rattle.cli_io.specs.declared.error.IoError.TheVariants as io
use Rattle.cli_step.specs.declared.error.StepError.{StepError}
use Rattle.cli_step.specs.declared.error.StepError.TheVariants as error

abbrev Bytes : Type 0
Bytes = Option (List ℕ)

plays_more : (acts : List Action) (a : Action) (p w q : Point) (text more : Text) → Plays acts p text w → Acts a w more q
    → Plays (acts ++ a ∷ []) p (text ++ more) q
plays_more [] a p w q text more done acts =
    (q, more, [], subst (λ v. Acts a v more q) done.1 acts, (refl, refl), ap (λ t. t ++ more) done.0 ∙ sym (append-nil more))
plays_more (x ∷ xs) a p w q text more done acts =
    (done.0, done.1, done.2 ++ more, done.3, plays_more xs a done.0 w q done.2 more done.4 acts, ap (λ t. t ++ more) done.5 ∙ append_assoc done.1 done.2 more)

lines_more : (acts : List Action) (a : Action) (all rest : List ℕ) → AreLines acts all rest → Means rest a
    → AreLines (acts ++ a ∷ []) all (others_of rest)
lines_more [] a all rest lines means = (subst (λ r. Means r a) lines means, ap others_of lines)
lines_more (x ∷ xs) a all rest lines means = (lines.0, lines_more xs a (others_of all) rest lines.1 means)

pub none_ran : (s : Actions) (p : Point) (before : Bytes) → Ran s s p before p before
none_ran s p before = record {
  acts = [];
  lines = refl;
  count = omega arith;
  text = [];
  plays = (refl, refl);
  written = Appends-nil before;
}

means_of : (left new : Actions) (a : Action) → IsNextAction left new (Ok (Some a)) → Means left.rest.now a
means_of left new a next = (next.0, next.3, next.4)

pub ran_more : (s left new : Actions) (a : Action) (p w q : Point) (before mid after : Bytes) (more : Text)
    → Ran s left p before w mid → IsNextAction left new (Ok (Some a)) → Acts a w more q → Appends mid after more
    → Ran s new p before q after
ran_more s left new a p w q before mid after more ran next acts written = record {
  acts = ran.acts ++ a ∷ [];
  lines = subst (AreLines (ran.acts ++ a ∷ []) s.rest.now) (sym next.1) (lines_more ran.acts a s.rest.now left.rest.now ran.lines (means_of left new a next));
  count = let counted = ran.count in let one = next.2 in let long = length-append ran.acts (a ∷ []) in omega arith;
  text = ran.text ++ more;
  plays = plays_more ran.acts a p w q ran.text more ran.plays acts;
  written = Appends-trans before mid after ran.text more ran.written written;
}

whole_text : (text : Text) → take (length text) (text ++ []) ≡ text
whole_text text = take_all (length text) (text ++ []) (omega (arith, length-append text [])) ∙ append-nil text

take_more : (text more : Text) (k : ℕ) → take (length text + k) (text ++ more) ≡ text ++ take k more
take_more [] more k = let all : 0 + k ≡ k = omega arith in ap (λ n. take n more) all
take_more (b ∷ text) more k =
    let all : suc (length text) + k ≡ suc (length text + k) = omega arith in
    ap (λ n. take n (b ∷ (text ++ more))) all ∙ ap (λ t. b ∷ t) (take_more text more k)

-- the next line is refused
pub refused_there : (s left new : Actions) (p w : Point) (before after : Bytes) (e : ScriptError)
    → Ran s left p before w after → IsNextAction left new (Err e) → Stopped s p before (error_of_script e) after
refused_there s left new p w before after e ran next = record {
  acts = ran.acts;
  rest = left.rest.now;
  lines = ran.lines;
  at = w;
  text = ran.text;
  plays = ran.plays;
  more = [];
  next = inl refl;
  count = length ran.text;
  written = subst (Appends before after) (sym (whole_text ran.text)) ran.written;
  cause = cause_of e next;
} where
  cause_of : (d : ScriptError) → IsNextAction left new (Err d)
      → IsCause (error_of_script d) (s.lines + length ran.acts) left.rest.now before after ran.text []
  cause_of script.OutOfMemory reported = tt
  cause_of (script.Line n c f) reported = (reported.0, rw ran.count at (reported.1), ran.written)
  cause_of (script.FlowBesideFile n f) reported = absurd reported.1
  cause_of (script.LateSetting n f) reported = (reported.0, rw ran.count at (reported.1), ran.written)
  cause_of (script.Crowded n f) reported = (reported.0, rw ran.count at (reported.1), ran.written)
  cause_of (script.Flow n c) reported = absurd reported.1

writing_cause : (e : StepError) (lines : ℕ) (rest : List ℕ) (before after : Bytes) (text more : Text) → IsWriting e
    → IsCause e lines rest before after text more
writing_cause (error.Io (io.Write e)) lines rest before after text more w = tt
writing_cause (error.Io io.OutOfMemory) lines rest before after text more w = tt
writing_cause (error.Io (io.Read e)) lines rest before after text more w = absurd w
writing_cause (error.Io io.TooManyReads) lines rest before after text more w = absurd w
writing_cause (error.Script e) lines rest before after text more w = absurd w
writing_cause (error.Plant n e) lines rest before after text more w = absurd w
writing_cause (error.NoParticipant name) lines rest before after text more w = absurd w
writing_cause (error.Journal n e) lines rest before after text more w = absurd w

-- the output fails at its end
pub flush_failed : (s left : Actions) (p w : Point) (before mid after : Bytes) (e : StepError) → Ran s left p before w mid
    → Keeps mid after → IsWriting e → Stopped s p before e after
flush_failed s left p w before mid after e ran kept writing = record {
  acts = ran.acts;
  rest = left.rest.now;
  lines = ran.lines;
  at = w;
  text = ran.text;
  plays = ran.plays;
  more = [];
  next = inl refl;
  count = length ran.text;
  written = subst (Appends before after) (sym (whole_text ran.text)) (Appends-kept before mid after ran.text ran.written kept);
  cause = writing_cause e (s.lines + length ran.acts) left.rest.now before after ran.text [] writing;
}

line_cause : (x : ActionError) (lines n : ℕ) (rest : List ℕ) (before after : Bytes) (text more : Text) → n ≡ lines + 1
    → IsFailed rest more → Appends before after (text ++ more) → IsCause (at_line n x) lines rest before after text more
line_cause act.OutOfMemory lines n rest before after text more number failed written = tt
line_cause (act.Plant plant.OutOfMemory) lines n rest before after text more number failed written = tt
line_cause (act.Plant (plant.Journal c)) lines n rest before after text more number failed written = (number, failed, written)
line_cause (act.Plant (plant.Engine c)) lines n rest before after text more number failed written = (number, failed, written)
line_cause (act.Plant (plant.Seating c)) lines n rest before after text more number failed written = (number, failed, written)

-- the next line is not done, or not written
pub line_failed : (s left new : Actions) (a : Action) (p w : Point) (before mid after : Bytes) (n : ℕ) (e : StepError)
    → Ran s left p before w mid → IsNextAction left new (Ok (Some a)) → n ≡ left.lines + 1 → IsLineFailed a w mid after n e
    → Stopped s p before e after
line_failed s left new a p w before mid after n e ran next number (more, printed, (count, written), why) = record {
  acts = ran.acts;
  rest = left.rest.now;
  lines = ran.lines;
  at = w;
  text = ran.text;
  plays = ran.plays;
  more = more;
  next = inr (a, means_of left new a next, printed);
  count = length ran.text + count;
  written = subst (Appends before after) (sym (take_more ran.text more count))
      (Appends-trans before mid after ran.text (take count more) ran.written written);
  cause = cause_of why;
} where
  cause_of : IsWriting e ⊎ (IsLeft a more × Appends mid after more × ((x : ActionError) × (e ≡ at_line n x)))
      → IsCause e (s.lines + length ran.acts) left.rest.now before after ran.text more
  cause_of (inl writing) = writing_cause e (s.lines + length ran.acts) left.rest.now before after ran.text more writing
  cause_of (inr reported) = subst (λ d. IsCause d (s.lines + length ran.acts) left.rest.now before after ran.text more) (sym reported.2.1)
      (line_cause reported.2.0 (s.lines + length ran.acts) n left.rest.now before after ran.text more (number ∙ ap (λ k. k + 1) ran.count)
      (a, means_of left new a next, reported.0) (Appends-trans before mid after ran.text more ran.written reported.1))

at_ok : {E : Type 0} {First : Type 0} (r : Result Unit E) → r ≡ Ok tt → OnOk r First → First
at_ok (Ok u) same holds = holds
at_ok (Err e) same holds = cc

at_err : {E : Type 0} {First : Type 0} (r : Result Unit E) (x : E) → r ≡ Err x → OnErr r First → First
at_err (Ok u) x same holds = cc
at_err (Err e) x same holds = holds

added_first : (Is : Text → Type 0) (old text : Text) → old ≡ [] → Adds Is old text → Is text
added_first Is old text none (more, is, grown) = subst Is (sym (grown ∙ ap (λ l. l ++ more) none)) is

-- a line was run, by what its action and its writing say
pub line_ran : (a : Action) (p q : Point) (before after : Bytes) (old text : Text) (r : Result Unit ActionError) → old ≡ []
    → OnOk r (Adds (λ more. Acts a p more q) old text) → r ≡ Ok tt → Appends before after text → RunsLine a p before q after
line_ran a p q before after old text r none acts ok written =
    (text, added_first (λ more. Acts a p more q) old text none (at_ok r ok acts), written)

pub line_unwritten : (a : Action) (p q : Point) (before after : Bytes) (old text : Text) (r : Result Unit ActionError) (n : ℕ)
    (e : StepError) → old ≡ [] → OnOk r (Adds (λ more. Acts a p more q) old text) → OnErr r (Adds (IsLeft a) old text)
    → IsUnwritten before after text r n e → IsLineFailed a p before after n e
line_unwritten a p q before after old text r n e none acts failed (beginning, why) =
    (text, printed r acts failed, beginning, cause_of why) where
      printed : (s : Result Unit ActionError) → OnOk s (Adds (λ more. Acts a p more q) old text) → OnErr s (Adds (IsLeft a) old text)
          → IsLeft a text ⊎ ((v : Point) × Acts a p text v)
      printed (Ok u) done left_so = inr (q, added_first (λ more. Acts a p more q) old text none done)
      printed (Err x) done left_so = inl (added_first (IsLeft a) old text none left_so)

      cause_of : IsWriting e ⊎ (Appends before after text × ((x : ActionError) × (r ≡ Err x) × (e ≡ at_line n x)))
          → IsWriting e ⊎ (IsLeft a text × Appends before after text × ((x : ActionError) × (e ≡ at_line n x)))
      cause_of (inl writing) = inl writing
      cause_of (inr why) =
          inr (added_first (IsLeft a) old text none (at_err r why.1.0 why.1.1 failed), why.0, (why.1.0, why.1.2))

pub if_err : {A E : Type 0} {First Second : E → Type 0} (r : Result A E) → ((e : E) → First e → Second e) → IfErr r First → IfErr r Second
if_err (Ok u) f holds = tt
if_err (Err e) f holds = f e holds

pub all_ok : {E : Type 0} {First : Type 0} (r : Result Unit E) → First → OnOk r First
all_ok (Ok u) holds = holds
all_ok (Err e) holds = tt
