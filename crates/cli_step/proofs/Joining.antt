-- Lines that are read and run one after the other.
-- for: script::run_rest, script::play_over, script::run_lines
use Rattle.std.proofs.Common.{◌≡◌, ◌≢◌, ◌∙◌, ◌+◌, ◌≤◌, ◌<◌, ◌^◌, ◌++◌, ◌∷◌, [], ℕ, List, length, Option, None, Some, IfSome, Result, Err, Ok, OnErr, inl}
use Rattle.std.proofs.Common.{inr, is_some, refl, sym, ap, arith, length-append, append-nil, append_assoc, subst}
use Rattle.std.proofs.KnownBytes.{Appends-nil, Appends-trans}
use Rattle.std.specs.Io.KnownBytes.{Keeps}
use Rattle.cli_lines.proofs.FirstLines.{first_parts}
use Rattle.cli_lines.specs.Lines.{IsNextLine}
use Rattle.cli_script.proofs.Continued.{both_precede, first_precedes, line_continues, only_settings, opened_on, others_continue, others_precede}
use Rattle.cli_script.proofs.Heads.{fewer}
use Rattle.cli_script.specs.Grammar.{meaning_of}
use Rattle.cli_script.specs.Heads.{HeadOf, MayPrecede}
use Rattle.cli_script.specs.Scripts.{IsOpened, IsOpenedAs, others_of}
use Rattle.cli_script.specs.declared.actions.Actions.{Actions}
use Rattle.cli_script.specs.declared.line.Action.{Action}
use Rattle.cli_script.specs.declared.script.Script.{Script}
use Rattle.flow_model.specs.declared.flow.Flow.{Flow}
use Rattle.tx_trace.specs.Trace.{Text}
use Rattle.cli_step.specs.Doing.{Point}
use Rattle.cli_step.specs.Runs.{AreLines, Begun, Grows, IsRun, Played, PlayedOn, Plays, Ran, RanAll, Stopped}
use Rattle.cli_step.specs.declared.error.StepError.{StepError}
use Rattle.cli_step.proofs.Gathering.{precedes}

abbrev pub Known : Type 0
Known = Option (List ℕ)

some_more : (k l : List ℕ) → k ≢ [] → k ++ l ≢ []
some_more [] l some = absurd (some refl)
some_more (b ∷ k) l some = λ none. cc

lines_continue : (acts : List Action) (xs rest more : List ℕ) → AreLines acts xs rest → MayPrecede xs more
    → AreLines acts (xs ++ more) (rest ++ more)
lines_continue [] xs rest more same may = ap (λ (l : List ℕ). l ++ more) same
lines_continue (a ∷ acts) xs rest more (means, lines) may = (
  (some_more xs more means.0, ap meaning_of (line_continues xs more means.0 may) ∙ means.1, means.2),
  subst (λ (l : List ℕ). AreLines acts l (rest ++ more)) (sym (others_continue xs more means.0 may))
      (lines_continue acts (others_of xs) rest more lines (others_precede xs more means.0 may)),
)

lines_then : (acts others : List Action) (xs between rest : List ℕ) → AreLines acts xs between → AreLines others between rest
    → AreLines (acts ++ others) xs rest
lines_then [] others xs between rest same lines = subst (λ (l : List ℕ). AreLines others l rest) same lines
lines_then (a ∷ acts) others xs between rest (means, first) lines =
    (means, lines_then acts others (others_of xs) between rest first lines)

plays_then : (acts others : List Action) (p w q : Point) (text more : Text) → Plays acts p text w → Plays others w more q
    → Plays (acts ++ others) p (text ++ more) q
plays_then [] others p w q text more done later =
    subst (λ (t : Text). Plays others p t q) (ap (λ (t : Text). t ++ more) (sym done.0)) (subst (λ v. Plays others v more q) done.1 later)
plays_then (a ∷ acts) others p w q text more done later = (
  done.0,
  done.1,
  done.2 ++ more,
  done.3,
  plays_then acts others done.0 w q done.2 more done.4 later,
  ap (λ (t : Text). t ++ more) done.5
      ∙ append_assoc done.1 done.2 more,
)

ran_none : (p : Point) (before : Known) → RanAll [] p before p before
ran_none p before = record {
  acts = [];
  means = refl;
  text = [];
  plays = (refl, refl);
  written = Appends-nil before;
}

pub ran_then : (xs ys : List ℕ) (p w q : Point) (before between after : Known) → RanAll xs p before w between
    → RanAll ys w between q after → MayPrecede xs ys → RanAll (xs ++ ys) p before q after
ran_then xs ys p w q before between after first last may = record {
  acts = first.acts ++ last.acts;
  means = lines_then first.acts last.acts (xs ++ ys) ys [] (lines_continue first.acts xs [] ys first.means may) last.means;
  text = first.text ++ last.text;
  plays = plays_then first.acts last.acts p w q first.text last.text first.plays last.plays;
  written = Appends-trans before between after first.text last.text first.written last.written;
}

-- a script that was run to its end
pub ran_whole : (script left : Actions) (p q : Point) (before after : Known) → Ran script left p before q after
    → left.rest.now ≡ [] → RanAll script.rest.now p before q after
ran_whole script left p q before after ran none = record {
  acts = ran.acts;
  means = subst (AreLines ran.acts script.rest.now) none ran.lines;
  text = ran.text;
  plays = ran.plays;
  written = ran.written;
}

-- lines were read and run up to these, where the bytes that were to come are known
pub record Reached (bytes : List ℕ) (now : Known) (p : Point) (before : Known) (q : Point) (after : Known) (here most : ℕ) : Type 0 where
  pub done : List ℕ
  pub left : List ℕ
  pub is : now ≡ Some left
  pub whole : bytes ≡ done ++ left
  pub may : MayPrecede done left
  pub ran : RanAll done p before q after
  pub few : here + length done ≤ most

abbrev pub RanTo : Known → Known → Point → Known → Point → Known → ℕ → ℕ → Type 0
RanTo None now p before q after here most = Unit {0}
RanTo (Some bytes) now p before q after here most = Reached bytes now p before q after here most

pub ran_first : (a : Known) (p : Point) (before : Known) (most : ℕ) → RanTo a a p before p before most most
ran_first None p before most = tt
ran_first (Some bytes) p before most = record {
  done = [];
  left = bytes;
  is = refl;
  whole = refl;
  may = inr (inl refl);
  ran = ran_none p before;
  few = omega arith;
}

pub ran_on : (a b c : Known) (p w q : Point) (before between after : Known) (line : List ℕ) (here there most : ℕ)
    → RanTo a b p before w between here most → IsNextLine b c (Some line) → line ≢ [] → RanAll line w between q after
    → there + length line ≤ here → RanTo a c p before q after there most
ran_on None b c p w q before between after line here there most to next some ran few = tt
ran_on (Some bytes) b c p w q before between after line here there most to next some ran few =
    let is : IsNextLine (Some to.left) c (Some line) = subst (λ (k : Known). IsNextLine k c (Some line)) to.is next in
    let rest = others_of to.left in
    let parted : to.left ≡ line ++ rest = sym (first_parts to.left) ∙ ap (λ (l : List ℕ). l ++ rest) (sym is.1) in
    let may : MayPrecede to.done line = precedes to.done to.left line to.may is.0 in
    let last : MayPrecede line rest = subst (λ (l : List ℕ). MayPrecede l rest) (sym is.1) (first_precedes to.left) in
    let long = length-append to.done line in
    let sofar = to.few in
    record {
      done = to.done ++ line;
      left = rest;
      is = is.2;
      whole = to.whole ∙ ap (λ (l : List ℕ). to.done ++ l) parted ∙ sym (append_assoc to.done line rest);
      may = both_precede to.done line rest may some last;
      ran = ran_then to.done line p w q before between after to.ran ran may;
      few = omega arith;
    }

all_done : (bytes done left : List ℕ) → bytes ≡ done ++ left → left ≡ [] → done ≡ bytes
all_done bytes done left whole none = sym (whole ∙ ap (λ (l : List ℕ). done ++ l) none ∙ append-nil done)

pub ran_last : (a b c : Known) (p q : Point) (before after : Known) (here most : ℕ) → RanTo a b p before q after here most
    → IsNextLine b c None → IfSome a (λ bytes. RanAll bytes p before q after)
ran_last None b c p q before after here most to next = tt
ran_last (Some bytes) b c p q before after here most to next =
    let is : IsNextLine (Some to.left) c None = subst (λ (k : Known). IsNextLine k c None) to.is next in
    subst (λ (l : List ℕ). RanAll l p before q after) (all_done bytes to.done to.left to.whole is.0) to.ran

pub few_last : (a b c : Known) (p q : Point) (before after : Known) (here most : ℕ) → RanTo a b p before q after here most
    → IsNextLine b c None → IfSome a (λ bytes. length bytes ≤ most)
few_last None b c p q before after here most to next = tt
few_last (Some bytes) b c p q before after here most to next =
    let is : IsNextLine (Some to.left) c None = subst (λ (k : Known). IsNextLine k c None) to.is next in
    let all = ap length (all_done bytes to.done to.left to.whole is.0) in
    let few = to.few in
    omega arith

few_acts : (acts : List Action) (xs rest : List ℕ) → AreLines acts xs rest → length acts + length rest ≤ length xs
few_acts [] xs rest same = let long = ap length same in omega arith
few_acts (a ∷ acts) xs rest (means, lines) =
    let later = few_acts acts (others_of xs) rest lines in let less = fewer xs means.0 in omega arith

-- a script whose lines were all run
played : (t : Script) (flow : Flow) (sessions : ℕ) (xs : List ℕ) (p q : Point) (before after : Known) → t.flow ≡ flow → t.sessions ≡ sessions
    → t.actions.rest.now ≡ xs → Begun flow sessions p → RanAll xs p before q after → Played t.flow t.sessions t.actions before after
played t flow sessions xs p q before after same_flow same_sessions same begun all =
    let lines : AreLines all.acts t.actions.rest.now [] = subst (λ (l : List ℕ). AreLines all.acts l []) (sym same) all.means in
    let few = few_acts all.acts t.actions.rest.now [] lines in
    let numbered = t.actions.numbered in
    let none : List ℕ = [] in
    let fits : t.actions.lines + length all.acts + length none < 2 ^ 64 = omega arith in
    record {
      start = p;
      begun = subst (λ (f : Flow). Begun f t.sessions p) (sym same_flow) (subst (λ (n : ℕ). Begun flow n p) (sym same_sessions) begun);
      left = record t.actions { rest = record t.actions.rest { now = none }; lines = t.actions.lines + length all.acts; numbered = fits };
      end = q;
      ran = record { acts = all.acts; lines = lines; count = refl; text = all.text; plays = all.plays; written = all.written };
      all = refl;
    }

-- the whole script was run, by its head
pub head_ran : (file : Option Flow) (a b : Known) (head : List ℕ) (s : Script) (before after : Known) (here most : ℕ)
    → HeadOf (is_some file) a b head → length head ≤ most → most ≤ 2 ^ 32 → here ≤ 2 ^ 32 → IsOpened file head s
    → IfSome b (λ others. PlayedOn s.flow s.sessions s.actions others before after) → IfSome b (λ others. length others ≤ here)
    → IfSome a (λ script. IsRun file script before after)
head_ran file None b head s before after here most is few small smaller opened on short = tt
head_ran file (Some script) b head s before after here most (rest, known, is) few small smaller opened on short =
    let on_rest : PlayedOn s.flow s.sessions s.actions rest before after =
    subst (λ (k : Known). IfSome k (λ others. PlayedOn s.flow s.sessions s.actions others before after)) known on in
    let short_rest : length rest ≤ here = subst (λ (k : Known). IfSome k (λ others. length others ≤ here)) known short in
    let joined = length-append head rest in
    let fits : length (head ++ rest) < 2 ^ 64 = omega arith in
    let t = opened_on file head rest s is.ends opened fits in
    let all = ran_then s.actions.rest.now rest on_rest.start on_rest.between on_rest.end before on_rest.written after on_rest.first on_rest.rest t.6 in
    subst (λ (l : List ℕ). IsRun file l before after) (sym is.whole)
    (inr (t.0, t.1, played t.0 s.flow s.sessions (s.actions.rest.now ++ rest) on_rest.start on_rest.end before after t.2 t.3 t.4 on_rest.begun all))

pub head_alone : (file : Option Flow) (a b : Known) (head : List ℕ) (before after : Known) → HeadOf (is_some file) a b head
    → IsOpenedAs file head None → Keeps before after → IfSome a (λ script. IsRun file script before after)
head_alone file None b head before after is opened kept = tt
head_alone file (Some script) b head before after (rest, known, is) opened kept =
    inl (only_settings file script head rest is opened, kept)

-- what was written before remains

pub grows_none : (before : Known) → Grows before before
grows_none before = ([], Appends-nil before)

pub grows_then : (before between after : Known) → Grows before between → Grows between after → Grows before after
grows_then before between after (text, first) (more, last) = (text ++ more, Appends-trans before between after text more first last)

pub ran_grows : (script left : Actions) (p q : Point) (before after : Known) → Ran script left p before q after → Grows before after
ran_grows script left p q before after ran = (ran.text, ran.written)

pub stopped_grows : (script : Actions) (p : Point) (before : Known) (e : StepError) (after : Known) → Stopped script p before e after
    → Grows before after
stopped_grows script p before e after stopped = (_, stopped.written)

pub kept_grows : (before after : Known) → Keeps before after → Grows before after
kept_grows None after kept = ([], tt)
kept_grows (Some xs) None kept = absurd kept
kept_grows (Some xs) (Some ys) kept = ([], kept ∙ sym (append-nil xs))

pub nothing_grown : {A E : Type 0} (r : Result A E) (before : Known) → OnErr r (Grows before before)
nothing_grown (Ok a) before = tt
nothing_grown (Err e) before = grows_none before

pub if_some : {A : Type 0} {First Second : A → Type 0} (o : Option A) → ((x : A) → First x → Second x) → IfSome o First → IfSome o Second
if_some None f holds = tt
if_some (Some x) f holds = f x holds

pub any_err : {E : Type 0} {First : Type 0} (r : Result Unit E) → First → OnErr r First
any_err (Ok u) holds = tt
any_err (Err e) holds = holds
