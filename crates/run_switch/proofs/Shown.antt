-- Lines of a run's numbers among what is reported.
-- for: stats::Told, stats::Switch, stream::answer_messages, leg::answer_leg
use Rattle.std.proofs.Common.{◌≡◌, ℕ, Bool, true, false, List, [], ◌∷◌, ◌++◌, Option, refl, sym, subst, ◌∙◌, add-zero, append-nil}
use Rattle.std.specs.Io.KnownBytes.{Appends}
use Rattle.cli_io.specs.Written.{AppendsBeginning}
use Rattle.cli_io.proofs.Writing.{beginning_all, beginning_none}
use Rattle.std.proofs.KnownBytes.{Appends-nil}
use Rattle.sw_stats.specs.Line.{Numbers, stats_line}
use Rattle.run_switch.specs.Points.{Point}
use Rattle.run_switch.specs.Rounds.{Round}
use Rattle.run_switch.specs.declared.reporter.LineForm.{LineForm}
use Rattle.run_switch.specs.Lines.{Line}
use Rattle.run_switch.specs.Records.{Recording}
use Rattle.run_switch.specs.Shown.{ShowsNumbers, if_shown}
use Rattle.run_switch.specs.Traces.{Adds, AddsSome, Counted, IsQuiet, Log, Reports, Tells, Wants}
use Rattle.run_switch.proofs.Recording.{records_same}
use Rattle.run_switch.proofs.Tracing.{lines_then, none_wanted, quiet_none, true_not_false}

-- one line

quiet_counted : (w : Wants) (n : Numbers) (time : ℕ) → true ≡ w.stats → IsQuiet w (Counted n time ∷ [])
quiet_counted w n time is = record { numbers = λ not. true_not_false w.stats (sym is) not; words = λ not. refl }

shown_adds : (w : Wants) (s : Bool) → s ≡ w.stats → (n : Numbers) (time : ℕ) (a b : Option (List ℕ)) →
    Appends a b (if_shown s (stats_line n time)) → Adds w [] 0 a b
shown_adds w true is n time a b written = record {
  pieces = Counted n time ∷ [];
  traced = refl;
  count = refl;
  quiet = quiet_counted w n time is;
  written = subst (Appends a b) (sym (append-nil (stats_line n time))) written;
}
shown_adds w false is n time a b written = record { pieces = []; traced = refl; count = refl; quiet = quiet_none w; written = written }

shown_some : (w : Wants) (s : Bool) → s ≡ w.stats → (n : Numbers) (time : ℕ) (a b : Option (List ℕ)) →
    AppendsBeginning a b (if_shown s (stats_line n time)) → AddsSome w [] 0 a b
shown_some w true wanted n time a b (first, rest, is, written) = record {
  pieces = Counted n time ∷ [];
  traced = refl;
  count = refl;
  quiet = quiet_counted w n time wanted;
  text = first;
  begun = (first, rest, [], is, refl, sym (append-nil first));
  written = written;
}
shown_some w false unwanted n time a b (first, rest, is, written) = record {
  pieces = [];
  traced = refl;
  count = refl;
  quiet = quiet_none w;
  text = first;
  begun = nothing first rest is;
  written = written;
} where
  nothing : (xs ys : List ℕ) → [] ≡ xs ++ ys → xs ≡ []
  nothing [] ys none = refl
  nothing (x ∷ xs) ys none = cc

-- it tells no line of the trace, and passes no message over
pub shown_tells : (n : Numbers) (a b : Log) → ShowsNumbers n a b → Tells [] 0 a b
shown_tells n a b s = record {
  wanted = s.wanted;
  wants = s.wants;
  count = λ small. s.passed ∙ sym (add-zero a.passed);
  before = s.before;
  adds = λ h. subst (λ (l : List ℕ). Adds a.wants l 0 a.text b.text) (sym (none_wanted a.wanted))
      (shown_adds a.wants a.wants.stats refl n s.milliseconds a.text b.text (s.adds h));
  some = subst (λ (l : List ℕ). AddsSome a.wants l 0 a.text b.text) (sym (none_wanted a.wanted))
      (shown_some a.wants a.wants.stats refl n s.milliseconds a.text b.text s.some);
  records = records_same a.recording b.recording s.recording;
}

-- after rounds
pub reports_shown : (rounds : List Round) (k : ℕ) (p q : Point) (a b : Option (List ℕ)) (x y z : Log) → Reports rounds k p a x q b y → Tells [] 0 y z →
    Reports rounds k p a x q b z
reports_shown rounds k p q a b x y z r s = record {
  serves = r.serves;
  tells = subst (λ (l : List Line). Tells l k x z) (append-nil r.serves.lines) (lines_then r.serves.lines [] k x y z r.tells s);
}

-- what a write tells

pub not_shown : (n : Numbers) (w : Option LineForm) (s : Wants) (l : Bool) (k : ℕ) (t : Option (List ℕ)) (r : Recording) → s.stats ≡ false →
    ShowsNumbers n (record { wanted = w; wants = s; passed = k; lost = l; text = t; recording = r }) (record { wanted = w; wants = s; passed = k; lost = l; text = t; recording = r })
not_shown n w s l k t r not = record {
  milliseconds = 0;
  wanted = refl;
  wants = refl;
  passed = refl;
  before = λ h. h;
  adds = λ h. subst (λ (b : Bool). Appends t t (if_shown b (stats_line n 0))) (sym not) (Appends-nil t);
  some = subst (λ (b : Bool). AppendsBeginning t t (if_shown b (stats_line n 0))) (sym not) (beginning_none t []);
  recording = refl;
}

pub shown_whole : (n : Numbers) (time : ℕ) (line : List ℕ) (w : Option LineForm) (s : Wants) (l : Bool) (k : ℕ) (t u : Option (List ℕ)) (r : Recording) → s.stats ≡ true →
    line ≡ stats_line n time → Appends t u line
    → ShowsNumbers n (record { wanted = w; wants = s; passed = k; lost = l; text = t; recording = r }) (record { wanted = w; wants = s; passed = k; lost = l; text = u; recording = r })
shown_whole n time line w s l k t u r is same written =
    let all : Appends t u (if_shown s.stats (stats_line n time)) = subst (λ (b : Bool). Appends t u (if_shown b (stats_line n time))) (sym is)
    (subst (Appends t u) same written) in
    record {
      milliseconds = time;
      wanted = refl;
      wants = refl;
      passed = refl;
      before = λ h. h;
      adds = λ h. all;
      some = beginning_all t u (if_shown s.stats (stats_line n time)) all;
      recording = refl;
    }

pub shown_part : (n : Numbers) (time : ℕ) (line : List ℕ) (w : Option LineForm) (s : Wants) (l o : Bool) (k : ℕ) (t u : Option (List ℕ)) (r : Recording) →
    s.stats ≡ true → o ≡ true → line ≡ stats_line n time → AppendsBeginning t u line
    → ShowsNumbers n (record { wanted = w; wants = s; passed = k; lost = l; text = t; recording = r }) (record { wanted = w; wants = s; passed = k; lost = o; text = u; recording = r })
shown_part n time line w s l o k t u r is lost same written = record {
  milliseconds = time;
  wanted = refl;
  wants = refl;
  passed = refl;
  before = λ h. true_not_false o lost h;
  adds = λ h. true_not_false o lost h;
  some = subst (λ (b : Bool). AppendsBeginning t u (if_shown b (stats_line n time))) (sym is) (subst (AppendsBeginning t u) same written);
  recording = refl;
}
