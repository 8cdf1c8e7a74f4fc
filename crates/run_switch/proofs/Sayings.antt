-- What is reported in words.
-- for: saying::Reporter, stats::Switch
use Rattle.std.proofs.Common.{◌≡◌, ℕ, Bool, true, false, List, [], ◌∷◌, ◌++◌, Option, Some, None, Result, Ok, Err, refl, sym, subst, ◌∙◌, add-zero, append-nil}
use Rattle.std.specs.Prelude.{IfErr, IfOk, is_some}
use Rattle.std.specs.Io.KnownBytes.{Appends}
use Rattle.std.proofs.KnownBytes.{Appends-nil}
use Rattle.cli_io.specs.Written.{AppendsBeginning}
use Rattle.cli_io.proofs.Writing.{beginning_all, beginning_none}
use Rattle.sw_stats.specs.Line.{Numbers}
use Rattle.run_reports.specs.Hosts.{AreNews, names_in}
use Rattle.run_reports.specs.Ready.{ready_lines}
use Rattle.run_reports.specs.declared.ready.Recovered.{Recovered}
use Rattle.run_reports.specs.declared.Words.{Words}
use Rattle.run_switch.specs.declared.reporter.LineForm.{LineForm}
use Rattle.run_switch.specs.Records.{Recording}
use Rattle.run_switch.specs.Shown.{Says, SaysCounts, SaysNews, ShowsNumbers, ShowsSince, Writes, hosts_of, is_due, ready_text}
use Rattle.run_switch.specs.Traces.{Adds, AddsSome, IsQuiet, Log, Said, Tells, Wants}
use Rattle.run_switch.proofs.Recording.{records_same}
use Rattle.run_switch.proofs.Tracing.{none_wanted, quiet_none, tells_then, true_not_false}

-- one write

pub writes_whole : (line : List ℕ) (w : Option LineForm) (s : Wants) (l : Bool) (k : ℕ) (t u : Option (List ℕ)) (r : Recording) → Appends t u line
    → Writes line (record { wanted = w; wants = s; passed = k; lost = l; text = t; recording = r }) (record { wanted = w; wants = s; passed = k; lost = l; text = u; recording = r })
writes_whole line w s l k t u r all = record {
  wanted = refl;
  wants = refl;
  passed = refl;
  before = λ h. h;
  adds = λ h. all;
  some = beginning_all t u line all;
  recording = refl;
}

pub writes_part : (line : List ℕ) (w : Option LineForm) (s : Wants) (l o : Bool) (k : ℕ) (t u : Option (List ℕ)) (r : Recording) → o ≡ true → AppendsBeginning t u line
    → Writes line (record { wanted = w; wants = s; passed = k; lost = l; text = t; recording = r }) (record { wanted = w; wants = s; passed = k; lost = o; text = u; recording = r })
writes_part line w s l o k t u r lost written = record {
  wanted = refl;
  wants = refl;
  passed = refl;
  before = λ h. true_not_false o lost h;
  adds = λ h. true_not_false o lost h;
  some = written;
  recording = refl;
}

pub writes_none : (a : Log) → Writes [] a a
writes_none a = record {
  wanted = refl;
  wants = refl;
  passed = refl;
  before = λ h. h;
  adds = λ h. Appends-nil a.text;
  some = beginning_none a.text [];
  recording = refl;
}

-- what is said

pub says_none : (P : List ℕ → Type 0) (a : Log) → P [] → Says P a a
says_none P a h = record { text = []; writes = writes_none a; quiet = λ not. refl; whole = λ kept. h }

-- lines that were made, or for which there was no memory
pub says_lines : {L E : Type 0} (bytes : L → List ℕ) (P : List ℕ → Type 0) (lines : Result L E) (a b : Log) → a.wants.words ≡ true
    → IfOk lines (λ l. P (bytes l)) → IfOk lines (λ l. Writes (bytes l) a b) → IfErr lines (λ e. (b.lost ≡ true) × Writes [] a b) → Says P a b
says_lines bytes P (Ok l) a b wanted is written lost = record {
  text = bytes l;
  writes = written;
  quiet = λ not. true_not_false a.wants.words wanted not;
  whole = λ kept. is;
}
says_lines bytes P (Err e) a b wanted is written lost = record {
  text = [];
  writes = lost.1;
  quiet = λ not. refl;
  whole = λ kept. true_not_false b.lost lost.0 kept;
}

-- what is new of hosts

pub hosts_is : (words : Option Words) (w : Words) → words ≡ Some w → hosts_of words ≡ names_in w.hosts
hosts_is words w is = rw is refl

pub says_news : {L E : Type 0} (bytes : L → List ℕ) (lines : Result L E) (words : Option Words) (w : Words) (f : Option LineForm) (s : Bool) (k : ℕ) (l : Bool)
    (t : Option (List ℕ)) (r : Recording) (b : Log) → words ≡ Some w → IfOk lines (λ x. AreNews (names_in w.hosts) (bytes x))
    → IfOk lines (λ x. Writes (bytes x) (record { wanted = f; wants = record { stats = s; words = true }; passed = k; lost = l; text = t; recording = r }) b)
    → IfErr lines (λ e. (b.lost ≡ true)
    × Writes [] (record { wanted = f; wants = record { stats = s; words = true }; passed = k; lost = l; text = t; recording = r }) b)
    → SaysNews (hosts_of words) (record { wanted = f; wants = record { stats = s; words = is_some words }; passed = k; lost = l; text = t; recording = r }) b
says_news bytes lines words w f s k l t r b is news written lost =
    rw is (says_lines bytes (AreNews (names_in w.hosts)) lines
    (record { wanted = f; wants = record { stats = s; words = true }; passed = k; lost = l; text = t; recording = r }) b refl news written lost)

pub no_news : (words other : Option Words) (f : Option LineForm) (s : Bool) (k : ℕ) (l : Bool) (t : Option (List ℕ)) (r : Recording) → words ≡ None →
    other ≡ None → SaysNews (hosts_of words)
    (record { wanted = f; wants = record { stats = s; words = is_some words }; passed = k; lost = l; text = t; recording = r })
    (record { wanted = f; wants = record { stats = s; words = is_some other }; passed = k; lost = l; text = t; recording = r })
no_news words other f s k l t r none same = rw (none, same) (says_none (AreNews []) _ refl)

pub ready_is : (words : Option Words) (w : Words) (r : Recovered) → words ≡ Some w → ready_text words r ≡ ready_lines w.ready r
ready_is words w r is = rw is refl

-- It tells no line of the trace, and passes no message over.

quiet_said : (w : Wants) (text : List ℕ) → w.words ≡ true → IsQuiet w (Said text ∷ [])
quiet_said w text is = record { numbers = λ not. refl; words = λ not. true_not_false w.words is not }

said_adds : (w : Wants) (b : Bool) (text : List ℕ) (t u : Option (List ℕ)) → b ≡ w.words → (b ≡ false → text ≡ []) → Appends t u text → Adds w [] 0 t u
said_adds w true text t u is quiet written = record {
  pieces = Said text ∷ [];
  traced = refl;
  count = refl;
  quiet = quiet_said w text (sym is);
  written = subst (Appends t u) (sym (append-nil text)) written;
}
said_adds w false text t u is quiet written = record {
  pieces = [];
  traced = refl;
  count = refl;
  quiet = quiet_none w;
  written = subst (Appends t u) (quiet refl) written;
}

nothing : (text first rest : List ℕ) → text ≡ [] → text ≡ first ++ rest → first ≡ []
nothing text [] rest none is = refl
nothing text (x ∷ xs) rest none is = cc

said_some : (w : Wants) (b : Bool) (text : List ℕ) (t u : Option (List ℕ)) → b ≡ w.words → (b ≡ false → text ≡ []) → AppendsBeginning t u text
    → AddsSome w [] 0 t u
said_some w true text t u is quiet (first, rest, whole, written) = record {
  pieces = Said text ∷ [];
  traced = refl;
  count = refl;
  quiet = quiet_said w text (sym is);
  text = first;
  begun = (first, rest, [], whole, refl, sym (append-nil first));
  written = written;
}
said_some w false text t u is quiet (first, rest, whole, written) = record {
  pieces = [];
  traced = refl;
  count = refl;
  quiet = quiet_none w;
  text = first;
  begun = nothing text first rest (quiet refl) whole;
  written = written;
}

pub says_tells : (P : List ℕ → Type 0) (a b : Log) → Says P a b → Tells [] 0 a b
says_tells P a b s = record {
  wanted = s.writes.wanted;
  wants = s.writes.wants;
  count = λ small. s.writes.passed ∙ sym (add-zero a.passed);
  before = s.writes.before;
  adds = λ h. subst (λ (l : List ℕ). Adds a.wants l 0 a.text b.text) (sym (none_wanted a.wanted))
      (said_adds a.wants a.wants.words s.text a.text b.text refl s.quiet (s.writes.adds h));
  some = subst (λ (l : List ℕ). AddsSome a.wants l 0 a.text b.text) (sym (none_wanted a.wanted))
      (said_some a.wants a.wants.words s.text a.text b.text refl s.quiet s.writes.some);
  records = records_same a.recording b.recording s.writes.recording;
}

-- twice

pub tells_both : (a b c : Log) → Tells [] 0 a b → Tells [] 0 b c → Tells [] 0 a c
tells_both a b c s t = tells_then [] [] 0 0 a b c s t

-- what has come due

pub due_is : (every other : Option ℕ) (before now requests : ℕ) (due : Bool) → due ≡ is_due other before now → due ≡ true → other ≡ every → now ≡ requests
    → is_due every before requests ≡ true
due_is every other before now requests due is holds same count = rw (sym same, sym count) (sym is ∙ holds)

pub since_due : (every : Option ℕ) (before : ℕ) (tally : Numbers) (later : Numbers) (names others : List (List ℕ)) (a m s b : Log)
    → is_due every before tally.tally.requests ≡ true → later ≡ tally → others ≡ names → SaysNews names a m → ShowsNumbers later m s → SaysCounts others s b
    → ShowsSince every before tally names a b
since_due every before tally later names others a m s b due same hosts news shows counts =
    (m, news, rw due (s, subst (λ (n : Numbers). ShowsNumbers n m s) same shows, subst (λ (ns : List (List ℕ)). SaysCounts ns s b) hosts counts))
