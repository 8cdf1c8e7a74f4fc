-- What is reported, one after the other.
-- for: reporter::Told, switch::Switch, stream::Requests, serving::Switch
use Rattle.std.proofs.Common.{◌≡◌, ◌<◌, ℕ, ◌+◌, Bool, true, false, List, [], ◌∷◌, ◌++◌, min, ◌-◌, ◌^◌, Option, Some, None}
use Rattle.std.proofs.Common.{refl, sym, ap, subst, arith, ◌∙◌, add-zero, zero-add, append-nil, append_assoc}
use Rattle.std.specs.Io.KnownBytes.{Appends}
use Rattle.std.proofs.KnownBytes.{Appends-nil, Appends-trans}
use Rattle.std.proofs.Math.Nat.{min-eq_left}
use Rattle.std.proofs.lemmas.Grind.{flat_map-append}
use Rattle.cli_io.specs.Written.{AppendsBeginning}
use Rattle.run_switch.specs.declared.reporter.LineForm.{LineForm}
use Rattle.run_switch.specs.Lines.{Line, in_form, written_as}
use Rattle.run_switch.specs.Records.{Recording, Records}
use Rattle.run_switch.specs.Traces.{Adds, AddsSome, AreBegun, Counted, IsQuiet, Log, Passed, Piece, Said, Tells, Traced, Wants}
use Rattle.run_switch.specs.Traces.{counted_in, if_wanted, passed_in, passed_line, piece_text, said_in, text_of, traced_in}
use Rattle.run_switch.proofs.Recording.{records_none, records_then}

text_append : (ps qs : List Piece) → text_of (ps ++ qs) ≡ text_of ps ++ text_of qs
text_append [] qs = refl
text_append (p ∷ ps) qs = ap (λ (l : List ℕ). piece_text p ++ l) (text_append ps qs) ∙ sym (append_assoc (piece_text p) (text_of ps) (text_of qs))

begun_append : (ps qs : List Piece) (xs ys : List ℕ) → AreBegun ps xs → AreBegun qs ys → AreBegun (ps ++ qs) (xs ++ ys)
begun_append [] qs xs ys none h = subst (λ (l : List ℕ). AreBegun qs (l ++ ys)) (sym none) h
begun_append (p ∷ ps) qs xs ys (first, rest, more, is, begun, all) h =
    (first, rest, more ++ ys, is, begun_append ps qs more ys begun h, ap (λ (l : List ℕ). l ++ ys) all ∙ append_assoc first more ys)

all_begun : (ps : List Piece) → AreBegun ps (text_of ps)
all_begun [] = refl
all_begun (p ∷ ps) = (piece_text p, [], text_of ps, sym (append-nil (piece_text p)), all_begun ps, refl)

traced_append : (ps qs : List Piece) → traced_in (ps ++ qs) ≡ traced_in ps ++ traced_in qs
traced_append [] qs = refl
traced_append (Traced ls ∷ ps) qs = ap (λ (l : List ℕ). ls ++ l) (traced_append ps qs) ∙ sym (append_assoc ls (traced_in ps) (traced_in qs))
traced_append (Passed n c ∷ ps) qs = traced_append ps qs
traced_append (Counted n m ∷ ps) qs = traced_append ps qs
traced_append (Said ls ∷ ps) qs = traced_append ps qs

passed_append : (ps qs : List Piece) → passed_in (ps ++ qs) ≡ passed_in ps + passed_in qs
passed_append [] qs = sym (zero-add (passed_in qs))
passed_append (Traced ls ∷ ps) qs = passed_append ps qs
passed_append (Passed n c ∷ ps) qs = let ih = passed_append ps qs in omega (arith, ih)
passed_append (Counted n m ∷ ps) qs = passed_append ps qs
passed_append (Said ls ∷ ps) qs = passed_append ps qs

counted_append : (ps qs : List Piece) → counted_in (ps ++ qs) ≡ counted_in ps + counted_in qs
counted_append [] qs = sym (zero-add (counted_in qs))
counted_append (Traced ls ∷ ps) qs = counted_append ps qs
counted_append (Passed n c ∷ ps) qs = counted_append ps qs
counted_append (Counted n m ∷ ps) qs = let ih = counted_append ps qs in omega (arith, ih)
counted_append (Said ls ∷ ps) qs = counted_append ps qs

said_append : (ps qs : List Piece) → said_in (ps ++ qs) ≡ said_in ps + said_in qs
said_append [] qs = sym (zero-add (said_in qs))
said_append (Traced ls ∷ ps) qs = said_append ps qs
said_append (Passed n c ∷ ps) qs = said_append ps qs
said_append (Counted n m ∷ ps) qs = said_append ps qs
said_append (Said ls ∷ ps) qs = let ih = said_append ps qs in omega (arith, ih)

none_both : (k m n : ℕ) → k ≡ m + n → m ≡ 0 → n ≡ 0 → k ≡ 0
none_both k m n is first second = omega (arith, is, first, second)

quiet_append : (w : Wants) (ps qs : List Piece) → IsQuiet w ps → IsQuiet w qs → IsQuiet w (ps ++ qs)
quiet_append w ps qs h k = record {
  numbers = λ not. none_both (counted_in (ps ++ qs)) (counted_in ps) (counted_in qs) (counted_append ps qs) (h.numbers not) (k.numbers not);
  words = λ not. none_both (said_in (ps ++ qs)) (said_in ps) (said_in qs) (said_append ps qs) (h.words not) (k.words not);
}

-- pieces that are always wanted

pub quiet_none : (w : Wants) → IsQuiet w []
quiet_none w = record { numbers = λ not. refl; words = λ not. refl }

quiet_traced : (w : Wants) (lines : List ℕ) → IsQuiet w (Traced lines ∷ [])
quiet_traced w lines = record { numbers = λ not. refl; words = λ not. refl }

quiet_passed : (w : Wants) (number : ℕ) (cause : List ℕ) → IsQuiet w (Passed number cause ∷ [])
quiet_passed w number cause = record { numbers = λ not. refl; words = λ not. refl }

adds_none : (w : Wants) (a : Option (List ℕ)) → Adds w [] 0 a a
adds_none w a = record { pieces = []; traced = refl; count = refl; quiet = quiet_none w; written = Appends-nil a }

adds_then : (w : Wants) (xs ys : List ℕ) (m n : ℕ) (a b c : Option (List ℕ)) → Adds w xs m a b → Adds w ys n b c → Adds w (xs ++ ys) (m + n) a c
adds_then w xs ys m n a b c s t = record {
  pieces = s.pieces ++ t.pieces;
  quiet = quiet_append w s.pieces t.pieces s.quiet t.quiet;
  traced = rw (traced_append s.pieces t.pieces, s.traced, t.traced) refl;
  count = (let is = passed_append s.pieces t.pieces in let first = s.count in let second = t.count in omega (arith, is, first, second));
  written = subst (Appends a c) (sym (text_append s.pieces t.pieces)) (Appends-trans a b c (text_of s.pieces) (text_of t.pieces) s.written t.written);
}

adds_some : (w : Wants) (xs : List ℕ) (n : ℕ) (a b : Option (List ℕ)) → Adds w xs n a b → AddsSome w xs n a b
adds_some w xs n a b s = record {
  pieces = s.pieces;
  traced = s.traced;
  count = s.count;
  quiet = s.quiet;
  text = text_of s.pieces;
  begun =
      all_begun s.pieces;
  written = s.written;
}

some_then : (w : Wants) (xs ys : List ℕ) (m n : ℕ) (a b c : Option (List ℕ)) → AddsSome w xs m a b → AddsSome w ys n b c → AddsSome w (xs ++ ys) (m + n) a c
some_then w xs ys m n a b c s t = record {
  pieces = s.pieces ++ t.pieces;
  quiet = quiet_append w s.pieces t.pieces s.quiet t.quiet;
  traced = rw (traced_append s.pieces t.pieces, s.traced, t.traced) refl;
  count = (let is = passed_append s.pieces t.pieces in let first = s.count in let second = t.count in omega (arith, is, first, second));
  text = s.text ++ t.text;
  begun = begun_append s.pieces t.pieces s.text t.text s.begun t.begun;
  written = Appends-trans a b c s.text t.text s.written t.written;
}

-- a beginning of one piece
some_of : (w : Wants) (p : Piece) (a b : Option (List ℕ)) → IsQuiet w (p ∷ []) → AppendsBeginning a b (piece_text p) →
    AddsSome w (traced_in (p ∷ [])) (passed_in (p ∷ [])) a b
some_of w p a b quiet (first, rest, is, written) = record {
  pieces = p ∷ [];
  quiet = quiet;
  traced = refl;
  count = refl;
  text = first;
  begun = (first, rest, [], is, refl, sym (append-nil first));
  written = written;
}

pub none_wanted : (w : Option LineForm) → if_wanted w [] ≡ []
none_wanted (Some form) = refl
none_wanted None = refl

both_wanted : (w : Option LineForm) (xs ys : List Line) → if_wanted w (xs ++ ys) ≡ if_wanted w xs ++ if_wanted w ys
both_wanted (Some form) xs ys = flat_map-append (λ (l : Line). in_form form l ++ 10 ∷ []) xs ys
both_wanted None xs ys = refl

-- below 2^64 the messages that are passed over are counted
both_counted : (p q r m n : ℕ) → (p + m < 2 ^ 64 → q ≡ p + m) → (q + n < 2 ^ 64 → r ≡ q + n) → p + (m + n) < 2 ^ 64 → r ≡ p + (m + n)
both_counted p q r m n first second small =
    let at : q ≡ p + m = first (omega (arith, small)) in
    let then : r ≡ q + n = second (omega (arith, small, at)) in
    omega (arith, at, then)

pub tells_none : (a : Log) → Tells [] 0 a a
tells_none a = record {
  wanted = refl;
  wants = refl;
  count = λ h. sym (add-zero a.passed);
  before = λ h. h;
  adds = λ h. subst (λ (l : List ℕ). Adds a.wants l 0 a.text a.text) (sym (none_wanted a.wanted)) (adds_none a.wants a.text);
  some = subst (λ (l : List ℕ). AddsSome a.wants l 0 a.text a.text) (sym (none_wanted a.wanted))
      (adds_some a.wants [] 0 a.text a.text (adds_none a.wants a.text));
  records = records_none a.recording;
}

pub tells_then : (xs ys : List Line) (m n : ℕ) (a b c : Log) → Tells xs m a b → Tells ys n b c → Tells (xs ++ ys) (m + n) a c
tells_then xs ys m n a b c s t = record {
  wanted = t.wanted ∙ s.wanted;
  wants = t.wants ∙ s.wants;
  count = λ h. both_counted a.passed b.passed c.passed m n s.count t.count h;
  before = λ h. s.before (t.before h);
  adds = λ h. (let more : Adds b.wants (if_wanted a.wanted ys) n b.text c.text = subst (λ (w : Option LineForm). Adds b.wants (if_wanted w ys) n b.text c.text)
      s.wanted (t.adds h) in
      let same : Adds a.wants (if_wanted a.wanted ys) n b.text c.text = subst (λ (w : Wants). Adds w (if_wanted a.wanted ys) n b.text c.text) s.wants more in
      subst (λ (l : List ℕ). Adds a.wants l (m + n) a.text c.text) (sym (both_wanted a.wanted xs ys))
      (adds_then a.wants (if_wanted a.wanted xs) (if_wanted a.wanted ys) m n a.text b.text c.text (s.adds (t.before h)) same));
  some = (let more : AddsSome b.wants (if_wanted a.wanted ys) n b.text c.text =
      subst (λ (w : Option LineForm). AddsSome b.wants (if_wanted w ys) n b.text c.text) s.wanted t.some in
      let same : AddsSome a.wants (if_wanted a.wanted ys) n b.text c.text = subst (λ (w : Wants). AddsSome w (if_wanted a.wanted ys) n b.text c.text) s.wants
      more in
      subst (λ (l : List ℕ). AddsSome a.wants l (m + n) a.text c.text) (sym (both_wanted a.wanted xs ys))
      (some_then a.wants (if_wanted a.wanted xs) (if_wanted a.wanted ys) m n a.text b.text c.text s.some same));
  records = records_then xs ys a.recording b.recording c.recording s.records t.records;
}

-- messages that are passed over, and then lines
pub passed_then : (xs : List Line) (n : ℕ) (a b c : Log) → Tells [] n a b → Tells xs 0 b c → Tells xs n a c
passed_then xs n a b c s t = subst (λ (k : ℕ). Tells xs k a c) (add-zero n) (tells_then [] xs n 0 a b c s t)

-- lines, and then others
pub lines_then : (xs ys : List Line) (n : ℕ) (a b c : Log) → Tells xs n a b → Tells ys 0 b c → Tells (xs ++ ys) n a c
lines_then xs ys n a b c s t = subst (λ (k : ℕ). Tells (xs ++ ys) k a c) (add-zero n) (tells_then xs ys n 0 a b c s t)

-- lines, and then others with messages that are passed over
pub lines_before : (xs ys : List Line) (n : ℕ) (a b c : Log) → Tells xs 0 a b → Tells ys n b c → Tells (xs ++ ys) n a c
lines_before xs ys n a b c s t = subst (λ (k : ℕ). Tells (xs ++ ys) k a c) (zero-add n) (tells_then xs ys 0 n a b c s t)

-- one write

-- all is written
told_whole : (lines : List Line) (n : ℕ) (w : Option LineForm) (s : Wants) (l : Bool) (k m : ℕ) (t u : Option (List ℕ)) (r q : Recording) →
    (k + n < 2 ^ 64 → m ≡ k + n) → Adds s (if_wanted w lines) n t u → Records lines r q
    → Tells lines n (record { wanted = w; wants = s; passed = k; lost = l; text = t; recording = r })
    (record { wanted = w; wants = s; passed = m; lost = l; text = u; recording = q })
told_whole lines n w s l k m t u r q count all records = record {
  wanted = refl;
  wants = refl;
  count = count;
  before = λ h. h;
  adds = λ h. all;
  some = adds_some s (if_wanted w lines) n t u all;
  records = records;
}

none_more : (k : ℕ) → k + 0 < 2 ^ 64 → k ≡ k + 0
none_more k small = sym (add-zero k)

one_more : (k m : ℕ) → m ≡ min (k + 1) (2 ^ 64 - 1) → k + 1 < 2 ^ 64 → m ≡ k + 1
one_more k m is small = is ∙ min-eq_left (omega (arith, small))

pub unwanted : (lines : List Line) (w : Option LineForm) (s : Wants) (l : Bool) (k : ℕ) (t : Option (List ℕ)) (q : Recording) → w ≡ None → (r : Recording) →
    Records lines r q → Tells lines 0 (record { wanted = w; wants = s; passed = k; lost = l; text = t; recording = r })
    (record { wanted = w; wants = s; passed = k; lost = l; text = t; recording = q })
unwanted lines w s l k t q not r records =
    told_whole lines 0 w s l k k t t r q (none_more k) (subst (λ (b : Option LineForm). Adds s (if_wanted b lines) 0 t t) (sym not) (adds_none s t)) records

pub lines_told : (lines : List Line) (form : LineForm) (w : Option LineForm) (s : Wants) (l : Bool) (k : ℕ) (t u : Option (List ℕ)) (q : Recording) → w ≡ Some form →
    Appends t u (written_as form lines) → (r : Recording) → Records lines r q
    → Tells lines 0 (record { wanted = w; wants = s; passed = k; lost = l; text = t; recording = r })
    (record { wanted = w; wants = s; passed = k; lost = l; text = u; recording = q })
lines_told lines form w s l k t u q is written r records = told_whole lines 0 w s l k k t u r q (none_more k)
    (subst (λ (b : Option LineForm). Adds s (if_wanted b lines) 0 t u) (sym is) (record {
      pieces = Traced (written_as form lines) ∷ [];
      traced = append-nil (written_as form lines);
      count = refl;
      quiet = quiet_traced s (written_as form lines);
      written = subst (Appends t u) (sym (append-nil (written_as form lines))) written;
    })) records

pub passed_told : (number : ℕ) (cause line : List ℕ) (w : Option LineForm) (s : Wants) (l : Bool) (k m : ℕ) (t u : Option (List ℕ)) (r : Recording) →
    m ≡ min (k + 1) (2 ^ 64 - 1) → line ≡ passed_line number cause → Appends t u line
    → Tells [] 1 (record { wanted = w; wants = s; passed = k; lost = l; text = t; recording = r })
    (record { wanted = w; wants = s; passed = m; lost = l; text = u; recording = r })
passed_told number cause line w s l k m t u r more is written =
    told_whole [] 1 w s l k m t u r r (one_more k m more) (subst (λ (x : List ℕ). Adds s x 1 t u) (sym (none_wanted w)) (record {
      pieces = Passed number cause ∷ [];
      traced = refl;
      count = refl;
      quiet = quiet_passed s number cause;
      written = subst (Appends t u) (is ∙ sym (append-nil (passed_line number cause))) written;
    })) (records_none r)

-- a write failed

pub true_not_false : {A : Type 0} (b : Bool) → b ≡ true → b ≡ false → A
true_not_false b is not = absurd (let both : true ≡ false = sym is ∙ not in cc)

told_some : (lines : List Line) (n : ℕ) (w : Option LineForm) (s : Wants) (l o : Bool) (k m : ℕ) (t u : Option (List ℕ)) (r q : Recording) →
    (k + n < 2 ^ 64 → m ≡ k + n) → o ≡ true → AddsSome s (if_wanted w lines) n t u → Records lines r q
    → Tells lines n (record { wanted = w; wants = s; passed = k; lost = l; text = t; recording = r })
    (record { wanted = w; wants = s; passed = m; lost = o; text = u; recording = q })
told_some lines n w s l o k m t u r q count lost some records = record {
  wanted = refl;
  wants = refl;
  count = count;
  before = λ h. true_not_false o lost h;
  adds = λ h. true_not_false o lost h;
  some = some;
  records = records;
}

pub lines_lost : (lines : List Line) (form : LineForm) (w : Option LineForm) (s : Wants) (l o : Bool) (k : ℕ) (t u : Option (List ℕ)) (q : Recording) → w ≡ Some form →
    o ≡ true → AppendsBeginning t u (written_as form lines) → (r : Recording) → Records lines r q
    → Tells lines 0 (record { wanted = w; wants = s; passed = k; lost = l; text = t; recording = r })
    (record { wanted = w; wants = s; passed = k; lost = o; text = u; recording = q })
lines_lost lines form w s l o k t u q is lost written r records =
    let text : List ℕ = written_as form lines in
    let begun : AddsSome s (text ++ []) 0 t u = some_of s (Traced text) t u (quiet_traced s text) written in
    told_some lines 0 w s l o k k t u r q (none_more k) lost (subst (λ (b : Option LineForm). AddsSome s (if_wanted b lines) 0 t u) (sym is)
    (subst (λ (x : List ℕ). AddsSome s x 0 t u) (append-nil text) begun)) records

pub passed_lost : (number : ℕ) (cause line : List ℕ) (w : Option LineForm) (s : Wants) (l o : Bool) (k m : ℕ) (t u : Option (List ℕ)) (r : Recording) →
    m ≡ min (k + 1) (2 ^ 64 - 1) → line ≡ passed_line number cause → o ≡ true → AppendsBeginning t u line
    → Tells [] 1 (record { wanted = w; wants = s; passed = k; lost = l; text = t; recording = r })
    (record { wanted = w; wants = s; passed = m; lost = o; text = u; recording = r })
passed_lost number cause line w s l o k m t u r more is lost written =
    let begun : AddsSome s [] 1 t u = some_of s (Passed number cause) t u (quiet_passed s number cause) (subst (AppendsBeginning t u) is written) in
    told_some [] 1 w s l o k m t u r r (one_more k m more) lost (subst (λ (x : List ℕ). AddsSome s x 1 t u) (sym (none_wanted w)) begun) (records_none r)
