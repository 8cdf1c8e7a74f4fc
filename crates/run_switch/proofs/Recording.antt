-- The lines of the log, one after the other.
-- for: record_log::RecordLog, record_log::write_records, reporter::Reporter
use Rattle.std.proofs.Common.{◌≡◌, ◌<◌, ◌≤◌, ℕ, ◌+◌, Bool, true, false, List, [], ◌∷◌, ◌++◌, length, take, get_or, Option, Some, refl, sym, ap, subst, ◌∙◌}
use Rattle.std.proofs.Common.{append_assoc, append-nil, arith}
use Rattle.std.specs.Prelude.{nat_lt, slice_get, if◌then◌else◌}
use Rattle.std.specs.Io.KnownBytes.{Appends}
use Rattle.std.specs.Option.{option_to_list}
use Rattle.std.proofs.KnownBytes.{Appends-nil, Appends-trans}
use Rattle.std.proofs.lemmas.Bool.Decides.{nat_tests}
use Rattle.std.proofs.lemmas.Grind.{flat_map-append}
use Rattle.std.proofs.lemmas.List.{take-append-le, take_all}
use Rattle.std.proofs.lemmas.Option.{slice_get_read}
use Rattle.cli_io.specs.Written.{AppendsBeginning}
use Rattle.flow_model.specs.declared.flow.Flow.{Flow}
use Rattle.sw_log.specs.Line.{record_line}
use Rattle.sw_log.specs.declared.line.Times.{Times}
use Rattle.sw_record.specs.Records.{record_after}
use Rattle.sw_record.specs.declared.record.Record.{Record}
use Rattle.tx_history.specs.declared.event.Entry.{Entry}
use Rattle.tx_history.specs.declared.event.Event.{Event}
use Rattle.tx_history.specs.History.{Start}
use Rattle.tx_history.specs.Journal.{change, entries}
use Rattle.tx_trace.specs.Follow.{earlier}
use Rattle.tx_trace.proofs.Earlier.{earlier_all, earlier_none, nth}
use Rattle.run_switch.specs.Lines.{Line, line_at, lines_of, no_times, record_at}
use Rattle.run_switch.specs.Records.{AddsRecords, AreBegunLines, AreLines, BeginsRecords, Recording, Records, if_kept, records_in}
use Rattle.tx_history.proofs.EntryCounts.{entries_length}

-- lines

lines_append : (rs qs : List Record) (xs ys : List ℕ) → AreLines rs xs → AreLines qs ys → AreLines (rs ++ qs) (xs ++ ys)
lines_append [] qs xs ys none h = subst (λ (l : List ℕ). AreLines qs (l ++ ys)) (sym none) h
lines_append (r ∷ rs) qs xs ys (times, more, all, is) h =
    (times, more ++ ys, lines_append rs qs more ys all h, ap (λ (l : List ℕ). l ++ ys) is ∙ append_assoc (record_line r times) more ys)

begun_append : (rs qs : List Record) (xs ys : List ℕ) → AreBegunLines rs xs → AreBegunLines qs ys → AreBegunLines (rs ++ qs) (xs ++ ys)
begun_append [] qs xs ys none h = subst (λ (l : List ℕ). AreBegunLines qs (l ++ ys)) (sym none) h
begun_append (r ∷ rs) qs xs ys (times, first, rest, more, front, all, is) h =
    (times, first, rest, more ++ ys, front, begun_append rs qs more ys all h, ap (λ (l : List ℕ). l ++ ys) is ∙ append_assoc first more ys)

whole_begun : (rs : List Record) (text : List ℕ) → AreLines rs text → AreBegunLines rs text
whole_begun [] text none = none
whole_begun (r ∷ rs) text (times, more, all, is) =
    (times, record_line r times, [], more, sym (append-nil (record_line r times)), whole_begun rs more all, is)

none_begun : (rs : List Record) → AreBegunLines rs []
none_begun [] = refl
none_begun (r ∷ rs) = (no_times, [], record_line r no_times, [], refl, none_begun rs, refl)

-- records that were added

pub added_none : (a : Option (List ℕ)) → AddsRecords [] a a
added_none a = record { text = []; lines = refl; written = Appends-nil a }

pub added_then : (rs qs : List Record) (a b c : Option (List ℕ)) → AddsRecords rs a b → AddsRecords qs b c → AddsRecords (rs ++ qs) a c
added_then rs qs a b c s t = record {
  text = s.text ++ t.text;
  lines = lines_append rs qs s.text t.text s.lines t.lines;
  written = Appends-trans a b c s.text t.text s.written t.written;
}

pub begun_then : (rs qs : List Record) (a b c : Option (List ℕ)) → BeginsRecords rs a b → BeginsRecords qs b c → BeginsRecords (rs ++ qs) a c
begun_then rs qs a b c s t = record {
  text = s.text ++ t.text;
  begun = begun_append rs qs s.text t.text s.begun t.begun;
  written = Appends-trans a b c s.text t.text s.written t.written;
}

pub begun_all : (rs : List Record) (a b : Option (List ℕ)) → AddsRecords rs a b → BeginsRecords rs a b
begun_all rs a b s = record { text = s.text; begun = whole_begun rs s.text s.lines; written = s.written }

pub begun_none : (rs : List Record) (a : Option (List ℕ)) → BeginsRecords rs a a
begun_none rs a = record { text = []; begun = none_begun rs; written = Appends-nil a }

-- the line of one record
one_added : (r : Record) (times : Times) (line : List ℕ) (a b : Option (List ℕ)) → line ≡ record_line r times → Appends a b line →
    AddsRecords (r ∷ []) a b
one_added r times line a b is written = record {
  text = line;
  lines = (times, [], refl, is ∙ sym (append-nil (record_line r times)));
  written = written;
}

one_begun : (r : Record) (times : Times) (line : List ℕ) (a b : Option (List ℕ)) → line ≡ record_line r times → AppendsBeginning a b line →
    BeginsRecords (r ∷ []) a b
one_begun r times line a b is (first, rest, front, written) = record {
  text = first;
  begun = (times, first, rest, [], sym is ∙ front, refl, sym (append-nil first));
  written = written;
}

pub of_record : (o : Option Record) (r : Record) (times : Times) (line : List ℕ) (a b : Option (List ℕ)) → o ≡ Some r → line ≡ record_line r times →
    Appends a b line → AddsRecords (option_to_list o) a b
of_record o r times line a b some is written =
    subst (λ (x : Option Record). AddsRecords (option_to_list x) a b) (sym some) (one_added r times line a b is written)

pub begun_record : (o : Option Record) (r : Record) (times : Times) (line : List ℕ) (a b : Option (List ℕ)) → o ≡ Some r → line ≡ record_line r times →
    AppendsBeginning a b line → BeginsRecords (option_to_list o) a b
begun_record o r times line a b some is written =
    subst (λ (x : Option Record). BeginsRecords (option_to_list x) a b) (sym some) (one_begun r times line a b is written)

-- what is kept of lines

kept_none : (w : Bool) → if_kept w [] ≡ []
kept_none true = refl
kept_none false = refl

records_both : (xs ys : List Line) → records_in (xs ++ ys) ≡ records_in xs ++ records_in ys
records_both xs ys = flat_map-append (λ (l : Line). option_to_list l.recorded) xs ys

kept_both : (w : Bool) (xs ys : List Line) → if_kept w (xs ++ ys) ≡ if_kept w xs ++ if_kept w ys
kept_both true xs ys = records_both xs ys
kept_both false xs ys = refl

pub records_none : (r : Recording) → Records [] r r
records_none r = record {
  wanted = refl;
  before = λ h. h;
  adds = λ h. subst (λ (l : List Record). AddsRecords l r.text r.text) (sym (kept_none r.wanted)) (added_none r.text);
  some = begun_none (if_kept r.wanted []) r.text;
}

pub records_then : (xs ys : List Line) (a b c : Recording) → Records xs a b → Records ys b c → Records (xs ++ ys) a c
records_then xs ys a b c s t = record {
  wanted = t.wanted ∙ s.wanted;
  before = λ h. s.before (t.before h);
  adds = λ h. (let more : AddsRecords (if_kept a.wanted ys) b.text c.text =
      subst (λ (w : Bool). AddsRecords (if_kept w ys) b.text c.text) s.wanted (t.adds h) in
      subst (λ (l : List Record). AddsRecords l a.text c.text) (sym (kept_both a.wanted xs ys))
      (added_then (if_kept a.wanted xs) (if_kept a.wanted ys) a.text b.text c.text (s.adds (t.before h)) more));
  some = (let more : BeginsRecords (if_kept a.wanted ys) b.text c.text =
      subst (λ (w : Bool). BeginsRecords (if_kept w ys) b.text c.text) s.wanted t.some in
      subst (λ (l : List Record). BeginsRecords l a.text c.text) (sym (kept_both a.wanted xs ys))
      (begun_then (if_kept a.wanted xs) (if_kept a.wanted ys) a.text b.text c.text s.some more));
}

-- nothing was to be written, and nothing is
pub records_same : (a b : Recording) → b ≡ a → Records [] a b
records_same a b same = subst (λ (r : Recording). Records [] a r) (sym same) (records_none a)

-- one call

pub records_unwanted : (lines : List Line) (w l : Bool) (t : Option (List ℕ)) → w ≡ false →
    Records lines (record { wanted = w; lost = l; text = t }) (record { wanted = w; lost = l; text = t })
records_unwanted lines w l t not = record {
  wanted = refl;
  before = λ h. h;
  adds = λ h. subst (λ (b : Bool). AddsRecords (if_kept b lines) t t) (sym not) (added_none t);
  some = begun_none (if_kept w lines) t;
}

pub records_whole : (lines : List Line) (w l : Bool) (t u : Option (List ℕ)) → w ≡ true → AddsRecords (records_in lines) t u →
    Records lines (record { wanted = w; lost = l; text = t }) (record { wanted = w; lost = l; text = u })
records_whole lines w l t u is added =
    let all : AddsRecords (if_kept w lines) t u = subst (λ (b : Bool). AddsRecords (if_kept b lines) t u) (sym is) added in
    record { wanted = refl; before = λ h. h; adds = λ h. all; some = begun_all (if_kept w lines) t u all }

lost_not : {A : Type 0} (b : Bool) → b ≡ true → b ≡ false → A
lost_not b is not = absurd (let both : true ≡ false = sym is ∙ not in cc)

pub records_part : (lines : List Line) (w l o : Bool) (t u : Option (List ℕ)) → w ≡ true → o ≡ true → BeginsRecords (records_in lines) t u →
    Records lines (record { wanted = w; lost = l; text = t }) (record { wanted = w; lost = o; text = u })
records_part lines w l o t u is lost begun = record {
  wanted = refl;
  before = λ h. lost_not o lost h;
  adds = λ h. lost_not o lost h;
  some = subst (λ (b : Bool). BeginsRecords (if_kept b lines) t u) (sym is) begun;
}

-- the records of the first entries

abbrev pub first_records : Flow → Start → List Event → ℕ → List Record
first_records f v past n = records_in (lines_of f v (earlier n past))

pub earlier_entries : (f : Flow) (v : Start) (past : List Event) (n : ℕ) → n ≤ length past → entries f v (earlier n past) ≡ take n (entries f v past)
earlier_entries f v [] n le = let none : n ≡ 0 = omega arith in rw none refl
earlier_entries f v (e ∷ past) n le = by_test (nat_lt n (length past + 1)) refl (earlier_entries f v past n) where
  by_test : (b : Bool) → nat_lt n (length past + 1) ≡ b → (n ≤ length past → entries f v (earlier n past) ≡ take n (entries f v past))
      → entries f v (if b then earlier n past else e ∷ past) ≡ take n (entries f v (e ∷ past))
  by_test true is ih =
      let lt : n ≤ length past = grind (arith, nat_tests) in
      let len : n ≤ length (entries f v past) = subst (λ (k : ℕ). n ≤ k) (sym (entries_length f v past)) lt in
      ih lt ∙ sym (take-append-le n (entries f v past) _ len)
  by_test false is ih =
      let ge : length (e ∷ past) ≤ n = grind (arith, nat_tests) in
      let len : length (entries f v (e ∷ past)) ≤ n = subst (λ (k : ℕ). k ≤ n) (sym (entries_length f v (e ∷ past))) ge in
      sym (take_all n (entries f v (e ∷ past)) len)

pub some_entry : (x y : Entry) → ◌≡◌ {A = Option Entry} (Some x) (Some y) → x ≡ y
some_entry x y e = cc

pub records_next : (f : Flow) (v : Start) (past : List Event) (n : ℕ) (entry : Entry) → n < length past →
    slice_get (entries f v past) n ≡ Some entry
    → first_records f v past (n + 1) ≡ first_records f v past n ++ option_to_list (record_after f.retries (take n (entries f v past)) entry)
unfolding record_at
records_next f v past n entry lt at =
    let next = nth f v past n lt in
    let same = some_entry entry _ (sym at ∙ next.entry) in
    let before = earlier_entries f v past n (omega arith) in
    ap (λ (p : List Event). records_in (lines_of f v p)) next.split
    ∙ (records_both (lines_of f v (earlier n past)) (line_at f v (earlier n past) next.event ∷ [])
    ∙ ap (λ (l : List Record). first_records f v past n ++ l) (append-nil _
    ∙ (ap (λ (es : List Entry). option_to_list (record_after f.retries es (record {
      number = n + 1;
      event = next.event;
      change = change f v (next.event ∷ earlier n past);
    }))) before ∙ ap (λ (x : Entry). option_to_list (record_after f.retries (take n (entries f v past)) x)) (sym same))))

records_front : (f : Flow) (v : Start) (past : List Event) (n : ℕ) →
    (rest : List Record) × (records_in (lines_of f v past) ≡ first_records f v past n ++ rest)
records_front f v [] n = ([], refl)
records_front f v (e ∷ past) n = by_test (nat_lt n (length past + 1)) (records_front f v past n) where
  by_test : (b : Bool) → (rest : List Record) × (records_in (lines_of f v past) ≡ first_records f v past n ++ rest)
      → (rest : List Record) × (records_in (lines_of f v (e ∷ past)) ≡ records_in (lines_of f v (if b then earlier n past else e ∷ past)) ++ rest)
  by_test true (rest, is) =
      let last : List Record = records_in (line_at f v past e ∷ []) in (
        rest ++ last,
        records_both (lines_of f v past) (line_at f v past e ∷ [])
            ∙ (ap (λ (l : List Record). l ++ last) is ∙ append_assoc (first_records f v past n) rest last),
      )
  by_test false ih = ([], sym (append-nil (records_in (lines_of f v (e ∷ past)))))

pub records_first : (f : Flow) (v : Start) (past : List Event) (a : Option (List ℕ)) → AddsRecords (first_records f v past 0) a a
records_first f v past a = subst (λ (p : List Event). AddsRecords (records_in (lines_of f v p)) a a) (sym (earlier_none past)) (added_none a)

-- an entry of these, which are those of the history
pub at_entry : (f : Flow) (v : Start) (past : List Event) (es : List Entry) (n : ℕ) (entry : Entry) → es ≡ entries f v past → n < length es →
    entry ≡ get_or es n entry → slice_get (entries f v past) n ≡ Some entry
at_entry f v past es n entry is lt at = ap (λ (l : List Entry). slice_get l n) (sym is) ∙ slice_get_read es (length es) n entry refl lt at

pub within : (f : Flow) (v : Start) (past : List Event) (es : List Entry) (n : ℕ) → es ≡ entries f v past → n < length es → n < length past
within f v past es n is lt = subst (λ (k : ℕ). n < k) (ap length is ∙ entries_length f v past) lt

after_first : (f : Flow) (v : Start) (past : List Event) (es : List Entry) (r n : ℕ) (entry : Entry) → es ≡ entries f v past → r ≡ f.retries →
    option_to_list (record_after r (take n es) entry) ≡ option_to_list (record_after f.retries (take n (entries f v past)) entry)
after_first f v past es r n entry is same =
    ap (λ (l : List Entry). option_to_list (record_after r (take n l) entry)) is
    ∙ ap (λ (k : ℕ). option_to_list (record_after k (take n (entries f v past)) entry)) same

pub records_more : (f : Flow) (v : Start) (past : List Event) (es : List Entry) (r n : ℕ) (entry : Entry) (a b c : Option (List ℕ)) →
    es ≡ entries f v past → r ≡ f.retries → n < length es → entry ≡ get_or es n entry → AddsRecords (first_records f v past n) a b
    → AddsRecords (option_to_list (record_after r (take n es) entry)) b c → AddsRecords (first_records f v past (n + 1)) a c
records_more f v past es r n entry a b c is same lt at first next =
    subst (λ (l : List Record). AddsRecords l a c)
    (ap (λ (l : List Record). first_records f v past n ++ l) (after_first f v past es r n entry is same)
    ∙ sym (records_next f v past n entry (within f v past es n is lt) (at_entry f v past es n entry is lt at)))
    (added_then (first_records f v past n) _ a b c first next)

pub history_over : (f : Flow) (v : Start) (past : List Event) (es : List Entry) (n : ℕ) → es ≡ entries f v past → length es ≤ n → length past ≤ n
history_over f v past es n is le = subst (λ (k : ℕ). k ≤ n) (ap length is ∙ entries_length f v past) le

pub records_all : (f : Flow) (v : Start) (past : List Event) (n : ℕ) (a b : Option (List ℕ)) → length past ≤ n →
    AddsRecords (first_records f v past n) a b → AddsRecords (records_in (lines_of f v past)) a b
records_all f v past n a b le h = subst (λ (p : List Event). AddsRecords (records_in (lines_of f v p)) a b) (earlier_all past n le) h

-- the first of them are written, and a beginning of the next line
pub records_some : (f : Flow) (v : Start) (past : List Event) (es : List Entry) (r n : ℕ) (entry : Entry) (a b c : Option (List ℕ)) →
    es ≡ entries f v past → r ≡ f.retries → n < length es → entry ≡ get_or es n entry → AddsRecords (first_records f v past n) a b
    → BeginsRecords (option_to_list (record_after r (take n es) entry)) b c → BeginsRecords (records_in (lines_of f v past)) a c
records_some f v past es r n entry a b c is same lt at first next =
    let both = begun_then (first_records f v past n) _ a b c (begun_all (first_records f v past n) a b first) next in
    let so_far : BeginsRecords (first_records f v past (n + 1)) a c =
    subst (λ (l : List Record). BeginsRecords l a c)
    (ap (λ (l : List Record). first_records f v past n ++ l) (after_first f v past es r n entry is same)
    ∙ sym (records_next f v past n entry (within f v past es n is lt) (at_entry f v past es n entry is lt at))) both in
    let (rest, whole) = records_front f v past (n + 1) in
    subst (λ (l : List Record). BeginsRecords l a c) (sym whole) (begun_then (first_records f v past (n + 1)) rest a c c so_far (begun_none rest c))
