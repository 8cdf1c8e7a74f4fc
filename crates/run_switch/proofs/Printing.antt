-- The lines of the first entries of a history.
-- for: reporter::write_lines
use Rattle.std.proofs.Common.{◌≡◌, ◌<◌, ◌≤◌, ℕ, ◌+◌, Bool, true, false, List, [], ◌∷◌, ◌++◌, length, Option, Some, None, refl, sym, ap, subst, ◌∙◌}
use Rattle.std.proofs.Common.{append_assoc, append-nil}
use Rattle.std.specs.Prelude.{Result, Ok, if◌then◌else◌, nat_lt, option_map}
use Rattle.std.specs.declared.alloc.AllocError.{AllocError}
use Rattle.std.specs.Io.KnownBytes.{Appends}
use Rattle.std.proofs.KnownBytes.{Appends-nil, Appends-trans}
use Rattle.std.proofs.lemmas.Grind.{flat_map-append}
use Rattle.cli_io.specs.Written.{AppendsBeginning}
use Rattle.cli_io.proofs.Writing.{beginning_after, beginning_front}
use Rattle.flow_model.specs.declared.flow.Flow.{Flow}
use Rattle.tx_history.specs.declared.event.Event.{Event}
use Rattle.tx_history.specs.History.{Start}
use Rattle.tx_trace.specs.Follow.{earlier, lines_given}
use Rattle.tx_trace.specs.Lines.{at_number}
use Rattle.tx_trace.proofs.Earlier.{earlier_all, earlier_none, nth}
use Rattle.run_switch.specs.declared.reporter.LineForm.{LineForm}
use Rattle.run_switch.specs.Lines.{Line, in_form, line_at, lines_of, written_as}

-- the line of each entry in this form
abbrev pub line_as : LineForm → Flow → Start → List Event → Event → List ℕ
line_as form f v past e = in_form form (line_at f v past e)

-- the lines of a history in this form
abbrev pub all_as : LineForm → Flow → Start → List Event → List ℕ
all_as form f v past = written_as form (lines_of f v past)

as_last : (form : LineForm) (ls : List Line) (l : Line) → written_as form (ls ++ l ∷ []) ≡ written_as form ls ++ (in_form form l ++ 10 ∷ [])
as_last form ls l =
    flat_map-append (λ (x : Line). in_form form x ++ 10 ∷ []) ls (l ∷ [])
    ∙ ap (λ (t : List ℕ). written_as form ls ++ t) (append-nil (in_form form l ++ 10 ∷ []))

pub same_line : (x y : List ℕ) → ◌≡◌ {A = Option (List ℕ)} (Some x) (Some y) → x ≡ y
same_line x y e = cc

-- one more line
pub lines_next : (form : LineForm) (f : Flow) (v : Start) (past : List Event) (n : ℕ) (text : List ℕ) → n < length past →
    at_number (line_as form f v) past (n + 1) ≡ Some text
    → all_as form f v (earlier (n + 1) past) ≡ all_as form f v (earlier n past) ++ (text ++ 10 ∷ [])
lines_next form f v past n text lt is =
    let next = nth f v past n lt in
    let same = same_line (line_as form f v (earlier n past) next.event) text (sym (next.line (line_as form f v)) ∙ is) in
    ap (all_as form f v) next.split
    ∙ (as_last form (lines_of f v (earlier n past)) (line_at f v (earlier n past) next.event)
    ∙ ap (λ (l : List ℕ). all_as form f v (earlier n past) ++ (l ++ 10 ∷ [])) same)

pub lines_all : (form : LineForm) (f : Flow) (v : Start) (past : List Event) (n : ℕ) → length past ≤ n → all_as form f v (earlier n past) ≡ all_as form f v past
lines_all form f v past n le = ap (all_as form f v) (earlier_all past n le)

pub lines_none : (form : LineForm) (f : Flow) (v : Start) (past : List Event) → all_as form f v (earlier 0 past) ≡ []
lines_none form f v past = ap (all_as form f v) (earlier_none past)

-- each entry has a line
pub line_there : (form : LineForm) (f : Flow) (v : Start) (past : List Event) (n : ℕ) → n < length past → at_number (line_as form f v) past (n + 1) ≡ None → ⊥
line_there form f v past n lt none = let next = nth f v past n lt in let line = next.line (line_as form f v) in cc

abbrev gives : {X : Type 0} → Option X → Result (Option X) AllocError
gives o = Ok o

pub counted_next : {X : Type 0} (o : Option X) (x : X) (a b n : ℕ) → o ≡ Some x → a ≡ b + lines_given (gives o) → b ≡ n → a ≡ n + 1
counted_next o x a b n is at same = at ∙ (ap (λ z. b + lines_given (gives z)) is ∙ ap (λ (k : ℕ). k + 1) same)

pub first_lines : (form : LineForm) (f : Flow) (v : Start) (past : List Event) (a : Option (List ℕ)) → Appends a a (all_as form f v (earlier 0 past))
first_lines form f v past a = subst (Appends a a) (sym (lines_none form f v past)) (Appends-nil a)

pub more_lines : {X : Type 0} (text : X → List ℕ) (form : LineForm) (f : Flow) (v : Start) (past : List Event) (n k : ℕ) (o : Option X) (x : X)
    (written : List ℕ) (a b c : Option (List ℕ)) → n < length past → k ≡ n → o ≡ Some x
    → option_map text o ≡ at_number (line_as form f v) past (k + 1) → written ≡ text x → Appends a b (all_as form f v (earlier n past)) →
    Appends b c (written ++ 10 ∷ []) → Appends a c (all_as form f v (earlier (n + 1) past))
more_lines text form f v past n k o x written a b c lt at is line shown first second =
    let here : at_number (line_as form f v) past (n + 1) ≡ Some (text x) = ap (λ (i : ℕ). at_number (line_as form f v) past (i + 1)) (sym at)
    ∙ (sym line ∙ ap (option_map text) is) in
    let last : Appends b c (text x ++ 10 ∷ []) = subst (λ (l : List ℕ). Appends b c (l ++ 10 ∷ [])) shown second in
    subst (Appends a c) (sym (lines_next form f v past n (text x) lt here)) (Appends-trans a b c _ _ first last)

pub none_missing : {X : Type 0} (text : X → List ℕ) (form : LineForm) (f : Flow) (v : Start) (past : List Event) (n k : ℕ) (o : Option X) → n < length past →
    k ≡ n → o ≡ None → option_map text o ≡ at_number (line_as form f v) past (k + 1) → ⊥
none_missing text form f v past n k o lt at is line =
    line_there form f v past n lt (ap (λ (i : ℕ). at_number (line_as form f v) past (i + 1)) (sym at) ∙ (sym line ∙ ap (option_map text) is))

pub all_lines : (form : LineForm) (f : Flow) (v : Start) (past : List Event) (n : ℕ) (a b : Option (List ℕ)) → length past ≤ n →
    Appends a b (all_as form f v (earlier n past)) → Appends a b (all_as form f v past)
all_lines form f v past n a b le h = subst (Appends a b) (lines_all form f v past n le) h

-- the lines of the first entries are a beginning of all

lines_front : (form : LineForm) (f : Flow) (v : Start) (past : List Event) (n : ℕ) →
    (rest : List ℕ) × (all_as form f v past ≡ all_as form f v (earlier n past) ++ rest)
lines_front form f v [] n = ([], refl)
lines_front form f v (e ∷ past) n = by_test (nat_lt n (length past + 1)) (lines_front form f v past n) where
  by_test : (b : Bool) → (rest : List ℕ) × (all_as form f v past ≡ all_as form f v (earlier n past) ++ rest)
      → (rest : List ℕ) × (all_as form f v (e ∷ past) ≡ all_as form f v (if b then earlier n past else e ∷ past) ++ rest)
  by_test true (rest, is) =
      let line : List ℕ = line_as form f v past e ++ 10 ∷ [] in (
        rest ++ line,
        as_last form (lines_of f v past) (line_at f v past e)
            ∙ (ap (λ (l : List ℕ). l ++ line) is ∙ append_assoc (all_as form f v (earlier n past)) rest line),
      )
  by_test false ih = ([], sym (append-nil (all_as form f v (e ∷ past))))

pub some_lines : (form : LineForm) (f : Flow) (v : Start) (past : List Event) (n : ℕ) (a b : Option (List ℕ)) → Appends a b (all_as form f v (earlier n past)) →
    AppendsBeginning a b (all_as form f v past)
some_lines form f v past n a b h = let (rest, is) = lines_front form f v past n in (all_as form f v (earlier n past), rest, is, h)

-- and so is a beginning of the next line after them
pub part_line : {X : Type 0} (text : X → List ℕ) (form : LineForm) (f : Flow) (v : Start) (past : List Event) (n k : ℕ) (o : Option X) (x : X)
    (written : List ℕ) (a b c : Option (List ℕ)) → n < length past → k ≡ n → o ≡ Some x
    → option_map text o ≡ at_number (line_as form f v) past (k + 1) → written ≡ text x → Appends a b (all_as form f v (earlier n past)) →
    AppendsBeginning b c (written ++ 10 ∷ []) → AppendsBeginning a c (all_as form f v past)
part_line text form f v past n k o x written a b c lt at is line shown first second =
    let here : at_number (line_as form f v) past (n + 1) ≡ Some (text x) = ap (λ (i : ℕ). at_number (line_as form f v) past (i + 1)) (sym at)
    ∙ (sym line ∙ ap (option_map text) is) in
    let last : AppendsBeginning b c (text x ++ 10 ∷ []) = subst (λ (l : List ℕ). AppendsBeginning b c (l ++ 10 ∷ [])) shown second in
    let both : AppendsBeginning a c (all_as form f v (earlier n past) ++ (text x ++ 10 ∷ [])) =
    beginning_after a b c (all_as form f v (earlier n past)) (text x ++ 10 ∷ []) first last in
    let next : AppendsBeginning a c (all_as form f v (earlier (n + 1) past)) =
    subst (AppendsBeginning a c) (sym (lines_next form f v past n (text x) lt here)) both in
    let (rest, whole) = lines_front form f v past (n + 1) in
    subst (AppendsBeginning a c) (sym whole) (beginning_front a c (all_as form f v (earlier (n + 1) past)) rest next)
