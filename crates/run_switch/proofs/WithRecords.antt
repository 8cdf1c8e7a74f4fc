-- The line of an entry with the record of the transaction that it takes or ends.
-- for: with_records::next_with_record
use Rattle.std.proofs.Common.{◌≡◌, ◌<◌, ℕ, ◌+◌, List, length, take, get_or, Option, Some, None, sym, ap, subst, arith, ◌∙◌}
use Rattle.flow_model.specs.declared.flow.Flow.{Flow}
use Rattle.sw_record.specs.Records.{record_after, record_taken}
use Rattle.tx_history.specs.declared.event.Entry.{Entry}
use Rattle.tx_history.specs.declared.event.Event.{Event}
use Rattle.tx_history.specs.History.{Start}
use Rattle.tx_history.specs.Journal.{entries}
use Rattle.tx_history.proofs.EntryCounts.{entries_length}
use Rattle.tx_trace.specs.Follow.{earlier}
use Rattle.tx_trace.specs.Lines.{at_number, json_text}
use Rattle.tx_trace.proofs.Earlier.{nth}
use Rattle.run_switch.specs.declared.reporter.LineForm.TheVariants.{JsonWithRecords}
use Rattle.run_switch.specs.Lines.{object_of, record_at, taken_at, with_record}
use Rattle.run_switch.proofs.Printing.{line_as, same_line}
use Rattle.run_switch.proofs.Recording.{at_entry, earlier_entries, some_entry, within}

-- by the line, the entries before, the entry and the tries of the flow
abbrev whole : List ℕ → List Entry → Entry → ℕ → List ℕ
whole line before entry r = with_record line (object_of (record_after r before entry) (record_taken r entry))

whole_same : (l m : List ℕ) (b c : List Entry) (x y : Entry) (r q : ℕ) → l ≡ m → b ≡ c → x ≡ y → r ≡ q → whole l b x r ≡ whole m c y q
whole_same l m b c x y r q lines befores same tries =
    ap (λ (k : List ℕ). whole k b x r) lines ∙ (ap (λ (k : List Entry). whole m k x r) befores
    ∙ (ap (λ (k : Entry). whole m c k r) same ∙ ap (λ (k : ℕ). whole m c y k) tries))

pub line_with_record : (f : Flow) (v : Start) (past : List Event) (es : List Entry) (r n : ℕ) (entry : Entry) (line : List ℕ) →
    es ≡ entries f v past → r ≡ f.retries → n < length es → entry ≡ get_or es n entry → Some line ≡ at_number (json_text f v) past (n + 1)
    → Some (whole line (take n es) entry r) ≡ at_number (line_as JsonWithRecords f v) past (n + 1)
unfolding record_at taken_at
line_with_record f v past es r n entry line is same lt at json =
    let next = nth f v past n (within f v past es n is lt) in
    let here = some_entry entry _ (sym (at_entry f v past es n entry is lt at) ∙ next.entry) in
    let small = within f v past es n is lt in
    let before = ap (λ (l : List Entry). take n l) is ∙ sym (earlier_entries f v past n (omega (arith, small))) in
    let text = same_line line (json_text f v (earlier n past) next.event) (json ∙ next.line (json_text f v)) in
    ap (λ (l : List ℕ). Some l) (whole_same line _ (take n es) _ entry _ r f.retries text before here same)
    ∙ sym (next.line (line_as JsonWithRecords f v))

-- each entry has a line
pub json_there : (f : Flow) (v : Start) (past : List Event) (n : ℕ) → n < length past → None ≡ at_number (json_text f v) past (n + 1) → ⊥
json_there f v past n lt none = let next = nth f v past n lt in let line = next.line (json_text f v) in cc

pub reaches : (f : Flow) (v : Start) (past : List Event) (es : List Entry) (n : ℕ) → es ≡ entries f v past → n < length past → n < length es
reaches f v past es n is lt = subst (λ (k : ℕ). n < k) (sym (ap length is ∙ entries_length f v past)) lt

-- none where the tracer finds none, which does not come about
pub none_left : (f : Flow) (v : Start) (past : List Event) (n k : ℕ) (o : Option (List ℕ)) → n < length past → k ≡ n → o ≡ None →
    o ≡ at_number (json_text f v) past (k + 1) → ⊥
none_left f v past n k o lt at none is =
    json_there f v past n lt (sym none ∙ (is ∙ ap (λ (i : ℕ). at_number (json_text f v) past (i + 1)) at))
