-- The first events of a history, and the entry and the line that come next.
-- for: tracer::Tracer
use Rattle.std.proofs.Common.{◌≡◌, ℕ, ◌+◌, ◌<◌, ◌≤◌, Bool, true, false, List, [], ◌∷◌, ◌++◌, ◌-◌, length, Option, Some, None, refl, sym}
use Rattle.std.proofs.Common.{◌∙◌, ap, subst, get_or}
use Rattle.std.proofs.Common.{arith, length-append}
use Rattle.std.specs.Prelude.{if◌then◌else◌, slice_get, ◌==◌, nat_lt}
use Rattle.std.proofs.lemmas.Bool.Decides.{nat_tests}
use Rattle.std.proofs.lemmas.Option.{slice_get-get_or}
use Rattle.flow_model.specs.declared.flow.Flow.{Flow}
use Rattle.tx_history.specs.declared.event.Event.{Event}
use Rattle.tx_history.specs.declared.event.Entry.{Entry}
use Rattle.tx_history.specs.History.{Start}
use Rattle.tx_history.specs.Journal.{IsLawful, change, entries}
use Rattle.tx_history.proofs.RisingKeys.{get_append}
use Rattle.tx_history.specs.Views.{StartFits}
use Rattle.tx_engine.specs.World.{World, happened}
use Rattle.tx_engine.specs.Calls.{after_mark, mark_refusal, marked_unless}
use Rattle.tx_engine.specs.declared.error.EngineError.{EngineError}
use Rattle.tx_trace.specs.declared.tracer.Tracer.{Tracer}
use Rattle.tx_trace.specs.Trace.{Text}
use Rattle.tx_trace.specs.Lines.{at_number, json_in, json_text, line_in, line_of, line_text}
use Rattle.tx_trace.specs.Follow.{Follows, IsNext, earlier}
use Rattle.sw_base.proofs.Lists.{get_last}

pub earlier_all : (past : List Event) (n : ℕ) → length past ≤ n → earlier n past ≡ past
earlier_all [] n h = refl
earlier_all (e ∷ past) n h = let no : nat_lt n (length past + 1) ≡ false = grind (arith, nat_tests) in rw no refl

-- what comes later is not among the first
pub earlier_more : (past : List Event) (e : Event) (n : ℕ) → n ≤ length past → earlier n (e ∷ past) ≡ earlier n past
earlier_more past e n h = let yes : nat_lt n (length past + 1) ≡ true = grind (arith, nat_tests) in rw yes refl

pub earlier_none : (past : List Event) → earlier 0 past ≡ []
earlier_none [] = refl
earlier_none (e ∷ past) = let yes : nat_lt 0 (length past + 1) ≡ true = grind (arith, nat_tests) in rw yes (earlier_none past)

lawful_if : (f : Flow) (v : Start) (past : List Event) (e : Event) (n : ℕ) (b : Bool) → IsLawful f v (e ∷ past) → IsLawful f v (earlier n past) →
    IsLawful f v (if b then earlier n past else e ∷ past)
lawful_if f v past e n true law ih = ih
lawful_if f v past e n false law ih = law

pub lawful_earlier : (f : Flow) (v : Start) (past : List Event) (n : ℕ) → IsLawful f v past → IsLawful f v (earlier n past)
lawful_earlier f v [] n law = law
lawful_earlier f v (e ∷ past) n law = lawful_if f v past e n (nat_lt n (length past + 1)) law (lawful_earlier f v past n law.2)

length_entries : (f : Flow) (v : Start) (past : List Event) → length (entries f v past) ≡ length past
length_entries f v [] = refl
length_entries f v (e ∷ past) =
    let ih = length_entries f v past in
    let sum : length (entries f v past ++ record { number = length past + 1; event = e; change = change f v (e ∷ past) } ∷ []) ≡ length (entries f v past) +
    1 = length-append (entries f v past) _ in
    omega arith

-- the entry after the first n, and what there is of it
pub record Nth (f : Flow) (v : Start) (past : List Event) (n : ℕ) : Type 0 where
  pub event : Event
  pub split : earlier (n + 1) past ≡ event ∷ earlier n past
  pub entry : slice_get (entries f v past) n ≡ Some (record { number = n + 1; event = event; change = change f v (event ∷ earlier n past) })
  pub line : (what : List Event → Event → Text) → at_number what past (n + 1) ≡ Some (what (earlier n past) event)

nth_last : (f : Flow) (v : Start) (past : List Event) (e : Event) (n : ℕ) → n ≡ length past → Nth f v (e ∷ past) n
nth_last f v past e n is =
    let all : earlier n past ≡ past = earlier_all past n (omega arith) in
    let yes : nat_lt n (length past + 1) ≡ true = grind (arith, nat_tests) in
    let no : nat_lt (n + 1) (length past + 1) ≡ false = grind (arith, nat_tests) in
    let same : (length past + 1 == n + 1) ≡ true = grind (arith, nat_tests) in
    let len : length (entries f v past) ≡ n = length_entries f v past ∙ sym is in
    let last : slice_get (entries f v (e ∷ past)) (length (entries f v past))
    ≡ Some (record { number = length past + 1; event = e; change = change f v (e ∷ past) }) = get_last (entries f v past) _ in
    record {
      event = e;
      split = rw (no, yes, all) refl;
      entry = rw (yes, all) (ap (λ (k : ℕ). slice_get (entries f v (e ∷ past)) k) (sym len) ∙ last
          ∙ ap (λ (k : ℕ). Some (record { number = k + 1; event = e; change = change f v (e ∷ past) })) (sym is));
      line = λ what. rw (same, yes, all) refl;
    }

nth_more : (f : Flow) (v : Start) (past : List Event) (e : Event) (n : ℕ) → n < length past → Nth f v past n → Nth f v (e ∷ past) n
nth_more f v past e n lt h =
    let one : earlier n (e ∷ past) ≡ earlier n past = earlier_more past e n (omega arith) in
    let two : earlier (n + 1) (e ∷ past) ≡ earlier (n + 1) past = earlier_more past e (n + 1) (omega arith) in
    let other : (length past + 1 == n + 1) ≡ false = grind (arith, nat_tests) in
    let len = length_entries f v past in
    record {
      event = h.event;
      split = two ∙ (h.split ∙ ap (λ (p : List Event). h.event ∷ p) (sym one));
      entry = get_append (entries f v past) _ n (omega arith)
          ∙ (h.entry ∙ ap (λ (p : List Event). Some (record { number = n + 1; event = h.event; change = change f v (h.event ∷ p) })) (sym one));
      line = λ what. rw other (h.line what ∙ ap (λ (p : List Event). Some (what p h.event)) (sym one));
    }

nth_if : (f : Flow) (v : Start) (past : List Event) (e : Event) (n : ℕ) → n < length (e ∷ past) → (n < length past → Nth f v past n) → (b : Bool) →
    nat_lt n (length past) ≡ b → Nth f v (e ∷ past) n
nth_if f v past e n lt ih true is = let l : n < length past = grind (arith, nat_tests) in nth_more f v past e n l (ih l)
nth_if f v past e n lt ih false is = nth_last f v past e n (grind (arith, nat_tests))

pub nth : (f : Flow) (v : Start) (past : List Event) (n : ℕ) → n < length past → Nth f v past n
nth f v [] n lt = absurd (omega arith)
nth f v (e ∷ past) n lt = nth_if f v past e n lt (nth f v past n) (nat_lt n (length past)) refl

-- there is no line after the last
pub line_past : (what : List Event → Event → Text) (past : List Event) (n : ℕ) → length past < n → at_number what past n ≡ None
line_past what [] n h = refl
line_past what (e ∷ past) n h = let no : (length past + 1 == n) ≡ false = grind (arith, nat_tests) in rw no (line_past what past n (omega arith))

-- the entry that a tracer finds next
pub record NextIs (w : World) (t : Tracer) (entry : Entry) : Type 0 where
  pub next : IsNext w t entry
  pub split : earlier (t.done + 1) w.past ≡ entry.event ∷ earlier t.done w.past
  pub line : line_in w (t.done + 1) ≡ Some (line_text w.flow w.start (earlier t.done w.past) entry.event)
  pub json : json_in w (t.done + 1) ≡ Some (json_text w.flow w.start (earlier t.done w.past) entry.event)
  pub within : t.done + 1 ≤ length w.past

pub next_is : (w : World) (t : Tracer) (es : List Entry) (entry d : Entry) → es ≡ entries w.flow w.start w.past → t.done < length es →
    entry ≡ get_or es t.done d → StartFits w.flow w.start → IsLawful w.flow w.start w.past → Follows w t → NextIs w t entry
next_is w t es entry d is lt at start law h =
    let len : length es ≡ length w.past = ap (λ (xs : List Entry). length xs) is ∙ length_entries w.flow w.start w.past in
    let n = nth w.flow w.start w.past t.done (omega arith) in
    let found : Some entry ≡ Some (record { number = t.done + 1; event = n.event; change = change w.flow w.start (n.event ∷ earlier t.done w.past) }) =
    ap (λ (x : Entry). Some x) at ∙ (sym (slice_get-get_or es t.done d lt) ∙ (ap (λ (xs : List Entry). slice_get xs t.done) is ∙ n.entry)) in
    let same : entry ≡ record { number = t.done + 1; event = n.event; change = change w.flow w.start (n.event ∷ earlier t.done w.past) } = grind (arith) in
    let event : entry.event ≡ n.event = ap (λ (x : Entry). x.event) same in
    let split : earlier (t.done + 1) w.past ≡ entry.event ∷ earlier t.done w.past = n.split ∙ ap (λ (e : Event). e ∷ earlier t.done w.past) (sym event) in
    record {
      next = record {
        start = start;
        lawful = subst (IsLawful w.flow w.start) split (lawful_earlier w.flow w.start w.past (t.done + 1) law);
        change = ap (λ (x : Entry). x.change) same ∙ ap (λ (e : Event). change w.flow w.start (e ∷ earlier t.done w.past)) (sym event);
        tracks = h.tracks;
      };
      split = split;
      line = n.line (line_text w.flow w.start) ∙ ap (λ (e : Event). Some (line_text w.flow w.start (earlier t.done w.past) e)) (sym event);
      json = n.line (json_text w.flow w.start) ∙ ap (λ (e : Event). Some (json_text w.flow w.start (earlier t.done w.past) e)) (sym event);
      within = omega arith;
    }

-- nothing comes next
pub no_line : (what : List Event → Event → Text) (w : World) (t : Tracer) (es : List Entry) → es ≡ entries w.flow w.start w.past → length es ≤ t.done →
    at_number what w.past (t.done + 1) ≡ None
no_line what w t es is le =
    let len : length es ≡ length w.past = ap (λ (xs : List Entry). length xs) is ∙ length_entries w.flow w.start w.past in
    line_past what w.past (t.done + 1) (omega arith)

-- where nothing comes next, nothing comes later
pub no_later : (f : Flow) (v : Start) (past : List Event) (n m : ℕ) → 0 < n → n ≤ m → line_of f v past n ≡ None → line_of f v past m ≡ None
no_later f v past n m low le none = by (nat_lt (length past) n) refl
  where
    by : (b : Bool) → nat_lt (length past) n ≡ b → line_of f v past m ≡ None
    by true is = let far : length past < n = grind (arith, nat_tests) in line_past (line_text f v) past m (omega arith)
    by false is =
        let near : n ≤ length past = grind (arith, nat_tests) in
        let h = nth f v past (n - 1) (omega arith) in
        let at : n - 1 + 1 ≡ n = omega arith in
        let some : None ≡ Some (line_text f v (earlier (n - 1) past) h.event) = sym none ∙ (ap (line_of f v past) (sym at) ∙ h.line (line_text f v)) in
        absurd (cc)

-- no entry has the number 0
pub line_zero : (f : Flow) (v : Start) (past : List Event) → line_of f v past 0 ≡ None
line_zero f v [] = refl
line_zero f v (e ∷ past) = let differ : (length past + 1 == 0) ≡ false = grind (arith, nat_tests) in rw differ (line_zero f v past)

-- a tracer goes on with its engine
pub follows_entry : (w : World) (t : Tracer) (e : Event) → Follows w t → Follows (happened w e) t
follows_entry w t e h =
    let within = h.within in
    record { within = omega arith; tracks = rw (earlier_more w.past e t.done within) h.tracks }

follows_to : (w : World) (t : Tracer) (n : ℕ) (o : Option EngineError) → Follows w t → Follows (marked_unless o w n) t
follows_to w t n None h = record { within = h.within; tracks = h.tracks }
follows_to w t n (Some e) h = h

pub follows_mark : (w : World) (t : Tracer) (n : ℕ) → Follows w t → Follows (after_mark w n) t
follows_mark w t n h = follows_to w t n (mark_refusal w n) h
