-- Over whole lists of items: members, number told, saved context and calls are those of the list,
-- and the bound holds.
-- for: laws::whole_lists, laws::bounded_lists
use Rattle.std.proofs.Common.{◌≡◌, ℕ, ◌+◌, ◌≤◌, Bool, true, false, List, [], ◌∷◌, ◌++◌, length, map, refl, sym, ap, ◌∙◌, arith, if◌then◌else◌, append_assoc}
use Rattle.std.proofs.Common.{length-append}
use Rattle.std.specs.Prelude.{◌==◌}
use Rattle.std.proofs.lemmas.List.{append-nil}
use Rattle.std.proofs.lemmas.Bool.{and_parts}
use Rattle.sw_participant.specs.Answers.{stays_out}
use Rattle.flow_model.specs.declared.flow.Flow.{Flow}
use Rattle.tx_machine.specs.declared.values.Item.{Item}
use Rattle.tx_machine.specs.declared.values.Item.TheVariants.{Answer, Choice, Told}
use Rattle.tx_machine.specs.Table.{TxState, Upcoming, Prepare, Select, next, after, is_due, is_open, prepares_next, selects_next, advanced, limited, cut_at}
use Rattle.tx_machine.specs.Table.{decide_at, passed_if, is_aborting, after_byte, retry_after, joined_after, saved_after, entered, chosen}
use Rattle.tx_machine.specs.Table.{answered_at, chosen_at}
use Rattle.tx_machine.specs.Table.{opening}
use Rattle.tx_machine.specs.Lists.{is_lawful, saved_in, joined_in, calls_in, preparing, IsWhole, IsBounded}
use Rattle.tx_machine.proofs.StepBounds.{unopened}
use Rattle.tx_machine.proofs.BoundLaws.{opening_proper, after_proper}

-- what going on leaves as it was
record Same (s t : TxState) : Type 0 where
  saved : t.saved ≡ s.saved
  told : t.told ≡ s.told
  joined : t.joined ≡ s.joined
  calls : t.calls ≡ s.calls
  tries : t.tries ≡ s.tries

cut_same : (s : TxState) (ms : List Upcoming) (full : Bool) → Same s (cut_at s ms full)
cut_same s [] full = record { saved = refl; told = refl; joined = refl; calls = refl; tries = refl }
cut_same s (m ∷ ms) false = record { saved = refl; told = refl; joined = refl; calls = refl; tries = refl }
cut_same s (m ∷ ms) true = record { saved = refl; told = refl; joined = refl; calls = refl; tries = refl }

decide_same : (s : TxState) (ms : List Upcoming) (ps : List ℕ) → Same s (decide_at s ms ps)
decide_same s (m ∷ ms) ps = record { saved = refl; told = refl; joined = refl; calls = refl; tries = refl }
decide_same s [] [] = record { saved = refl; told = refl; joined = refl; calls = refl; tries = refl }
decide_same s [] (p ∷ ps) = record { saved = refl; told = refl; joined = refl; calls = refl; tries = refl }

advance_same : (s : TxState) → Same s (advanced s)
advance_same s =
    let t : TxState = record s { rest = passed_if (is_aborting s.phase) s.rest } in
    let a = cut_same t t.rest (t.calls == 1000) in
    let u : TxState = limited t in
    let b = decide_same u u.rest u.joined in
    record { saved = b.saved ∙ a.saved; told = b.told ∙ a.told; joined = b.joined ∙ a.joined; calls = b.calls ∙ a.calls; tries = b.tries ∙ a.tries }

-- one answer, by what the rest begins with
record IsAnswered (s t : TxState) (b : ℕ) (c : List ℕ) (ms : List Upcoming) : Type 0 where
  saved : t.saved ≡ saved_after b c s.saved
  told : t.told ≡ s.told
  joined : t.joined ≡ s.joined ++ (if stays_out b then [] else preparing ms)
  calls : t.calls ≡ s.calls + 1
  tries : t.tries ≡ s.tries

joins : (out : Bool) (ps : List ℕ) (p : ℕ) → (if out then ps else ps ++ p ∷ []) ≡ ps ++ (if out then [] else p ∷ [])
joins true ps p = sym (append-nil ps)
joins false ps p = refl

at_answer : (s : TxState) (b : ℕ) (c : List ℕ) (ms : List Upcoming) → prepares_next ms ≡ true → IsAnswered s (answered_at s b c ms) b c ms
at_answer s b c [] h = absurd (cc)
at_answer s b c (Select e ∷ tail) h = absurd (cc)
at_answer s b c (Prepare e ∷ tail) h =
    let w = advance_same (record s {
      phase = after_byte s.phase b;
      rest = entered e tail;
      retry = retry_after s.phase b s.retry;
      calls =
          s.calls + 1;
      joined = joined_after b e.participant s.joined;
      saved = saved_after b c s.saved;
    }) in
    record { saved = w.saved; told = w.told; joined = w.joined ∙ joins (stays_out b) s.joined e.participant; calls = w.calls; tries = w.tries }

record IsChosen (s t : TxState) : Type 0 where
  saved : t.saved ≡ s.saved
  told : t.told ≡ s.told
  joined : t.joined ≡ s.joined
  calls : t.calls ≡ s.calls + 1
  tries : t.tries ≡ s.tries

at_choice : (f : Flow) (s : TxState) (t : List ℕ) (ms : List Upcoming) → selects_next ms ≡ true → IsChosen s (chosen_at f s t ms)
at_choice f s t [] h = absurd (cc)
at_choice f s t (Prepare e ∷ tail) h = absurd (cc)
at_choice f s t (Select e ∷ tail) h =
    let w = advance_same (record s { rest = map Prepare (chosen f t) ++ tail; calls = s.calls + 1 }) in
    record { saved = w.saved; told = w.told; joined = w.joined; calls = w.calls; tries = w.tries }

pub whole : (f : Flow) (s : TxState) (xs : List Item) → is_lawful f s xs ≡ true → IsWhole f s xs
whole f s [] h = record { saved = refl; told = omega arith; joined = sym (append-nil s.joined); calls = omega arith; tries = refl }
whole f s (Answer b c ∷ xs) h =
    let l = and_parts (is_due s (Answer b c)) (is_lawful f (next f s (Answer b c)) xs) h in
    let w = at_answer s b c s.rest (and_parts (is_open s.phase) (prepares_next s.rest) l.0).1 in
    let ih = whole f (next f s (Answer b c)) xs l.1 in
    record {
      saved = ih.saved ∙ ap (λ z. saved_in z xs) w.saved;
      told = omega (arith, ih.told, w.told);
      joined = ih.joined ∙ ap (λ z. z ++ joined_in f (next f s (Answer b c)) xs) w.joined ∙ append_assoc s.joined
          (if stays_out b then [] else preparing s.rest) (joined_in f (next f s (Answer b c)) xs);
      calls = omega (arith, ih.calls, w.calls);
      tries = ih.tries ∙ w.tries;
    }
whole f s (Choice t ∷ xs) h =
    let l = and_parts (is_due s (Choice t)) (is_lawful f (next f s (Choice t)) xs) h in
    let w = at_choice f s t s.rest (and_parts (is_open s.phase) (selects_next s.rest) l.0).1 in
    let ih = whole f (next f s (Choice t)) xs l.1 in
    record {
      saved = ih.saved ∙ ap (λ z. saved_in z xs) w.saved;
      told = omega (arith, ih.told, w.told);
      joined = ih.joined ∙ ap (λ z. z ++ joined_in f (next f s (Choice t)) xs) w.joined;
      calls = omega (arith, ih.calls, w.calls);
      tries = ih.tries ∙ w.tries;
    }
whole f s (Told a ∷ xs) h =
    let l = and_parts (is_due s (Told a)) (is_lawful f (next f s (Told a)) xs) h in
    let ih = whole f (next f s (Told a)) xs l.1 in
    record { saved = ih.saved; told = omega (arith, ih.told); joined = ih.joined; calls = ih.calls; tries = ih.tries }

-- a list has no more members than answers
preparing_one : (ms : List Upcoming) → length (preparing ms) ≤ 1
preparing_one [] = omega arith
preparing_one (Prepare e ∷ ms) = omega arith
preparing_one (Select e ∷ ms) = omega arith

joins_one : (out : Bool) (ms : List Upcoming) → length (if out then [] else preparing ms) ≤ 1
joins_one true ms = omega arith
joins_one false ms = preparing_one ms

few_joined : (f : Flow) (s : TxState) (xs : List Item) → length (joined_in f s xs) ≤ calls_in xs
few_joined f s [] = omega arith
few_joined f s (Answer b c ∷ xs) =
    omega (
      arith,
      length-append (if stays_out b then [] else preparing s.rest) (joined_in f (next f s (Answer b c)) xs),
      joins_one (stays_out b) s.rest,
      few_joined f (next f s (Answer b c)) xs,
    )
few_joined f s (Choice t ∷ xs) = omega (arith, few_joined f (next f s (Choice t)) xs)
few_joined f s (Told a ∷ xs) = few_joined f (next f s (Told a)) xs

pub bounded : (f : Flow) (tries : ℕ) (saved : List ℕ) (xs : List Item) → is_lawful f (opening f tries saved) xs ≡ true → IsBounded f (opening f tries saved) xs
bounded f tries saved xs l =
    let first : TxState = unopened f tries saved in
    let s : TxState = opening f tries saved in
    let start = advance_same first in
    let w = whole f s xs l in
    let p = after_proper f s xs (opening_proper f tries saved) l in
    let few : calls_in xs ≤ 1000 = omega (arith, w.calls, p.calls) in
    let members : length (after f s xs).joined ≤ 1000 = omega (
      arith,
      ap length w.joined,
      length-append s.joined (joined_in f s xs),
      ap length start.joined,
      few_joined f s xs,
      few,
    ) in
    record { calls = few; members = members; told = omega (arith, w.told, start.told, p.told, members) }
