-- What every lawful list keeps of a state, and the bounds of rows.
-- for: laws::lists_extend, laws::lists_keep_bounds
use Rattle.std.proofs.Common.{◌≡◌, ℕ, ◌+◌, ◌<◌, ◌≤◌, Bool, true, false, ◌⊎◌, inl, inr, List, [], ◌∷◌, ◌++◌, length, map, Option, Some, None, refl, ap, subst}
use Rattle.std.proofs.Common.{arith, if◌then◌else◌}
use Rattle.std.specs.Prelude.{◌==◌, nat_lt, not, ◌&&◌, codes, reverse, slice_index}
use Rattle.std.specs.List.{All}
use Rattle.std.proofs.lemmas.Bool.Decides.{nat_tests}
use Rattle.std.proofs.lemmas.Bool.{and_parts}
use Rattle.std.proofs.lemmas.List.Elements.{All-nil, All-head, All-tail, All-append, All-map}
use Rattle.std.proofs.lemmas.List.{reverse-append}
use Rattle.flow_model.specs.declared.flow.Flow.{Flow}
use Rattle.flow_model.specs.Places.{entries_named, parts_of, IsOfParticipant}
use Rattle.flow_model.proofs.ParticipantBounds.{named_of_participants}
use Rattle.tx_machine.specs.declared.values.Phase.{Phase}
use Rattle.tx_machine.specs.declared.values.Phase.TheVariants.{Preparing, Aborting, Committing, Undoing}
use Rattle.tx_machine.specs.declared.values.Due.TheVariants as due
use Rattle.tx_machine.specs.declared.values.Item.{Item}
use Rattle.tx_machine.specs.declared.values.Item.TheVariants.{Answer, Choice, Told}
use Rattle.tx_machine.specs.Table.{TxState, Upcoming, Prepare, Select, next, after, opening, reopening, chosen, is_open, is_due, prepares_next, selects_next}
use Rattle.tx_machine.specs.Table.{passed_if, is_aborting, cut_at, limited, decide_at, advanced, outcome, entered, after_byte, retry_after, joined_after}
use Rattle.tx_machine.specs.Table.{saved_after, answered_at, chosen_at}
use Rattle.tx_machine.specs.Lists.{is_lawful}
use Rattle.tx_machine.specs.Due.{due_at, end_by}
use Rattle.tx_machine.specs.Row.{Row, row_with, row_at, row_of, IsDoing, IsInPhase, IsRow}
use Rattle.tx_machine.specs.Bounds.{after_newest, IsOfFlow, IsProper}
use Rattle.tx_machine.proofs.StepBounds.{unopened, passed_if_all, entered_all, joined_all, named_all, not_full, less_if, byte_open, joined_length, tells}
use Rattle.tx_machine.proofs.StepBounds.{decided_not, reopened_open}

-- ---- one item more

pub after_one_more : (f : Flow) (s : TxState) (xs : List Item) (x : Item) → after f s (xs ++ x ∷ []) ≡ next f (after f s xs) x
after_one_more f s [] x = refl
after_one_more f s (y ∷ xs) x = after_one_more f (next f s y) xs x

pub lawful_one_more : (f : Flow) (s : TxState) (xs : List Item) (x : Item) → is_lawful f s (xs ++ x ∷ []) ≡ (is_lawful f s xs && is_due (after f s xs) x)
lawful_one_more f s [] x = grind (arith)
lawful_one_more f s (y ∷ xs) x = grind (arith, lawful_one_more f (next f s y) xs x)

reverse_cons : (x : Item) (xs : List Item) → reverse (x ∷ xs) ≡ reverse xs ++ x ∷ []
reverse_cons x xs = reverse-append (x ∷ []) xs

pub newest_is_after : (f : Flow) (s : TxState) (past : List Item) → after_newest f s past ≡ after f s (reverse past)
newest_is_after f s [] = refl
newest_is_after f s (x ∷ past) = rw (reverse_cons x past, after_one_more f s (reverse past) x, newest_is_after f s past) refl

-- ---- going on

-- a state before it goes on
record IsOpen (f : Flow) (s : TxState) : Type 0 where
  calls : s.calls ≤ 1000
  members : length s.joined ≤ s.calls
  told : s.told ≡ 0
  phase : is_open s.phase ≡ true
  joined : All (λ p. p < length (parts_of f)) s.joined
  rest : All (IsOfFlow f) s.rest

record IsCut (f : Flow) (s : TxState) : Type 0 where
  opened : IsOpen f s
  more : (s.rest ≡ []) ⊎ (s.calls < 1000)

cut_open : (f : Flow) (s : TxState) (ms : List Upcoming) (full : Bool) → s.rest ≡ ms → (full ≡ false → s.calls < 1000) → IsOpen f s
    → IsCut f (cut_at s ms full)
cut_open f s [] full r h o = record { opened = o; more = inl r }
cut_open f s (m ∷ ms) false r h o = record { opened = o; more = inr (h refl) }
cut_open f s (m ∷ ms) true r h o = record {
  opened = record { calls = o.calls; members = o.members; told = o.told; phase = refl; joined = o.joined; rest = All-nil (IsOfFlow f) };
  more = inl refl;
}

told_within : (n told : ℕ) → told ≡ 0 → told ≤ n
told_within n told h = omega arith

few_members : (n calls : ℕ) → n ≤ calls → calls ≤ 1000 → n ≤ 1001
few_members n calls h k = omega arith

outcome_decided : (p : Phase) → is_open (outcome p) ≡ true → ⊥
outcome_decided Preparing h = cc
outcome_decided Aborting h = cc
outcome_decided Committing h = cc
outcome_decided Undoing h = cc

not_both : (b : Bool) → b ≡ true → b ≡ false → ⊥
not_both b h k = cc

some_left : (ms : List Upcoming) (m : Upcoming) (tail : List Upcoming) → ms ≡ m ∷ tail → ms ≡ [] → ⊥
some_left ms m tail h k = cc

decide_proper : (f : Flow) (s : TxState) (ms : List Upcoming) (ps : List ℕ) → s.rest ≡ ms → s.joined ≡ ps → IsCut f s → IsProper f (decide_at s ms ps)
decide_proper f s (m ∷ ms) ps r j c = let o = c.opened in record {
  calls = o.calls;
  more = c.more;
  undecided = λ _. record { untold = o.told; members = o.members; ended = λ e. absurd (some_left s.rest m ms r e) };
  decided = λ e. absurd (not_both (is_open s.phase) o.phase e);
  few = few_members (length s.joined) s.calls o.members o.calls;
  told = told_within (length s.joined) s.told o.told;
  joined = o.joined;
  rest = o.rest;
}
decide_proper f s [] [] r j c = let o = c.opened in record {
  calls = o.calls;
  more = c.more;
  undecided = λ _. record { untold = o.told; members = o.members; ended = λ _. j };
  decided = λ _. r;
  few = few_members (length s.joined) s.calls o.members o.calls;
  told = told_within (length s.joined) s.told o.told;
  joined = o.joined;
  rest = o.rest;
}
decide_proper f s [] (p ∷ ps) r j c = let o = c.opened in record {
  calls = o.calls;
  more = c.more;
  undecided = λ e. absurd (outcome_decided s.phase e);
  decided = λ _. r;
  few = few_members (length s.joined) s.calls o.members o.calls;
  told = told_within (length s.joined) s.told o.told;
  joined = o.joined;
  rest = o.rest;
}

advance_proper : (f : Flow) (s : TxState) → IsOpen f s → IsProper f (advanced s)
advance_proper f s o =
    let t : TxState = record s { rest = passed_if (is_aborting s.phase) s.rest } in
    let ot : IsOpen f t = record {
      calls = o.calls;
      members = o.members;
      told = o.told;
      phase = o.phase;
      joined = o.joined;
      rest =
          passed_if_all (IsOfFlow f) (λ s h. h) (is_aborting s.phase) s.rest o.rest;
    } in
    let c : IsCut f (limited t) = cut_open f t t.rest (t.calls == 1000) refl (not_full t.calls o.calls) ot in
    decide_proper f (limited t) (limited t).rest (limited t).joined refl refl c

-- ---- one item

answer_proper : (f : Flow) (s : TxState) (b : ℕ) (c : List ℕ) (ms : List Upcoming) → s.rest ≡ ms → is_open s.phase ≡ true → prepares_next ms ≡ true →
    IsProper f s → IsProper f (answered_at s b c ms)
answer_proper f s b c [] r o e h = absurd (cc)
answer_proper f s b c (Select x ∷ tail) r o e h = absurd (cc)
answer_proper f s b c (Prepare x ∷ tail) r o e h =
    let less : s.calls < 1000 = less_if s.rest s.calls (Prepare x) tail r h.more in
    let all : All (IsOfFlow f) (Prepare x ∷ tail) = subst (All (IsOfFlow f)) r h.rest in
    let one : IsOfParticipant f x = All-head (IsOfFlow f) (Prepare x) tail all in
    let long = joined_length b x.participant s.joined in
    let u = h.undecided o in
    let few = u.members in
    advance_proper f (record s {
      phase = after_byte s.phase b;
      rest = entered x tail;
      retry = retry_after s.phase b s.retry;
      calls = s.calls + 1;
      joined =
          joined_after b x.participant s.joined;
      saved = saved_after b c s.saved;
    })
    (record {
      calls = omega arith;
      members = omega arith;
      told = u.untold;
      phase = byte_open s.phase b o;
      joined = joined_all (λ q. q < length (parts_of f)) b x.participant s.joined h.joined one;
      rest = entered_all (IsOfFlow f) x tail one (All-tail (IsOfFlow f) (Prepare x) tail all);
    })

choice_proper : (f : Flow) (s : TxState) (t : List ℕ) (ms : List Upcoming) → s.rest ≡ ms → is_open s.phase ≡ true → selects_next ms ≡ true → IsProper f s →
    IsProper f (chosen_at f s t ms)
choice_proper f s t [] r o e h = absurd (cc)
choice_proper f s t (Prepare x ∷ tail) r o e h = absurd (cc)
choice_proper f s t (Select x ∷ tail) r o e h =
    let less : s.calls < 1000 = less_if s.rest s.calls (Select x) tail r h.more in
    let all : All (IsOfFlow f) (Select x ∷ tail) = subst (All (IsOfFlow f)) r h.rest in
    let u = h.undecided o in
    let few = u.members in
    advance_proper f (record s { rest = map Prepare (chosen f t) ++ tail; calls = s.calls + 1 })
    (record {
      calls = omega arith;
      members = omega arith;
      told = u.untold;
      phase = o;
      joined = h.joined;
      rest = All-append (IsOfFlow f) (map Prepare (chosen f t)) tail
          (All-map (IsOfFlow f) Prepare (chosen f t) (named_all (IsOfParticipant f) f (named_of_participants f) _))
          (All-tail (IsOfFlow f) (Select x) tail all);
    })

pub next_proper : (f : Flow) (s : TxState) (x : Item) → is_due s x ≡ true → IsProper f s → IsProper f (next f s x)
next_proper f s (Answer b c) d h = let w = and_parts (is_open s.phase) (prepares_next s.rest) d in answer_proper f s b c s.rest refl w.0 w.1 h
next_proper f s (Choice t) d h = let w = and_parts (is_open s.phase) (selects_next s.rest) d in choice_proper f s t s.rest refl w.0 w.1 h
next_proper f s (Told a) d h = record {
  calls = h.calls;
  more = h.more;
  undecided = λ o. absurd (decided_not s.phase (nat_lt s.told (length s.joined)) d o);
  decided = h.decided;
  few = h.few;
  told = tells (not (is_open s.phase)) s.told (length s.joined) d;
  joined = h.joined;
  rest = h.rest;
}

-- ---- whole lists

pub opening_proper : (f : Flow) (tries : ℕ) (saved : List ℕ) → IsProper f (opening f tries saved)
opening_proper f tries saved =
    advance_proper f (unopened f tries saved)
    (record {
      calls = omega arith;
      members = omega arith;
      told = refl;
      phase = refl;
      joined = All-nil (λ p. p < length (parts_of f));
      rest = All-map (IsOfFlow f) Prepare (entries_named f (codes "main")) (named_of_participants f (codes "main"));
    })

pub reopening_proper : (f : Flow) (committing : Bool) (joined : List ℕ) (told tries : ℕ) (saved : List ℕ) → told ≤ length joined → length joined ≤ 1001 →
    All (λ p. p < length (parts_of f)) joined → IsProper f (reopening committing joined told tries saved)
reopening_proper f committing joined told tries saved within few all = record {
  calls = omega arith;
  more = inl refl;
  undecided = λ o. absurd (not_both (is_open (if committing then Committing else Undoing)) o (reopened_open committing));
  decided = λ _. refl;
  few = few;
  told = within;
  joined = all;
  rest = All-nil (IsOfFlow f);
}

pub after_proper : (f : Flow) (s : TxState) (xs : List Item) → IsProper f s → is_lawful f s xs ≡ true → IsProper f (after f s xs)
after_proper f s [] h law = h
after_proper f s (x ∷ xs) h law =
    let w = and_parts (is_due s x) (is_lawful f (next f s x) xs) law in
    after_proper f (next f s x) xs (next_proper f s x w.0 h) w.1

-- ---- the row

same_row : (x y : Row) → Some x ≡ Some y → x ≡ y
same_row x y e = cc

open_phase : (p : Phase) (r : Row) → is_open p ≡ true → r.told ≡ 0 → length r.joined ≤ 1000 → IsInPhase p r
open_phase Preparing r o t l = (t, l)
open_phase Aborting r o t l = (t, l)
open_phase Committing r o t l = absurd cc
open_phase Undoing r o t l = absurd cc

closed_phase : (p : Phase) (r : Row) → is_open p ≡ false → r.told < length r.joined → r.doing ≡ None → length r.joined ≤ 1001 → IsInPhase p r
closed_phase Preparing r o t d l = absurd cc
closed_phase Aborting r o t d l = absurd cc
closed_phase Committing r o t d l = (t, d, l)
closed_phase Undoing r o t d l = (t, d, l)

open_row : (f : Flow) (s : TxState) (doing : Option ℕ) → is_open s.phase ≡ true → IsProper f s → IsDoing (length (parts_of f)) doing →
    IsRow f (row_with s doing)
open_row f s doing o h d =
    let u = h.undecided o in
    let few = u.members in
    let calls = h.calls in
    record { phase = open_phase s.phase (row_with s doing) o u.untold (omega arith); members = h.joined; doing = d }

closed_row : (f : Flow) (s : TxState) → is_open s.phase ≡ false → IsProper f s → nat_lt s.told (length s.joined) ≡ true → IsRow f (row_with s None)
closed_row f s o h lt = record {
  phase = closed_phase s.phase (row_with s None) o (let l : s.told < length s.joined = grind (arith, nat_tests) in l) refl
      h.few;
  members = h.joined;
  doing = tt;
}

no_row : (s : TxState) (r : Row) (b : Bool) → row_at s (if b then due.Shelve else due.Done) ≡ Some r → ⊥
no_row s r true e = cc
no_row s r false e = cc

commit_row : (f : Flow) (s : TxState) (r : Row) (b : Bool) (p : ℕ) → nat_lt s.told (length s.joined) ≡ b → is_open s.phase ≡ false → IsProper f s →
    row_at s (if b then due.Commit p else due.Done) ≡ Some r → IsRow f r
commit_row f s r true p lt o h e = subst (IsRow f) (same_row (row_with s None) r e) (closed_row f s o h lt)
commit_row f s r false p lt o h e = absurd cc

abort_row : (f : Flow) (s : TxState) (r : Row) (b : Bool) (p : ℕ) → nat_lt s.told (length s.joined) ≡ b → is_open s.phase ≡ false → IsProper f s →
    row_at s (if b then due.Abort p else end_by s.retry s.tries) ≡ Some r → IsRow f r
abort_row f s r true p lt o h e = subst (IsRow f) (same_row (row_with s None) r e) (closed_row f s o h lt)
abort_row f s r false p lt o h e = absurd (no_row s r (s.retry && nat_lt 0 s.tries) e)

row_in : (f : Flow) (s : TxState) (r : Row) (p : Phase) (ms : List Upcoming) → s.phase ≡ p → s.rest ≡ ms → IsProper f s →
    row_at s (due_at f s p ms) ≡ Some r → IsRow f r
row_in f s r Preparing [] ep er h e = absurd cc
row_in f s r Preparing (Prepare x ∷ tail) ep er h e = subst (IsRow f) (same_row (row_with s (Some x.participant)) r e)
    (open_row f s (Some x.participant) (ap is_open ep) h (All-head (IsOfFlow f) (Prepare x) tail (subst (All (IsOfFlow f)) er h.rest)))
row_in f s r Preparing (Select x ∷ tail) ep er h e = subst (IsRow f) (same_row (row_with s None) r e) (open_row f s None (ap is_open ep) h tt)
row_in f s r Aborting [] ep er h e = absurd (no_row s r (s.retry && nat_lt 0 s.tries) e)
row_in f s r Aborting (Prepare x ∷ tail) ep er h e = subst (IsRow f) (same_row (row_with s (Some x.participant)) r e)
    (open_row f s (Some x.participant) (ap is_open ep) h (All-head (IsOfFlow f) (Prepare x) tail (subst (All (IsOfFlow f)) er h.rest)))
row_in f s r Aborting (Select x ∷ tail) ep er h e = subst (IsRow f) (same_row (row_with s None) r e) (open_row f s None (ap is_open ep) h tt)
row_in f s r Committing ms ep er h e = commit_row f s r (nat_lt s.told (length s.joined)) (slice_index s.joined s.told) refl (ap is_open ep) h e
row_in f s r Undoing ms ep er h e = abort_row f s r (nat_lt s.told (length s.joined)) (slice_index s.joined s.told) refl (ap is_open ep) h e

pub row_bounded : (f : Flow) (s : TxState) (r : Row) → IsProper f s → row_of f s ≡ Some r → IsRow f r
row_bounded f s r h e = row_in f s r s.phase s.rest refl refl h e
