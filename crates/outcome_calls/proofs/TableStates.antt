-- The table gives what the law needs.
-- for: laws::table_is_sound
use Rattle.std.proofs.Common.{◌≡◌, ℕ, ◌+◌, ◌<◌, ◌≤◌, Bool, true, false, List, [], ◌∷◌, ◌++◌, length, map, Option, Some, None, refl, sym, ◌∙◌, ap, subst, arith}
use Rattle.std.proofs.Common.{length-append}
use Rattle.std.specs.Prelude.{if◌then◌else◌, slice_get, slice_index, nat_lt, not, ◌==◌, ◌&&◌, codes}
use Rattle.std.proofs.lemmas.Bool.Decides.{nat_tests}
use Rattle.std.proofs.lemmas.Option.{slice_get-get_or}
use Rattle.sw_participant.specs.Answers.{stays_out, is_prepared}
use Rattle.flow_model.specs.declared.flow.Flow.{Flow}
use Rattle.flow_model.specs.declared.flow.PlacedEntry.{PlacedEntry}
use Rattle.flow_model.specs.Places.{entries_named}
use Rattle.tx_machine.specs.declared.values.Phase.{Phase}
use Rattle.tx_machine.specs.declared.values.Phase.TheVariants.{Preparing, Aborting, Committing, Undoing}
use Rattle.tx_machine.specs.declared.values.Due.{Due}
use Rattle.tx_machine.specs.declared.values.Due.TheVariants.{Prepare, PrepareForAbort, Select, Commit, Abort, Shelve, Done}
use Rattle.tx_machine.specs.Table as table
use Rattle.tx_machine.specs.Table.{TxState, Upcoming}
use Rattle.tx_machine.specs.Due.{due_at, end_by, spot_of, select_spot}
use Rattle.tx_machine.specs.Row.{Row, row_with, IsInPhase}
use Rattle.outcome_calls.specs.Trail.{joins, count, one_of, listed, is_committing}
use Rattle.outcome_calls.specs.One.{Decision, Undecided, ToCommit, ToAbort, DueCall, Preparation, Selection, Telling, NoCall, FullReply, Answer, Chosen, Advice}
use Rattle.outcome_calls.specs.One.{Restored, Standing, commits, DueFits, IsRowOf, IsStanding, Follows, Reopened}
use Rattle.outcome_calls.specs.States.{FullState, Head, own, begin, after, outcome_due, restores, seen, due, table_row, row_in, decision, standing_at, standing}
use Rattle.outcome_calls.specs.States.{reopen, PhaseFits, IsOpenedFrom, WhileOpen, WhileTelling, StateFitsIn, StateFits, answers}
use Rattle.outcome_calls.specs.Plant.{is_idle}
use Rattle.outcome_calls.proofs.Trails.{count-append}
use Rattle.tx_machine.proofs.StepBounds.{not_full}

abbrev pub row_by : Phase → TxState → Option ℕ → Row
row_by ph s o = row_with (record s { phase = ph }) o

pub append_none : (xs : List ℕ) → xs ++ [] ≡ xs
append_none [] = refl
append_none (x ∷ xs) = ap (λ (ys : List ℕ). x ∷ ys) (append_none xs)

pub some_is : (r k : Row) → Some r ≡ Some k → r ≡ k
some_is r k h = grind (arith, h)

pub some_one : (p q : ℕ) → Some p ≡ Some q → p ≡ q
some_one p q h = grind (arith, h)

pub preparation_is : (p q : ℕ) → Preparation p ≡ Preparation q → p ≡ q
preparation_is p q h = grind (arith, h)

-- what is sound, by what is due

pub fits_row : (ph : Phase) (m : Decision) (s : TxState) (d : DueCall) (back : Bool) (row : Option Row) (o : Option ℕ) (r : Row) →
    is_committing ph ≡ commits m → ((q : ℕ) → d ≡ Preparation q → o ≡ Some q) → Some (row_by ph s o) ≡ Some r
    → IsRowOf (record { decision = m; members = s.joined; told = s.told; due = d; restored = back; row = row }) r
fits_row ph m s d back row o r same asks is =
    subst (λ (r : Row). IsRowOf (record { decision = m; members = s.joined; told = s.told; due = d; restored = back; row = row }) r)
    (some_is (row_by ph s o) r is)
    (record {
      phase = same;
      told = refl;
      members = λ n less. refl;
      covered = λ q. omega (arith, count-append q s.joined (one_of o));
      doing = λ k due q. subst (λ (o : Option ℕ). count q (s.joined ++ k ∷ []) ≤ count q (listed (row_by ph s o))) (sym (asks k due)) (omega arith);
    })

pub fits_opened : (m : Decision) (ph : Phase) (st : FullState) (d : DueCall) (row : Option Row) (r : Row) → decision ph ≡ m →
    ((p : ℕ) → d ≡ Preparation p → ⊥) → IsOpenedFrom r ph st
    → IsRowOf (record { decision = m; members = st.state.joined; told = st.state.told; due = d; restored = st.restored; row = row }) r
fits_opened m ph st d row r is not f = record {
  phase = f.phase ∙ ap commits is;
  told = f.told;
  members = f.members;
  covered = λ q. rw f.listed (omega arith);
  doing = λ k h q. absurd (not k h);
}

pub sound_idle : (m : Decision) (ms : List ℕ) (told : ℕ) (back : Bool) (row : Option Row) → told ≡ length ms → back ≡ false → row ≡ None
    → IsStanding (record { decision = m; members = ms; told = told; due = NoCall; restored = back; row = row })
sound_idle m ms told back row all not none = record {
  due = tt;
  ended = λ k. (all, refl);
  row = λ r k. absurd (grind (arith, none, k));
  back = λ h. absurd (grind (arith, not, h));
}

pub sound_preparation : (ph : Phase) (s : TxState) (p : ℕ) (back : Bool) (row : Option Row) → is_committing ph ≡ false → s.told ≡ 0 → back ≡ false →
    row ≡ Some (row_by ph s (Some p))
    → IsStanding (record { decision = Undecided; members = s.joined; told = s.told; due = Preparation p; restored = back; row = row })
sound_preparation ph s p back row same z not is = record {
  due = (refl, z);
  ended = λ k. absurd (grind (arith, is, k));
  row = λ r k. fits_row ph Undecided s (Preparation p) back row (Some p) r same (λ q h. ap (λ (n : ℕ). Some n) (preparation_is p q h)) (sym is ∙ k);
  back = λ h. absurd (grind (arith, not, h));
}

pub sound_selection : (ph : Phase) (s : TxState) (p : ℕ) (back : Bool) (row : Option Row) → is_committing ph ≡ false → s.told ≡ 0 → back ≡ false →
    row ≡ Some (row_by ph s None)
    → IsStanding (record { decision = Undecided; members = s.joined; told = s.told; due = Selection p; restored = back; row = row })
sound_selection ph s p back row same z not is = record {
  due = (refl, z);
  ended = λ k. absurd (grind (arith, is, k));
  row = λ r k. fits_row ph Undecided s (Selection p) back row None r same (λ q h. absurd (grind (arith, h))) (sym is ∙ k);
  back = λ h. absurd (grind (arith, not, h));
}

pub row_cases : (o : Option Row) (d : Due) (ph : Phase) (st : FullState) (r : Row) (X : Type 0) → st.opened ≡ o → row_in o d ph st.state ≡ Some r →
    (table_row d ph st.state ≡ Some r → X) → ((st.opened ≡ Some r) → X) → X
row_cases None d ph st r X e is mine old = mine is
row_cases (Some k) d ph st r X e is mine old = old (e ∙ is)

pub row_none : (o : Option Row) (d : Due) (ph : Phase) (s : TxState) → row_in o d ph s ≡ None → table_row d ph s ≡ None
row_none None d ph s h = h
row_none (Some k) d ph s h = absurd (grind (arith, h))

pub row_own : (o : Option Row) (d : Due) (ph : Phase) (s : TxState) → o ≡ None → row_in o d ph s ≡ table_row d ph s
row_own o d ph s h = ap (λ (o : Option Row). row_in o d ph s) h

pub outcome_fits : (q : Bool) (p : ℕ) (st : Standing) → (st.decision ≡ Undecided → ⊥) → slice_get st.members st.told ≡ Some p → DueFits (outcome_due q p) st
outcome_fits true p st not is = (not, is)
outcome_fits false p st not is = (not, is)

pub outcome_asks : (q : Bool) (p k : ℕ) → outcome_due q p ≡ Preparation k → ⊥
outcome_asks true p k h = grind (arith, h)
outcome_asks false p k h = grind (arith, h)

pub outcome_told : (q : Bool) (p : ℕ) → q ≡ false → outcome_due q p ≡ Telling p
outcome_told q p h = ap (λ (q : Bool). outcome_due q p) h

pub not_restores : (f : Flow) (st : FullState) (p : ℕ) → st.restored ≡ true → restores f st p ≡ false
not_restores f st p h = grind (arith, h)

pub sound_yes : (f : Flow) (st : FullState) (ph : Phase) (m : Decision) (p : ℕ) (tell : Due) → decision ph ≡ m → (m ≡ Undecided → ⊥) →
    is_committing ph ≡ commits m → slice_get st.state.joined st.state.told ≡ Some p
    → table_row tell ph st.state ≡ Some (row_by ph st.state None) → WhileTelling ph st
    → IsStanding (record {
      decision = m;
      members = st.state.joined;
      told = st.state.told;
      due = outcome_due (restores f st p) p;
      restored =
          st.restored;
      row = row_in st.opened tell ph st.state;
    })
sound_yes f st ph m p tell is not same get row t = record {
  due = outcome_fits (restores f st p) p (record {
    decision = m;
    members = st.state.joined;
    told = st.state.told;
    due = outcome_due (restores f st p) p;
    restored = st.restored;
    row = row_in st.opened tell ph st.state;
  }) not get;
  ended = λ k. absurd (grind (arith, row, row_none st.opened tell ph st.state k));
  row = λ r k. row_cases st.opened tell ph st r (IsRowOf (record {
    decision = m;
    members = st.state.joined;
    told = st.state.told;
    due =
        outcome_due (restores f st p) p;
    restored = st.restored;
    row = row_in st.opened tell ph st.state;
  }) r) refl k
      (λ h. fits_row ph m st.state (outcome_due (restores f st p) p) st.restored (row_in st.opened tell ph st.state) None r same
      (λ q e. absurd (outcome_asks (restores f st p) p q e)) (sym row ∙ h))
      (λ h. fits_opened m ph st (outcome_due (restores f st p) p) (row_in st.opened tell ph st.state) r is (outcome_asks (restores f st p) p) (t.opened r h));
  back = λ h. (p, outcome_told (restores f st p) p (not_restores f st p h));
}

pub sound_no : (st : FullState) (ph : Phase) (m : Decision) (last : Due) → decision ph ≡ m → nat_lt st.state.told (length st.state.joined) ≡ false →
    table_row last ph st.state ≡ None → WhileTelling ph st
    → IsStanding (record {
      decision = m;
      members = st.state.joined;
      told = st.state.told;
      due = NoCall;
      restored = st.restored;
      row =
          row_in st.opened last ph st.state;
    })
sound_no st ph m last is past row t = record {
  due = tt;
  ended = λ k. (grind (arith, nat_tests, past, t.room), refl);
  row = λ r k. row_cases st.opened last ph st r (IsRowOf (record {
    decision = m;
    members = st.state.joined;
    told = st.state.told;
    due = NoCall;
    restored =
        st.restored;
    row = row_in st.opened last ph st.state;
  }) r) refl k
      (λ h. absurd (grind (arith, row, h)))
      (λ h. fits_opened m ph st NoCall (row_in st.opened last ph st.state) r is (λ p e. grind (arith, e)) (t.opened r h));
  back = λ h. absurd (grind (arith, past, t.restored h));
}

pub get_index : (xs : List ℕ) (n : ℕ) → nat_lt n (length xs) ≡ true → slice_get xs n ≡ Some (slice_index xs n)
get_index xs n h = slice_get-get_or xs n 0 (grind (arith, nat_tests, h))

pub sound_commit : (f : Flow) (st : FullState) (b : Bool) → nat_lt st.state.told (length st.state.joined) ≡ b → WhileTelling Committing st
    → IsStanding (record {
      decision = ToCommit;
      members = st.state.joined;
      told = st.state.told;
      due =
          seen f st (if b then Commit (slice_index st.state.joined st.state.told) else Done);
      restored = st.restored;
      row =
          row_in st.opened (if b then Commit (slice_index st.state.joined st.state.told) else Done) Committing st.state;
    })
sound_commit f st true e t = sound_yes f st Committing ToCommit (slice_index st.state.joined st.state.told)
    (Commit (slice_index st.state.joined st.state.told)) refl (λ h. grind (arith, h)) refl (get_index st.state.joined st.state.told e) refl t
sound_commit f st false e t = sound_no st Committing ToCommit Done refl e refl t

pub sound_abort : (f : Flow) (st : FullState) (b c : Bool) → nat_lt st.state.told (length st.state.joined) ≡ b → WhileTelling Undoing st
    → IsStanding (record {
      decision = ToAbort;
      members = st.state.joined;
      told = st.state.told;
      due =
          seen f st (if b then Abort (slice_index st.state.joined st.state.told) else (if c then Shelve else Done));
      restored = st.restored;
      row =
          row_in st.opened (if b then Abort (slice_index st.state.joined st.state.told) else (if c then Shelve else Done)) Undoing st.state;
    })
sound_abort f st true c e t = sound_yes f st Undoing ToAbort (slice_index st.state.joined st.state.told) (Abort (slice_index st.state.joined st.state.told))
    refl (λ h. grind (arith, h)) refl (get_index st.state.joined st.state.told e) refl t
sound_abort f st false true e t = sound_no st Undoing ToAbort Shelve refl e refl t
sound_abort f st false false e t = sound_no st Undoing ToAbort Done refl e refl t

pub all_none : (s : TxState) → s.told ≡ 0 → s.joined ≡ [] → s.told ≡ length s.joined
all_none s z none = z ∙ sym (ap length none)

pub sound_ended : (f : Flow) (st : FullState) (c : Bool) → WhileOpen [] st
    → IsStanding (record {
      decision = Undecided;
      members = st.state.joined;
      told = st.state.told;
      due = seen f st (if c then Shelve else Done);
      restored =
          st.restored;
      row = row_in st.opened (if c then Shelve else Done) Aborting st.state;
    })
sound_ended f st true o = sound_idle Undecided st.state.joined st.state.told st.restored (row_in st.opened Shelve Aborting st.state)
    (all_none st.state o.none (o.ended refl)) o.restored (row_own st.opened Shelve Aborting st.state o.opened)
sound_ended f st false o = sound_idle Undecided st.state.joined st.state.told st.restored (row_in st.opened Done Aborting st.state)
    (all_none st.state o.none (o.ended refl)) o.restored (row_own st.opened Done Aborting st.state o.opened)

pub sound_at : (f : Flow) (st : FullState) (ph : Phase) (ms : List Upcoming) → StateFitsIn ph ms st → IsStanding (standing_at f st ph ms)
sound_at f st Preparing [] o = sound_idle Undecided st.state.joined st.state.told st.restored (row_in st.opened Done Preparing st.state)
    (all_none st.state o.none (o.ended refl)) o.restored (row_own st.opened Done Preparing st.state o.opened)
sound_at f st Preparing (table.Prepare e ∷ ms) o = sound_preparation Preparing st.state e.participant st.restored
    (row_in st.opened (Prepare (spot_of f e)) Preparing st.state) refl o.none o.restored
    (row_own st.opened (Prepare (spot_of f e)) Preparing st.state o.opened)
sound_at f st Preparing (table.Select e ∷ ms) o = sound_selection Preparing st.state e.participant st.restored
    (row_in st.opened (Select (select_spot f e)) Preparing st.state) refl o.none o.restored
    (row_own st.opened (Select (select_spot f e)) Preparing st.state o.opened)
sound_at f st Aborting [] o = sound_ended f st (st.state.retry && nat_lt 0 st.state.tries) o
sound_at f st Aborting (table.Prepare e ∷ ms) o = sound_preparation Aborting st.state e.participant st.restored
    (row_in st.opened (PrepareForAbort (spot_of f e)) Aborting st.state) refl o.none o.restored
    (row_own st.opened (PrepareForAbort (spot_of f e)) Aborting st.state o.opened)
sound_at f st Aborting (table.Select e ∷ ms) o = sound_selection Aborting st.state e.participant st.restored
    (row_in st.opened (Select (select_spot f e)) Aborting st.state) refl o.none o.restored
    (row_own st.opened (Select (select_spot f e)) Aborting st.state o.opened)
sound_at f st Committing ms t = sound_commit f st (nat_lt st.state.told (length st.state.joined)) refl t
sound_at f st Undoing ms t = sound_abort f st (nat_lt st.state.told (length st.state.joined)) (st.state.retry && nat_lt 0 st.state.tries) refl t

pub sound : (f : Flow) (st : FullState) → StateFits st → IsStanding (standing f st)
sound f st h = sound_at f st st.state.phase st.state.rest h

-- going on

pub proper_open : (ph : Phase) (ms : List Upcoming) (st : FullState) → table.is_open ph ≡ true → WhileOpen ms st → StateFitsIn ph ms st
proper_open Preparing ms st h o = o
proper_open Aborting ms st h o = o
proper_open Committing ms st h o = absurd (grind (arith, h))
proper_open Undoing ms st h o = absurd (grind (arith, h))

pub proper_telling : (ph : Phase) (ms : List Upcoming) (st : FullState) → table.is_open ph ≡ true → WhileTelling (table.outcome ph) st →
    StateFitsIn (table.outcome ph) ms st
proper_telling Preparing ms st h t = t
proper_telling Aborting ms st h t = t
proper_telling Committing ms st h t = absurd (grind (arith, h))
proper_telling Undoing ms st h t = absurd (grind (arith, h))

abbrev pub mine : TxState → Option Row → Bool → Bool → FullState
mine s o r q = record { state = s; opened = o; recovered = r; restored = q }

pub proper_decided : (s : TxState) (ms : List Upcoming) (ps : List ℕ) (o : Option Row) (r q : Bool) → s.rest ≡ ms → s.joined ≡ ps →
    table.is_open s.phase ≡ true → s.told ≡ 0 → o ≡ None → q ≡ false
    → s.calls ≤ 1000 → ((s.rest ≡ [] → ⊥) → s.calls < 1000) → length s.joined ≤ s.calls → StateFits (mine (table.decide_at s ms ps) o r q)
proper_decided s (m ∷ ms) ps o r q rest joined wide z none not few more members =
    proper_open s.phase s.rest (mine s o r q) wide (record {
      none = z;
      ended = λ h. absurd (grind (arith, sym rest ∙ h));
      opened = none;
      restored =
          not;
      few = few;
      more = more;
      members = members;
    })
proper_decided s [] [] o r q rest joined wide z none not few more members =
    proper_open s.phase s.rest (mine s o r q) wide (record {
      none = z;
      ended = λ h. joined;
      opened = none;
      restored = not;
      few = few;
      more = more;
      members =
          members;
    })
proper_decided s [] (p ∷ ps) o r q rest joined wide z none not few more members =
    proper_telling s.phase s.rest (mine (record s { phase = table.outcome s.phase }) o r q) wide
    (record {
      room = omega (arith, z);
      opened = λ k h. absurd (grind (arith, none, h));
      restored = λ h. absurd (grind (arith, not, h));
      members =
          omega (arith, few, members);
    })

pub cut_calls : (s : TxState) (ms : List Upcoming) (full : Bool) → (table.cut_at s ms full).calls ≡ s.calls
cut_calls s [] full = refl
cut_calls s (m ∷ ms) false = refl
cut_calls s (m ∷ ms) true = refl

pub cut_more : (s : TxState) (ms : List Upcoming) (full : Bool) → s.rest ≡ ms → (full ≡ false → s.calls < 1000) → ((table.cut_at s ms full).rest ≡ [] → ⊥) →
    s.calls < 1000
cut_more s [] full r h not = absurd (not r)
cut_more s (m ∷ ms) false r h not = h refl
cut_more s (m ∷ ms) true r h not = absurd (not refl)

pub cut_open : (s : TxState) (ms : List Upcoming) (full : Bool) → table.is_open s.phase ≡ true → table.is_open (table.cut_at s ms full).phase ≡ true
cut_open s [] full h = h
cut_open s (m ∷ ms) false h = h
cut_open s (m ∷ ms) true h = refl

pub cut_told : (s : TxState) (ms : List Upcoming) (full : Bool) → (table.cut_at s ms full).told ≡ s.told
cut_told s [] full = refl
cut_told s (m ∷ ms) false = refl
cut_told s (m ∷ ms) true = refl

pub cut_joined : (s : TxState) (ms : List Upcoming) (full : Bool) → (table.cut_at s ms full).joined ≡ s.joined
cut_joined s [] full = refl
cut_joined s (m ∷ ms) false = refl
cut_joined s (m ∷ ms) true = refl

pub decide_told : (s : TxState) (ms : List Upcoming) (ps : List ℕ) → (table.decide_at s ms ps).told ≡ s.told
decide_told s (m ∷ ms) ps = refl
decide_told s [] [] = refl
decide_told s [] (p ∷ ps) = refl

pub decide_joined : (s : TxState) (ms : List Upcoming) (ps : List ℕ) → (table.decide_at s ms ps).joined ≡ s.joined
decide_joined s (m ∷ ms) ps = refl
decide_joined s [] [] = refl
decide_joined s [] (p ∷ ps) = refl

abbrev pub passing : TxState → TxState
passing s = record s { rest = table.passed_if (table.is_aborting s.phase) s.rest }

pub advanced_told : (s : TxState) → (table.advanced s).told ≡ s.told
advanced_told s =
    let u : TxState = table.limited (passing s) in decide_told u u.rest u.joined ∙ cut_told (passing s) (passing s).rest (s.calls == 1000)

pub advanced_joined : (s : TxState) → (table.advanced s).joined ≡ s.joined
advanced_joined s =
    let u : TxState = table.limited (passing s) in decide_joined u u.rest u.joined ∙ cut_joined (passing s) (passing s).rest (s.calls == 1000)

pub proper_advanced : (s : TxState) (o : Option Row) (r q : Bool) → table.is_open s.phase ≡ true → s.told ≡ 0 → o ≡ None → q ≡ false → s.calls ≤ 1000 →
    length s.joined ≤ s.calls → StateFits (mine (table.advanced s) o r q)
proper_advanced s o r q wide z none not few members =
    let t : TxState = passing s in
    let u : TxState = table.limited t in
    let calls : u.calls ≡ s.calls = cut_calls t t.rest (s.calls == 1000) in
    let joined : u.joined ≡ s.joined = cut_joined t t.rest (s.calls == 1000) in
    proper_decided u u.rest u.joined o r q refl refl (cut_open t t.rest (s.calls == 1000) wide) (cut_told t t.rest (s.calls == 1000) ∙ z) none not
    (omega (arith, calls, few)) (λ h. let less : s.calls < 1000 = cut_more t t.rest (s.calls == 1000) refl (not_full s.calls few) h in
    omega (arith, calls, less)) (omega (arith, calls, ap length joined, members))

pub proper_begin : (f : Flow) (head : Head) → StateFits (begin f head)
proper_begin f head = proper_advanced (record {
  phase = Preparing;
  rest = map table.Prepare (entries_named f (codes "main"));
  retry = false;
  bound =
      false;
  calls = 0;
  joined = [];
  told = 0;
  saved = head.1;
  tries = head.0;
}) None false false refl refl refl refl (omega arith) (omega arith)

pub joined_length : (b p : ℕ) (ps : List ℕ) → length (table.joined_after b p ps) ≤ length ps + 1
joined_length b p ps = by (stays_out b)
  where
    by : (out : Bool) → length (if out then ps else ps ++ p ∷ []) ≤ length ps + 1
    by true = omega arith
    by false = omega (arith, length-append ps (p ∷ []))

pub byte_open : (ph : Phase) (b : ℕ) → table.is_open ph ≡ true → table.is_open (table.after_byte ph b) ≡ true
byte_open Preparing b h = by (is_prepared b)
  where
    by : (ok : Bool) → table.is_open (if ok then Preparing else Aborting) ≡ true
    by true = refl
    by false = refl
byte_open Aborting b h = refl
byte_open Committing b h = absurd (grind (arith, h))
byte_open Undoing b h = absurd (grind (arith, h))

pub joined_is : (b p : ℕ) (ps : List ℕ) → table.joined_after b p ps ≡ (if joins b then ps ++ p ∷ [] else ps)
joined_is b p ps = by (stays_out b)
  where
    by : (out : Bool) → (if out then ps else ps ++ p ∷ []) ≡ (if not out then ps ++ p ∷ [] else ps)
    by true = refl
    by false = refl

pub answered : (st : FullState) (b : ℕ) (c : List ℕ) (e : PlacedEntry) (ms : List Upcoming) → table.is_open st.state.phase ≡ true →
    WhileOpen (table.Prepare e ∷ ms) st
    → StateFits (record st { state = table.answered_at st.state b c (table.Prepare e ∷ ms) })
    × (((table.answered_at st.state b c (table.Prepare e ∷ ms)).joined ≡ (if joins b then st.state.joined ++ e.participant ∷ [] else st.state.joined))
    × ((table.answered_at st.state b c (table.Prepare e ∷ ms)).told ≡ st.state.told))
answered st b c e ms wide o =
    let s = st.state in
    let to : TxState = record s {
      phase = table.after_byte s.phase b;
      rest = table.entered e ms;
      retry = table.retry_after s.phase b s.retry;
      calls =
          s.calls + 1;
      joined = table.joined_after b e.participant s.joined;
      saved = table.saved_after b c s.saved;
    } in (
      proper_advanced to st.opened st.recovered st.restored (byte_open s.phase b wide) o.none o.opened o.restored
          (omega (arith, o.more (λ k. grind (arith, k)))) (omega (arith, joined_length b e.participant s.joined, o.members)),
      (advanced_joined to ∙ joined_is b e.participant s.joined, advanced_told to),
    )

pub chose : (f : Flow) (st : FullState) (t : List ℕ) (e : PlacedEntry) (ms : List Upcoming) → table.is_open st.state.phase ≡ true →
    WhileOpen (table.Select e ∷ ms) st
    → StateFits (record st { state = table.chosen_at f st.state t (table.Select e ∷ ms) })
    × (((table.chosen_at f st.state t (table.Select e ∷ ms)).joined ≡ st.state.joined)
    × ((table.chosen_at f st.state t (table.Select e ∷ ms)).told ≡ st.state.told))
chose f st t e ms wide o =
    let s = st.state in
    let to : TxState = record s { rest = map table.Prepare (table.chosen f t) ++ ms; calls = s.calls + 1 } in (
      proper_advanced to st.opened st.recovered st.restored wide o.none o.opened o.restored (omega (arith, o.more (λ k. grind (arith, k))))
          (omega (arith, o.members)),
      (advanced_joined to, advanced_told to),
    )

-- each reply leads on

pub no_answer : (q : Bool) (p : ℕ) (b : ℕ) (c : List ℕ) → answers (outcome_due q p) (Answer b c) ≡ true → ⊥
no_answer true p b c h = grind (arith, h)
no_answer false p b c h = grind (arith, h)

pub no_choice : (q : Bool) (p : ℕ) (t : List ℕ) → answers (outcome_due q p) (Chosen t) ≡ true → ⊥
no_choice true p t h = grind (arith, h)
no_choice false p t h = grind (arith, h)

pub open_is : (s : TxState) (ph : Phase) → s.phase ≡ ph → table.is_open ph ≡ true → table.is_open s.phase ≡ true
open_is s ph is h = ap table.is_open is ∙ h

pub ended_silent : (f : Flow) (st : FullState) (c : Bool) (x : FullReply) → answers (seen f st (if c then Shelve else Done)) x ≡ true → ⊥
ended_silent f st true x h = grind (arith, h)
ended_silent f st false x h = grind (arith, h)

pub telling_answer : (f : Flow) (st : FullState) (b c : Bool) (tell : Due) (p : ℕ) (n : ℕ) (w : List ℕ) → seen f st tell ≡ outcome_due (restores f st p) p →
    answers (seen f st (if b then tell else (if c then Shelve else Done))) (Answer n w) ≡ true → ⊥
telling_answer f st true c tell p n w is h = no_answer (restores f st p) p n w (ap (λ (d : DueCall). answers d (Answer n w)) (sym is) ∙ h)
telling_answer f st false c tell p n w is h = ended_silent f st c (Answer n w) h

pub telling_choice : (f : Flow) (st : FullState) (b c : Bool) (tell : Due) (p : ℕ) (w : List ℕ) → seen f st tell ≡ outcome_due (restores f st p) p →
    answers (seen f st (if b then tell else (if c then Shelve else Done))) (Chosen w) ≡ true → ⊥
telling_choice f st true c tell p w is h = no_choice (restores f st p) p w (ap (λ (d : DueCall). answers d (Chosen w)) (sym is) ∙ h)
telling_choice f st false c tell p w is h = ended_silent f st c (Chosen w) h

pub leads_answer : (f : Flow) (st : FullState) (b : ℕ) (c : List ℕ) (ph : Phase) (ms : List Upcoming) → st.state.phase ≡ ph → StateFitsIn ph ms st →
    answers (seen f st (due_at f st.state ph ms)) (Answer b c) ≡ true
    → StateFits (record st { state = table.answered_at st.state b c ms })
    × Follows (seen f st (due_at f st.state ph ms)) (Answer b c) (standing_at f st ph ms)
    (standing f (record st { state = table.answered_at st.state b c ms }))
leads_answer f st b c Preparing [] is o h = absurd (grind (arith, h))
leads_answer f st b c Preparing (table.Prepare e ∷ ms) is o h = answered st b c e ms (open_is st.state Preparing is refl) o
leads_answer f st b c Preparing (table.Select e ∷ ms) is o h = absurd (grind (arith, h))
leads_answer f st b c Aborting [] is o h = absurd (ended_silent f st (st.state.retry && nat_lt 0 st.state.tries) (Answer b c) h)
leads_answer f st b c Aborting (table.Prepare e ∷ ms) is o h = answered st b c e ms (open_is st.state Aborting is refl) o
leads_answer f st b c Aborting (table.Select e ∷ ms) is o h = absurd (grind (arith, h))
leads_answer f st b c Committing ms is t h = absurd (telling_answer f st (nat_lt st.state.told (length st.state.joined)) false
    (Commit (slice_index st.state.joined st.state.told)) (slice_index st.state.joined st.state.told) b c refl h)
leads_answer f st b c Undoing ms is t h = absurd (telling_answer f st (nat_lt st.state.told (length st.state.joined))
    (st.state.retry && nat_lt 0 st.state.tries) (Abort (slice_index st.state.joined st.state.told)) (slice_index st.state.joined st.state.told) b c refl h)

pub leads_choice : (f : Flow) (st : FullState) (w : List ℕ) (ph : Phase) (ms : List Upcoming) → st.state.phase ≡ ph → StateFitsIn ph ms st →
    answers (seen f st (due_at f st.state ph ms)) (Chosen w) ≡ true
    → StateFits (record st { state = table.chosen_at f st.state w ms })
    × Follows (seen f st (due_at f st.state ph ms)) (Chosen w) (standing_at f st ph ms) (standing f (record st { state = table.chosen_at f st.state w ms }))
leads_choice f st w Preparing [] is o h = absurd (grind (arith, h))
leads_choice f st w Preparing (table.Prepare e ∷ ms) is o h = absurd (grind (arith, h))
leads_choice f st w Preparing (table.Select e ∷ ms) is o h = chose f st w e ms (open_is st.state Preparing is refl) o
leads_choice f st w Aborting [] is o h = absurd (ended_silent f st (st.state.retry && nat_lt 0 st.state.tries) (Chosen w) h)
leads_choice f st w Aborting (table.Prepare e ∷ ms) is o h = absurd (grind (arith, h))
leads_choice f st w Aborting (table.Select e ∷ ms) is o h = chose f st w e ms (open_is st.state Aborting is refl) o
leads_choice f st w Committing ms is t h = absurd (telling_choice f st (nat_lt st.state.told (length st.state.joined)) false
    (Commit (slice_index st.state.joined st.state.told)) (slice_index st.state.joined st.state.told) w refl h)
leads_choice f st w Undoing ms is t h = absurd (telling_choice f st (nat_lt st.state.told (length st.state.joined))
    (st.state.retry && nat_lt 0 st.state.tries) (Abort (slice_index st.state.joined st.state.told)) (slice_index st.state.joined st.state.told) w refl h)

abbrev pub told_more : FullState → FullState
told_more st = record st { state = record (st.state) { told = st.state.told + 1 }; opened = None; restored = false }

pub proper_is : (ph : Phase) (st : FullState) → st.state.phase ≡ ph → StateFitsIn ph st.state.rest st → StateFits st
proper_is ph st is h = subst (λ (ph : Phase). StateFitsIn ph st.state.rest st) (sym is) h

pub told_telling : (ph : Phase) (st : FullState) → length st.state.joined ≤ 1001 → nat_lt st.state.told (length st.state.joined) ≡ true →
    WhileTelling ph (told_more st)
told_telling ph st few e = record {
  members = few;
  room = grind (arith, nat_tests, e);
  opened = λ r h. absurd (grind (arith, h));
  restored =
      λ h. absurd (grind (arith, h));
}

pub outcome_advice : (q : Bool) (p : ℕ) (a : Option (List ℕ)) (st to : Standing) → to.members ≡ st.members → to.told ≡ st.told + 1 →
    to.decision ≡ st.decision → answers (outcome_due q p) (Advice a) ≡ true → Follows (outcome_due q p) (Advice a) st to
outcome_advice true p a st to x y z h = absurd (grind (arith, h))
outcome_advice false p a st to x y z h = (x, y, z)

pub outcome_back : (q : Bool) (p : ℕ) (st to : Standing) → to.members ≡ st.members → to.told ≡ st.told → to.decision ≡ st.decision → to.restored ≡ true →
    answers (outcome_due q p) Restored ≡ true → Follows (outcome_due q p) Restored st to
outcome_back true p st to x y z w h = (x, y, z, w)
outcome_back false p st to x y z w h = absurd (grind (arith, h))

pub tell_commit : (f : Flow) (st : FullState) (a : Option (List ℕ)) (b : Bool) (from : Standing) → length st.state.joined ≤ 1001 →
    st.state.phase ≡ Committing → from.members ≡ st.state.joined → from.told ≡ st.state.told → from.decision ≡ ToCommit →
    nat_lt st.state.told (length st.state.joined) ≡ b
    → answers (seen f st (if b then Commit (slice_index st.state.joined st.state.told) else Done)) (Advice a) ≡ true
    → StateFits (told_more st) × Follows (seen f st (if b then Commit (slice_index st.state.joined st.state.told) else Done)) (Advice a) from
    (standing f (told_more st))
tell_commit f st a false from few is x y z e h = absurd (grind (arith, h))
tell_commit f st a true from few is x y z e h = (
  proper_is Committing (told_more st) is (told_telling Committing st few e),
  outcome_advice (restores f st (slice_index st.state.joined st.state.told)) (slice_index st.state.joined st.state.told) a from (standing f (told_more st))
      (sym x) (omega (arith, y)) (ap decision is ∙ sym z) h,
)

pub tell_abort : (f : Flow) (st : FullState) (a : Option (List ℕ)) (b c : Bool) (from : Standing) → length st.state.joined ≤ 1001 →
    st.state.phase ≡ Undoing → from.members ≡ st.state.joined → from.told ≡ st.state.told → from.decision ≡ ToAbort →
    nat_lt st.state.told (length st.state.joined) ≡ b
    → answers (seen f st (if b then Abort (slice_index st.state.joined st.state.told) else (if c then Shelve else Done))) (Advice a) ≡ true
    → StateFits (told_more st) × Follows (seen f st (if b then Abort (slice_index st.state.joined st.state.told) else (if c then Shelve else Done)))
    (Advice a) from (standing f (told_more st))
tell_abort f st a false c from few is x y z e h = absurd (ended_silent f st c (Advice a) h)
tell_abort f st a true c from few is x y z e h = (
  proper_is Undoing (told_more st) is (told_telling Undoing st few e),
  outcome_advice (restores f st (slice_index st.state.joined st.state.told)) (slice_index st.state.joined st.state.told) a from (standing f (told_more st))
      (sym x) (omega (arith, y)) (ap decision is ∙ sym z) h,
)

pub leads_advice : (f : Flow) (st : FullState) (a : Option (List ℕ)) (ph : Phase) (ms : List Upcoming) → st.state.phase ≡ ph → StateFitsIn ph ms st →
    answers (seen f st (due_at f st.state ph ms)) (Advice a) ≡ true
    → StateFits (told_more st) × Follows (seen f st (due_at f st.state ph ms)) (Advice a) (standing_at f st ph ms) (standing f (told_more st))
leads_advice f st a Preparing [] is o h = absurd (grind (arith, h))
leads_advice f st a Preparing (table.Prepare e ∷ ms) is o h = absurd (grind (arith, h))
leads_advice f st a Preparing (table.Select e ∷ ms) is o h = absurd (grind (arith, h))
leads_advice f st a Aborting [] is o h = absurd (ended_silent f st (st.state.retry && nat_lt 0 st.state.tries) (Advice a) h)
leads_advice f st a Aborting (table.Prepare e ∷ ms) is o h = absurd (grind (arith, h))
leads_advice f st a Aborting (table.Select e ∷ ms) is o h = absurd (grind (arith, h))
leads_advice f st a Committing ms is t h = tell_commit f st a (nat_lt st.state.told (length st.state.joined)) (standing_at f st Committing ms) t.members is
    refl refl refl refl h
leads_advice f st a Undoing ms is t h = tell_abort f st a (nat_lt st.state.told (length st.state.joined)) (st.state.retry && nat_lt 0 st.state.tries)
    (standing_at f st Undoing ms) t.members is refl refl refl refl h

abbrev pub brought : FullState → FullState
brought st = record st { restored = true }

pub matches_brought : (ph : Phase) (r : Row) (st : FullState) → IsOpenedFrom r ph st → IsOpenedFrom r ph (brought st)
matches_brought ph r st m = record { phase = m.phase; told = m.told; members = m.members; listed = m.listed; ok = m.ok }

pub back_telling : (ph : Phase) (st : FullState) → WhileTelling ph st → nat_lt st.state.told (length st.state.joined) ≡ true → WhileTelling ph (brought st)
back_telling ph st t e = record { room = t.room; opened = λ r h. matches_brought ph r st (t.opened r h); restored = λ h. e; members = t.members }

pub back_commit : (f : Flow) (st : FullState) (b : Bool) (from : Standing) → st.state.phase ≡ Committing → WhileTelling Committing st →
    from.members ≡ st.state.joined → from.told ≡ st.state.told → from.decision ≡ ToCommit → nat_lt st.state.told (length st.state.joined) ≡ b
    → answers (seen f st (if b then Commit (slice_index st.state.joined st.state.told) else Done)) Restored ≡ true
    → StateFits (brought st) × Follows (seen f st (if b then Commit (slice_index st.state.joined st.state.told) else Done)) Restored from
    (standing f (brought st))
back_commit f st false from is t x y z e h = absurd (grind (arith, h))
back_commit f st true from is t x y z e h = (
  proper_is Committing (brought st) is (back_telling Committing st t e),
  outcome_back (restores f st (slice_index st.state.joined st.state.told)) (slice_index st.state.joined st.state.told) from (standing f (brought st))
      (sym x) (sym y) (ap decision is ∙ sym z) refl h,
)

pub back_abort : (f : Flow) (st : FullState) (b c : Bool) (from : Standing) → st.state.phase ≡ Undoing → WhileTelling Undoing st →
    from.members ≡ st.state.joined → from.told ≡ st.state.told → from.decision ≡ ToAbort → nat_lt st.state.told (length st.state.joined) ≡ b
    → answers (seen f st (if b then Abort (slice_index st.state.joined st.state.told) else (if c then Shelve else Done))) Restored ≡ true
    → StateFits (brought st) × Follows (seen f st (if b then Abort (slice_index st.state.joined st.state.told) else (if c then Shelve else Done))) Restored
    from (standing f (brought st))
back_abort f st false c from is t x y z e h = absurd (ended_silent f st c Restored h)
back_abort f st true c from is t x y z e h = (
  proper_is Undoing (brought st) is (back_telling Undoing st t e),
  outcome_back (restores f st (slice_index st.state.joined st.state.told)) (slice_index st.state.joined st.state.told) from (standing f (brought st))
      (sym x) (sym y) (ap decision is ∙ sym z) refl h,
)

pub leads_back : (f : Flow) (st : FullState) (ph : Phase) (ms : List Upcoming) → st.state.phase ≡ ph → StateFitsIn ph ms st →
    answers (seen f st (due_at f st.state ph ms)) Restored ≡ true
    → StateFits (brought st) × Follows (seen f st (due_at f st.state ph ms)) Restored (standing_at f st ph ms) (standing f (brought st))
leads_back f st Preparing [] is o h = absurd (grind (arith, h))
leads_back f st Preparing (table.Prepare e ∷ ms) is o h = absurd (grind (arith, h))
leads_back f st Preparing (table.Select e ∷ ms) is o h = absurd (grind (arith, h))
leads_back f st Aborting [] is o h = absurd (ended_silent f st (st.state.retry && nat_lt 0 st.state.tries) Restored h)
leads_back f st Aborting (table.Prepare e ∷ ms) is o h = absurd (grind (arith, h))
leads_back f st Aborting (table.Select e ∷ ms) is o h = absurd (grind (arith, h))
leads_back f st Committing ms is t h = back_commit f st (nat_lt st.state.told (length st.state.joined)) (standing_at f st Committing ms) is t refl refl refl
    refl h
leads_back f st Undoing ms is t h = back_abort f st (nat_lt st.state.told (length st.state.joined)) (st.state.retry && nat_lt 0 st.state.tries)
    (standing_at f st Undoing ms) is t refl refl refl refl h

pub leads : (f : Flow) (st : FullState) (x : FullReply) → StateFits st → answers (due f st) x ≡ true →
    StateFits (after f st x) × Follows (due f st) x (standing f st) (standing f (after f st x))
leads f st (Answer b c) p h = leads_answer f st b c st.state.phase st.state.rest refl p h
leads f st (Chosen t) p h = leads_choice f st t st.state.phase st.state.rest refl p h
leads f st (Advice a) p h = leads_advice f st a st.state.phase st.state.rest refl p h
leads f st Restored p h = leads_back f st st.state.phase st.state.rest refl p h

-- recovery

abbrev pub a_row : Phase → List ℕ → ℕ → Option ℕ → ℕ → List ℕ → Row
a_row ph joined told doing tries saved = record { phase = ph; joined = joined; told = told; doing = doing; tries = tries; saved = saved }

pub reopen_opened : (r k : Row) (ph : Phase) → IsOpenedFrom r ph (reopen r) → (reopen r).opened ≡ Some k → IsOpenedFrom k ph (reopen r)
reopen_opened r k ph m h = subst (λ (k : Row). IsOpenedFrom k ph (reopen r)) (some_is r k h) m

pub one_length : (o : Option ℕ) → length (one_of o) ≤ 1
one_length None = omega arith
one_length (Some p) = omega arith

pub proper_reopen_in : (ph : Phase) (joined : List ℕ) (told : ℕ) (doing : Option ℕ) (tries : ℕ) (saved : List ℕ) →
    PhaseFits (a_row ph joined told doing tries saved) → StateFits (reopen (a_row ph joined told doing tries saved))
proper_reopen_in Preparing joined told doing tries saved h = record {
  room = omega (arith, h.0);
  members = omega (arith, h.1, length-append joined, one_length doing);
  opened = λ k. reopen_opened (a_row Preparing joined told doing tries saved) k Undoing
      (record { phase = refl; told = refl; members = λ n less. absurd (omega (arith, h.0)); listed = refl; ok = h });
  restored = λ e. absurd (grind (arith, e));
}
proper_reopen_in Aborting joined told doing tries saved h = record {
  room = omega (arith, h.0);
  members = omega (arith, h.1, length-append joined, one_length doing);
  opened = λ k. reopen_opened (a_row Aborting joined told doing tries saved) k Undoing
      (record { phase = refl; told = refl; members = λ n less. absurd (omega (arith, h.0)); listed = refl; ok = h });
  restored = λ e. absurd (grind (arith, e));
}
proper_reopen_in Committing joined told None tries saved h = record {
  room = omega (arith, h.0, length-append joined);
  members = omega (arith, h.2, ap length (append_none joined));
  opened = λ k. reopen_opened (a_row Committing joined told None tries saved) k Committing
      (record { phase = refl; told = refl; members = λ n less. ap (λ (xs : List ℕ). slice_get xs n) (sym (append_none joined)); listed = refl; ok = h });
  restored = λ e. absurd (grind (arith, e));
}
proper_reopen_in Undoing joined told None tries saved h = record {
  room = omega (arith, h.0, length-append joined);
  members = omega (arith, h.2, ap length (append_none joined));
  opened = λ k. reopen_opened (a_row Undoing joined told None tries saved) k Undoing
      (record { phase = refl; told = refl; members = λ n less. ap (λ (xs : List ℕ). slice_get xs n) (sym (append_none joined)); listed = refl; ok = h });
  restored = λ e. absurd (grind (arith, e));
}
proper_reopen_in Committing joined told (Some d) tries saved h = absurd (grind (arith, h.1))
proper_reopen_in Undoing joined told (Some d) tries saved h = absurd (grind (arith, h.1))

pub proper_reopen : (r : Row) → PhaseFits r → StateFits (reopen r)
proper_reopen r h = proper_reopen_in r.phase r.joined r.told r.doing r.tries r.saved h

pub decision_reopen : (b : Bool) → decision (if b then Committing else Undoing) ≡ (if b then ToCommit else ToAbort)
decision_reopen true = refl
decision_reopen false = refl

pub reopen_ok : (f : Flow) (r : Row) → PhaseFits r → Reopened r (standing f (reopen r))
reopen_ok f r h = record {
  sound = sound f (reopen r) (proper_reopen r h);
  decision = decision_reopen (is_committing r.phase);
  members = λ p. omega arith;
  row = refl;
}

-- the row of a proper state is one that the view's test accepts
pub row_open : (ph : Phase) (st : FullState) (o : Option ℕ) (r : Row) → is_committing ph ≡ false → table.is_open ph ≡ true →
    (st.state.told ≡ 0) × (length st.state.joined ≤ 1000) → Some (row_by ph st.state o) ≡ Some r → PhaseFits r
row_open Preparing st o r x y z is = subst PhaseFits (some_is (row_by Preparing st.state o) r is) z
row_open Aborting st o r x y z is = subst PhaseFits (some_is (row_by Aborting st.state o) r is) z
row_open Committing st o r x y z is = absurd (grind (arith, x))
row_open Undoing st o r x y z is = absurd (grind (arith, y))

pub row_yes : (ph : Phase) (st : FullState) (tell : Due) (r : Row) → WhileTelling ph st → (table_row tell ph st.state ≡ Some r → PhaseFits r) →
    row_in st.opened tell ph st.state ≡ Some r → PhaseFits r
row_yes ph st tell r t own is = row_cases st.opened tell ph st r (PhaseFits r) refl is own (λ h. (t.opened r h).ok)

pub own_commit : (st : FullState) (b : Bool) (p : ℕ) (r : Row) → length st.state.joined ≤ 1001 → nat_lt st.state.told (length st.state.joined) ≡ b →
    table_row (if b then Commit p else Done) Committing st.state ≡ Some r → PhaseFits r
own_commit st true p r few e is = subst PhaseFits (some_is (row_by Committing st.state None) r is) (grind (arith, nat_tests, e), refl, few)
own_commit st false p r few e is = absurd (grind (arith, is))

pub own_abort : (st : FullState) (b c : Bool) (p : ℕ) (r : Row) → length st.state.joined ≤ 1001 → nat_lt st.state.told (length st.state.joined) ≡ b →
    table_row (if b then Abort p else (if c then Shelve else Done)) Undoing st.state ≡ Some r → PhaseFits r
own_abort st true c p r few e is = subst PhaseFits (some_is (row_by Undoing st.state None) r is) (grind (arith, nat_tests, e), refl, few)
own_abort st false true p r few e is = absurd (grind (arith, is))
own_abort st false false p r few e is = absurd (grind (arith, is))

pub no_row : (st : FullState) (c : Bool) (ph : Phase) (r : Row) → st.opened ≡ None → row_in st.opened (if c then Shelve else Done) ph st.state ≡ Some r → ⊥
no_row st true ph r none is = grind (arith, row_own st.opened Shelve ph st.state none, is)
no_row st false ph r none is = grind (arith, row_own st.opened Done ph st.state none, is)

pub row_ok_at : (f : Flow) (st : FullState) (ph : Phase) (ms : List Upcoming) (r : Row) → StateFitsIn ph ms st →
    row_in st.opened (due_at f st.state ph ms) ph st.state ≡ Some r → PhaseFits r
row_ok_at f st Preparing [] r o is = absurd (no_row st false Preparing r o.opened is)
row_ok_at f st Preparing (table.Prepare e ∷ ms) r o is = row_open Preparing st (Some e.participant) r refl refl (o.none, omega (arith, o.few, o.members))
    (sym (row_own st.opened (Prepare (spot_of f e)) Preparing st.state o.opened) ∙ is)
row_ok_at f st Preparing (table.Select e ∷ ms) r o is = row_open Preparing st None r refl refl (o.none, omega (arith, o.few, o.members))
    (sym (row_own st.opened (Select (select_spot f e)) Preparing st.state o.opened) ∙ is)
row_ok_at f st Aborting [] r o is = absurd (no_row st (st.state.retry && nat_lt 0 st.state.tries) Aborting r o.opened is)
row_ok_at f st Aborting (table.Prepare e ∷ ms) r o is = row_open Aborting st (Some e.participant) r refl refl (o.none, omega (arith, o.few, o.members))
    (sym (row_own st.opened (PrepareForAbort (spot_of f e)) Aborting st.state o.opened) ∙ is)
row_ok_at f st Aborting (table.Select e ∷ ms) r o is = row_open Aborting st None r refl refl (o.none, omega (arith, o.few, o.members))
    (sym (row_own st.opened (Select (select_spot f e)) Aborting st.state o.opened) ∙ is)
row_ok_at f st Committing ms r t is = row_yes Committing st (if nat_lt st.state.told (length st.state.joined) then Commit
    (slice_index st.state.joined st.state.told) else Done) r t
    (own_commit st (nat_lt st.state.told (length st.state.joined)) (slice_index st.state.joined st.state.told) r t.members refl) is
row_ok_at f st Undoing ms r t is = row_yes Undoing st (if nat_lt st.state.told (length st.state.joined) then Abort
    (slice_index st.state.joined st.state.told) else end_by st.state.retry st.state.tries) r t
    (own_abort st (nat_lt st.state.told (length st.state.joined)) (st.state.retry && nat_lt 0 st.state.tries) (slice_index st.state.joined st.state.told) r
    t.members refl) is

pub row_ok : (f : Flow) (st : FullState) (r : Row) → StateFits st → (standing f st).row ≡ Some r → PhaseFits r
row_ok f st r h is = row_ok_at f st st.state.phase st.state.rest r h is

-- what is left when nothing is due

pub opened_answer : (f : Flow) (st : FullState) (b : ℕ) (c : List ℕ) (ph : Phase) (ms : List Upcoming) → StateFitsIn ph ms st →
    answers (seen f st (due_at f st.state ph ms)) (Answer b c) ≡ true → st.opened ≡ None
opened_answer f st b c Preparing ms o h = o.opened
opened_answer f st b c Aborting ms o h = o.opened
opened_answer f st b c Committing ms t h = absurd (telling_answer f st (nat_lt st.state.told (length st.state.joined)) false
    (Commit (slice_index st.state.joined st.state.told)) (slice_index st.state.joined st.state.told) b c refl h)
opened_answer f st b c Undoing ms t h = absurd (telling_answer f st (nat_lt st.state.told (length st.state.joined))
    (st.state.retry && nat_lt 0 st.state.tries) (Abort (slice_index st.state.joined st.state.told)) (slice_index st.state.joined st.state.told) b c refl h)

pub opened_choice : (f : Flow) (st : FullState) (w : List ℕ) (ph : Phase) (ms : List Upcoming) → StateFitsIn ph ms st →
    answers (seen f st (due_at f st.state ph ms)) (Chosen w) ≡ true → st.opened ≡ None
opened_choice f st w Preparing ms o h = o.opened
opened_choice f st w Aborting ms o h = o.opened
opened_choice f st w Committing ms t h = absurd (telling_choice f st (nat_lt st.state.told (length st.state.joined)) false
    (Commit (slice_index st.state.joined st.state.told)) (slice_index st.state.joined st.state.told) w refl h)
opened_choice f st w Undoing ms t h = absurd (telling_choice f st (nat_lt st.state.told (length st.state.joined))
    (st.state.retry && nat_lt 0 st.state.tries) (Abort (slice_index st.state.joined st.state.told)) (slice_index st.state.joined st.state.told) w refl h)

pub no_length : (xs : List ℕ) → length xs ≤ 0 → xs ≡ []
no_length [] h = refl
no_length (x ∷ xs) h = absurd (omega (arith, h))

pub past_row : (q : Phase) (r : Row) (joined : List ℕ) (told : ℕ) → r.phase ≡ q → IsInPhase q r → listed r ≡ joined → r.told ≡ told → length joined ≤ told →
    joined ≡ []
past_row Preparing r joined told is ok same n less = no_length joined (omega (arith, ok.0, n, less))
past_row Aborting r joined told is ok same n less = no_length joined (omega (arith, ok.0, n, less))
past_row Committing r joined told is ok same n less = absurd (omega (arith, ok.0, n, less, ap length same, length-append r.joined))
past_row Undoing r joined told is ok same n less = absurd (omega (arith, ok.0, n, less, ap length same, length-append r.joined))

pub past_all : (told n : ℕ) → nat_lt told n ≡ false → n ≤ told
past_all told n h = grind (arith, nat_tests, h)

pub stuck_row : (ph : Phase) (st : FullState) (last : Due) (r : Row) → WhileTelling ph st → nat_lt st.state.told (length st.state.joined) ≡ false →
    table_row last ph st.state ≡ None → row_in st.opened last ph st.state ≡ Some r
    → (k : Row) × (st.opened ≡ Some k) × (st.state.joined ≡ [])
stuck_row ph st last r t past none is = row_cases st.opened last ph st r ((k : Row) × (st.opened ≡ Some k) × (st.state.joined ≡ [])) refl is
    (λ h. absurd (grind (arith, none, h)))
    (λ h. let m = t.opened r h in (
      r,
      h,
      past_row r.phase r st.state.joined st.state.told refl m.ok m.listed m.told
          (past_all st.state.told (length st.state.joined) past),
    ))

pub idle_outcome : (q : Bool) (p : ℕ) → is_idle (outcome_due q p) ≡ true → ⊥
idle_outcome true p h = grind (arith, h)
idle_outcome false p h = grind (arith, h)

pub stuck_commit : (f : Flow) (st : FullState) (b : Bool) (p : ℕ) (r : Row) → WhileTelling Committing st → nat_lt st.state.told (length st.state.joined) ≡ b
    → is_idle (seen f st (if b then Commit p else Done)) ≡ true → row_in st.opened (if b then Commit p else Done) Committing st.state ≡ Some r
    → (k : Row) × (st.opened ≡ Some k) × (st.state.joined ≡ [])
stuck_commit f st true p r t e h is = absurd (idle_outcome (restores f st p) p h)
stuck_commit f st false p r t e h is = stuck_row Committing st Done r t e refl is

pub stuck_abort : (f : Flow) (st : FullState) (b c : Bool) (p : ℕ) (r : Row) → WhileTelling Undoing st → nat_lt st.state.told (length st.state.joined) ≡ b →
    is_idle (seen f st (if b then Abort p else (if c then Shelve else Done))) ≡ true →
    row_in st.opened (if b then Abort p else (if c then Shelve else Done)) Undoing st.state ≡ Some r
    → (k : Row) × (st.opened ≡ Some k) × (st.state.joined ≡ [])
stuck_abort f st true c p r t e h is = absurd (idle_outcome (restores f st p) p h)
stuck_abort f st false true p r t e h is = stuck_row Undoing st Shelve r t e refl is
stuck_abort f st false false p r t e h is = stuck_row Undoing st Done r t e refl is

pub row_stuck : (f : Flow) (st : FullState) (ph : Phase) (ms : List Upcoming) (r : Row) → StateFitsIn ph ms st →
    is_idle (seen f st (due_at f st.state ph ms)) ≡ true → row_in st.opened (due_at f st.state ph ms) ph st.state ≡ Some r
    → (k : Row) × (st.opened ≡ Some k) × (st.state.joined ≡ [])
row_stuck f st Preparing [] r o h is = absurd (no_row st false Preparing r o.opened is)
row_stuck f st Preparing (table.Prepare e ∷ ms) r o h is = absurd (grind (arith, h))
row_stuck f st Preparing (table.Select e ∷ ms) r o h is = absurd (grind (arith, h))
row_stuck f st Aborting [] r o h is = absurd (no_row st (st.state.retry && nat_lt 0 st.state.tries) Aborting r o.opened is)
row_stuck f st Aborting (table.Prepare e ∷ ms) r o h is = absurd (grind (arith, h))
row_stuck f st Aborting (table.Select e ∷ ms) r o h is = absurd (grind (arith, h))
row_stuck f st Committing ms r t h is = stuck_commit f st (nat_lt st.state.told (length st.state.joined)) (slice_index st.state.joined st.state.told) r t
    refl h is
row_stuck f st Undoing ms r t h is = stuck_abort f st (nat_lt st.state.told (length st.state.joined)) (st.state.retry && nat_lt 0 st.state.tries)
    (slice_index st.state.joined st.state.told) r t refl h is
