-- Each turn of a plant is a turn of the core by ids.
-- for: laws::plant_law
use Rattle.std.proofs.Common.{◌≡◌, ℕ, ◌+◌, ◌<◌, ◌≤◌, Bool, true, false, List, [], ◌∷◌, ◌++◌, length, Option, Some, None, refl, sym, ◌∙◌, ap, subst, arith, suc}
use Rattle.std.proofs.Common.{zero, length-append, append_assoc}
use Rattle.std.specs.Prelude.{if◌then◌else◌, ◌==◌, nat_lt, not}
use Rattle.std.proofs.lemmas.Bool.Decides.{nat_tests}
use Rattle.tx_machine.specs.Row.{Row}
use Rattle.outcome_calls.specs.Trail.{Deed}
use Rattle.outcome_calls.specs.One.{FullReply, Made, IdFits}
use Rattle.flow_model.specs.declared.flow.Flow.{Flow}
use Rattle.outcome_calls.specs.States.{FullState, Head, begin, standing}
use Rattle.outcome_calls.specs.Core.{IdView, IdEvent, Took, Given, Acked, Closed, Other, PlantDeed, Called, Halted, trail_of, advice, OutcomeLaw, ViewFits, takes}
use Rattle.outcome_calls.specs.Core.{next_id, later, at, reopened, standing_of, AbstractCore, given, closed, first, put, none_kept, Shuts, Calls, Records, Takes}
use Rattle.outcome_calls.specs.Core.{Acks, Others, Writes, IsAwaited, IsCore, CoreFits}
use Rattle.outcome_calls.specs.Plant.{AreHeld, SessionEvent, Taken, Replied, Ack, Closing, Plain, taken_count, taken, unfinished, seek, recovering, serves_in}
use Rattle.outcome_calls.specs.Plant.{given_to, event_of, by_ids, serves, last_own, AbstractPlant, past, whole, view, shut, shut_ids, made_on, PlantMove, Take}
use Rattle.outcome_calls.specs.Plant.{Call, Record, Acking, Quiet, Put, Note, Stop, Cut, PlantMoves, PlantRun, over, lower, SeatsAgree, PlantFits}
use Rattle.outcome_calls.proofs.CoreMoves.{clean_rows, waits_unfinished, turned as turned_ids, kept_opens, law_of, ok_of, closable_waits, same_id, none_of}
use Rattle.outcome_calls.proofs.CoreMoves.{staged_none}
use Rattle.outcome_calls.proofs.Cuts.{cut_good}

-- ids that sessions took

pub taken_below : (v : IdView) (es : List SessionEvent) (s id : ℕ) → taken v es s ≡ Some id → id < v.next_id + taken_count es
taken_below v [] s id h = grind arith
taken_below v (Taken t hd ∷ es) s id h = grind (arith, nat_tests, taken_below v es s id)
taken_below v (Replied t x ∷ es) s id h = taken_below v es s id h
taken_below v (Ack i n ∷ es) s id h = taken_below v es s id h
taken_below v (Closing i ∷ es) s id h = taken_below v es s id h
taken_below v (Plain ∷ es) s id h = taken_below v es s id h

pub taken_from : (v : IdView) (es : List SessionEvent) (s id : ℕ) → taken v es s ≡ Some id → v.next_id ≤ id
taken_from v [] s id h = grind arith
taken_from v (Taken t hd ∷ es) s id h = grind (arith, nat_tests, taken_from v es s id)
taken_from v (Replied t x ∷ es) s id h = taken_from v es s id h
taken_from v (Ack i n ∷ es) s id h = taken_from v es s id h
taken_from v (Closing i ∷ es) s id h = taken_from v es s id h
taken_from v (Plain ∷ es) s id h = taken_from v es s id h

pub taken_once : (v : IdView) (es : List SessionEvent) (s t id : ℕ) → taken v es s ≡ Some id → taken v es t ≡ Some id → s ≡ t
taken_once v [] s t id h k = absurd (grind arith)
taken_once v (Taken u hd ∷ es) s t id h k = grind (arith, nat_tests, taken_below v es s id, taken_below v es t id, taken_once v es s t id)
taken_once v (Replied u x ∷ es) s t id h k = taken_once v es s t id h k
taken_once v (Ack i n ∷ es) s t id h k = taken_once v es s t id h k
taken_once v (Closing i ∷ es) s t id h k = taken_once v es s t id h k
taken_once v (Plain ∷ es) s t id h k = taken_once v es s t id h k

pub seek_below : (test : ℕ → Bool) (n k id : ℕ) → seek test n k ≡ Some id → id < n + k
seek_below test n zero id h = absurd (grind arith)
seek_below test n (suc k) id h = grind (arith, seek_below test (n + 1) k id)

pub seek_same : (a b : ℕ → Bool) (n k : ℕ) → ((id : ℕ) → id < n + k → a id ≡ b id) → seek a n k ≡ seek b n k
seek_same a b n zero h = refl
seek_same a b n (suc k) h =
    let here : a n ≡ b n = h n (omega arith) in
    let rest : seek a (n + 1) k ≡ seek b (n + 1) k = seek_same a b (n + 1) k (λ id less. h id (omega arith)) in
    grind (arith, here, rest)

-- no two sessions speak of one id
pub apart_in : (f : Flow) (v : IdView) (es : List SessionEvent) (s t id : ℕ) (x y : Option ℕ) → taken v es s ≡ x → taken v es t ≡ y
    → serves_in f v x s (by_ids f v es) ≡ Some id → serves_in f v y t (by_ids f v es) ≡ Some id → s ≡ t
apart_in f v es s t id (Some a) (Some b) p q h k = taken_once v es s t id (p ∙ h) (q ∙ k)
apart_in f v es s t id None (Some b) p q h k = absurd (grind (
  arith,
  taken_from v es t id (q ∙ k),
  seek_below (λ (id : ℕ). unfinished f (at f v (by_ids f v es) id)) 0 v.next_id id,
))
apart_in f v es s t id (Some a) None p q h k = absurd (grind (
  arith,
  taken_from v es s id (p ∙ h),
  seek_below (λ (id : ℕ). unfinished f (at f v (by_ids f v es) id)) 0 v.next_id id,
))
apart_in f v es s t id None None p q h k = grind (arith, nat_tests)

pub apart : (f : Flow) (v : IdView) (es : List SessionEvent) (s t id : ℕ) → serves f v es s ≡ Some id → serves f v es t ≡ Some id → s ≡ t
apart f v es s t id h k = apart_in f v es s t id (taken v es s) (taken v es t) refl refl h k

-- lists

pub ids_over : (f : Flow) (v : IdView) (gone late : List SessionEvent) → by_ids f v (late ++ gone) ≡ over f v gone late ++ by_ids f v gone
ids_over f v gone [] = refl
ids_over f v gone (e ∷ l) = ap (λ (k : List IdEvent). event_of f v (taken v (l ++ gone)) (by_ids f v (l ++ gone)) e ∷ k) (ids_over f v gone l)

pub ids_length : (f : Flow) (v : IdView) (es : List SessionEvent) → length (by_ids f v es) ≡ length es
ids_length f v [] = refl
ids_length f v (e ∷ es) = omega (arith, ids_length f v es)

pub over_snoc : (f : Flow) (v : IdView) (gone l : List SessionEvent) (e : SessionEvent) → over f v gone (l ++ e ∷ []) ≡ over f v (e ∷ gone) l
    ++ event_of f v (taken v gone) (by_ids f v gone) e ∷ []
over_snoc f v gone [] e = refl
over_snoc f v gone (d ∷ l) e =
    let same : (l ++ e ∷ []) ++ gone ≡ l ++ (e ∷ gone) = append_assoc l (e ∷ []) gone in
    ap (λ (es : List SessionEvent). event_of f v (taken v es) (by_ids f v es) d ∷ over f v gone (l ++ e ∷ [])) same
    ∙ ap (λ (k : List IdEvent). event_of f v (taken v (l ++ (e ∷ gone))) (by_ids f v (l ++ (e ∷ gone))) d ∷ k) (over_snoc f v gone l e)

pub over_shut : (f : Flow) (v : IdView) (cs : List ℕ) → over f v [] (shut cs) ≡ shut_ids cs
over_shut f v [] = refl
over_shut f v (i ∷ is) = ap (λ (k : List IdEvent). Closed i ∷ k) (over_shut f v is)

-- what is written of an id all whose entries are written
pub written_state : (f : Flow) (v : IdView) (late gone : List IdEvent) (id : ℕ) (st : FullState) → last_own v (late ++ gone) id ≤ length gone →
    at f v (late ++ gone) id ≡ Some st
    → (at f v gone id ≡ Some st) × (given late id ≡ None)
written_state f v [] gone id st low is = (is, refl)
written_state f v (Took hd ∷ l) gone id st low is = elim (next_id v (l ++ gone) == id) as (λ (b : Bool). next_id v (l ++ gone) == id ≡ b →
    (at f v gone id ≡ Some st) × (given l id ≡ None)) [
      | true ↦ λ h. absurd (grind (arith, h, low, length-append l gone))
      | false ↦ λ h. written_state f v l gone id st (grind (arith, h, low)) (grind (arith, h, is))
    ] refl
written_state f v (Given i x ∷ l) gone id st low is = elim (i == id) as (λ (b : Bool). i == id ≡ b →
    (at f v gone id ≡ Some st) × ((if b then Some x else given l id) ≡ None)) [
      | true ↦ λ h. absurd (grind (arith, h, low, length-append l gone))
      | false ↦ λ h. written_state f v l gone id st (grind (arith, h, low)) (grind (arith, h, is))
    ] refl
written_state f v (Acked i n ∷ l) gone id st low is = written_state f v l gone id st low is
written_state f v (Closed i ∷ l) gone id st low is = elim (i == id) as (λ (b : Bool). i == id ≡ b → (at f v gone id ≡ Some st) × (given l id ≡ None)) [
  | true ↦ λ h. absurd (grind (arith, h, is))
  | false ↦ λ h. written_state f v l gone id st low (grind (arith, h, is))
] refl
written_state f v (Other ∷ l) gone id st low is = written_state f v l gone id st low is

pub takes_more : (l gone : List IdEvent) → takes gone ≤ takes (l ++ gone)
takes_more [] gone = omega arith
takes_more (Took hd ∷ l) gone = omega (arith, takes_more l gone)
takes_more (Given i x ∷ l) gone = takes_more l gone
takes_more (Acked i n ∷ l) gone = takes_more l gone
takes_more (Closed i ∷ l) gone = takes_more l gone
takes_more (Other ∷ l) gone = takes_more l gone

-- an id without unwritten items stands where its written ones lead
pub whole_state : (f : Flow) (v : IdView) (late gone : List IdEvent) (id : ℕ) → given late id ≡ None → closed late id ≡ false → id < next_id v gone →
    at f v (late ++ gone) id ≡ at f v gone id
whole_state f v [] gone id g c less = refl
whole_state f v (Took hd ∷ l) gone id g c less = grind (arith, nat_tests, takes_more l gone, whole_state f v l gone id g c less)
whole_state f v (Given i x ∷ l) gone id g c less = grind (arith, g, whole_state f v l gone id)
whole_state f v (Acked i n ∷ l) gone id g c less = whole_state f v l gone id g c less
whole_state f v (Closed i ∷ l) gone id g c less = grind (arith, c, whole_state f v l gone id)
whole_state f v (Other ∷ l) gone id g c less = whole_state f v l gone id g c less

-- kept replies

pub put_self : (id : ℕ) (o : Option FullReply) (kb : ℕ → Option FullReply) → put id o kb id ≡ o
put_self id o kb = grind (arith, nat_tests)

pub put_other : (id i : ℕ) (o : Option FullReply) (kb : ℕ → Option FullReply) → (id ≡ i → ⊥) → put id o kb i ≡ kb i
put_other id i o kb h = grind (arith, nat_tests, h)

pub differ : (i j : ℕ) → i == j ≡ false → i ≡ j → ⊥
differ i j h e = grind (arith, nat_tests, h, e)

pub some_id : (i j : ℕ) → Some i ≡ Some j → i ≡ j
some_id i j h = grind (arith, h)

pub match_call : (f : Flow) (v : IdView) (es : List SessionEvent) (kept kb : ℕ → Option FullReply) (s id : ℕ) (x : FullReply) → SeatsAgree f v es kept kb →
    serves f v es s ≡ Some id
    → SeatsAgree f v es (put s (Some x) kept) (put id (Some x) kb)
match_call f v es kept kb s id x m sub = record {
  up = λ t y. elim (s == t) as (λ (b : Bool). s == t ≡ b → (if b then Some x else kept t) ≡ Some y →
      (i : ℕ) × (serves f v es t ≡ Some i) × (put id (Some x) kb i ≡ Some y)) [
        | true ↦ λ h is. (id, ap (serves f v es) (sym (same_id s t h)) ∙ sub, put_self id (Some x) kb ∙ is)
        | false ↦ λ h is.
            let u = m.up t y is in
            (u.0, u.1, put_other id u.0 (Some x) kb (λ e. differ s t h (apart f v es s t id sub (u.1 ∙ ap (λ (k : ℕ). Some k) (sym e)))) ∙ u.2)
      ] refl;
  down = λ i y. elim (id == i) as (λ (b : Bool). id == i ≡ b → (if b then Some x else kb i) ≡ Some y →
      (t : ℕ) × (serves f v es t ≡ Some i) × (put s (Some x) kept t ≡ Some y)) [
        | true ↦ λ h is. (s, sub ∙ ap (λ (k : ℕ). Some k) (same_id id i h), put_self s (Some x) kept ∙ is)
        | false ↦ λ h is.
            let d = m.down i y is in
            (d.0, d.1, put_other s d.0 (Some x) kept (λ e. differ id i h (some_id id i (sym sub ∙ ap (serves f v es) e ∙ d.1))) ∙ d.2)
      ] refl;
}

pub match_record : (f : Flow) (v : IdView) (es new : List SessionEvent) (kept kb : ℕ → Option FullReply) (s id : ℕ) → SeatsAgree f v es kept kb →
    serves f v es s ≡ Some id
    → ((t : ℕ) → (s ≡ t → ⊥) → serves f v new t ≡ serves f v es t) → SeatsAgree f v new (put s None kept) (put id None kb)
match_record f v es new kept kb s id m sub same = record {
  up = λ t y. elim (s == t) as (λ (b : Bool). s == t ≡ b → (if b then None else kept t) ≡ Some y →
      (i : ℕ) × (serves f v new t ≡ Some i) × (put id None kb i ≡ Some y)) [
        | true ↦ λ h is. absurd (grind (arith, is))
        | false ↦ λ h is.
            let u = m.up t y is in (
              u.0,
              same t (differ s t h) ∙ u.1,
              put_other id u.0 None kb
                  (λ e. differ s t h (apart f v es s t id sub (u.1 ∙ ap (λ (k : ℕ). Some k) (sym e)))) ∙ u.2,
            )
      ] refl;
  down = λ i y. elim (id == i) as (λ (b : Bool). id == i ≡ b → (if b then None else kb i) ≡ Some y →
      (t : ℕ) × (serves f v new t ≡ Some i) × (put s None kept t ≡ Some y)) [
        | true ↦ λ h is. absurd (grind (arith, is))
        | false ↦ λ h is.
            let d = m.down i y is in
            let other : s ≡ d.0 → ⊥ = λ e. differ id i h (some_id id i (sym sub ∙ ap (serves f v es) e ∙ d.1)) in
            (d.0, same d.0 other ∙ d.1, put_other s d.0 None kept other ∙ d.2)
      ] refl;
}

pub match_take : (f : Flow) (v : IdView) (es new : List SessionEvent) (kept kb : ℕ → Option FullReply) (s : ℕ) → SeatsAgree f v es kept kb → kept s ≡ None
    → ((t : ℕ) → (s ≡ t → ⊥) → serves f v new t ≡ serves f v es t) → SeatsAgree f v new kept kb
match_take f v es new kept kb s m none same = record {
  up = λ t y is. let u = m.up t y is in (u.0, same t (λ e. grind (arith, ap kept e, none, is)) ∙ u.1, u.2);
  down = λ i y is. let d = m.down i y is in (d.0, same d.0 (λ e. grind (arith, ap kept e, none, d.2)) ∙ d.1, d.2);
}

pub match_same : (f : Flow) (v : IdView) (es new : List SessionEvent) (kept kb : ℕ → Option FullReply) → SeatsAgree f v es kept kb →
    ((t : ℕ) → serves f v new t ≡ serves f v es t) → SeatsAgree f v new kept kb
match_same f v es new kept kb m same = record {
  up = λ t y is. let u = m.up t y is in (u.0, same t ∙ u.1, u.2);
  down = λ i y is. let d = m.down i y is in (d.0, same d.0 ∙ d.1, d.2);
}

-- what the others speak of

pub in_acked : (f : Flow) (v : IdView) (o : Option ℕ) (s i n : ℕ) (l : List IdEvent) → serves_in f v o s (Acked i n ∷ l) ≡ serves_in f v o s l
in_acked f v None s i n l = refl
in_acked f v (Some k) s i n l = refl

pub in_other : (f : Flow) (v : IdView) (o : Option ℕ) (s : ℕ) (l : List IdEvent) → serves_in f v o s (Other ∷ l) ≡ serves_in f v o s l
in_other f v None s l = refl
in_other f v (Some k) s l = refl

pub at_above : (f : Flow) (v : IdView) (l : List IdEvent) (id i : ℕ) (x : FullReply) → i < id →
    unfinished f (at f v (Given id x ∷ l) i) ≡ unfinished f (at f v l i)
at_above f v l id i x less = elim (id == i) as (λ (b : Bool). id == i ≡ b → unfinished f (if b then later f x (at f v l i) else at f v l i)
    ≡ unfinished f (at f v l i)) [
      | true ↦ λ h. absurd (omega (arith, same_id id i h))
      | false ↦ λ h. refl
    ] refl

pub in_given : (f : Flow) (v : IdView) (o : Option ℕ) (t id : ℕ) (x : FullReply) (l : List IdEvent) → (t ≡ 0 → v.next_id ≤ id) →
    serves_in f v o t (Given id x ∷ l) ≡ serves_in f v o t l
in_given f v (Some k) t id x l h = refl
in_given f v None t id x l h = elim (t == 0) as (λ (b : Bool). t == 0 ≡ b → (if b then recovering f v (Given id x ∷ l) else None)
    ≡ (if b then recovering f v l else None)) [
      | true ↦ λ e. seek_same (λ (i : ℕ). unfinished f (at f v (Given id x ∷ l) i)) (λ (i : ℕ). unfinished f (at f v l i)) 0 v.next_id
          (λ i less. at_above f v l id i x (omega (arith, h (same_id t 0 e))))
      | false ↦ λ e. refl
    ] refl

pub at_took : (f : Flow) (hd : Head) (v : IdView) (l : List IdEvent) (i : ℕ) → i < v.next_id
    → unfinished f (at f v (Took hd ∷ l) i) ≡ unfinished f (at f v l i)
at_took f hd v l i less = elim (next_id v l == i) as (λ (b : Bool). next_id v l == i ≡ b → unfinished f (if b then Some (begin f hd) else at f v l i)
    ≡ unfinished f (at f v l i)) [
      | true ↦ λ h. absurd (omega (arith, same_id (next_id v l) i h))
      | false ↦ λ h. refl
    ] refl

pub in_took : (f : Flow) (hd : Head) (v : IdView) (o : Option ℕ) (t : ℕ) (l : List IdEvent) → serves_in f v o t (Took hd ∷ l) ≡ serves_in f v o t l
in_took f hd v (Some k) t l = refl
in_took f hd v None t l = elim (t == 0) as (λ (b : Bool). (if b then recovering f v (Took hd ∷ l) else None) ≡ (if b then recovering f v l else None)) [
  | true ↦ seek_same (λ (i : ℕ). unfinished f (at f v (Took hd ∷ l) i)) (λ (i : ℕ). unfinished f (at f v l i)) 0 v.next_id
      (λ i less. at_took f hd v l i (omega arith))
  | false ↦ refl
]

-- a session other than 0 speaks of an id that it took here
pub taken_here : (f : Flow) (v : IdView) (es : List SessionEvent) (o : Option ℕ) (s id : ℕ) (l : List IdEvent) → taken v es s ≡ o →
    serves_in f v o s l ≡ Some id → (s ≡ 0 → ⊥) → v.next_id ≤ id
taken_here f v es (Some k) s id l is sub not = taken_from v es s id (is ∙ sub)
taken_here f v es None s id l is sub not = absurd (grind (arith, nat_tests, sub, not))

pub same_replied : (f : Flow) (v : IdView) (es : List SessionEvent) (s id : ℕ) (x : FullReply) → serves f v es s ≡ Some id → (t : ℕ) → (s ≡ t → ⊥) →
    serves f v (Replied s x ∷ es) t ≡ serves f v es t
same_replied f v es s id x sub t not =
    ap (λ (o : Option ℕ). serves_in f v (taken v es t) t (given_to o x ∷ by_ids f v es)) sub
    ∙ in_given f v (taken v es t) t id x (by_ids f v es) (λ z. taken_here f v es (taken v es s) s id (by_ids f v es) refl sub (λ w. not (w ∙ sym z)))

pub same_taken : (f : Flow) (hd : Head) (v : IdView) (es : List SessionEvent) (s t : ℕ) → (s ≡ t → ⊥) → serves f v (Taken s hd ∷ es) t ≡ serves f v es t
same_taken f hd v es s t not = elim (s == t) as (λ (b : Bool). s == t ≡ b → serves_in f v (if b then Some (v.next_id + taken_count es) else taken v es t) t
    (Took hd ∷ by_ids f v es) ≡ serves f v es t) [
      | true ↦ λ h. absurd (not (same_id s t h))
      | false ↦ λ h. in_took f hd v (taken v es t) t (by_ids f v es)
    ] refl

pub not_true : (b : Bool) → (b ≡ true → ⊥) → b ≡ false
not_true true h = absurd (h refl)
not_true false h = refl

-- which session holds what is unfinished

pub ids_takes : (f : Flow) (v : IdView) (es : List SessionEvent) → takes (by_ids f v es) ≡ taken_count es
ids_takes f v [] = refl
ids_takes f v (Taken s hd ∷ es) = ap (λ (n : ℕ). n + 1) (ids_takes f v es)
ids_takes f v (Replied s x ∷ es) = given_takes (serves f v es s) x (by_ids f v es) ∙ ids_takes f v es
  where
    given_takes : (o : Option ℕ) (x : FullReply) (l : List IdEvent) → takes (given_to o x ∷ l) ≡ takes l
    given_takes None x l = refl
    given_takes (Some id) x l = refl
ids_takes f v (Ack i n ∷ es) = ids_takes f v es
ids_takes f v (Closing i ∷ es) = ids_takes f v es
ids_takes f v (Plain ∷ es) = ids_takes f v es

pub holds_taken : (f : Flow) (v : IdView) (es : List SessionEvent) (s : ℕ) (hd : Head) → AreHeld f v es →
    ((id : ℕ) → serves f v es s ≡ Some id → unfinished f (at f v (by_ids f v es) id) ≡ false) → AreHeld f v (Taken s hd ∷ es)
holds_taken f v es s hd holders idle id low = elim (next_id v (by_ids f v es) == id) as (λ (b : Bool). next_id v (by_ids f v es) == id ≡ b →
    unfinished f (if b then Some (begin f hd) else at f v (by_ids f v es) id) ≡ true
    → (t : ℕ) × ((if s == t then Some (v.next_id + taken_count es) else taken v es t) ≡ Some id)) [
      | true ↦ λ h u.
          let same : v.next_id + taken_count es ≡ id = ap (λ (n : ℕ). v.next_id + n) (sym (ids_takes f v es)) ∙ same_id (next_id v (by_ids f v es)) id h in
          (s, grind (arith, nat_tests, same))
      | false ↦ λ h u.
          let old = holders id low u in (
            old.0,
            holds_other s old.0 id (v.next_id + taken_count es) (taken v es old.0) old.1
                (λ e. grind (arith, u, idle id (ap (λ (o : Option ℕ). serves_in f v o s (by_ids f v es)) (ap (taken v es) e ∙ old.1)))),
          )
    ] refl
  where
    holds_other : (s t id new : ℕ) (o : Option ℕ) → o ≡ Some id → (s ≡ t → ⊥) → (if s == t then Some new else o) ≡ Some id
    holds_other s t id new o is not = grind (arith, nat_tests, is, not)

pub holds_replied : (f : Flow) (v : IdView) (es : List SessionEvent) (s j : ℕ) (x : FullReply) → AreHeld f v es → serves f v es s ≡ Some j →
    unfinished f (at f v (by_ids f v es) j) ≡ true → AreHeld f v (Replied s x ∷ es)
holds_replied f v es s j x holders sub busy id low u =
    let given : unfinished f (at f v (Given j x ∷ by_ids f v es) id) ≡ true =
    subst (λ (o : Option ℕ). unfinished f (at f v (given_to o x ∷ by_ids f v es) id) ≡ true) sub u in
    holders id low (holds_before (j == id) (λ h. ap (λ (i : ℕ). unfinished f (at f v (by_ids f v es) i)) (sym (same_id j id h)) ∙ busy) given)
  where
    holds_before : (b : Bool) → (b ≡ true → unfinished f (at f v (by_ids f v es) id) ≡ true) →
        unfinished f (if b then later f x (at f v (by_ids f v es) id) else at f v (by_ids f v es) id) ≡ true → unfinished f (at f v (by_ids f v es) id) ≡ true
    holds_before true e h = e refl
    holds_before false e h = h

pub none_unfinished : (f : Flow) (j : IdView) (cs : List ℕ) (id : ℕ) → j.row id ≡ None → unfinished f (at f j (by_ids f j (shut cs)) id) ≡ false
none_unfinished f j [] id none = ap (λ (o : Option Row). unfinished f (reopened o)) none
none_unfinished f j (i ∷ cs) id none = elim (i == id) as (λ (b : Bool). unfinished f (if b then None else at f j (by_ids f j (shut cs)) id) ≡ false) [
  | true ↦ refl
  | false ↦ none_unfinished f j cs id none
]

pub high_row : (j : IdView) → ViewFits j → (id : ℕ) → j.next_id ≤ id → j.row id ≡ None
high_row j ok id low = ok.rows id (grind (arith, nat_tests, low))

pub holds_opened : (f : Flow) (j : IdView) (cs : List ℕ) → ViewFits j → AreHeld f j (shut cs)
holds_opened f j cs ok id low u = absurd (grind (arith, none_unfinished f j cs id (high_row j ok id low), u))

pub seek_none : (test : ℕ → Bool) (n k id : ℕ) → seek test n k ≡ None → n ≤ id → id < n + k → test id ≡ false
seek_none test n zero id h low less = absurd (omega (arith, low, less))
seek_none test n (suc k) id h low less = elim (test n) as (λ (b : Bool). test n ≡ b → (if b then Some n else seek test (n + 1) k) ≡ None → test id ≡ false) [
  | true ↦ λ e is. absurd (grind (arith, is))
  | false ↦ λ e is. elim (n == id) as (λ (b : Bool). n == id ≡ b → test id ≡ false) [
    | true ↦ λ q. ap test (sym (same_id n id q)) ∙ e
    | false ↦ λ q. seek_none test (n + 1) k id is (grind (arith, nat_tests, q, low)) (omega (arith, less))
  ] refl
] refl h

-- no session holds an unfinished transaction and none recovers: none is unfinished
pub none_busy : (f : Flow) (v : IdView) (es : List SessionEvent) → AreHeld f v es → recovering f v (by_ids f v es) ≡ None →
    ((s id : ℕ) → serves f v es s ≡ Some id → unfinished f (at f v (by_ids f v es) id) ≡ false)
    → (id : ℕ) → unfinished f (at f v (by_ids f v es) id) ≡ false
none_busy f v es holders none idle id = elim (nat_lt id v.next_id) as (λ (b : Bool). nat_lt id v.next_id ≡ b →
    unfinished f (at f v (by_ids f v es) id) ≡ false) [
      | true ↦ λ h. seek_none (λ (i : ℕ). unfinished f (at f v (by_ids f v es) i)) 0 v.next_id id none (omega arith) (grind (arith, nat_tests, h))
      | false ↦ λ h. not_true (unfinished f (at f v (by_ids f v es) id)) (λ u.
          let held = holders id (grind (arith, nat_tests, h)) u in
          grind (arith, u, idle held.0 id (ap (λ (o : Option ℕ). serves_in f v o held.0 (by_ids f v es)) held.1)))
    ] refl

pub no_entries : (xs : List SessionEvent) → length xs ≤ 0 → xs ≡ []
no_entries [] h = refl
no_entries (x ∷ xs) h = absurd (omega (arith, h))

pub all_written : (p : AbstractPlant) → p.mark ≤ length p.gone → p.mark ≡ length (past p) → p.late ≡ []
all_written p room h = no_entries p.late (omega (arith, room, h, length-append p.late p.gone))

-- turns

pub sane_call : (f : Flow) (p : AbstractPlant) (kb : ℕ → Option FullReply) (s id : ℕ) (x : FullReply) (m : Deed) (st : FullState) →
    CoreFits f (lower f p kb) → SeatsAgree f p.start (past p) p.kept kb → p.mark ≤ length p.gone → AreHeld f p.start (past p)
    → serves f p.start (past p) s ≡ Some id → at f p.start (whole f p) id ≡ Some st → last_own p.start (whole f p) id ≤ p.mark → p.kept s ≡ None →
    Made (standing f st).due x (standing f st) m
    → PlantFits f (record p { kept = put s (Some x) p.kept; calls = Called id m ∷ p.calls })
sane_call f p kb s id x m st k matched room holders sub is low may_tell made =
    let over_is : by_ids f p.start (p.late ++ p.gone) ≡ over f p.start p.gone p.late ++ by_ids f p.start p.gone = ids_over f p.start p.gone p.late in
    let low_over : last_own p.start (over f p.start p.gone p.late ++ by_ids f p.start p.gone) id ≤ p.mark =
    subst (λ (l : List IdEvent). last_own p.start l id ≤ p.mark) over_is low in
    let w = written_state f p.start (over f p.start p.gone p.late) (by_ids f p.start p.gone) id st (omega (arith, low_over, room, ids_length f p.start p.gone))
    (ap (λ (l : List IdEvent). at f p.start l id) (sym over_is) ∙ is) in
    let none : kb id ≡ None = none_of (kb id) (λ y h. let d = matched.down id y h in
    grind (arith, ap p.kept (apart f p.start (past p) d.0 s id d.1 sub), d.2, may_tell)) in (
      put id (Some x) kb,
      turned_ids f (Calls id x m) (lower f p kb) (lower f (record p { kept = put s (Some x) p.kept; calls = Called id m ∷ p.calls }) (put id (Some x) kb)) k
          (st, w.0, w.1, none, made, refl),
      match_call f p.start (past p) p.kept kb s id x matched sub,
      room,
      holders,
    )

pub waits_known : (f : Flow) (known : Bool) (o : Option FullState) (x : Option FullReply) (t : List Deed) (adv : ℕ → Option (List ℕ)) (y : FullReply) →
    IdFits known (standing_of f o) x t adv → IsAwaited f o y → known ≡ true
waits_known f true o x t adv y h w = refl
waits_known f false o x t adv y h w = absurd (subst (λ (o : Option FullState). IsAwaited f o y) (staged_none f false o x t adv h refl) w)

pub below : (i n : ℕ) → nat_lt i n ≡ true → i < n
below i n h = grind (arith, nat_tests, h)

-- where a reply is kept, the session is not idle
pub kept_busy : (f : Flow) (p : AbstractPlant) (kb : ℕ → Option FullReply) (s id : ℕ) (y : FullReply) → CoreFits f (lower f p kb) → kb id ≡ Some y →
    unfinished f (at f p.start (whole f p) id) ≡ true
kept_busy f p kb s id y k is =
    let v = p.start in
    let late = over f p.start p.gone p.late in
    let gone = by_ids f p.start p.gone in
    let waits : IsAwaited f (at f p.start gone id) y = k.alive id y (ap (λ (o : Option FullReply). first o (given late id)) is) in
    let standing : closed late id ≡ false = not_true (closed late id) (λ h. closable_waits f (at f p.start gone id) y (k.closes id h) waits) in
    let known : nat_lt id (next_id p.start gone) ≡ true = waits_known f (nat_lt id (next_id p.start gone)) (at f p.start gone id)
    (first (kb id) (given late id)) (trail_of id p.calls) (advice f p.start gone id) y (k.ones id) waits in
    let all : at f p.start (late ++ gone) id ≡ at f p.start gone id =
    whole_state f p.start late gone id (k.apart id y is) standing (below id (next_id p.start gone) known) in
    ap (λ (l : List IdEvent). unfinished f (at f p.start l id)) (ids_over f p.start p.gone p.late) ∙ ap (unfinished f) all
    ∙ waits_unfinished f (at f p.start gone id) y waits

pub sane_record : (f : Flow) (p : AbstractPlant) (kb : ℕ → Option FullReply) (s : ℕ) (x : FullReply) → CoreFits f (lower f p kb) →
    SeatsAgree f p.start (past p) p.kept kb → p.mark ≤ length p.gone → AreHeld f p.start (past p)
    → p.kept s ≡ Some x → PlantFits f (record p { kept = put s None p.kept; late = Replied s x ∷ p.late })
sane_record f p kb s x k matched room holders is =
    let u = matched.up s x is in (
      put u.0 None kb,
      turned_ids f (Records u.0) (lower f p kb) (lower f (record p { kept = put s None p.kept; late = Replied s x ∷ p.late }) (put u.0 None kb)) k (
        x,
        u.2,
        ap (λ (o : Option ℕ). record {
          start = p.start;
          late = given_to o x ∷ over f p.start p.gone p.late;
          gone = by_ids f p.start p.gone;
          kept = put u.0 None kb;
          calls = p.calls;
        }) u.1,
      ),
      match_record f p.start (past p) (Replied s x ∷ past p) p.kept kb s u.0 matched u.1 (same_replied f p.start (past p) s u.0 x u.1),
      room,
      holds_replied f p.start (past p) s u.0 x holders u.1 (kept_busy f p kb s u.0 x k u.2),
    )

pub sane_take : (f : Flow) (hd : Head) (p : AbstractPlant) (kb : ℕ → Option FullReply) (s : ℕ) → CoreFits f (lower f p kb) →
    SeatsAgree f p.start (past p) p.kept kb → p.mark ≤ length p.gone → AreHeld f p.start (past p)
    → ((id : ℕ) → serves f p.start (past p) s ≡ Some id → unfinished f (at f p.start (whole f p) id) ≡ false) →
    PlantFits f (record p { late = Taken s hd ∷ p.late })
sane_take f hd p kb s k matched room holders idle =
    let none : p.kept s ≡ None = none_of (p.kept s) (λ y h. let u = matched.up s y h in grind (arith, idle u.0 u.1, kept_busy f p kb s u.0 y k u.2)) in (
      kb,
      turned_ids f (Takes hd) (lower f p kb) (lower f (record p { late = Taken s hd ∷ p.late }) kb) k refl,
      match_take f p.start (past p) (Taken s hd ∷ past p) p.kept kb s matched none (same_taken f hd p.start (past p) s),
      room,
      holds_taken f p.start (past p) s hd holders idle,
    )

pub sane_put : (f : Flow) (v : IdView) (l gone : List SessionEvent) (e : SessionEvent) (mark : ℕ) (kept kb : ℕ → Option FullReply) (calls : List PlantDeed)
    → CoreFits f (lower f (record { start = v; late = l ++ e ∷ []; gone = gone; mark = mark; kept = kept; calls = calls }) kb) →
    SeatsAgree f v ((l ++ e ∷ []) ++ gone) kept kb → mark ≤ length gone → AreHeld f v ((l ++ e ∷ []) ++ gone)
    → PlantFits f (record { start = v; late = l; gone = e ∷ gone; mark = mark; kept = kept; calls = calls })
sane_put f v l gone e mark kept kb calls k matched room holders = (
  kb,
  turned_ids f Writes (lower f (record { start = v; late = l ++ e ∷ []; gone = gone; mark = mark; kept = kept; calls = calls }) kb)
      (lower f (record { start = v; late = l; gone = e ∷ gone; mark = mark; kept = kept; calls = calls }) kb) k
      (over f v (e ∷ gone) l, event_of f v (taken v gone) (by_ids f v gone) e, over_snoc f v gone l e, refl),
  subst (λ (es : List SessionEvent). SeatsAgree f v es kept kb) (append_assoc l (e ∷ []) gone) matched,
  omega (arith, room),
  subst (λ (es : List SessionEvent). AreHeld f v es) (append_assoc l (e ∷ []) gone) holders,
)

pub append_nothing : (xs : List SessionEvent) → xs ++ [] ≡ xs
append_nothing [] = refl
append_nothing (x ∷ xs) = ap (λ (ys : List SessionEvent). x ∷ ys) (append_nothing xs)

pub sane_opens : (f : Flow) (j : IdView) (cs : List ℕ) (calls : List PlantDeed) → OutcomeLaw calls j → ViewFits j → Shuts j (shut_ids cs) →
    PlantFits f (made_on j cs calls)
sane_opens f j cs calls law ok closes = (
  none_kept,
  subst (λ (l : List IdEvent). IsCore f j l [] none_kept (Halted j ∷ calls)) (sym (over_shut f j cs)) (kept_opens f j (shut_ids cs) calls law ok closes),
  record { up = λ s x h. absurd (grind (arith, h)); down = λ id x h. absurd (grind (arith, h)) },
  omega arith,
  subst (λ (es : List SessionEvent). AreHeld f j es) (sym (append_nothing (shut cs))) (holds_opened f j cs ok),
)

pub sane_law : (f : Flow) (p : AbstractPlant) → PlantFits f p → OutcomeLaw p.calls (view f p) × ViewFits (view f p)
sane_law f p h = (law_of f (lower f p h.0) h.1, ok_of f (lower f p h.0) h.1)

pub turned : (f : Flow) (t : PlantMove) (p q : AbstractPlant) → PlantFits f p → PlantMoves f t p q → PlantFits f q
turned f (Take s hd) p q h m = subst (λ (q : AbstractPlant). PlantFits f q) (sym m.2) (sane_take f hd p h.0 s h.1 h.2 h.3 h.4 m.1)
turned f (Call s x k) p q h m = subst (λ (q : AbstractPlant). PlantFits f q) (sym m.7) (sane_call f p h.0 s m.0 x k m.1 h.1 h.2 h.3 h.4 m.2 m.3 m.4 m.5 m.6)
turned f (Record s) p q h m = subst (λ (q : AbstractPlant). PlantFits f q) (sym m.2) (sane_record f p h.0 s m.0 h.1 h.2 h.3 h.4 m.1)
turned f (Acking i n) p q h m = subst (λ (q : AbstractPlant). PlantFits f q) (sym m) (
  h.0,
  turned_ids f (Acks i n) (lower f p h.0) (lower f (record p { late = Ack i n ∷ p.late }) h.0) h.1 refl,
  match_same f p.start (past p) (Ack i n ∷ past p) p.kept h.0 h.2 (λ t. in_acked f p.start (taken p.start (past p) t) t i n (whole f p)),
  h.3,
  h.4,
)
turned f Quiet p q h m = subst (λ (q : AbstractPlant). PlantFits f q) (sym m) (
  h.0,
  turned_ids f Others (lower f p h.0) (lower f (record p { late = Plain ∷ p.late }) h.0) h.1 refl,
  match_same f p.start (past p) (Plain ∷ past p) p.kept h.0 h.2 (λ t. in_other f p.start (taken p.start (past p) t) t (whole f p)),
  h.3,
  h.4,
)
turned f Put p q h m =
    let old : PlantFits f (record p { late = m.0 ++ m.1 ∷ [] }) = subst (λ (late : List SessionEvent). PlantFits f (record p { late = late })) m.2 h in
    subst (λ (q : AbstractPlant). PlantFits f q) (sym m.3) (sane_put f p.start m.0 p.gone m.1 p.mark p.kept old.0 p.calls old.1 old.2 old.3 old.4)
turned f (Note n) p q h m = subst (λ (q : AbstractPlant). PlantFits f q) (sym m.2) (h.0, h.1, h.2, m.1, h.4)
turned f Cut p q h m =
    let none : p.late ≡ [] = all_written p h.3 m.0 in
    let idle : (id : ℕ) → unfinished f (at f p.start (by_ids f p.start p.gone) id) ≡ false =
    λ id. ap (λ (l : List SessionEvent). unfinished f (at f p.start (by_ids f p.start (l ++ p.gone)) id)) (sym none) ∙ none_busy f p.start (past p) h.4 m.1
    m.2 id in
    let c : AbstractCore = lower f p h.0 in
    let nothing : c.late ≡ [] = ap (over f p.start p.gone) none in
    let l = sane_law f p h in
    subst (λ (q : AbstractPlant). PlantFits f q) (sym m.3) (
      none_kept,
      cut_good f c h.1 nothing (λ id. (clean_rows f c h.1 nothing id (idle id), idle id)),
      record { up = λ s x h. absurd (grind (arith, h)); down = λ id x h. absurd (grind (arith, h)) },
      omega arith,
      λ id low u. absurd (grind (arith, u, ap (λ (o : Option Row). unfinished f (reopened o)) (high_row (view f p) l.1 id low))),
    )
turned f (Stop cs) p q h m = let l = sane_law f p h in subst (λ (q : AbstractPlant). PlantFits f q) (sym m.1) (sane_opens f (view f p) cs p.calls l.0 l.1 m.0)

pub ran : (f : Flow) (ts : List PlantMove) (p q : AbstractPlant) → PlantFits f p → PlantRun f ts p q → PlantFits f q
ran f [] p q h r = subst (λ (q : AbstractPlant). PlantFits f q) (sym r) h
ran f (t ∷ ts) p q h r = ran f ts r.0 q (turned f t p r.0 h r.1) r.2

-- The outcome law of a plant.
pub plant_kept : (f : Flow) (j : IdView) (cs : List ℕ) (calls : List PlantDeed) (ts : List PlantMove) (q : AbstractPlant) → OutcomeLaw calls j →
    ViewFits j → Shuts j (shut_ids cs) → PlantRun f ts (made_on j cs calls) q
    → OutcomeLaw q.calls (view f q) × ViewFits (view f q)
plant_kept f j cs calls ts q law ok closes run = sane_law f q (ran f ts (made_on j cs calls) q (sane_opens f j cs calls law ok closes) run)
