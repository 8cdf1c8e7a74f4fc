-- Each turn keeps the invariant of the core.
-- for: laws::outcome_law
use Rattle.std.proofs.Common.{◌≡◌, ℕ, ◌+◌, Bool, true, false, List, [], ◌∷◌, ◌++◌, Option, Some, None, refl, sym, ◌∙◌, ap, subst, arith}
use Rattle.std.specs.Prelude.{map, codes, slice_index, if◌then◌else◌, ◌==◌, nat_lt, not, ◌||◌}
use Rattle.std.proofs.lemmas.Bool.Decides.{nat_tests}
use Rattle.flow_model.specs.declared.flow.Flow.{Flow}
use Rattle.tx_machine.specs.declared.values.Phase.TheVariants.{Preparing, Committing, Undoing}
use Rattle.tx_machine.specs.declared.values.Due.TheVariants.{Commit, Abort, Done}
use Rattle.tx_machine.specs.Table as table
use Rattle.tx_machine.specs.Table.{Upcoming}
use Rattle.flow_model.specs.Places.{entries_named}
use Rattle.tx_machine.specs.Row.{Row}
use Rattle.outcome_calls.specs.Trail.{Deed, Stopped, listed, is_committing}
use Rattle.outcome_calls.specs.One.{Undecided, DueCall, Preparation, Selection, Telling, Recovery, NoCall, FullReply, Answer, Chosen, Advice, Restored, Standing}
use Rattle.outcome_calls.specs.One.{Made, without, standing_row, IdFits, Reopens}
use Rattle.outcome_calls.specs.States.{FullState, Head, StateFits, decision, seen, begin, after, due, standing, reopen, PhaseFits, answers}
use Rattle.outcome_calls.specs.Core.{IdView, IdEvent, Took, Given, Acked, Closed, Other, PlantDeed, Called, trail_of, OutcomeLaw, ViewFits, takes, next_id}
use Rattle.outcome_calls.specs.Core.{reopened, later, at, standing_of, advised_at, advice, given, closed, Once, first, AbstractCore, put, Closings, opened}
use Rattle.outcome_calls.specs.Core.{written, CoreMove, Calls, Records, Takes, Acks, Others, Writes, Stops, CoreMoves, CoreRun, IsAwaited, Closable, Stuck}
use Rattle.outcome_calls.specs.Core.{StateFitsAt, IsCore, CoreFits, Shuts}
use Rattle.outcome_calls.specs.Plant.{is_idle, unfinished}
use Rattle.outcome_calls.proofs.Trails.{law_holds, unborn_ok, born_holds, call_holds, settle_holds, close_holds, acked}
use Rattle.outcome_calls.proofs.Trails.{opened as opens}
use Rattle.outcome_calls.proofs.TableStates.{opened_answer, opened_choice, row_stuck, advanced_told, sound, leads, reopen_ok, proper_reopen, row_ok, proper_begin}

pub made_answers : (d : DueCall) (x : FullReply) (st : Standing) (m : Deed) → Made d x st m → answers d x ≡ true
made_answers (Preparation p) (Answer b c) st m h = refl
made_answers (Selection p) (Chosen w) st m h = refl
made_answers (Telling p) (Advice a) st m h = refl
made_answers (Recovery p) Restored st m h = refl
made_answers _ _ st m h = absurd h

-- a call

pub call_ones : (b : Bool) (known : Bool) (s : Option Standing) (k g : Option FullReply) (t : List Deed) (adv : ℕ → Option (List ℕ)) (x : FullReply)
    (m : Deed) → IdFits known s (first k g) t adv
    → (b ≡ true → (st : Standing) × (s ≡ Some st) × (k ≡ None) × (g ≡ None) × Made st.due x st m)
    → IdFits known s (first (if b then Some x else k) g) (if b then m ∷ t else t) adv
call_ones false known s k g t adv x m h f = h
call_ones true known s k g t adv x m h f =
    let w = f refl in
    let none : first k g ≡ None = ap (λ (k : Option FullReply). first k g) w.2 ∙ w.3 in
    let was : IdFits known (Some w.0) None t adv = subst (λ (o : Option FullReply). IdFits known (Some w.0) o t adv) none
    (subst (λ (s : Option Standing). IdFits known s (first k g) t adv) w.1 h) in
    subst (λ (s : Option Standing). IdFits known s (Some x) (m ∷ t) adv) (sym w.1) (call_holds known t adv w.0 x m was w.4)

pub call_apart : (b : Bool) (k g : Option FullReply) (x y : FullReply) → (k ≡ Some y → g ≡ None) → (b ≡ true → g ≡ None) →
    (if b then Some x else k) ≡ Some y → g ≡ None
call_apart true k g x y f h is = h refl
call_apart false k g x y f h is = f is

pub call_alive : (f : Flow) (b : Bool) (k g : Option FullReply) (x y : FullReply) (o : Option FullState) → (first k g ≡ Some y → IsAwaited f o y) →
    (b ≡ true → IsAwaited f o x) → first (if b then Some x else k) g ≡ Some y → IsAwaited f o y
call_alive f true k g x y o e h is = subst (λ (z : FullReply). IsAwaited f o z) (grind (arith, is)) (h refl)
call_alive f false k g x y o e h is = e is

pub staged_some : (f : Flow) (o : Option FullState) (st : FullState) → o ≡ Some st → standing_of f o ≡ Some (standing f st)
staged_some f o st is = ap (standing_of f) is

pub same_id : (i j : ℕ) → i == j ≡ true → i ≡ j
same_id i j h = grind (arith, nat_tests, h)

pub kept_calls : (f : Flow) (v : IdView) (late gone : List IdEvent) (kept : ℕ → Option FullReply) (calls : List PlantDeed) (id : ℕ) (x : FullReply)
    (m : Deed) (st : FullState) → IsCore f v late gone kept calls
    → at f v gone id ≡ Some st → given late id ≡ None → kept id ≡ None → Made (standing f st).due x (standing f st) m →
    IsCore f v late gone (put id (Some x) kept) (Called id m ∷ calls)
kept_calls f v late gone kept calls id x m st k is g n made = record {
  ones = λ i. call_ones (id == i) (nat_lt i (next_id v gone)) (standing_of f (at f v gone i)) (kept i) (given late i) (trail_of i calls) (advice f v gone i)
      x m (k.ones i)
      (λ h. let e = same_id id i h in (
        standing f st,
        ap (λ (j : ℕ). standing_of f (at f v gone j)) (sym e) ∙ staged_some f (at f v gone id) st is,
        ap kept (sym e) ∙ n,
        ap (given late) (sym e) ∙ g,
        made,
      ));
  once = k.once;
  apart = λ i y. call_apart (id == i) (kept i) (given late i) x y (k.apart i y) (λ h. ap (given late) (sym (same_id id i h)) ∙ g);
  alive = λ i y. call_alive f (id == i) (kept i) (given late i) x y (at f v gone i) (k.alive i y)
      (λ h. subst (λ (j : ℕ). IsAwaited f (at f v gone j) x) (same_id id i h)
      (subst (λ (o : Option FullState). IsAwaited f o x) (sym is) (made_answers (standing f st).due x (standing f st) m made)));
  closes = k.closes;
  proper = k.proper;
  shut = k.shut;
}

-- a record of a kept reply

pub same_first : (b : Bool) (k g : Option FullReply) (x : FullReply) → (b ≡ true → k ≡ Some x) →
    first k g ≡ first (if b then None else k) (if b then Some x else g)
same_first true k g x h = ap (λ (k : Option FullReply). first k g) (h refl)
same_first false k g x h = refl

pub record_apart : (b : Bool) (k g : Option FullReply) (x y : FullReply) → (k ≡ Some y → g ≡ None) → (if b then None else k) ≡ Some y →
    (if b then Some x else g) ≡ None
record_apart true k g x y f is = absurd (grind (arith, is))
record_apart false k g x y f is = f is

pub kept_records : (f : Flow) (v : IdView) (late gone : List IdEvent) (kept : ℕ → Option FullReply) (calls : List PlantDeed) (id : ℕ) (x : FullReply) →
    IsCore f v late gone kept calls
    → kept id ≡ Some x → IsCore f v (Given id x ∷ late) gone (put id None kept) calls
kept_records f v late gone kept calls id x k is = record {
  ones = λ i. subst (λ (o : Option FullReply). IdFits (nat_lt i (next_id v gone)) (standing_of f (at f v gone i)) o (trail_of i calls) (advice f v gone i))
      (same_first (id == i) (kept i) (given late i) x (λ h. ap kept (sym (same_id id i h)) ∙ is)) (k.ones i);
  once = (k.apart id x is, k.once);
  apart = λ i y. record_apart (id == i) (kept i) (given late i) x y (k.apart i y);
  alive = λ i y h. k.alive i y (same_first (id == i) (kept i) (given late i) x (λ h. ap kept (sym (same_id id i h)) ∙ is) ∙ h);
  closes = k.closes;
  proper = k.proper;
  shut = k.shut;
}

pub kept_takes : (f : Flow) (hd : Head) (v : IdView) (late gone : List IdEvent) (kept : ℕ → Option FullReply) (calls : List PlantDeed) →
    IsCore f v late gone kept calls → IsCore f v (Took hd ∷ late) gone kept calls
kept_takes f hd v late gone kept calls k = record {
  ones = k.ones;
  once = k.once;
  apart = k.apart;
  alive = k.alive;
  closes = k.closes;
  proper =
      k.proper;
  shut = k.shut;
}

pub kept_acks : (f : Flow) (v : IdView) (late gone : List IdEvent) (kept : ℕ → Option FullReply) (calls : List PlantDeed) (id n : ℕ) →
    IsCore f v late gone kept calls → IsCore f v (Acked id n ∷ late) gone kept calls
kept_acks f v late gone kept calls id n k = record {
  ones = k.ones;
  once = k.once;
  apart = k.apart;
  alive = k.alive;
  closes = k.closes;
  proper =
      k.proper;
  shut = k.shut;
}

pub kept_others : (f : Flow) (v : IdView) (late gone : List IdEvent) (kept : ℕ → Option FullReply) (calls : List PlantDeed) →
    IsCore f v late gone kept calls → IsCore f v (Other ∷ late) gone kept calls
kept_others f v late gone kept calls k = record {
  ones = k.ones;
  once = k.once;
  apart = k.apart;
  alive = k.alive;
  closes = k.closes;
  proper =
      k.proper;
  shut = k.shut;
}

-- a write of the oldest entry

pub first_none : (g : Option FullReply) → first g None ≡ g
first_none None = refl
first_none (Some x) = refl

pub given_snoc : (l : List IdEvent) (e : IdEvent) (id : ℕ) → given (l ++ e ∷ []) id ≡ first (given l id) (given (e ∷ []) id)
given_snoc [] e id = refl
given_snoc (Took hd ∷ l) e id = given_snoc l e id
given_snoc (Given i x ∷ l) e id = elim (i == id) as (λ (b : Bool). (if b then Some x else given (l ++ e ∷ []) id) ≡ first (if b then Some x else given l id)
    (given (e ∷ []) id)) [
      | true ↦ refl
      | false ↦ given_snoc l e id
    ]
given_snoc (Acked i n ∷ l) e id = given_snoc l e id
given_snoc (Closed i ∷ l) e id = given_snoc l e id
given_snoc (Other ∷ l) e id = given_snoc l e id

pub closed_snoc : (l : List IdEvent) (e : IdEvent) (id : ℕ) → closed (l ++ e ∷ []) id ≡ (closed l id || closed (e ∷ []) id)
closed_snoc [] e id = refl
closed_snoc (Took hd ∷ l) e id = closed_snoc l e id
closed_snoc (Given i x ∷ l) e id = closed_snoc l e id
closed_snoc (Acked i n ∷ l) e id = closed_snoc l e id
closed_snoc (Closed i ∷ l) e id = grind (arith, closed_snoc l e id)
closed_snoc (Other ∷ l) e id = closed_snoc l e id

pub first_fst : (g h : Option FullReply) → first g h ≡ None → g ≡ None
first_fst None h is = refl
first_fst (Some x) h is = is

pub or_fst : (a b : Bool) → (a || b) ≡ false → a ≡ false
or_fst a b h = grind (arith, h)

pub once_snoc : (l : List IdEvent) (e : IdEvent) → Once (l ++ e ∷ []) → Once l
once_snoc [] e h = tt
once_snoc (Took hd ∷ l) e h = once_snoc l e h
once_snoc (Given i x ∷ l) e h = (first_fst (given l i) (given (e ∷ []) i) (sym (given_snoc l e i) ∙ h.0), once_snoc l e h.1)
once_snoc (Acked i n ∷ l) e h = once_snoc l e h
once_snoc (Closed i ∷ l) e h = (or_fst (closed l i) (closed (e ∷ []) i) (sym (closed_snoc l e i) ∙ h.0), once_snoc l e h.1)
once_snoc (Other ∷ l) e h = once_snoc l e h

pub given_self : (j : ℕ) (x : FullReply) → given (Given j x ∷ []) j ≡ Some x
given_self j x = grind (arith, nat_tests)

pub first_some : (g : Option FullReply) (x : FullReply) → first g (Some x) ≡ None → ⊥
first_some None x h = grind (arith, h)
first_some (Some y) x h = grind (arith, h)

-- the written item is the only one of its id
pub once_given : (l : List IdEvent) (j : ℕ) (x : FullReply) → Once (l ++ Given j x ∷ []) → given l j ≡ None
once_given [] j x h = refl
once_given (Took hd ∷ l) j x h = once_given l j x h
once_given (Given i y ∷ l) j x h =
    let rest : given l j ≡ None = once_given l j x h.1 in
    let not : i ≡ j → ⊥ = λ e.
    first_some (given l i) x (ap (λ (o : Option FullReply). first (given l i) o) (sym (given_self i x) ∙ ap (λ (k : ℕ). given (Given k x ∷ []) i) e)
    ∙ sym (given_snoc l (Given j x) i) ∙ h.0) in
    grind (arith, nat_tests, rest, not)
once_given (Acked i n ∷ l) j x h = once_given l j x h
once_given (Closed i ∷ l) j x h = once_given l j x h.1
once_given (Other ∷ l) j x h = once_given l j x h

pub once_closed : (l : List IdEvent) (j : ℕ) → Once (l ++ Closed j ∷ []) → closed l j ≡ false
once_closed [] j h = refl
once_closed (Took hd ∷ l) j h = once_closed l j h
once_closed (Given i y ∷ l) j h = once_closed l j h.1
once_closed (Acked i n ∷ l) j h = once_closed l j h
once_closed (Closed i ∷ l) j h =
    let rest : closed l j ≡ false = once_closed l j h.1 in
    let other : closed (l ++ Closed j ∷ []) i ≡ (closed l i || ((j == i) || false)) = closed_snoc l (Closed j) i in
    grind (arith, nat_tests, rest, other, h.0)
once_closed (Other ∷ l) j h = once_closed l j h

pub staged_none : (f : Flow) (known : Bool) (o : Option FullState) (x : Option FullReply) (t : List Deed) (adv : ℕ → Option (List ℕ)) →
    IdFits known (standing_of f o) x t adv → known ≡ false → o ≡ None
staged_none f false None x t adv h k = refl
staged_none f false (Some st) x t adv h k = absurd h
staged_none f true o x t adv h k = absurd (grind (arith, k))

-- Took
pub decision_open : (ms : List Upcoming) (tries : ℕ) (saved : List ℕ)
    → decision (table.advanced (record {
      phase = Preparing;
      rest = ms;
      retry = false;
      bound = false;
      calls = 0;
      joined = [];
      told = 0;
      saved =
          saved;
      tries = tries;
    })).phase ≡ Undecided
decision_open [] tries saved = refl
decision_open (m ∷ ms) tries saved = refl

pub took_decision : (f : Flow) (hd : Head) → (standing f (begin f hd)).decision ≡ Undecided
took_decision f hd = decision_open (map table.Prepare (entries_named f (codes "main"))) hd.0 hd.1

pub took_told : (f : Flow) (hd : Head) → (standing f (begin f hd)).told ≡ 0
took_told f hd = advanced_told (record {
  phase = Preparing;
  rest = map table.Prepare (entries_named f (codes "main"));
  retry = false;
  bound = false;
  calls =
      0;
  joined = [];
  told = 0;
  saved = hd.1;
  tries = hd.0;
})

pub took_ones : (b known new : Bool) (f : Flow) (hd : Head) (o : Option FullState) (x : Option FullReply) (t : List Deed) (adv : ℕ → Option (List ℕ)) →
    IdFits known (standing_of f o) x t adv
    → (b ≡ true → (known ≡ false) × (new ≡ true)) → (b ≡ false → new ≡ known) → IdFits new (standing_of f (if b then Some (begin f hd) else o)) x t adv
took_ones true known new f hd o x t adv h p q =
    subst (λ (n : Bool). IdFits n (Some (standing f (begin f hd))) x t adv) (sym (p refl).1)
    (born_holds known (standing_of f o) x t adv (standing f (begin f hd)) h (p refl).0 (sound f (begin f hd) (proper_begin f hd)) (took_decision f hd)
    (took_told f hd))
took_ones false known new f hd o x t adv h p q = subst (λ (n : Bool). IdFits n (standing_of f o) x t adv) (sym (q refl)) h

pub took_alive : (b known : Bool) (f : Flow) (hd : Head) (o : Option FullState) (x : Option FullReply) (y : FullReply) (t : List Deed) (adv : ℕ →
    Option (List ℕ)) → IdFits known (standing_of f o) x t adv → (b ≡ true → known ≡ false)
    → (x ≡ Some y → IsAwaited f o y) → x ≡ Some y → IsAwaited f (if b then Some (begin f hd) else o) y
took_alive false known f hd o x y t adv h p w is = w is
took_alive true known f hd o x y t adv h p w is = absurd (subst (λ (o : Option FullState). IsAwaited f o y) (staged_none f known o x t adv h (p refl)) (w is))

pub took_closes : (b known : Bool) (f : Flow) (hd : Head) (o : Option FullState) (x : Option FullReply) (t : List Deed) (adv : ℕ → Option (List ℕ)) →
    IdFits known (standing_of f o) x t adv → (b ≡ true → known ≡ false)
    → Closable f o → Closable f (if b then Some (begin f hd) else o)
took_closes false known f hd o x t adv h p c = c
took_closes true known f hd o x t adv h p c = absurd (subst (λ (o : Option FullState). Closable f o) (staged_none f known o x t adv h (p refl)) c)

pub took_proper : (b : Bool) (f : Flow) (hd : Head) (o : Option FullState) → StateFitsAt o → StateFitsAt (if b then Some (begin f hd) else o)
took_proper true f hd o h = proper_begin f hd
took_proper false f hd o h = h

pub not_yet : (n i : ℕ) → n == i ≡ true → nat_lt i n ≡ false
not_yet n i h = grind (arith, nat_tests, h)

pub now_known : (v k i : ℕ) → (v + k) == i ≡ true → nat_lt i (v + (k + 1)) ≡ true
now_known v k i h = grind (arith, nat_tests, h)

pub as_known : (v k i : ℕ) → (v + k) == i ≡ false → nat_lt i (v + (k + 1)) ≡ nat_lt i (v + k)
as_known v k i h = grind (arith, nat_tests, h)

pub first_snoc : (l : List IdEvent) (e : IdEvent) (k : Option FullReply) (id : ℕ) → given (e ∷ []) id ≡ None →
    first k (given (l ++ e ∷ []) id) ≡ first k (given l id)
first_snoc l e k id none = ap (λ (o : Option FullReply). first k o) (given_snoc l e id ∙ ap (λ (o : Option FullReply). first (given l id) o) none
    ∙ first_none (given l id))

pub closed_before : (l : List IdEvent) (e : IdEvent) (id : ℕ) → closed l id ≡ true → closed (l ++ e ∷ []) id ≡ true
closed_before l e id h = grind (arith, closed_snoc l e id, h)

pub apart_snoc : (l : List IdEvent) (e : IdEvent) (id : ℕ) → given (l ++ e ∷ []) id ≡ None → given l id ≡ None
apart_snoc l e id h = first_fst (given l id) (given (e ∷ []) id) (sym (given_snoc l e id) ∙ h)

pub closed_drop : (l : List IdEvent) (e : IdEvent) (id : ℕ) → closed (e ∷ []) id ≡ false → closed (l ++ e ∷ []) id ≡ true → closed l id ≡ true
closed_drop l e id none h = grind (arith, closed_snoc l e id, none, h)

pub took_shut : (b : Bool) (f : Flow) (hd : Head) (o : Option FullState) (X : Type 0) → (Stuck o → X) → Stuck (if b then Some (begin f hd) else o) → X
took_shut true f hd o X old h = absurd (grind (arith, h.1))
took_shut false f hd o X old h = old h

pub given_after : (f : Flow) (st : FullState) (x : FullReply) (X : Type 0) → StateFits st → answers (due f st) x ≡ true → (Stuck (Some st) → X) →
    Stuck (Some (after f st x)) → X
given_after f st (Answer b c) X proper is old h = absurd (grind (arith, h.1, opened_answer f st b c st.state.phase st.state.rest proper is))
given_after f st (Chosen t) X proper is old h = absurd (grind (arith, h.1, opened_choice f st t st.state.phase st.state.rest proper is))
given_after f st (Advice a) X proper is old h = absurd (grind (arith, h.1))
given_after f st Restored X proper is old h = old h

pub given_shut : (f : Flow) (b : Bool) (o : Option FullState) (x : FullReply) (X : Type 0) → (b ≡ true → IsAwaited f o x) → StateFitsAt o → (Stuck o → X) →
    Stuck (if b then later f x o else o) → X
given_shut f false o x X e p old h = old h
given_shut f true None x X e p old h = absurd h
given_shut f true (Some st) x X e p old h = given_after f st x X p (e refl) old h

pub closed_shut : (b c d : Bool) (o : Option FullState) → d ≡ (c || (b || false)) → (Stuck o → d ≡ true) → Stuck (if b then None else o) → c ≡ true
closed_shut true c d o is old h = absurd h
closed_shut false c d o is old h = grind (arith, is, old h)

pub opens_shut : (o : Option Row) (X : Type 0) → ((r : Row) → o ≡ Some r → listed r ≡ [] → X) → Stuck (reopened o) → X
opens_shut None X f h = absurd h
opens_shut (Some r) X f h = f r refl h.2

pub writes_took : (f : Flow) (hd : Head) (v : IdView) (l gone : List IdEvent) (kept : ℕ → Option FullReply) (calls : List PlantDeed) →
    IsCore f v (l ++ Took hd ∷ []) gone kept calls → IsCore f v l (Took hd ∷ gone) kept calls
writes_took f hd v l gone kept calls k =
    let was : (i : ℕ) → IdFits (nat_lt i (next_id v gone)) (standing_of f (at f v gone i)) (first (kept i) (given l i)) (trail_of i calls)
    (advice f v gone i) =
    λ i. subst (λ (o : Option FullReply). IdFits (nat_lt i (next_id v gone)) (standing_of f (at f v gone i)) o (trail_of i calls) (advice f v gone i))
    (first_snoc l (Took hd) (kept i) i refl) (k.ones i) in
    record {
      ones = λ i. took_ones (next_id v gone == i) (nat_lt i (next_id v gone)) (nat_lt i (next_id v (Took hd ∷ gone))) f hd (at f v gone i)
          (first (kept i) (given l i)) (trail_of i calls) (advice f v gone i) (was i)
          (λ h. (not_yet (next_id v gone) i h, now_known v.next_id (takes gone) i h)) (as_known v.next_id (takes gone) i);
      once = once_snoc l (Took hd) k.once;
      apart = λ i x is. apart_snoc l (Took hd) i (k.apart i x is);
      alive = λ i x. took_alive (next_id v gone == i) (nat_lt i (next_id v gone)) f hd (at f v gone i) (first (kept i) (given l i)) x (trail_of i calls)
          (advice f v gone i) (was i) (not_yet (next_id v gone) i)
          (λ is. k.alive i x (first_snoc l (Took hd) (kept i) i refl ∙ is));
      closes = λ i is. took_closes (next_id v gone == i) (nat_lt i (next_id v gone)) f hd (at f v gone i) (first (kept i) (given l i)) (trail_of i calls)
          (advice f v gone i) (was i) (not_yet (next_id v gone) i)
          (k.closes i (closed_before l (Took hd) i is));
      proper = λ i. took_proper (next_id v gone == i) f hd (at f v gone i) (k.proper i);
      shut = λ i. took_shut (next_id v gone == i) f hd (at f v gone i) (closed l i ≡ true) (λ h. closed_drop l (Took hd) i refl (k.shut i h));
    }

-- Other
pub writes_other : (f : Flow) (v : IdView) (l gone : List IdEvent) (kept : ℕ → Option FullReply) (calls : List PlantDeed) →
    IsCore f v (l ++ Other ∷ []) gone kept calls → IsCore f v l (Other ∷ gone) kept calls
writes_other f v l gone kept calls k = record {
  ones = λ i. subst (λ (o : Option FullReply). IdFits (nat_lt i (next_id v gone)) (standing_of f (at f v gone i)) o (trail_of i calls) (advice f v gone i))
      (first_snoc l Other (kept i) i refl) (k.ones i);
  once = once_snoc l Other k.once;
  apart = λ i x is. apart_snoc l Other i (k.apart i x is);
  alive = λ i x is. k.alive i x (first_snoc l Other (kept i) i refl ∙ is);
  closes = λ i is. k.closes i (closed_before l Other i is);
  shut = λ i h. closed_drop l Other i refl (k.shut i h);
  proper = k.proper;
}

-- Acked
pub acked_ones : (b : Bool) (n : ℕ) (known : Bool) (s : Option Standing) (x : Option FullReply) (t : List Deed) (adv : ℕ → Option (List ℕ)) →
    IdFits known s x t adv → IdFits known s x t (if b then without n adv else adv)
acked_ones true n known s x t adv h = acked n known s x t adv h
acked_ones false n known s x t adv h = h

pub writes_acked : (f : Flow) (v : IdView) (l gone : List IdEvent) (kept : ℕ → Option FullReply) (calls : List PlantDeed) (j n : ℕ) →
    IsCore f v (l ++ Acked j n ∷ []) gone kept calls → IsCore f v l (Acked j n ∷ gone) kept calls
writes_acked f v l gone kept calls j n k = record {
  ones = λ i. acked_ones (j == i) n (nat_lt i (next_id v gone)) (standing_of f (at f v gone i)) (first (kept i) (given l i)) (trail_of i calls)
      (advice f v gone i)
      (subst (λ (o : Option FullReply). IdFits (nat_lt i (next_id v gone)) (standing_of f (at f v gone i)) o (trail_of i calls) (advice f v gone i))
      (first_snoc l (Acked j n) (kept i) i refl) (k.ones i));
  once = once_snoc l (Acked j n) k.once;
  apart = λ i x is. apart_snoc l (Acked j n) i (k.apart i x is);
  alive = λ i x is. k.alive i x (first_snoc l (Acked j n) (kept i) i refl ∙ is);
  closes = λ i is. k.closes i (closed_before l (Acked j n) i is);
  shut = λ i h. closed_drop l (Acked j n) i refl (k.shut i h);
  proper = k.proper;
}

-- Given
pub none_of : (o : Option FullReply) → ((y : FullReply) → o ≡ Some y → ⊥) → o ≡ None
none_of None h = refl
none_of (Some y) h = absurd (h y refl)

pub given_ones : (f : Flow) (b known : Bool) (o : Option FullState) (k g : Option FullReply) (t : List Deed) (adv : ℕ → Option (List ℕ)) (x : FullReply) →
    IdFits known (standing_of f o) (first k (first g (if b then Some x else None))) t adv
    → (b ≡ true → (k ≡ None) × (g ≡ None) × IsAwaited f o x × StateFitsAt o)
    → IdFits known (standing_of f (if b then later f x o else o)) (first k g) t (if b then advised_at (standing_of f o) x adv else adv)
given_ones f false known o k g t adv x h e = subst (λ (g : Option FullReply). IdFits known (standing_of f o) (first k g) t adv) (first_none g) h
given_ones f true known None k g t adv x h e = absurd (e refl).2
given_ones f true known (Some st) (Some y) g t adv x h e = absurd (grind (arith, (e refl).0))
given_ones f true known (Some st) None (Some y) t adv x h e = absurd (grind (arith, (e refl).1))
given_ones f true known (Some st) None None t adv x h e =
    let l = leads f st x (e refl).3 (e refl).2 in
    settle_holds known t adv (standing f st) (standing f (after f st x)) x h l.1 (sound f (after f st x) l.0)

pub given_alive : (f : Flow) (b : Bool) (o : Option FullState) (k g : Option FullReply) (x y : FullReply) →
    (b ≡ true → (k ≡ None) × (g ≡ None) × IsAwaited f o x × StateFitsAt o)
    → (first k (first g (if b then Some x else None)) ≡ Some y → IsAwaited f o y) → first k g ≡ Some y → IsAwaited f (if b then later f x o else o) y
given_alive f false o k g x y e w is = w (ap (λ (g : Option FullReply). first k g) (first_none g) ∙ is)
given_alive f true o (Some z) g x y e w is = absurd (grind (arith, (e refl).0))
given_alive f true o None (Some z) x y e w is = absurd (grind (arith, (e refl).1))
given_alive f true o None None x y e w is = absurd (grind (arith, is))

pub idle_answers : (d : DueCall) (x : FullReply) → d ≡ NoCall → answers d x ≡ true → ⊥
idle_answers (Preparation p) x is h = grind (arith, is)
idle_answers (Selection p) x is h = grind (arith, is)
idle_answers (Telling p) x is h = grind (arith, is)
idle_answers (Recovery p) x is h = grind (arith, is)
idle_answers NoCall x is h = grind (arith, h)

pub closable_waits : (f : Flow) (o : Option FullState) (x : FullReply) → Closable f o → IsAwaited f o x → ⊥
closable_waits f None x c w = w
closable_waits f (Some st) x c w = idle_answers (due f st) x c.1 w

pub given_closes : (f : Flow) (b : Bool) (o : Option FullState) (x : FullReply) → (b ≡ true → IsAwaited f o x) → Closable f o →
    Closable f (if b then later f x o else o)
given_closes f false o x e c = c
given_closes f true o x e c = absurd (closable_waits f o x c (e refl))

pub given_proper : (f : Flow) (b : Bool) (o : Option FullState) (x : FullReply) → (b ≡ true → IsAwaited f o x) → StateFitsAt o →
    StateFitsAt (if b then later f x o else o)
given_proper f false o x e h = h
given_proper f true None x e h = absurd (e refl)
given_proper f true (Some st) x e h = (leads f st x h (e refl)).0

pub writes_given : (f : Flow) (v : IdView) (l gone : List IdEvent) (kept : ℕ → Option FullReply) (calls : List PlantDeed) (j : ℕ) (x : FullReply) →
    IsCore f v (l ++ Given j x ∷ []) gone kept calls → IsCore f v l (Given j x ∷ gone) kept calls
writes_given f v l gone kept calls j x k =
    let none : given l j ≡ None = once_given l j x k.once in
    let now : given (l ++ Given j x ∷ []) j ≡ Some x = given_snoc l (Given j x) j ∙ ap (λ (o : Option FullReply). first o (given (Given j x ∷ []) j)) none
    ∙ given_self j x in
    let may_tell : kept j ≡ None = none_of (kept j) (λ y is. grind (arith, k.apart j y is, now)) in
    let waits : IsAwaited f (at f v gone j) x = k.alive j x (ap (λ (o : Option FullReply). first o (given (l ++ Given j x ∷ []) j)) may_tell ∙ now) in
    let facts : (i : ℕ) → j == i ≡ true → (kept i ≡ None) × (given l i ≡ None) × IsAwaited f (at f v gone i) x × StateFitsAt (at f v gone i) =
    λ i h. let e = same_id j i h in (
      ap kept (sym e) ∙ may_tell,
      ap (given l) (sym e) ∙ none,
      subst (λ (i : ℕ). IsAwaited f (at f v gone i) x) e waits,
      k.proper i,
    ) in
    let snoc : (i : ℕ) → first (kept i) (given (l ++ Given j x ∷ []) i) ≡ first (kept i) (first (given l i) (if j == i then Some x else None)) =
    λ i. ap (λ (o : Option FullReply). first (kept i) o) (given_snoc l (Given j x) i) in
    record {
      ones = λ i. given_ones f (j == i) (nat_lt i (next_id v gone)) (at f v gone i) (kept i) (given l i) (trail_of i calls) (advice f v gone i) x
          (subst (λ (o : Option FullReply). IdFits (nat_lt i (next_id v gone)) (standing_of f (at f v gone i)) o (trail_of i calls) (advice f v gone i))
          (snoc i) (k.ones i)) (facts i);
      once = once_snoc l (Given j x) k.once;
      apart = λ i y is. apart_snoc l (Given j x) i (k.apart i y is);
      alive = λ i y. given_alive f (j == i) (at f v gone i) (kept i) (given l i) x y (facts i) (λ is. k.alive i y (snoc i ∙ is));
      closes = λ i is. given_closes f (j == i) (at f v gone i) x (λ h. (facts i h).2) (k.closes i (closed_before l (Given j x) i is));
      shut = λ i. given_shut f (j == i) (at f v gone i) x (closed l i ≡ true) (λ h. (facts i h).2) (k.proper i)
          (λ h. closed_drop l (Given j x) i refl (k.shut i h));
      proper = λ i. given_proper f (j == i) (at f v gone i) x (λ h. (facts i h).2) (k.proper i);
    }

-- Closed
pub closed_ones : (f : Flow) (b known : Bool) (o : Option FullState) (x : Option FullReply) (t : List Deed) (adv : ℕ → Option (List ℕ)) →
    IdFits known (standing_of f o) x t adv → (b ≡ true → Closable f o × (x ≡ None))
    → IdFits known (standing_of f (if b then None else o)) x t adv
closed_ones f false known o x t adv h e = h
closed_ones f true known None x t adv h e = absurd (e refl).0
closed_ones f true known (Some st) x t adv h e =
    let was : IdFits known (Some (standing f st)) None t adv = subst (λ (x : Option FullReply). IdFits known (Some (standing f st)) x t adv) (e refl).1 h in
    subst (λ (x : Option FullReply). IdFits known None x t adv) (sym (e refl).1) (close_holds known t adv (standing f st) was (e refl).0.0)

pub closed_alive : (f : Flow) (b : Bool) (o : Option FullState) (x : Option FullReply) (y : FullReply) → (b ≡ true → Closable f o × (x ≡ None)) →
    (x ≡ Some y → IsAwaited f o y) → x ≡ Some y → IsAwaited f (if b then None else o) y
closed_alive f false o x y e w is = w is
closed_alive f true o x y e w is = absurd (grind (arith, (e refl).1, is))

pub closed_closes : (f : Flow) (b c : Bool) (o : Option FullState) → (b ≡ true → c ≡ false) → (c ≡ true → Closable f o) → c ≡ true →
    Closable f (if b then None else o)
closed_closes f false c o e old is = old is
closed_closes f true c o e old is = absurd (grind (arith, e refl, is))

pub closed_proper : (b : Bool) (o : Option FullState) → StateFitsAt o → StateFitsAt (if b then None else o)
closed_proper false o h = h
closed_proper true o h = tt

pub closed_self : (l : List IdEvent) (j : ℕ) → closed (l ++ Closed j ∷ []) j ≡ true
closed_self l j = grind (arith, nat_tests, closed_snoc l (Closed j) j)

pub writes_closed : (f : Flow) (v : IdView) (l gone : List IdEvent) (kept : ℕ → Option FullReply) (calls : List PlantDeed) (j : ℕ) →
    IsCore f v (l ++ Closed j ∷ []) gone kept calls → IsCore f v l (Closed j ∷ gone) kept calls
writes_closed f v l gone kept calls j k =
    let can : Closable f (at f v gone j) = k.closes j (closed_self l j) in
    let none : first (kept j) (given l j) ≡ None = none_of (first (kept j) (given l j))
    (λ y is. closable_waits f (at f v gone j) y can (k.alive j y (first_snoc l (Closed j) (kept j) j refl ∙ is))) in
    let facts : (i : ℕ) → j == i ≡ true → Closable f (at f v gone i) × (first (kept i) (given l i) ≡ None) =
    λ i h. let e = same_id j i h in (subst (λ (i : ℕ). Closable f (at f v gone i)) e can, ap (λ (i : ℕ). first (kept i) (given l i)) (sym e) ∙ none) in
    record {
      ones = λ i. closed_ones f (j == i) (nat_lt i (next_id v gone)) (at f v gone i) (first (kept i) (given l i)) (trail_of i calls) (advice f v gone i)
          (subst (λ (o : Option FullReply). IdFits (nat_lt i (next_id v gone)) (standing_of f (at f v gone i)) o (trail_of i calls) (advice f v gone i))
          (first_snoc l (Closed j) (kept i) i refl) (k.ones i)) (facts i);
      once = once_snoc l (Closed j) k.once;
      apart = λ i y is. apart_snoc l (Closed j) i (k.apart i y is);
      alive = λ i y. closed_alive f (j == i) (at f v gone i) (first (kept i) (given l i)) y (facts i)
          (λ is. k.alive i y (first_snoc l (Closed j) (kept i) i refl ∙ is));
      closes = λ i. closed_closes f (j == i) (closed l i) (at f v gone i) (λ h. ap (closed l) (sym (same_id j i h)) ∙ once_closed l j k.once)
          (λ is. k.closes i (closed_before l (Closed j) i is));
      shut = λ i. closed_shut (j == i) (closed l i) (closed (l ++ Closed j ∷ []) i) (at f v gone i) (closed_snoc l (Closed j) i) (k.shut i);
      proper = λ i. closed_proper (j == i) (at f v gone i) (k.proper i);
    }

pub writes : (f : Flow) (v : IdView) (l gone : List IdEvent) (kept : ℕ → Option FullReply) (calls : List PlantDeed) (e : IdEvent) →
    IsCore f v (l ++ e ∷ []) gone kept calls → IsCore f v l (e ∷ gone) kept calls
writes f v l gone kept calls (Took hd) k = writes_took f hd v l gone kept calls k
writes f v l gone kept calls (Given j x) k = writes_given f v l gone kept calls j x k
writes f v l gone kept calls (Acked j n) k = writes_acked f v l gone kept calls j n k
writes f v l gone kept calls (Closed j) k = writes_closed f v l gone kept calls j k
writes f v l gone kept calls Other k = writes_other f v l gone kept calls k

-- the law and the view of a core

pub law_of : (f : Flow) (c : AbstractCore) → CoreFits f c → OutcomeLaw c.calls (written f c)
law_of f c k id = law_holds (nat_lt id (next_id c.start c.gone)) (standing_of f (at f c.start c.gone id)) (first (c.kept id) (given c.late id))
    (trail_of id c.calls) (advice f c.start c.gone id) (k.ones id)

pub row_ok_at : (f : Flow) (o : Option FullState) (r : Row) → StateFitsAt o → standing_row (standing_of f o) ≡ Some r → PhaseFits r
row_ok_at f None r h is = absurd (grind (arith, is))
row_ok_at f (Some st) r h is = row_ok f st r h is

pub ok_of : (f : Flow) (c : AbstractCore) → CoreFits f c → ViewFits (written f c)
ok_of f c k = record {
  rows = λ id h. (unborn_ok (nat_lt id (next_id c.start c.gone)) (standing_of f (at f c.start c.gone id)) (first (c.kept id) (given c.late id))
      (trail_of id c.calls) (advice f c.start c.gone id) (k.ones id) h).0;
  advices = λ id n h. (unborn_ok (nat_lt id (next_id c.start c.gone)) (standing_of f (at f c.start c.gone id)) (first (c.kept id) (given c.late id))
      (trail_of id c.calls) (advice f c.start c.gone id) (k.ones id) h).1 n;
  ok = λ id r is. row_ok_at f (at f c.start c.gone id) r (k.proper id) is;
}

-- an opening

pub closings_given : (j : IdView) (cs : List IdEvent) (id : ℕ) → Closings j cs → given cs id ≡ None
closings_given j [] id h = refl
closings_given j (Took hd ∷ cs) id h = absurd h
closings_given j (Given i x ∷ cs) id h = absurd h
closings_given j (Acked i n ∷ cs) id h = absurd h
closings_given j (Closed i ∷ cs) id h = closings_given j cs id h.2
closings_given j (Other ∷ cs) id h = absurd h

pub closings_once : (j : IdView) (cs : List IdEvent) → Closings j cs → Once cs
closings_once j [] h = tt
closings_once j (Took hd ∷ cs) h = absurd h
closings_once j (Given i x ∷ cs) h = absurd h
closings_once j (Acked i n ∷ cs) h = absurd h
closings_once j (Closed i ∷ cs) h = (h.1, closings_once j cs h.2)
closings_once j (Other ∷ cs) h = absurd h

abbrev pub opened_on : Bool → List ℕ → Row → FullState
opened_on b ms r = record {
  state = record {
    phase = if b then Committing else Undoing;
    rest = [];
    retry = false;
    bound = false;
    calls = 0;
    joined = ms;
    told = r.told;
    saved =
        r.saved;
    tries = r.tries;
  };
  opened = Some r;
  recovered = true;
  restored = false;
}

pub no_less : (n : ℕ) → nat_lt n 0 ≡ false
no_less n = grind (arith, nat_tests)

pub none_due : (f : Flow) (b : Bool) (ms : List ℕ) (r : Row) → ms ≡ [] → due f (opened_on b ms r) ≡ NoCall
none_due f true ms r h = ap (λ (ms : List ℕ). due f (opened_on true ms r)) h
    ∙ ap (λ (b : Bool). seen f (opened_on true [] r) (if b then Commit (slice_index [] r.told) else Done)) (no_less r.told)
none_due f false ms r h = ap (λ (ms : List ℕ). due f (opened_on false ms r)) h
    ∙ ap (λ (b : Bool). seen f (opened_on false [] r) (if b then Abort (slice_index [] r.told) else Done)) (no_less r.told)

pub closable_row : (f : Flow) (o : Option Row) (r : Row) → o ≡ Some r → listed r ≡ [] → Closable f (reopened o)
closable_row f o r is none = subst (λ (o : Option Row). Closable f (reopened o)) (sym is) (none, none_due f (is_committing r.phase) (listed r) r none)

pub closings_closable : (f : Flow) (j : IdView) (cs : List IdEvent) (id : ℕ) → Closings j cs → closed cs id ≡ true → Closable f (reopened (j.row id))
closings_closable f j [] id h is = absurd (grind (arith, is))
closings_closable f j (Took hd ∷ cs) id h is = absurd h
closings_closable f j (Given i x ∷ cs) id h is = absurd h
closings_closable f j (Acked i n ∷ cs) id h is = absurd h
closings_closable f j (Other ∷ cs) id h is = absurd h
closings_closable f j (Closed i ∷ cs) id h is = elim (i == id) as (λ (b : Bool). i == id ≡ b → Closable f (reopened (j.row id))) [
  | true ↦ λ e. closable_row f (j.row id) h.0.0 (ap j.row (sym (same_id i id e)) ∙ h.0.1) h.0.2
  | false ↦ λ e. closings_closable f j cs id h.2 (grind (arith, is, e))
] refl

pub reopens : (f : Flow) (o : Option Row) → ((r : Row) → o ≡ Some r → PhaseFits r) → Reopens o (standing_of f (reopened o))
reopens f None e = refl
reopens f (Some r) e = (standing f (reopen r), refl, reopen_ok f r (e r refl))

pub reopened_proper : (o : Option Row) → ((r : Row) → o ≡ Some r → PhaseFits r) → StateFitsAt (reopened o)
reopened_proper None f = tt
reopened_proper (Some r) f = proper_reopen r (f r refl)

pub kept_opens : (f : Flow) (j : IdView) (cs : List IdEvent) (calls : List PlantDeed) → OutcomeLaw calls j → ViewFits j → Shuts j cs →
    CoreFits f (opened j cs calls)
kept_opens f j cs calls law ok shuts = let closes = shuts.0 in record {
  shut = λ id. opens_shut (j.row id) (closed cs id ≡ true) (λ r is none. shuts.1 id r is none);
  ones = λ id.
      let base : IdFits (nat_lt id j.next_id) (standing_of f (reopened (j.row id))) None (Stopped (j.row id) ∷ trail_of id calls) (j.advice id) =
      opens (nat_lt id j.next_id) (j.row id) (standing_of f (reopened (j.row id))) (trail_of id calls) (j.advice id)
      (λ h. (ok.rows id h, λ n. ok.advices id n h)) (law id) (reopens f (j.row id) (ok.ok id)) in
      subst (λ (n : ℕ). IdFits (nat_lt id n) (standing_of f (reopened (j.row id))) (given cs id) (Stopped (j.row id) ∷ trail_of id calls) (j.advice id))
      (omega arith)
      (subst (λ (o : Option FullReply). IdFits (nat_lt id j.next_id) (standing_of f (reopened (j.row id))) o (Stopped (j.row id) ∷ trail_of id calls)
      (j.advice id)) (sym (closings_given j cs id closes)) base);
  once = closings_once j cs closes;
  apart = λ id x h. absurd (grind (arith, h));
  alive = λ id x h. absurd (grind (arith, h, closings_given j cs id closes));
  closes = λ id h. closings_closable f j cs id closes h;
  proper = λ id. reopened_proper (j.row id) (ok.ok id);
}

-- turns

pub turned : (f : Flow) (t : CoreMove) (c d : AbstractCore) → CoreFits f c → CoreMoves f t c d → CoreFits f d
turned f (Calls id x m) c d k h = subst (λ (d : AbstractCore). CoreFits f d) (sym h.5)
    (kept_calls f c.start c.late c.gone c.kept c.calls id x m h.0 k h.1 h.2 h.3 h.4)
turned f (Records id) c d k h = subst (λ (d : AbstractCore). CoreFits f d) (sym h.2) (kept_records f c.start c.late c.gone c.kept c.calls id h.0 k h.1)
turned f (Takes hd) c d k h = subst (λ (d : AbstractCore). CoreFits f d) (sym h) (kept_takes f hd c.start c.late c.gone c.kept c.calls k)
turned f (Acks id n) c d k h = subst (λ (d : AbstractCore). CoreFits f d) (sym h) (kept_acks f c.start c.late c.gone c.kept c.calls id n k)
turned f Others c d k h = subst (λ (d : AbstractCore). CoreFits f d) (sym h) (kept_others f c.start c.late c.gone c.kept c.calls k)
turned f Writes c d k h = subst (λ (d : AbstractCore). CoreFits f d) (sym h.3)
    (writes f c.start h.0 c.gone c.kept c.calls h.1 (subst (λ (late : List IdEvent). IsCore f c.start late c.gone c.kept c.calls) h.2 k))
turned f (Stops cs) c d k h = subst (λ (d : AbstractCore). CoreFits f d) (sym h.1) (kept_opens f (written f c) cs c.calls (law_of f c k) (ok_of f c k) h.0)

pub ran : (f : Flow) (ts : List CoreMove) (c d : AbstractCore) → CoreFits f c → CoreRun f ts c d → CoreFits f d
ran f [] c d k h = subst (λ (d : AbstractCore). CoreFits f d) (sym h) k
ran f (t ∷ ts) c d k h = ran f ts h.0 d (turned f t c h.0 k h.1) h.2

-- The law holds after every list of turns, if it holds of the calls made before and of the view that was opened.
pub law_kept : (f : Flow) (j : IdView) (cs : List IdEvent) (calls : List PlantDeed) (ts : List CoreMove) (d : AbstractCore) → OutcomeLaw calls j →
    ViewFits j → Shuts j cs → CoreRun f ts (opened j cs calls) d
    → OutcomeLaw d.calls (written f d) × ViewFits (written f d)
law_kept f j cs calls ts d law ok closes run =
    let k = ran f ts (opened j cs calls) d (kept_opens f j cs calls law ok closes) run in (law_of f d k, ok_of f d k)

-- no calls, and a blank journal
pub law_blank : (j : IdView) → ((id : ℕ) → j.row id ≡ None) → ((id n : ℕ) → j.advice id n ≡ None) → OutcomeLaw [] j
law_blank j rows none id = record {
  one_way = λ x y. absurd (grind (arith, x));
  all_told = λ known r p. (0, omega arith);
  ordered = tt;
  advised = λ n a g x y. absurd (grind (arith, x, none id n));
  numbered = λ h. refl;
  in_row = λ r is. absurd (grind (arith, is, rows id));
  decided = tt;
}

pub due_unfinished : (d : DueCall) (x : FullReply) → answers d x ≡ true → not (is_idle d) ≡ true
due_unfinished (Preparation p) x h = refl
due_unfinished (Selection p) x h = refl
due_unfinished (Telling p) x h = refl
due_unfinished (Recovery p) x h = refl
due_unfinished NoCall x h = absurd (grind (arith, h))

pub waits_unfinished : (f : Flow) (o : Option FullState) (x : FullReply) → IsAwaited f o x → unfinished f o ≡ true
waits_unfinished f None x w = absurd w
waits_unfinished f (Some st) x w = due_unfinished (due f st) x w

pub idle_true : (d : DueCall) → not (is_idle d) ≡ false → is_idle d ≡ true
idle_true d h = grind (arith, h)

pub row_at_end : (f : Flow) (o : Option FullState) (r : Row) → StateFitsAt o → unfinished f o ≡ false → standing_row (standing_of f o) ≡ Some r → Stuck o
row_at_end f None r p u is = absurd (grind (arith, is))
row_at_end f (Some st) r p u is = row_stuck f st st.state.phase st.state.rest r p (idle_true (due f st) u) is

pub no_row_left : (o : Option Row) → ((r : Row) → o ≡ Some r → ⊥) → o ≡ None
no_row_left None h = refl
no_row_left (Some r) h = absurd (h r refl)

-- all is written and nothing unfinished: no row is left
pub clean_rows : (f : Flow) (c : AbstractCore) → CoreFits f c → c.late ≡ [] → (id : ℕ) → unfinished f (at f c.start c.gone id) ≡ false →
    standing_row (standing_of f (at f c.start c.gone id)) ≡ None
clean_rows f c k none id u = no_row_left (standing_row (standing_of f (at f c.start c.gone id)))
    (λ r is. grind (arith, ap (λ (l : List IdEvent). closed l id) none, k.shut id (row_at_end f (at f c.start c.gone id) r (k.proper id) u is)))
