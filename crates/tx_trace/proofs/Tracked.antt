-- What a tracer keeps agrees with the transactions, entry by entry.
-- for: tracer::Tracer
use Rattle.std.proofs.Common.{◌≡◌, ℕ, ◌<◌, ◌≤◌, Bool, true, false, not, ◌⊎◌, inl, inr, List, [], ◌∷◌, length, Option, Some, None, refl, sym, ◌∙◌, ap, subst}
use Rattle.std.proofs.Common.{arith}
use Rattle.std.specs.Prelude.{if◌then◌else◌, ◌==◌, nat_lt, ◌&&◌}
use Rattle.std.proofs.lemmas.Bool.Decides.{nat_tests}
use Rattle.std.specs.BTreeMap.{BTreeMap, is_at}
use Rattle.std.specs.Map.{lookup}
use Rattle.std.specs.Ordering.{nat_cmp}
use Rattle.flow_model.specs.declared.flow.Flow.{Flow}
use Rattle.tx_machine.specs.declared.machine.Machine.{Machine}
use Rattle.tx_machine.specs.Contract.{IsSound, tx_state}
use Rattle.tx_machine.specs.Table.{TxState, opening}
use Rattle.tx_machine.specs.Due.{due_of}
use Rattle.tx_history.specs.declared.event.Event.{Event}
use Rattle.tx_history.specs.declared.event.Event.TheVariants.{Offered, Taken, Answered, Chose, Told, Recovered, Released, Acked, Broke, Cleared, LetGo, Closed}
use Rattle.tx_history.specs.declared.event.Change.{Change}
use Rattle.tx_history.specs.declared.journal.Row.{Row}
use Rattle.tx_history.specs.Keys.{look}
use Rattle.tx_history.specs.History.{Start, first_unfinished, is_ended, is_restored, marked, outcome_of, next_id, recovering, reopened_at, shelf, state_of}
use Rattle.tx_history.specs.Journal.{IsLawful, change, row}
use Rattle.tx_history.specs.Views.{IsOrdered}
use Rattle.tx_history.proofs.Sessions.{state_more, state_released}
use Rattle.tx_history.proofs.RecoveryOrder.{filter_above}
use Rattle.tx_trace.specs.declared.tracer.Tracer.{Tracer}
use Rattle.tx_trace.specs.declared.tracer.Traced.{Traced}
use Rattle.tx_trace.specs.declared.shown.Shown.{Shown}
use Rattle.tx_trace.specs.declared.shown.Shown.TheVariants.{Moved, Plain}
use Rattle.tx_trace.specs.Trace.{Point, moved_of, point_of}
use Rattle.tx_trace.specs.Lines.{is_journalled, point_at, shown_at}
use Rattle.tx_trace.specs.Follow.{Concerns, IsBegun, IsBegunMove, IsKept, IsLeft, IsMove, IsTraced, PutsMove, IsMachineOf, Tracks, is_given, is_take, led_by}
use Rattle.tx_trace.specs.Follow.{machine_at, next_recovered, over_after, over_then, shelved_after}
use Rattle.tx_trace.proofs.Shelved.{shelf_count}
use Rattle.tx_trace.proofs.Begun.{stands_taken}

-- before the first entry

pub recovered_first : (f : Flow) (v : Start) → IsOrdered v.view → recovering f v [] ≡ next_recovered f v.view.rows 0
recovered_first f v o = ap (λ (rows : List (ℕ × Row)). first_unfinished f rows (λ id. []))
    (sym (filter_above 0 1 v.view.next_id v.view.rows (omega arith) o.rows))

pub row_first : (f : Flow) (v : Start) (id : ℕ) → id < next_id v [] → state_of f v [] id ≡ reopened_at f (look id v.view.rows)
row_first f v id lt = let yes : nat_lt id v.view.next_id ≡ true = grind (arith, nat_tests) in rw yes refl

-- an entry that is given for no transaction

stay : (f : Flow) (v : Start) (past : List Event) (e : Event) → next_id v (e ∷ past) ≡ next_id v past →
    ((j : ℕ) → j < next_id v past → state_of f v (e ∷ past) j ≡ state_of f v past j) → IsMove f v past e None
stay f v past e count same = λ j lt u. let l : j < next_id v past = omega arith in (l, same j l)

plain_stays : (f : Flow) (v : Start) (past : List Event) (e : Event) → IsOrdered v.view → IsLawful f v past → is_given e ≡ false → is_take e ≡ false
    → IsMove f v past e None × (next_id v (e ∷ past) ≡ next_id v past) × (recovering f v (e ∷ past) ≡ recovering f v past)
    × (shown_at f v past e ≡ Plain (length (shelf f v past)))
plain_stays f v past (Offered c) o law g t = (stay f v past (Offered c) refl (λ j l. state_more f v past c j o law l), refl, refl, refl)
plain_stays f v past (Taken s) o law g t = absurd (cc)
plain_stays f v past (Answered s b c) o law g t = absurd (cc)
plain_stays f v past (Chose s x) o law g t = absurd (cc)
plain_stays f v past (Told s a) o law g t = absurd (cc)
plain_stays f v past (Recovered s c) o law g t = absurd (cc)
plain_stays f v past Released o law g t = (stay f v past Released refl (λ j l. state_released f v past j o law l), refl, refl, refl)
plain_stays f v past (Acked id n) o law g t = (stay f v past (Acked id n) refl (λ j l. refl), refl, refl, refl)
plain_stays f v past (Broke p) o law g t = (stay f v past (Broke p) refl (λ j l. refl), refl, refl, refl)
plain_stays f v past (Cleared p) o law g t = (stay f v past (Cleared p) refl (λ j l. refl), refl, refl, refl)
plain_stays f v past (LetGo s) o law g t = (stay f v past (LetGo s) refl (λ j l. refl), refl, refl, refl)
plain_stays f v past (Closed id) o law g t = (stay f v past (Closed id) refl (λ j l. refl), refl, refl, refl)

pub plain_traced : (f : Flow) (v : Start) (past : List Event) (e : Event) (t : Traced) (count : ℕ) → IsOrdered v.view → IsLawful f v past →
    is_given e ≡ false → is_take e ≡ false → count ≡ length (shelf f v past)
    → t.shown ≡ Plain count → t.moved ≡ None → IsTraced f v past e t
plain_traced f v past e t count o law other untaken is shown none =
    let w = plain_stays f v past e o law other untaken in
    let same = w.1 in
    record {
      shown = shown ∙ (ap Plain is ∙ sym w.3);
      move = subst (λ (m : Option (ℕ × Option Machine)). IsMove f v past e m) (sym none) w.0;
      more = omega arith;
      over = λ over h. w.2 ∙ (h ∙ ap (λ (m : Option (ℕ × Option Machine)). next_recovered f v.view.rows (over_after over v.view.next_id m)) (sym none));
    }

-- a take

begun_kept : (f : Flow) (v : Start) (past : List Event) (id s : ℕ) (m : Option (ℕ × Option Machine)) → v.view.next_id ≤ id → id ≡ next_id v past →
    IsBegunMove f id (state_of f v (Taken s ∷ past) id) m
    → IsMove f v past (Taken s) m × ((over : ℕ) → over_after over v.view.next_id m ≡ over)
begun_kept f v past id s None le is h = absurd h
begun_kept f v past id s (Some (n, None)) le is h =
    let at : n ≡ id = h.0 in
    let no : nat_lt n v.view.next_id ≡ false = grind (arith, nat_tests) in
    ((subst (λ (k : ℕ). is_ended f (state_of f v (Taken s ∷ past) k) ≡ true) (sym at) h.1, λ j lt apart. (omega (arith, apart), refl)), λ over. rw no refl)
begun_kept f v past id s (Some (n, Some m)) le is h =
    let at : n ≡ id = h.0 in (
      (
        record { below = omega arith; sound = h.1; state = h.2 ∙ ap (λ (k : ℕ). state_of f v (Taken s ∷ past) k) (sym at) },
        λ j lt apart. (omega (arith, apart), refl),
      ),
      λ over. refl,
    )

pub take_traced : (f : Flow) (v : Start) (past : List Event) (s id : ℕ) (r : Option Row) (t : Traced) → IsOrdered v.view → IsLawful f v (Taken s ∷ past) →
    Some (id, r) ≡ (change f v (Taken s ∷ past)).row
    → ((tries : ℕ) (saved : List ℕ) → r ≡ row f (opening f tries saved) → IsBegun f id s (opening f tries saved) t) → IsTraced f v past (Taken s) t
take_traced f v past s id r t o law is begun =
    let st : TxState = state_of f v (Taken s ∷ past) (next_id v past) in
    let w = stands_taken f v past s o law in
    let pair : (id, r) ≡ (next_id v past, row f st) = grind (arith) in
    let at : id ≡ next_id v past = ap (λ (p : ℕ × Option Row). p.0) pair in
    let row_is : r ≡ row f (opening f w.first.tries w.first.context) = ap (λ (p : ℕ × Option Row). p.1) pair ∙ ap (row f) w.state in
    let b = begun w.first.tries w.first.context row_is in
    let c : IsBegun f (next_id v past) s st t = subst (λ (x : TxState). IsBegun f (next_id v past) s x t) (sym w.state)
    (subst (λ (n : ℕ). IsBegun f n s (opening f w.first.tries w.first.context) t) at b) in
    let k = begun_kept f v past (next_id v past) s t.moved (omega arith) refl c.moves in
    record {
      shown = c.shown;
      move = k.0;
      more = omega arith;
      over = λ over h. h ∙ ap (next_recovered f v.view.rows) (sym (k.1 over));
    }

-- an entry that is given for a transaction

pub point_is : (f : Flow) (v : Start) (past : List Event) (id : ℕ) (m : Machine) (j b : Bool) (r : Option (ℕ × Bool)) →
    tx_state f m ≡ state_of f v past id → j ≡ nat_lt id v.view.next_id → b ≡ is_restored past
    → r ≡ (if j && not b then marked f (outcome_of (due_of f (tx_state f m))) else None) → point_of f m r ≡ point_at f v past id
point_is f v past id m j b r state old restored is = rw (is, state, old, restored) refl

kept_after : (f : Flow) (v : Start) (past : List Event) (id : ℕ) (m : Machine) (k : Option Machine) → IsMachineOf f v past id m → IsLeft f m k →
    IsKept f v past id k
kept_after f v past id m None s h = ap (λ (st : TxState). is_ended f st) (sym s.state) ∙ h
kept_after f v past id m (Some x) s h = subst (IsMachineOf f v past id) (sym h.0) s

left_over : (f : Flow) (m : Machine) (k : Option Machine) (first id over : ℕ) → IsLeft f m k →
    over_then (nat_lt id first && is_ended f (tx_state f m)) id over ≡ over_after over first (Some (id, k))
left_over f m None first id over h = rw h (all_of (nat_lt id first))
  where
    all_of : (b : Bool) → over_then (b && true) id over ≡ over_then b id over
    all_of true = refl
    all_of false = refl
left_over f m (Some x) first id over h = rw h.1 (none_of (nat_lt id first))
  where
    none_of : (b : Bool) → over_then (b && false) id over ≡ over
    none_of true = refl
    none_of false = refl

-- what a tracer finds of such an entry
pub record FoundTrack (f : Flow) (v : Start) (past : List Event) (e : Event) (id : ℕ) (before after : Machine) (j was is : Bool) (r to : Option (ℕ × Bool))
    (k : Option Machine) : Type 0 where
  pub stood : IsMachineOf f v past id before
  pub sound : IsSound f after
  pub led : tx_state f after ≡ led_by f (tx_state f before) e
  pub old : j ≡ nat_lt id v.view.next_id
  pub restored : was ≡ is_restored past
  pub restores : is ≡ is_restored (e ∷ past)
  pub call : r ≡ (if j && not was then marked f (outcome_of (due_of f (tx_state f before))) else None)
  pub next : to ≡ (if j && not is then marked f (outcome_of (due_of f (tx_state f after))) else None)
  pub left : IsLeft f after k

pub given_traced : (f : Flow) (v : Start) (past : List Event) (e : Event) (id : ℕ) (before after : Machine) (j was is : Bool) (r to : Option (ℕ × Bool))
    (k : Option Machine) (t : Traced) → Concerns f v past e id → FoundTrack f v past e id before after j was is r to k
    → t.shown ≡ Moved (moved_of f id j (point_of f before r) (point_of f after to)) → t.moved ≡ Some (id, k) → IsTraced f v past e t
given_traced f v past e id before after j was is r to k t c h shown moved =
    let state : tx_state f after ≡ state_of f v (e ∷ past) id = h.led ∙ (ap (λ (st : TxState). led_by f st e) h.stood.state ∙ sym c.after) in
    let stood = point_is f v past id before j was r h.stood.state h.old h.restored h.call in
    let stands = point_is f v (e ∷ past) id after j is to state h.old h.restores h.next in
    let count = c.count in
    let below = c.under_way.below in
    let now : IsMachineOf f v (e ∷ past) id after = record { below = omega arith; sound = h.sound; state = state } in
    record {
      shown = shown ∙ (ap (λ (x : Point). Moved (moved_of f id j x (point_of f after to))) stood
          ∙ (ap (λ (x : Point). Moved (moved_of f id j (point_at f v past id) x)) stands
          ∙ (ap (λ (b : Bool). Moved (moved_of f id b (point_at f v past id) (point_at f v (e ∷ past) id))) h.old ∙ sym c.shown)));
      move = subst (λ (m : Option (ℕ × Option Machine)). IsMove f v past e m) (sym moved) (
        kept_after f v (e ∷ past) id after k now h.left,
        λ i lt apart. (omega arith, c.others i apart),
      );
      more = omega arith;
      over = λ over is. c.recovers over is ∙ ap (next_recovered f v.view.rows)
          (ap (λ (st : TxState). over_then (is_journalled v id && is_ended f st) id over) (sym state)
          ∙ (left_over f after k v.view.next_id id over h.left ∙ ap (over_after over v.view.next_id) (sym moved)));
    }

-- what a tracer keeps after an entry

same_or : (a b : ℕ) (c : Bool) → (a == b) ≡ c → (a ≡ b) ⊎ (a ≡ b → ⊥)
same_or a b true h = inl (grind (arith, nat_tests))
same_or a b false h = inr (λ z. let no : (a == b) ≡ true = grind (arith, nat_tests) in cc)

stands_on : (f : Flow) (v : Start) (past : List Event) (e : Event) (id : ℕ) (m : Machine) → next_id v past ≤ next_id v (e ∷ past) →
    IsMachineOf f v past id m → state_of f v (e ∷ past) id ≡ state_of f v past id → IsMachineOf f v (e ∷ past) id m
stands_on f v past e id m more s same = let b = s.below in record { below = omega arith; sound = s.sound; state = s.state ∙ sym same }

kept_next : (f : Flow) (v : Start) (past : List Event) (e : Event) (old new : BTreeMap ℕ Machine) (moved : Option (ℕ × Option Machine)) →
    next_id v past ≤ next_id v (e ∷ past) → ((id : ℕ) (m : Machine) → machine_at old id ≡ Some m → IsMachineOf f v past id m)
    → IsMove f v past e moved → PutsMove old new moved → (id : ℕ) (m : Machine) → machine_at new id ≡ Some m → IsMachineOf f v (e ∷ past) id m
kept_next f v past e old new None more kept move puts id m at =
    let s = kept id m (sym (puts id) ∙ at) in
    let b = s.below in
    stands_on f v past e id m more s (move id (omega arith) tt).1
kept_next f v past e old new (Some (n, k)) more kept move puts id m at = elim (same_or n id (n == id) refl) [
  | inl same ↦ (let here : k ≡ Some m = sym puts.here ∙ (ap (machine_at new) same ∙ at) in
      let this : IsKept f v (e ∷ past) n (Some m) = subst (IsKept f v (e ∷ past) n) here move.0 in
      subst (λ (i : ℕ). IsMachineOf f v (e ∷ past) i m) same this)
  | inr apart ↦ (let s = kept id m (sym (puts.others id apart) ∙ at) in
      let b = s.below in
      stands_on f v past e id m more s (move.1 id (omega arith) apart).1)
]

others_next : (f : Flow) (v : Start) (past : List Event) (e : Event) (old new : BTreeMap ℕ Machine) (moved : Option (ℕ × Option Machine))
    → ((id : ℕ) → machine_at old id ≡ None → id < next_id v past → is_ended f (state_of f v past id) ≡ false →
    state_of f v past id ≡ reopened_at f (look id v.view.rows))
    → IsMove f v past e moved → PutsMove old new moved → (id : ℕ) → machine_at new id ≡ None → id < next_id v (e ∷ past) →
    is_ended f (state_of f v (e ∷ past) id) ≡ false → state_of f v (e ∷ past) id ≡ reopened_at f (look id v.view.rows)
others_next f v past e old new None others move puts id at lt going =
    let w = move id lt tt in
    w.1 ∙ others id (sym (puts id) ∙ at) w.0 (ap (λ (st : TxState). is_ended f st) (sym w.1) ∙ going)
others_next f v past e old new (Some (n, k)) others move puts id at lt going = elim (same_or n id (n == id) refl) [
  | inl same ↦ (let here : k ≡ None = sym puts.here ∙ (ap (machine_at new) same ∙ at) in
      let this : is_ended f (state_of f v (e ∷ past) n) ≡ true = subst (IsKept f v (e ∷ past) n) here move.0 in
      let over : is_ended f (state_of f v (e ∷ past) id) ≡ true = subst (λ (i : ℕ). is_ended f (state_of f v (e ∷ past) i) ≡ true) same this in
      absurd (cc))
  | inr apart ↦ (let w = move.1 id lt apart in
      w.1 ∙ others id (sym (puts.others id apart) ∙ at) w.0 (ap (λ (st : TxState). is_ended f st) (sym w.1) ∙ going))
]

pub tracks_next : (f : Flow) (v : Start) (past : List Event) (e : Event) (c : Change) (t new : Tracer) (d : Traced) → IsOrdered v.view →
    IsLawful f v (e ∷ past) → c ≡ change f v (e ∷ past) → Tracks f v past t → IsTraced f v past e d → PutsMove t.machines new.machines d.moved
    → new.shelved ≡ shelved_after t.shelved c → new.restored ≡ is_restored (e ∷ past) → new.over ≡ over_after t.over v.view.next_id d.moved →
    Tracks f v (e ∷ past) new
tracks_next f v past e c t new d o law is h done puts count restored over = record {
  kept = kept_next f v past e t.machines new.machines d.moved done.more h.kept done.move puts;
  others = others_next f v past e t.machines new.machines d.moved h.others done.move puts;
  shelved = count ∙ (ap (λ (n : ℕ). shelved_after n c) h.shelved ∙ (ap (shelved_after (length (shelf f v past))) is ∙ shelf_count f v past e o law));
  restored = restored;
  over = done.over t.over h.over ∙ ap (next_recovered f v.view.rows) (sym over);
}

-- a map with the same entries keeps the same
pub tracks_same : (f : Flow) (v : Start) (past : List Event) (t new : Tracer) → Tracks f v past t → new.machines.entries ≡ t.machines.entries →
    new.shelved ≡ t.shelved → new.restored ≡ t.restored → new.over ≡ t.over → Tracks f v past new
tracks_same f v past t new h same a b c =
    let look_same : (id : ℕ) → machine_at new.machines id ≡ machine_at t.machines id = λ id. ap (lookup (is_at (nat_cmp id))) same in
    record {
      kept = λ id m at. h.kept id m (sym (look_same id) ∙ at);
      others = λ id at. h.others id (sym (look_same id) ∙ at);
      shelved = a ∙ h.shelved;
      restored = b ∙ h.restored;
      over = h.over ∙ ap (next_recovered f v.view.rows) (sym c);
    }

-- the entry by its event

pub other_traced : (f : Flow) (v : Start) (past : List Event) (e : Event) (t : Traced) (count : ℕ) → IsOrdered v.view → IsLawful f v (e ∷ past) →
    is_given e ≡ false → ((s : ℕ) → e ≡ Taken s → ⊥) → count ≡ length (shelf f v past)
    → t.shown ≡ Plain count → t.moved ≡ None → IsTraced f v past e t
other_traced f v past (Taken s) t count o law other untaken is shown none = absurd (untaken s refl)
other_traced f v past (Offered c) t count o law other untaken is shown none = plain_traced f v past (Offered c) t count o law.2 refl refl is shown none
other_traced f v past (Answered s b c) t count o law other untaken is shown none = absurd (cc)
other_traced f v past (Chose s x) t count o law other untaken is shown none = absurd (cc)
other_traced f v past (Told s a) t count o law other untaken is shown none = absurd (cc)
other_traced f v past (Recovered s c) t count o law other untaken is shown none = absurd (cc)
other_traced f v past Released t count o law other untaken is shown none = plain_traced f v past Released t count o law.2 refl refl is shown none
other_traced f v past (Acked id n) t count o law other untaken is shown none = plain_traced f v past (Acked id n) t count o law.2 refl refl is shown none
other_traced f v past (Broke p) t count o law other untaken is shown none = plain_traced f v past (Broke p) t count o law.2 refl refl is shown none
other_traced f v past (Cleared p) t count o law other untaken is shown none = plain_traced f v past (Cleared p) t count o law.2 refl refl is shown none
other_traced f v past (LetGo s) t count o law other untaken is shown none = plain_traced f v past (LetGo s) t count o law.2 refl refl is shown none
other_traced f v past (Closed id) t count o law other untaken is shown none = plain_traced f v past (Closed id) t count o law.2 refl refl is shown none

pub taken_traced : (f : Flow) (v : Start) (past : List Event) (e : Event) (c : Change) (s id : ℕ) (r : Option Row) (t : Traced) → e ≡ Taken s →
    IsOrdered v.view → IsLawful f v (e ∷ past) → c ≡ change f v (e ∷ past) → c.row ≡ Some (id, r)
    → ((tries : ℕ) (saved : List ℕ) → r ≡ row f (opening f tries saved) → IsBegun f id s (opening f tries saved) t) → IsTraced f v past e t
taken_traced f v past e c s id r t is o law change_is row_is begun =
    subst (λ (x : Event). IsTraced f v past x t) (sym is)
    (take_traced f v past s id r t o (subst (λ (x : Event). IsLawful f v (x ∷ past)) is law)
    (sym row_is ∙ (ap (λ (x : Change). x.row) change_is ∙ ap (λ (x : Event). (change f v (x ∷ past)).row) is)) begun)

-- a take has a row
pub take_row : (f : Flow) (v : Start) (past : List Event) (e : Event) (c : Change) (s : ℕ) → e ≡ Taken s → c ≡ change f v (e ∷ past) → c.row ≡ None → ⊥
take_row f v past e c s is change_is none =
    let some : None ≡ (change f v (Taken s ∷ past)).row = sym none
    ∙ (ap (λ (x : Change). x.row) change_is ∙ ap (λ (x : Event). (change f v (x ∷ past)).row) is) in
    cc
