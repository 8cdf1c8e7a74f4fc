-- How an item keeps what the running parts say of the history.
-- for: engine::Engine::give
use Rattle.std.proofs.Common.{◌≡◌, ℕ, ◌+◌, ◌<◌, ◌≤◌, Bool, true, false, inl, inr, List, [], ◌∷◌, ◌++◌, length, Option, Some, None, refl, sym, ◌∙◌, ap, subst}
use Rattle.std.proofs.Common.{arith, suc, zero}
use Rattle.std.specs.Prelude.{if◌then◌else◌, slice_get, slice_set, ◌==◌, nat_lt, not, ◌&&◌, is_some, option_map}
use Rattle.std.proofs.lemmas.Bool.Decides.{nat_tests}
use Rattle.flow_model.specs.declared.flow.Flow.{Flow}
use Rattle.tx_machine.specs.declared.machine.Machine.{Machine}
use Rattle.tx_machine.specs.declared.values.Item.{Item}
use Rattle.tx_machine.specs.Contract.{IsSound, tx_state}
use Rattle.tx_machine.specs.Table.{TxState, next}
use Rattle.tx_history.specs.declared.event.Event.{Event}
use Rattle.tx_history.specs.declared.event.Change.{Change}
use Rattle.tx_history.specs.declared.event.Entry.{Entry}
use Rattle.tx_history.specs.declared.journal.Row.{Row}
use Rattle.tx_history.specs.declared.journal.WaitingContext.{WaitingContext}
use Rattle.tx_history.specs.Keys.{Rising, look, put_new, put_place}
use Rattle.tx_history.specs.History.{Start, is_ended, taken, is_id, serves, recovering, state_of, last_of, is_let_go, shelved, reopened, reopened_at}
use Rattle.tx_history.specs.Journal.{IsLawful, row, shelved_change, touched}
use Rattle.tx_history.specs.Views.{IsOrdered, Knows}
use Rattle.tx_history.specs.Held.{session_state}
use Rattle.tx_history.proofs.OwnItems.{is_yes, is_other, taken_from}
use Rattle.tx_history.proofs.Sessions.{serves_who, served_once, recovered_first, recovering_other, state_given}
use Rattle.tx_history.proofs.SessionStates.{held_given, held_other}
use Rattle.tx_history.proofs.RecoveryOrder.{recovering_next}
use Rattle.tx_history.proofs.RecoveredSessions.{none_taken, next_one, next_reopened, session_goes_on, session_goes_to_next, last_of_next}
use Rattle.tx_slots.specs.declared.slot.Slot.{Slot}
use Rattle.tx_slots.specs.declared.slot.Slot.TheVariants.{Free, Holding}
use Rattle.tx_engine.specs.World.{World}
use Rattle.tx_slots.specs.Rows.{item_change}
use Rattle.tx_engine.specs.Items.{GivesEvent, advice_of}
use Rattle.tx_slots.specs.Slots.{slot_of, is_holding}
use Rattle.tx_slots.specs.Rows.{AreKnown, next_row, IsSlotOfRow, IsSlotAfter, SlotBy}
use Rattle.tx_engine.specs.Kept.{Kept, Running, SlotIs, past_of, world, going_on}
use Rattle.tx_engine.proofs.Keeps.{Steps, kept_step, slot_keep, slot_made, set_slots, state_served, holds_is, length_past, same_yes, same_no, in_turn}
use Rattle.tx_engine.proofs.Turns.{Turn, IsGiven, turn, next_is, shelf_lacks}

-- the rows of a sound view

row_found : {A : Type 0} (rows : List (ℕ × A)) (n m k : ℕ) (r : ℕ × A) → Rising n m rows → slice_get rows k ≡ Some r → (n ≤ r.0) × (look r.0 rows ≡ Some r.1)
row_found [] n m k r rise h = absurd (cc)
row_found {A = A} (x ∷ rows) n m zero r rise h =
    let same : x ≡ r = grind (arith) in
    let yes : (x.0 == x.0) ≡ true = same_yes x.0 in
    subst (λ (y : ℕ × A). (n ≤ y.0) × (look y.0 (x ∷ rows) ≡ Some y.1)) same (rise.0, rw yes refl)
row_found (x ∷ rows) n m (suc k) r rise h =
    let w = row_found rows (x.0 + 1) m k r rise.2 h in
    let lo = w.0 in
    let up = rise.0 in
    let no : (x.0 == r.0) ≡ false = same_no x.0 r.0 (omega arith) in
    (omega arith, rw no w.1)

pub are_known : (f : Flow) (v : Start) → IsOrdered v.view → Knows f v.view → AreKnown f v.view.rows
are_known f v o known = λ k r h. known r.0 r.1 (row_found v.view.rows 1 v.view.next_id k r o.rows h).1

next_found_if : (f : Flow) (x : ℕ × Row) (rows : List (ℕ × Row)) (id n m : ℕ) (r : ℕ × Row) → Rising n m (x ∷ rows) →
    (next_row f rows id ≡ Some r → (x.0 + 1 ≤ r.0) × (look r.0 rows ≡ Some r.1))
    → (b : Bool) → (if b then Some x else next_row f rows id) ≡ Some r → (n ≤ r.0) × (look r.0 (x ∷ rows) ≡ Some r.1)
next_found_if f x rows id n m r rise ih true h =
    let same : x ≡ r = grind (arith) in
    let yes : (x.0 == x.0) ≡ true = same_yes x.0 in
    subst (λ (y : ℕ × Row). (n ≤ y.0) × (look y.0 (x ∷ rows) ≡ Some y.1)) same (rise.0, rw yes refl)
next_found_if f x rows id n m r rise ih false h =
    let w = ih h in
    let lo = w.0 in
    let up = rise.0 in
    let no : (x.0 == r.0) ≡ false = same_no x.0 r.0 (omega arith) in
    (omega arith, rw no w.1)

pub next_found : (f : Flow) (rows : List (ℕ × Row)) (id n m : ℕ) (r : ℕ × Row) → Rising n m rows → next_row f rows id ≡ Some r →
    (n ≤ r.0) × (look r.0 rows ≡ Some r.1)
next_found f [] id n m r rise h = absurd (cc)
next_found f (x ∷ rows) id n m r rise h = next_found_if f x rows id n m r rise (next_found f rows id (x.0 + 1) m r rise.2)
    (nat_lt id x.0 && not (is_ended f (reopened f x.1))) h

pub next_going : (f : Flow) (rows : List (ℕ × Row)) (id : ℕ) (r : ℕ × Row) → next_row f rows id ≡ Some r → is_ended f (reopened f r.1) ≡ false
next_going f [] id r h = absurd (cc)
next_going f (x ∷ rows) id r h = by (nat_lt id x.0) (is_ended f (reopened f x.1)) refl (next_going f rows id r) h
  where
    by : (a b : Bool) → is_ended f (reopened f x.1) ≡ b → (next_row f rows id ≡ Some r → is_ended f (reopened f r.1) ≡ false) →
        (if a && not b then Some x else next_row f rows id) ≡ Some r → is_ended f (reopened f r.1) ≡ false
    by true true e ih h = ih h
    by true false e ih h = let same : x ≡ r = grind (arith) in subst (λ (y : ℕ × Row). is_ended f (reopened f y.1) ≡ false) same e
    by false b e ih h = ih h

next_above : (f : Flow) (rows : List (ℕ × Row)) (id : ℕ) (r : ℕ × Row) → next_row f rows id ≡ Some r → id < r.0
next_above f [] id r h = absurd (cc)
next_above f (x ∷ rows) id r h = by (nat_lt id x.0) (is_ended f (reopened f x.1)) refl (next_above f rows id r) h
  where
    by : (a b : Bool) → nat_lt id x.0 ≡ a → (next_row f rows id ≡ Some r → id < r.0) → (if a && not b then Some x else next_row f rows id) ≡ Some r → id < r.0
    by true true e ih h = ih h
    by true false e ih h = let same : x ≡ r = grind (arith) in subst (λ (y : ℕ × Row). id < y.0) same (grind (arith, nat_tests))
    by false b e ih h = ih h

-- the slot of the next journalled transaction
pub next_made : (f : Flow) (v : Start) (past : List Event) (o : Option (ℕ × Row)) (x : Slot) → IsSlotOfRow f o x
    → ((r : ℕ × Row) → o ≡ Some r → (look r.0 v.view.rows ≡ Some r.1) × (is_ended f (reopened f r.1) ≡ false) × (last_of f v past r.0 ≡ 0)) →
    session_state f v past 0 ≡ next_reopened f v (option_map (λ (r : ℕ × Row). r.0) o)
    → is_let_go past 0 ≡ false → SlotIs f v past 0 x
next_made f v past None Free is rows state go = ap (going_on f) state
next_made f v past None (Holding h) is rows state go = absurd is
next_made f v past (Some r) Free is rows state go = absurd is
next_made f v past (Some r) (Holding h) is rows state go =
    let w = rows r refl in
    let begun : reopened_at f (look r.0 v.view.rows) ≡ reopened f r.1 = ap (reopened_at f) w.0 in
    record {
      serves = state ∙ (rw (begun, is.id_is, is.state) refl);
      unfinished = rw is.state w.1;
      sound = is.sound;
      last = is.last ∙ sym (rw is.id_is w.2);
      gone = is.let_go ∙ sym go;
    }

pub row_holding : (f : Flow) (o : Option (ℕ × Row)) (x : Slot) → IsSlotOfRow f o x → is_holding x ≡ is_some (option_map (λ (r : ℕ × Row). r.0) o)
row_holding f None Free is = refl
row_holding f None (Holding h) is = absurd is
row_holding f (Some r) Free is = absurd is
row_holding f (Some r) (Holding h) is = refl

-- which transaction an item is for

pub taken_who : (f : Flow) (v : Start) (past : List Event) (s id : ℕ) → recovering f v past ≡ None → serves f v past s ≡ Some id → taken v past s ≡ Some id
taken_who f v past s id none h = elim (serves_who f v past s id h) [
  | inl a ↦ absurd (let w = a.0 in cc)
  | inr a ↦ a
]

-- while a journalled transaction is recovered, it is for that one
pub recovered_who : (f : Flow) (v : Start) (past : List Event) (s id k : ℕ) → IsOrdered v.view → IsLawful f v past → recovering f v past ≡ Some k →
    serves f v past s ≡ Some id → (recovering f v past ≡ Some id) × (s ≡ 0)
recovered_who f v past s id k o law was h = elim (serves_who f v past s id h) [
  | inl a ↦ a
  | inr a ↦ absurd (let n = none_taken v past s (recovered_first f v past k o law was) in cc)
]

-- the slot of the session that gave the item, and whether something is recovered after it
pub record After (f : Flow) (v : Start) (past : List Event) (s : ℕ) (busy : Bool) (y : Slot) : Type 0 where
  pub slot : SlotIs f v past s y
  pub recovers : (busy && is_holding y) ≡ is_some (recovering f v past)

-- what is known of a given item
pub record Given (f : Flow) (v : Start) (past : List Event) (e : Event) (s id : ℕ) (x : Item) (advice : Option ((ℕ × ℕ) × Option (List ℕ))) (m : Machine)
    (number : ℕ) : Type 0 where
  pub ordered : IsOrdered v.view
  pub lawful : IsLawful f v (e ∷ past)
  pub turn : Turn f v past e s id x advice
  pub serves : serves f v past s ≡ Some id
  pub sound : IsSound f m
  pub after : tx_state f m ≡ next f (state_of f v past id) x
  pub number_is : number ≡ length past + 1

last_given : (f : Flow) (v : Start) (past : List Event) (e : Event) (s id : ℕ) (x : Item) (advice : Option ((ℕ × ℕ) × Option (List ℕ))) (m : Machine)
    (number : ℕ) → Given f v past e s id x advice m number → number ≡ last_of f v (e ∷ past) id
last_given f v past e s id x advice m number g = g.number_is ∙ sym (g.turn.last id ∙ (rw (is_yes (serves f v past s) id g.serves) refl))

go_given : (f : Flow) (v : Start) (past : List Event) (e : Event) (s id : ℕ) (x : Item) (advice : Option ((ℕ × ℕ) × Option (List ℕ))) →
    Turn f v past e s id x advice → is_let_go (e ∷ past) s ≡ false
go_given f v past e s id x advice t = t.let_go s ∙ (rw (same_yes s) refl)

after_taken : (f : Flow) (v : Start) (past : List Event) (e : Event) (s id : ℕ) (x : Item) (advice : Option ((ℕ × ℕ) × Option (List ℕ))) (m : Machine)
    (number : ℕ) (y : Slot) → Given f v past e s id x advice m number → recovering f v past ≡ None
    → y ≡ slot_of f m id number → After f v (e ∷ past) s false y
after_taken f v past e s id x advice m number y g none put =
    let took : taken v past s ≡ Some id = taken_who f v past s id none g.serves in
    let new : session_state f v (e ∷ past) s ≡ Some (id, tx_state f m) = held_given f v past e id s x g.ordered g.turn.gave none took (g.turn.took s)
    ∙ (rw g.after refl) in
    record {
      slot = rw put (slot_made f v (e ∷ past) s m id number new g.sound (last_given f v past e s id x advice m number g)
          (go_given f v past e s id x advice g.turn));
      recovers = sym (ap is_some (recovering_other f v past e id x g.ordered g.turn.gave (taken_from v past s id took) ∙ none));
    }

after_recovered : (f : Flow) (v : Start) (past : List Event) (e : Event) (id : ℕ) (x : Item) (advice : Option ((ℕ × ℕ) × Option (List ℕ))) (m : Machine)
    (number : ℕ) (y : Slot) → Given f v past e 0 id x advice m number → recovering f v past ≡ Some id
    → (b : Bool) → is_ended f (tx_state f m) ≡ b → SlotBy b f v.view.rows id m number y → After f v (e ∷ past) 0 true y
after_recovered f v past e id x advice m number y g was false e' put =
    let going : is_ended f (next f (state_of f v past id) x) ≡ false = rw (← g.after) e' in
    let new : session_state f v (e ∷ past) 0 ≡ Some (id, tx_state f m) = session_goes_on f v past e id x g.ordered g.lawful.2 g.turn.gave was going
    ∙ (rw g.after refl) in
    let given = state_given f v past e id x g.turn.gave in
    let still : recovering f v (e ∷ past) ≡ Some id = recovering_next f v past e id x g.ordered g.lawful.2 g.turn.gave was ∙ (rw (given, going) refl) in
    record {
      slot = rw put (slot_made f v (e ∷ past) 0 m id number new g.sound (last_given f v past e 0 id x advice m number g)
          (go_given f v past e 0 id x advice g.turn));
      recovers = rw (put, e', still) refl;
    }
after_recovered f v past e id x advice m number y g was true e' put =
    let over : is_ended f (next f (state_of f v past id) x) ≡ true = rw (← g.after) e' in
    let given = state_given f v past e id x g.turn.gave in
    let one : next_one f v id ≡ option_map (λ (r : ℕ × Row). r.0) (next_row f v.view.rows id) = next_is f v.view.rows id in
    let now : recovering f v (e ∷ past) ≡ next_one f v id = recovering_next f v past e id x g.ordered g.lawful.2 g.turn.gave was ∙ (rw (given, over) refl) in
    let state : session_state f v (e ∷ past) 0 ≡ next_reopened f v (option_map (λ (r : ℕ × Row). r.0) (next_row f v.view.rows id)) =
    session_goes_to_next f v past e id x g.ordered g.lawful.2 g.turn.gave was (g.turn.took 0) over ∙ ap (next_reopened f v) one in
    record {
      slot = next_made f v (e ∷ past) (next_row f v.view.rows id) y put
          (λ r h. let there = next_found f v.view.rows id 1 v.view.next_id r g.ordered.rows h in
          let above = next_above f v.view.rows id r h in
          let is_next : recovering f v (e ∷ past) ≡ Some r.0 = now ∙ (one ∙ (rw h refl)) in
          let zero_is = last_of_next f v past e id r.0 x g.ordered g.lawful g.turn.gave was over is_next in
          let other : is_id (serves f v past 0) r.0 ≡ false = is_other (serves f v past 0) id r.0 g.serves (omega arith) in
          (there.1, next_going f v.view.rows id r h, g.turn.last r.0 ∙ (rw other zero_is)))
          state (go_given f v past e 0 id x advice g.turn);
      recovers = row_holding f (next_row f v.view.rows id) y put ∙ ap is_some (sym (now ∙ one));
    }

after_by : (f : Flow) (v : Start) (past : List Event) (e : Event) (s id : ℕ) (x : Item) (advice : Option ((ℕ × ℕ) × Option (List ℕ))) (m : Machine)
    (number : ℕ) (y : Slot) → Given f v past e s id x advice m number
    → (o : Option ℕ) → recovering f v past ≡ o → IsSlotAfter (is_some o) f v.view.rows id m number y → After f v (e ∷ past) s (is_some o) y
after_by f v past e s id x advice m number y g None was put = after_taken f v past e s id x advice m number y g was put
after_by f v past e s id x advice m number y g (Some k) was put =
    let who = recovered_who f v past s id k g.ordered g.lawful.2 was g.serves in
    let P : ℕ → Type 0 = λ u. Given f v past e u id x advice m number → After f v (e ∷ past) u true y in
    subst P (sym who.1) (λ h. after_recovered f v past e id x advice m number y h who.0 (is_ended f (tx_state f m)) refl put) g

abbrev made : Flow → ℕ → TxState → Option ((ℕ × ℕ) × Option (List ℕ)) → Change
made f id st advice = record { next_id = None; row = Some (id, row f st); shelved = shelved_change id (shelved f st true); emptied = false; advice = advice }

pub steps_given : (f : Flow) (n : ℕ) (v : Start) (es : List Entry) (mark reserved : ℕ) (r : Running) (s id number : ℕ) (m : Machine) (e : Event)
    (advice : Option ((ℕ × ℕ) × Option (List ℕ))) (restored : Bool) (y : Slot) (kept : List (ℕ × WaitingContext)) (stored : List ((ℕ × ℕ) × List ℕ))
    → Kept (world f n v es mark reserved) es r → length es < 1048576 → number ≡ length es + 1 →
    GivesEvent (world f n v es mark reserved) s id m e advice restored → IsSlotAfter r.recovering f v.view.rows id m number y
    → kept ≡ put_new (shelved_change id (shelved f (tx_state f m) true)) r.shelf → stored ≡ put_place advice r.advices
    → Steps f n v (past_of es) e (record {
      next_id = None;
      row = Some (id, row f (tx_state f m));
      shelved =
          shelved_change id (shelved f (tx_state f m) true);
      emptied = false;
      advice = advice;
    }) r
    (record r { slots = slice_set r.slots s y; shelf = kept; advices = stored; restored = restored; recovering = r.recovering && is_holding y })
steps_given f n v es mark reserved r s id number m e advice restored y kept stored k few is g put shelves stores =
    let past : List Event = past_of es in
    let len : length past ≡ length es = length_past es in
    let num : number ≡ length past + 1 = omega arith in
    let cl = k.closed in
    let o : IsOrdered v.view = k.start.view.ordered in
    let w = state_served f v past (serves f v past s) id g.before g.serves in
    let given : IsGiven f v past s id g.item = record {
      serves = w.0;
      holds = holds_is f v past s ∙ (rw (g.serves, g.unfinished) refl);
      due =
          rw w.1 g.due;
      unrestored = g.unrestored;
    } in
    let t0 : Turn f v past e s id g.item (advice_of e (id, (state_of f v past id).told)) = turn f v past e s id g.item g.reply given in
    let same : advice_of e (id, (state_of f v past id).told) ≡ advice = ap (λ (st : TxState). advice_of e (id, st.told)) w.1 ∙ sym g.advice_is in
    let t : Turn f v past e s id g.item advice = subst (λ (a : Option ((ℕ × ℕ) × Option (List ℕ))). Turn f v past e s id g.item a) same t0 in
    let law : IsLawful f v (e ∷ past) = in_turn f v past e t.accepted t.usual cl (omega arith) k.past.lawful in
    let went : tx_state f m ≡ next f (state_of f v past id) g.item = g.after ∙ ap (λ (st : TxState). next f st g.item) (sym w.1) in
    let all : Given f v past e s id g.item advice m number = record {
      ordered = o;
      lawful = law;
      turn = t;
      serves = w.0;
      sound = g.sound;
      after =
          went;
      number_is = num;
    } in
    let put' : IsSlotAfter (is_some (recovering f v past)) f v.view.rows id m number y = rw (← k.recovers) put in
    let a : After f v (e ∷ past) s (is_some (recovering f v past)) y = after_by f v past e s id g.item advice m number y all (recovering f v past) refl put' in
    let stood : state_of f v (e ∷ past) id ≡ tx_state f m = state_given f v past e id g.item t.gave ∙ sym went in
    record {
      accepted = t.accepted;
      usual = t.usual;
      takers = t.takers n;
      spelled = t.spelled g.spelled;
      change = sym (t.change ∙ (ap (λ (q : Option ℕ). touched f v (e ∷ past) advice q) w.0 ∙ ap (λ (st : TxState). made f id st advice) stood));
      sessions = set_slots (SlotIs f v past) (SlotIs f v (e ∷ past)) r.slots s y a.slot
          (λ u z d i. slot_keep f v past e u z (held_other f v past e id s u g.item o t.gave w.0 d (t.took u))
          (λ j h. t.last j ∙ (rw (is_other (serves f v past s) id j w.0 (λ q. d (served_once f v past s u id o w.0 (h ∙ ap Some q)))) refl))
          (t.let_go u ∙ (rw (same_no s u d) refl)) i)
          k.sessions;
      queued = k.queued ∙ sym (rw (t.gave.took, t.gave.arrived) refl);
      shelved = shelves;
      advised = stores;
      stops = (k.stops.0, λ p. k.stops.1 p ∙ sym (t.breaks p));
      numbered = k.numbered ∙ sym (ap (λ (q : ℕ). v.view.next_id + q) t.gave.took);
      renewed = g.restored_is;
      recovers = rw k.recovers a.recovers;
      spent = k.spent;
    }

pub gives_at : (u w : World) (s id : ℕ) (m : Machine) (e : Event) (advice : Option ((ℕ × ℕ) × Option (List ℕ))) (restored : Bool) → u ≡ w →
    GivesEvent w s id m e advice restored → GivesEvent u s id m e advice restored
gives_at u w s id m e advice restored same g = subst (λ (z : World). GivesEvent z s id m e advice restored) (sym same) g

-- the shelf does not have the transaction
pub gives_lacks : (f : Flow) (n : ℕ) (v : Start) (es : List Entry) (mark reserved : ℕ) (r : Running) (s id : ℕ) (m : Machine) (e : Event)
    (advice : Option ((ℕ × ℕ) × Option (List ℕ))) (restored : Bool) → Kept (world f n v es mark reserved) es r →
    GivesEvent (world f n v es mark reserved) s id m e advice restored
    → look id r.shelf ≡ None
gives_lacks f n v es mark reserved r s id m e advice restored k g =
    let past : List Event = past_of es in
    let w = state_served f v past (serves f v past s) id g.before g.serves in
    let given : IsGiven f v past s id g.item = record {
      serves = w.0;
      holds = holds_is f v past s ∙ (rw (g.serves, g.unfinished) refl);
      due =
          rw w.1 g.due;
      unrestored = g.unrestored;
    } in
    let t = turn f v past e s id g.item g.reply given in
    rw k.shelved (shelf_lacks f v past e s id g.item k.start.view.ordered t.gave w.0 (rw w.1 g.unfinished))

pub gives_room : (f : Flow) (n : ℕ) (v : Start) (es : List Entry) (mark reserved s id : ℕ) (m : Machine) (e : Event)
    (advice : Option ((ℕ × ℕ) × Option (List ℕ))) (restored : Bool) → GivesEvent (world f n v es mark reserved) s id m e advice restored → length es < 1048576
gives_room f n v es mark reserved s id m e advice restored g = let len = length_past es in let room = g.room in grind (arith, nat_tests)

-- the engine after an item
pub kept_given : (f : Flow) (n m : ℕ) (v : Start) (es : List Entry) (mark reserved : ℕ) (r : Running) (s id number : ℕ) (x : Machine) (e : Event)
    (advice : Option ((ℕ × ℕ) × Option (List ℕ))) (restored recovering : Bool) (y : Slot) (entry : Entry) (kept : List (ℕ × WaitingContext))
    (stored : List ((ℕ × ℕ) × List ℕ))
    → Kept (world f n v es mark reserved) es r → GivesEvent (world f n v es mark reserved) s id x e advice restored → number ≡ length es + 1 → m ≡ n →
    IsSlotAfter r.recovering f v.view.rows id x number y
    → entry ≡ record { number = number; event = e; change = item_change f id x advice } →
    kept ≡ put_new (shelved_change id (shelved f (tx_state f x) true)) r.shelf → stored ≡ put_place advice r.advices →
    recovering ≡ (r.recovering && is_holding y)
    → Kept (world f m v (es ++ entry ∷ []) mark reserved) (es ++ entry ∷ []) (record r {
      slots = slice_set r.slots s y;
      shelf = kept;
      advices =
          stored;
      restored = restored;
      recovering = recovering;
    })
kept_given f n m v es mark reserved r s id number x e advice restored recovering y entry kept stored k g is same put entry_is shelves stores goes =
    rw (entry_is, goes)
    (kept_step f n m v es mark reserved r e number (item_change f id x advice) (record r {
      slots = slice_set r.slots s y;
      shelf = kept;
      advices =
          stored;
      restored = restored;
      recovering = r.recovering && is_holding y;
    }) k
    (gives_room f n v es mark reserved s id x e advice restored g) is same
    (steps_given f n v es mark reserved r s id number x e advice restored y kept stored k (gives_room f n v es mark reserved s id x e advice restored g) is
    g put shelves stores))

pub same_entry : (entry : Entry) (number : ℕ) (e : Event) (c : Change) → entry.number ≡ number → entry.event ≡ e → entry.change ≡ c →
    entry ≡ record { number = number; event = e; change = c }
same_entry entry number e c n i h = let same : record { number = entry.number; event = entry.event; change = entry.change }
    ≡ record { number = number; event = e; change = c } = rw (n, i, h) refl in same
