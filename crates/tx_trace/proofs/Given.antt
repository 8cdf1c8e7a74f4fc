-- What an event is to the transaction that it is given for, and to the others.
-- for: tracer::Tracer::subject
use Rattle.std.proofs.Common.{◌≡◌, ℕ, ◌+◌, ◌<◌, ◌≤◌, Bool, true, false, inl, inr, List, ◌∷◌, Option, Some, None, refl, sym, ◌∙◌, ap, subst, arith}
use Rattle.std.specs.Prelude.{if◌then◌else◌, nat_lt, ◌&&◌, is_some, option_map}
use Rattle.std.proofs.lemmas.Bool.Decides.{nat_tests}
use Rattle.flow_model.specs.declared.flow.Flow.{Flow}
use Rattle.tx_machine.specs.declared.values.Item.{Item}
use Rattle.tx_machine.specs.declared.values.Item.TheVariants.{Answer, Choice, Told as ToldOne}
use Rattle.tx_machine.specs.Table.{is_due}
use Rattle.tx_history.specs.declared.event.Event.{Event}
use Rattle.tx_history.specs.declared.event.Event.TheVariants.{Offered, Taken, Answered, Chose, Told, Recovered, Released, Acked, Broke, Cleared, LetGo, Closed}
use Rattle.tx_history.specs.declared.journal.Row.{Row}
use Rattle.tx_history.specs.History.{Start, holds, is_ended, item_of, recovering, serves, state_of}
use Rattle.tx_history.specs.Journal.{IsLawful, change, touched}
use Rattle.tx_history.specs.Views.{IsOrdered}
use Rattle.tx_history.proofs.OwnItems.{holds_serves, serves_below, taken_from}
use Rattle.tx_history.proofs.GivenItems.{Gave, gave_answered, gave_chose, gave_told, state_other}
use Rattle.tx_history.proofs.Sessions.{recovering_below, recovering_other, serves_who, state_given}
use Rattle.tx_history.proofs.RecoveryOrder.{recovering_next}
use Rattle.tx_trace.specs.Lines.{held_shown, is_journalled, shown_at}
use Rattle.tx_trace.specs.Follow.{Concerns, IsSubject, next_recovered, over_then}

-- the journalled transactions that are over after an item

over_if : (f : Flow) (v : Start) (past : List Event) (e : Event) (id over : ℕ) (old ended : Bool) → old ≡ true → recovering f v past ≡ Some id →
    recovering f v past ≡ next_recovered f v.view.rows over
    → recovering f v (e ∷ past) ≡ (if ended then next_recovered f v.view.rows id else Some id) →
    recovering f v (e ∷ past) ≡ next_recovered f v.view.rows (over_then (old && ended) id over)
over_if f v past e id over true true is was h now = now
over_if f v past e id over true false is was h now = now ∙ (sym was ∙ h)
over_if f v past e id over false ended is was h now = absurd (cc)

over_new : (old ended : Bool) (id over : ℕ) → old ≡ false → over_then (old && ended) id over ≡ over
over_new false ended id over h = refl
over_new true ended id over h = absurd (cc)

over_item : (f : Flow) (v : Start) (past : List Event) (e : Event) (s id over : ℕ) (x : Item) → IsOrdered v.view → IsLawful f v past →
    Gave f v past e id x → serves f v past s ≡ Some id → recovering f v past ≡ next_recovered f v.view.rows over
    → recovering f v (e ∷ past) ≡ next_recovered f v.view.rows (over_then (is_journalled v id && is_ended f (state_of f v (e ∷ past) id)) id over)
over_item f v past e s id over x o law g serves h = elim (serves_who f v past s id serves) [
  | inl a ↦ (let l : id < v.view.next_id = recovering_below f v past id o a.0 in
      let old : is_journalled v id ≡ true = grind (arith, nat_tests) in
      over_if f v past e id over (is_journalled v id) (is_ended f (state_of f v (e ∷ past) id)) old a.0 h (recovering_next f v past e id x o law g a.0))
  | inr a ↦ (let l : v.view.next_id ≤ id = taken_from v past s id a in
      let new : is_journalled v id ≡ false = grind (arith, nat_tests) in
      recovering_other f v past e id x o g l ∙ (h ∙ ap (next_recovered f v.view.rows)
      (sym (over_new (is_journalled v id) (is_ended f (state_of f v (e ∷ past) id)) id over new))))
]

concerns_item : (f : Flow) (v : Start) (past : List Event) (e : Event) (s id : ℕ) (x : Item) → IsOrdered v.view → IsLawful f v past → Gave f v past e id x →
    holds f v past s ≡ Some id → is_due (state_of f v past id) x ≡ true → item_of e ≡ Some x
    → shown_at f v past e ≡ held_shown f v past e (holds f v past s) → Concerns f v past e id
concerns_item f v past e s id x o law g held due item shown =
    let w = holds_serves f v past s id held in
    record {
      shown = shown ∙ ap (held_shown f v past e) held;
      under_way = record { below = (serves_below f v past s id o w.0).1; unfinished = w.1 };
      due = rw item due;
      after = rw item (state_given f v past e id x g);
      others = λ j d. state_other f v past e id x j g (λ z. d (sym z));
      count = ap (λ (n : ℕ). v.view.next_id + n) g.took;
      recovers = λ over h. over_item f v past e s id over x o law g w.0 h;
    }

row_of : (f : Flow) (v : Start) (past : List Event) (e : Event) (id : ℕ) (n o : Option ℕ) → o ≡ n → n ≡ Some id → Concerns f v past e id →
    IsSubject f v past e o
row_of f v past e id n o is at c = subst (λ (k : Option ℕ). IsSubject f v past e k) (sym (is ∙ at)) c

touched_id : (f : Flow) (v : Start) (past : List Event) (a : Option ((ℕ × ℕ) × Option (List ℕ))) (s : Option ℕ) (id : ℕ) → s ≡ Some id →
    option_map (λ (row : ℕ × Option Row). row.0) (touched f v past a s).row ≡ Some id
touched_id f v past a s id h = rw h refl

pub subject_answered : (f : Flow) (v : Start) (past : List Event) (s b : ℕ) (c : List ℕ) (o : Option ℕ) → IsOrdered v.view →
    IsLawful f v (Answered s b c ∷ past)
    → o ≡ option_map (λ (row : ℕ × Option Row). row.0) (change f v (Answered s b c ∷ past)).row → IsSubject f v past (Answered s b c) o
subject_answered f v past s b c o ord law is =
    let id : ℕ = law.0.0 in
    let w = holds_serves f v past s id law.0.1 in
    row_of f v past (Answered s b c) id _ o is (touched_id f v (Answered s b c ∷ past) None (serves f v past s) id w.0)
    (concerns_item f v past (Answered s b c) s id (Answer b c) ord law.2 (gave_answered f v past s b c id w.0) law.0.1 law.0.2 refl refl)

pub subject_chose : (f : Flow) (v : Start) (past : List Event) (s : ℕ) (t : List ℕ) (o : Option ℕ) → IsOrdered v.view → IsLawful f v (Chose s t ∷ past)
    → o ≡ option_map (λ (row : ℕ × Option Row). row.0) (change f v (Chose s t ∷ past)).row → IsSubject f v past (Chose s t) o
subject_chose f v past s t o ord law is =
    let id : ℕ = law.0.0 in
    let w = holds_serves f v past s id law.0.1 in
    row_of f v past (Chose s t) id _ o is (touched_id f v (Chose s t ∷ past) None (serves f v past s) id w.0)
    (concerns_item f v past (Chose s t) s id (Choice t) ord law.2 (gave_chose f v past s t id w.0) law.0.1 law.0.2 refl refl)

pub subject_told : (f : Flow) (v : Start) (past : List Event) (s : ℕ) (a : Option (List ℕ)) (o : Option ℕ) → IsOrdered v.view → IsLawful f v (Told s a ∷ past)
    → o ≡ option_map (λ (row : ℕ × Option Row). row.0) (change f v (Told s a ∷ past)).row → IsSubject f v past (Told s a) o
subject_told f v past s a o ord law is =
    let id : ℕ = law.0.0 in
    let w = holds_serves f v past s id law.0.1 in
    row_of f v past (Told s a) id _ o is (touched_id f v (Told s a ∷ past) _ (serves f v past s) id w.0)
    (concerns_item f v past (Told s a) s id (ToldOne a) ord law.2 (gave_told f v past s a id w.0) law.0.1 law.0.2 refl refl)

-- only journalled transactions are restored

restored_if : (b c : Bool) (o : Option (ℕ × Bool)) (call : ℕ × Bool) → (if b && c then o else None) ≡ Some call → b ≡ true
restored_if true c o call h = refl
restored_if false c o call h = absurd (cc)

kept_over : (b : Bool) (id over : ℕ) → over_then (b && false) id over ≡ over
kept_over true id over = refl
kept_over false id over = refl

pub subject_recovered : (f : Flow) (v : Start) (past : List Event) (s : ℕ) (c : List ℕ) (over : ℕ) (o : Option ℕ) → IsOrdered v.view →
    IsLawful f v (Recovered s c ∷ past)
    → recovering f v past ≡ next_recovered f v.view.rows over → o ≡ next_recovered f v.view.rows over → IsSubject f v past (Recovered s c) o
subject_recovered f v past s c over o ord law was is =
    let id : ℕ = law.0.0 in
    let w = holds_serves f v past s id law.0.2 in
    let old : nat_lt id v.view.next_id ≡ true = restored_if (nat_lt id v.view.next_id) _ _ law.0.1 law.0.3 in
    let below : id < v.view.next_id = grind (arith, nat_tests) in
    let at : recovering f v past ≡ Some id = elim (serves_who f v past s id w.0) [
      | inl a ↦ a.0
      | inr a ↦ absurd (let l = taken_from v past s id a in omega arith)
    ] in
    row_of f v past (Recovered s c) id (recovering f v past) o (is ∙ sym was) at
    (record {
      shown = ap (held_shown f v past (Recovered s c)) law.0.2;
      under_way = record { below = (serves_below f v past s id ord w.0).1; unfinished = w.1 };
      due = refl;
      after = refl;
      others = λ j d. refl;
      count = refl;
      recovers = λ over h. h ∙ ap (next_recovered f v.view.rows)
          (sym (ap (λ (b : Bool). over_then (is_journalled v id && b) id over) w.1 ∙ kept_over (is_journalled v id) id over));
    })

-- an item's entry has the row of the transaction that it is given for
pub subject_item : (f : Flow) (v : Start) (past : List Event) (e : Event) (o : Option ℕ) → is_some (item_of e) ≡ true → IsOrdered v.view →
    IsLawful f v (e ∷ past) → o ≡ option_map (λ (row : ℕ × Option Row). row.0) (change f v (e ∷ past)).row → IsSubject f v past e o
subject_item f v past (Answered s b c) o h ord law is = subject_answered f v past s b c o ord law is
subject_item f v past (Chose s t) o h ord law is = subject_chose f v past s t o ord law is
subject_item f v past (Told s a) o h ord law is = subject_told f v past s a o ord law is
subject_item f v past (Offered c) o h ord law is = absurd (cc)
subject_item f v past (Taken s) o h ord law is = absurd (cc)
subject_item f v past (Recovered s c) o h ord law is = absurd (cc)
subject_item f v past Released o h ord law is = absurd (cc)
subject_item f v past (Acked id n) o h ord law is = absurd (cc)
subject_item f v past (Broke p) o h ord law is = absurd (cc)
subject_item f v past (Cleared p) o h ord law is = absurd (cc)
subject_item f v past (LetGo s) o h ord law is = absurd (cc)
subject_item f v past (Closed id) o h ord law is = absurd (cc)

pub subject_restored : (f : Flow) (v : Start) (past : List Event) (e : Event) (s : ℕ) (c : List ℕ) (over : ℕ) (o : Option ℕ) → e ≡ Recovered s c →
    IsOrdered v.view → IsLawful f v (e ∷ past)
    → recovering f v past ≡ next_recovered f v.view.rows over → o ≡ next_recovered f v.view.rows over → IsSubject f v past e o
subject_restored f v past e s c over o is ord law was at =
    subst (λ (x : Event). IsSubject f v past x o) (sym is) (subject_recovered f v past s c over o ord
    (subst (λ (x : Event). IsLawful f v (x ∷ past)) is law) was at)
