-- Whether the context of the transaction that is recovered was restored.
-- for: laws::calls_agree
use Rattle.std.proofs.Common.{◌≡◌, ℕ, ◌<◌, Bool, true, false, inl, inr, List, [], ◌∷◌, Option, Some, None, refl, sym, ◌∙◌, ap, arith}
use Rattle.std.specs.Prelude.{if◌then◌else◌, ◌==◌, ◌&&◌, ◌||◌, nat_lt, not}
use Rattle.std.proofs.lemmas.Bool.Decides.{nat_tests}
use Rattle.flow_model.specs.declared.flow.Flow.{Flow}
use Rattle.tx_machine.specs.Table.{is_open}
use Rattle.tx_machine.specs.declared.values.Phase.TheVariants.{Committing, Undoing}
use Rattle.tx_history.specs.declared.event.Event.{Event}
use Rattle.tx_history.specs.declared.event.Event.TheVariants.{Offered, Taken, Answered, Chose, Told, Recovered, Released, Acked, Broke, Cleared, LetGo, Closed}
use Rattle.tx_history.specs.History.{Start, is_committing, is_id, is_restored, recovering, reopened, own_items, serves, holds, state_of}
use Rattle.tx_history.specs.Journal.{IsLawful, IsAccepted}
use Rattle.tx_history.specs.Views.{IsOrdered}
use Rattle.tx_history.proofs.RisingKeys.{look_within}
use Rattle.tx_history.proofs.OwnItems.{found, old_stays, holds_serves, is_yes, taken_from}
use Rattle.tx_history.proofs.Sessions.{serves_who, recovered_first, recovered_stays}
use Rattle.tx_history.proofs.RecoveredSessions.{none_taken}
use Rattle.outcome_history.specs.Sessions.{restored}
use Rattle.outcome_history.proofs.FullStates.{if_some}

-- while a journalled transaction is recovered, it is the one that is served
pub served_is : (f : Flow) (v : Start) (past : List Event) (s id k : ℕ) → IsOrdered v.view → IsLawful f v past → recovering f v past ≡ Some k →
    serves f v past s ≡ Some id → (recovering f v past ≡ Some id) × (s ≡ 0)
served_is f v past s id k o law r h = elim (serves_who f v past s id h) [
  | inl a ↦ a
  | inr a ↦ absurd (let n = none_taken v past s (recovered_first f v past k o law r) in cc)
]

reopened_closed : (b : Bool) → is_open (if b then Committing else Undoing) ≡ false
reopened_closed true = refl
reopened_closed false = refl

-- its outcome is decided
pub decided_phase : (f : Flow) (v : Start) (past : List Event) (id : ℕ) → IsOrdered v.view → recovering f v past ≡ Some id →
    is_open (state_of f v past id).phase ≡ false
decided_phase f v past id o h =
    let w = found f v.view.rows (own_items f v past) 1 v.view.next_id id o.rows h in
    let l : id < v.view.next_id = (look_within v.view.rows 1 v.view.next_id id w.row o.rows w.there).1 in
    let lt : nat_lt id v.view.next_id ≡ true = grind (arith, nat_tests) in
    let k = old_stays f (reopened f w.row) (own_items f v past id) refl refl in
    rw (lt, w.there) (ap is_open k.phase ∙ reopened_closed (is_committing w.row.phase))

and_first : (b c : Bool) → (b && c) ≡ true → b ≡ true
and_first true c h = refl
and_first false c h = absurd (cc)

-- so no preparation or selection is answered in that time
pub no_reply : (f : Flow) (v : Start) (past : List Event) (s id k : ℕ) (c : Bool) → IsOrdered v.view → IsLawful f v past → recovering f v past ≡ Some k →
    holds f v past s ≡ Some id → (is_open (state_of f v past id).phase && c) ≡ true → ⊥
no_reply f v past s id k c o law r h due =
    let w = served_is f v past s id k o law r (holds_serves f v past s id h).0 in
    let closed = decided_phase f v past id o w.0 in
    let opened = and_first (is_open (state_of f v past id).phase) c due in
    cc

-- if something is being recovered after an event, something was before it
was_recovering : (f : Flow) (v : Start) (past : List Event) (e : Event) (id : ℕ) (X : Type 0) → IsOrdered v.view → IsAccepted f v past e →
    recovering f v (e ∷ past) ≡ Some id → ((k : ℕ) → recovering f v past ≡ Some k → X)
    → (r : Option ℕ) → recovering f v past ≡ r → X
was_recovering f v past e id X o acc h use_it None is = absurd (let n = recovered_stays f v past e o acc is in cc)
was_recovering f v past e id X o acc h use_it (Some k) is = use_it k is

-- a context is restored for the one that is recovered
restores_it : (f : Flow) (v : Start) (past : List Event) (s : ℕ) (c : List ℕ) (acc : IsAccepted f v past (Recovered s c)) →
    (serves f v past s ≡ Some acc.0) × (recovering f v past ≡ Some acc.0)
restores_it f v past s c acc =
    let h = (holds_serves f v past s acc.0 acc.2).0 in
    let lt = if_some (nat_lt acc.0 v.view.next_id) _ _ acc.1 acc.3 in (
      h,
      elim (serves_who f v past s acc.0 h) [
        | inl a ↦ a.0
        | inr a ↦ absurd (let le = taken_from v past s acc.0 a in grind (arith, nat_tests))
      ],
    )

is_it : (o : Option ℕ) (id j : ℕ) → o ≡ Some id → is_id o j ≡ true → id ≡ j
is_it None id j e h = absurd (cc)
is_it (Some k) id j e h = grind (arith, nat_tests)

recovered_it : (f : Flow) (v : Start) (past : List Event) (s : ℕ) (c : List ℕ) (j : ℕ) → IsAccepted f v past (Recovered s c) →
    (restored f v past j ≡ true → recovering f v past ≡ Some j)
    → (b : Bool) → is_id (serves f v past s) j ≡ b → (b || restored f v past j) ≡ true → recovering f v past ≡ Some j
recovered_it f v past s c j acc ih true e h = let w = restores_it f v past s c acc in w.1 ∙ ap Some (is_it (serves f v past s) acc.0 j w.0 e)
recovered_it f v past s c j acc ih false e h = ih h

told_it : (f : Flow) (v : Start) (past : List Event) (s j : ℕ) (X : Type 0) → IsOrdered v.view → IsLawful f v past → (id : ℕ) →
    serves f v past s ≡ Some id → (restored f v past j ≡ true → recovering f v past ≡ Some j)
    → (b : Bool) → restored f v past j ≡ b → (not (is_id (serves f v past s) j) && b) ≡ true → X
told_it f v past s j X o law id h ih true e t =
    let r = ih e in
    let w = (served_is f v past s id j o law r h).0 in
    let same : id ≡ j = grind (arith, w, r) in
    let it = is_yes (serves f v past s) j (h ∙ ap Some same) in
    absurd (grind (arith, it, t))
told_it f v past s j X o law id h ih false e t = absurd (by (not (is_id (serves f v past s) j)) t)
  where
    by : (b : Bool) → (b && false) ≡ true → ⊥
    by true h = cc
    by false h = cc

-- no other one has its context restored
pub restored_now : (f : Flow) (v : Start) (past : List Event) (j : ℕ) → IsOrdered v.view → IsLawful f v past → restored f v past j ≡ true →
    recovering f v past ≡ Some j
restored_now f v [] j o law h = absurd (cc)
restored_now f v (Offered x ∷ past) j o law h = restored_now f v past j o law.2 h
restored_now f v (Taken t ∷ past) j o law h = absurd (let a = law.0.0 in let b = restored_now f v past j o law.2 h in cc)
restored_now f v (Answered t b x ∷ past) j o law h = absurd (no_reply f v past t law.0.0 j _ o law.2 (restored_now f v past j o law.2 h) law.0.1 law.0.2)
restored_now f v (Chose t x ∷ past) j o law h = absurd (no_reply f v past t law.0.0 j _ o law.2 (restored_now f v past j o law.2 h) law.0.1 law.0.2)
restored_now f v (Told t x ∷ past) j o law h = told_it f v past t j (recovering f v (Told t x ∷ past) ≡ Some j) o law.2 law.0.0
    (holds_serves f v past t law.0.0 law.0.1).0 (restored_now f v past j o law.2) (restored f v past j) refl h
restored_now f v (Recovered t x ∷ past) j o law h = recovered_it f v past t x j law.0 (restored_now f v past j o law.2) (is_id (serves f v past t) j) refl h
restored_now f v (Released ∷ past) j o law h = restored_now f v past j o law.2 h
restored_now f v (Acked k n ∷ past) j o law h = restored_now f v past j o law.2 h
restored_now f v (Broke p ∷ past) j o law h = restored_now f v past j o law.2 h
restored_now f v (Cleared p ∷ past) j o law h = restored_now f v past j o law.2 h
restored_now f v (LetGo t ∷ past) j o law h = restored_now f v past j o law.2 h
restored_now f v (Closed k ∷ past) j o law h = restored_now f v past j o law.2 h

none_restored : (f : Flow) (v : Start) (past : List Event) (s id : ℕ) → IsOrdered v.view → IsLawful f v past → (k : ℕ) → serves f v past s ≡ Some k →
    recovering f v past ≡ Some k
    → (b : Bool) → restored f v past id ≡ b → (not (is_id (serves f v past s) id) && b) ≡ false
none_restored f v past s id o law k h r true e =
    let w = restored_now f v past id o law e in
    let same : k ≡ id = grind (arith, w, r) in
    rw (is_yes (serves f v past s) id (h ∙ ap Some same)) refl
none_restored f v past s id o law k h r false e = by (not (is_id (serves f v past s) id))
  where
    by : (b : Bool) → (b && false) ≡ false
    by true = refl
    by false = refl

told_same : (f : Flow) (v : Start) (past : List Event) (s : ℕ) (a : Option (List ℕ)) (id k : ℕ) → IsOrdered v.view → IsLawful f v (Told s a ∷ past) →
    recovering f v past ≡ Some k
    → restored f v (Told s a ∷ past) id ≡ is_restored (Told s a ∷ past)
told_same f v past s a id k o law r =
    let h = (holds_serves f v past s law.0.0 law.0.1).0 in
    let w = served_is f v past s law.0.0 k o law.2 r h in
    let zero_is = w.1 in
    let zero_same : (s == 0) ≡ true = grind (arith, nat_tests) in
    none_restored f v past s id o law.2 law.0.0 h w.0 (restored f v past id) refl ∙ (rw zero_same refl)

one_only : (i j : ℕ) → Some i ≡ Some j → i ≡ j
one_only i j e = grind (arith, e)

-- for the one that is being recovered both say the same
pub restored_same : (f : Flow) (v : Start) (past : List Event) (id : ℕ) → IsOrdered v.view → IsLawful f v past → recovering f v past ≡ Some id →
    restored f v past id ≡ is_restored past
restored_same f v [] id o law h = refl
restored_same f v (Offered x ∷ past) id o law h = restored_same f v past id o law.2 h
restored_same f v (Taken t ∷ past) id o law h = absurd (let a = law.0.0 in cc)
restored_same f v (Answered t b x ∷ past) id o law h = absurd
    (was_recovering f v past (Answered t b x) id ⊥ o law.0 h (λ k r. no_reply f v past t law.0.0 k _ o law.2 r law.0.1 law.0.2) (recovering f v past) refl)
restored_same f v (Chose t x ∷ past) id o law h = absurd (was_recovering f v past (Chose t x) id ⊥ o law.0 h
    (λ k r. no_reply f v past t law.0.0 k _ o law.2 r law.0.1 law.0.2) (recovering f v past) refl)
restored_same f v (Told t x ∷ past) id o law h = was_recovering f v past (Told t x) id (restored f v (Told t x ∷ past) id ≡ is_restored (Told t x ∷ past)) o
    law.0 h (λ k r. told_same f v past t x id k o law r) (recovering f v past) refl
restored_same f v (Recovered t x ∷ past) id o law h =
    let w = restores_it f v past t x law.0 in
    let same : law.0.0 ≡ id = one_only law.0.0 id (sym w.1 ∙ h) in
    rw (is_yes (serves f v past t) id (w.0 ∙ ap Some same)) refl
restored_same f v (Released ∷ past) id o law h = restored_same f v past id o law.2 h
restored_same f v (Acked k n ∷ past) id o law h = restored_same f v past id o law.2 h
restored_same f v (Broke p ∷ past) id o law h = restored_same f v past id o law.2 h
restored_same f v (Cleared p ∷ past) id o law h = restored_same f v past id o law.2 h
restored_same f v (LetGo t ∷ past) id o law h = restored_same f v past id o law.2 h
restored_same f v (Closed k ∷ past) id o law h = restored_same f v past id o law.2 h
