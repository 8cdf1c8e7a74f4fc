-- Where transactions stand after a history, in the outcome law's words and in those of histories.
-- for: laws::sessions_agree
use Rattle.std.proofs.Common.{◌≡◌, ◌≢◌, ℕ, ◌<◌, Bool, true, false, List, [], ◌∷◌, length, Option, Some, None, refl, sym, ◌∙◌, ap, subst, arith}
use Rattle.std.specs.Prelude.{if◌then◌else◌, slice_get, ◌==◌, ◌&&◌, nat_lt, not}
use Rattle.std.proofs.lemmas.Bool.Decides.{nat_tests}
use Rattle.flow_model.specs.declared.flow.Flow.{Flow}
use Rattle.tx_machine.specs.declared.values.Item.TheVariants as item
use Rattle.outcome_calls.specs.One.{FullReply, Answer, Chosen, Advice, Restored}
use Rattle.outcome_calls.specs.States.{FullState, begin}
use Rattle.outcome_calls.specs.Core as core
use Rattle.outcome_calls.specs.Core.{IdView, IdEvent, at, later}
use Rattle.outcome_calls.specs.Plant as plant
use Rattle.outcome_calls.specs.Plant.{given_to}
use Rattle.tx_history.specs.declared.event.Event.{Event}
use Rattle.tx_history.specs.declared.event.Event.TheVariants.{Offered, Taken, Answered, Chose, Told, Recovered, Released, Acked, Broke, Cleared, LetGo, Closed}
use Rattle.tx_history.specs.Keys.{look}
use Rattle.tx_history.specs.History.{Start, recovering, is_id, next_id, takes, serves, queue, arrivals, own_items, state_of}
use Rattle.tx_history.specs.Journal.{is_closed, IsLawful, IsAccepted}
use Rattle.tx_history.specs.Views.{IsOrdered}
use Rattle.tx_history.proofs.RisingKeys.{look_within}
use Rattle.tx_history.proofs.OwnItems.{holds_serves, is_yes, is_other, serves_below}
use Rattle.tx_history.proofs.GivenItems.{gave_answered, gave_chose, gave_told, closing}
use Rattle.tx_history.proofs.Sessions.{state_more, state_released}
use Rattle.outcome_history.specs.Looked.{id_view}
use Rattle.outcome_history.specs.Sessions.{session_events, id_events, restored, journalled, taken_at, full_state, head_of}
use Rattle.outcome_history.proofs.FullStates.{full_first, full_given, full_other, full_restored, restored_other, full_closed, closed_other, full_taken}
use Rattle.outcome_history.proofs.FullStates.{taken_other, if_some}
use Rattle.outcome_history.proofs.ServedSessions.{States, next_same, serves_from, recovering_same}

-- by cases of an id

by_id : (i j : ℕ) (P : Bool → Type 0) → (i ≡ j → P true) → (i ≢ j → P false) → (b : Bool) → (i == j) ≡ b → P b
by_id i j P same other true e = same (grind (arith, nat_tests))
by_id i j P same other false e = other (grind (arith, nat_tests))

at_given : (f : Flow) (v : IdView) (l : List IdEvent) (o : Option ℕ) (id j : ℕ) (x : FullReply) → o ≡ Some id →
    at f v (given_to o x ∷ l) j ≡ (if id == j then later f x (at f v l j) else at f v l j)
at_given f v l None id j x e = absurd (cc)
at_given f v l (Some k) id j x e = let same : k ≡ id = grind (arith) in ap (λ (i : ℕ). if i == j then later f x (at f v l j) else at f v l j) same

-- a reply

pub given_states : (f : Flow) (v : Start) (past : List Event) (e : Event) (s id : ℕ) (x : FullReply) → IsOrdered v.view → IsLawful f v past →
    serves f v past s ≡ Some id → States f v past
    → later f x (full_state f v past id) ≡ full_state f v (e ∷ past) id → ((j : ℕ) → j ≢ id → full_state f v past j ≡ full_state f v (e ∷ past) j)
    → (j : ℕ) → at f (id_view f v.view) (given_to (plant.serves f (id_view f v.view) (session_events f v past) s) x ∷ id_events f v past) j
    ≡ full_state f v (e ∷ past) j
given_states f v past e s id x o law h states here others j =
    at_given f (id_view f v.view) (id_events f v past) (plant.serves f (id_view f v.view) (session_events f v past) s) id j x
    (serves_from f v past s o law states ∙ h)
    ∙ by_id id j (λ (b : Bool). (if b then later f x (at f (id_view f v.view) (id_events f v past) j) else at f (id_view f v.view) (id_events f v past) j)
    ≡ full_state f v (e ∷ past) j)
    (λ same. subst (λ (i : ℕ). later f x (at f (id_view f v.view) (id_events f v past) i) ≡ full_state f v (e ∷ past) i) same
    (ap (later f x) (states id) ∙ here))
    (λ differ. states j ∙ others j (λ e. differ (sym e)))
    (id == j) refl

not_told : (b : Bool) (o : Option ℕ) (id : ℕ) → o ≡ Some id → (not (is_id o id) && b) ≡ false
not_told b o id h = rw (is_yes o id h) refl

told_other : (b : Bool) (o : Option ℕ) (id j : ℕ) → o ≡ Some id → j ≢ id → (not (is_id o j) && b) ≡ b
told_other b o id j h d = rw (is_other o id j h d) refl

-- what arrives

more_states : (f : Flow) (v : Start) (past : List Event) (e : Event) (j : ℕ) → takes (e ∷ past) ≡ takes past → (b : Bool) → nat_lt j (next_id v past) ≡ b →
    (b ≡ true → state_of f v (e ∷ past) j ≡ state_of f v past j)
    → taken_at (nat_lt j (next_id v past)) (state_of f v past j) ≡ taken_at (nat_lt j (next_id v (e ∷ past))) (state_of f v (e ∷ past) j)
more_states f v past e j n true b same = rw (n, same refl) refl
more_states f v past e j n false b same = rw (n, b) refl

known_below : (n m : ℕ) → nat_lt n m ≡ true → n < m
known_below n m h = grind (arith, nat_tests)

full_offered : (f : Flow) (v : Start) (past : List Event) (c : List ℕ) (j : ℕ) → IsOrdered v.view → IsLawful f v past →
    full_state f v past j ≡ full_state f v (Offered c ∷ past) j
full_offered f v past c j o law =
    let w = more_states f v past (Offered c) j refl (nat_lt j (next_id v past)) refl
    (λ lt. state_more f v past c j o law (known_below j (next_id v past) lt)) in
    ap (λ (s : Option FullState). if nat_lt j v.view.next_id then journalled f (look j v.view.rows) (is_closed past j) (own_items f v past j)
    (restored f v past j) else s) w

full_released : (f : Flow) (v : Start) (past : List Event) (j : ℕ) → IsOrdered v.view → IsLawful f v past →
    full_state f v past j ≡ full_state f v (Released ∷ past) j
full_released f v past j o law =
    let w = more_states f v past Released j refl (nat_lt j (next_id v past)) refl
    (λ lt. state_released f v past j o law (known_below j (next_id v past) lt)) in
    ap (λ (s : Option FullState). if nat_lt j v.view.next_id then journalled f (look j v.view.rows) (is_closed past j) (own_items f v past j)
    (restored f v past j) else s) w

-- a take

taken_states : (f : Flow) (v : Start) (past : List Event) (s j : ℕ) → IsOrdered v.view → takes past < length (arrivals f v past) → States f v past
    → at f (id_view f v.view) (core.Took (head_of (slice_get (queue f v past) 0)) ∷ id_events f v past) j ≡ full_state f v (Taken s ∷ past) j
taken_states f v past s j o room states =
    ap (λ (n : ℕ). if n == j then Some (begin f (head_of (slice_get (queue f v past) 0))) else at f (id_view f v.view) (id_events f v past) j)
    (next_same f v past)
    ∙ by_id (next_id v past) j (λ (b : Bool). (if b then Some (begin f (head_of (slice_get (queue f v past) 0))) else at f (id_view f v.view)
    (id_events f v past) j) ≡ full_state f v (Taken s ∷ past) j)
    (λ same. full_taken f v past s o room ∙ ap (full_state f v (Taken s ∷ past)) same)
    (λ differ. let other : (next_id v past == j) ≡ false = grind (arith, nat_tests) in states j ∙ taken_other f v past s j other)
    (next_id v past == j) refl

-- a closing

closed_states : (f : Flow) (v : Start) (past : List Event) (id j : ℕ) → nat_lt id v.view.next_id ≡ true → States f v past
    → at f (id_view f v.view) (core.Closed id ∷ id_events f v past) j ≡ full_state f v (Closed id ∷ past) j
closed_states f v past id j lt states =
    by_id id j (λ (b : Bool). (if b then None else at f (id_view f v.view) (id_events f v past) j) ≡ full_state f v (Closed id ∷ past) j)
    (λ same. full_closed f v past id lt ∙ ap (full_state f v (Closed id ∷ past)) same)
    (λ differ. let other : (id == j) ≡ false = grind (arith, nat_tests) in states j ∙ closed_other f v past id j other)
    (id == j) refl

closed_below : (f : Flow) (v : Start) (past : List Event) (id : ℕ) → IsOrdered v.view → IsAccepted f v past (Closed id) → nat_lt id v.view.next_id ≡ true
closed_below f v past id o acc =
    let w = closing f v.view.rows 1 v.view.next_id (length past) id o.rows acc in
    let k = (look_within v.view.rows 1 v.view.next_id id w.row o.rows w.there).1 in
    grind (arith, nat_tests)

-- the whole history
pub states_agree : (f : Flow) (v : Start) (past : List Event) → IsOrdered v.view → IsLawful f v past → States f v past
states_agree f v [] o law j = full_first f v j o
states_agree f v (Offered c ∷ past) o law j = states_agree f v past o law.2 j ∙ full_offered f v past c j o law.2
states_agree f v (Taken s ∷ past) o law j = taken_states f v past s j o law.0.2 (states_agree f v past o law.2)
states_agree f v (Answered s b c ∷ past) o law j =
    let id = law.0.0 in
    let h = (holds_serves f v past s id law.0.1).0 in
    let g = gave_answered f v past s b c id h in
    given_states f v past (Answered s b c) s id (Answer b c) o law.2 h (states_agree f v past o law.2)
    (full_given f v past (Answered s b c) id (item.Answer b c) o g (serves_below f v past s id o h).1 refl)
    (λ j d. full_other f v past (Answered s b c) id j (item.Answer b c) g d refl) j
states_agree f v (Chose s t ∷ past) o law j =
    let id = law.0.0 in
    let h = (holds_serves f v past s id law.0.1).0 in
    let g = gave_chose f v past s t id h in
    given_states f v past (Chose s t) s id (Chosen t) o law.2 h (states_agree f v past o law.2)
    (full_given f v past (Chose s t) id (item.Choice t) o g (serves_below f v past s id o h).1 refl)
    (λ j d. full_other f v past (Chose s t) id j (item.Choice t) g d refl) j
states_agree f v (Told s a ∷ past) o law j =
    let id = law.0.0 in
    let h = (holds_serves f v past s id law.0.1).0 in
    let g = gave_told f v past s a id h in
    given_states f v past (Told s a) s id (Advice a) o law.2 h (states_agree f v past o law.2)
    (full_given f v past (Told s a) id (item.Told a) o g (serves_below f v past s id o h).1 (not_told (restored f v past id) (serves f v past s) id h))
    (λ j d. full_other f v past (Told s a) id j (item.Told a) g d (told_other (restored f v past j) (serves f v past s) id j h d)) j
states_agree f v (Recovered s c ∷ past) o law j =
    let id = law.0.0 in
    let h = (holds_serves f v past s id law.0.2).0 in
    let old = if_some (nat_lt id v.view.next_id) _ _ law.0.1 law.0.3 in
    given_states f v past (Recovered s c) s id Restored o law.2 h (states_agree f v past o law.2)
    (full_restored f v past s c id h old)
    (λ j d. restored_other f v past s c id j h d) j
states_agree f v (Released ∷ past) o law j = states_agree f v past o law.2 j ∙ full_released f v past j o law.2
states_agree f v (Acked k n ∷ past) o law j = states_agree f v past o law.2 j
states_agree f v (Broke p ∷ past) o law j = states_agree f v past o law.2 j
states_agree f v (Cleared p ∷ past) o law j = states_agree f v past o law.2 j
states_agree f v (LetGo t ∷ past) o law j = states_agree f v past o law.2 j
states_agree f v (Closed i ∷ past) o law j = closed_states f v past i j (closed_below f v past i o law.0) (states_agree f v past o law.2)

pub serves_agree : (f : Flow) (v : Start) (past : List Event) (s : ℕ) → IsOrdered v.view → IsLawful f v past →
    plant.serves f (id_view f v.view) (session_events f v past) s ≡ serves f v past s
serves_agree f v past s o law = serves_from f v past s o law (states_agree f v past o law)

pub recovering_agree : (f : Flow) (v : Start) (past : List Event) → IsOrdered v.view → IsLawful f v past →
    plant.recovering f (id_view f v.view) (id_events f v past) ≡ recovering f v past
recovering_agree f v past o law = recovering_same f v past o law (states_agree f v past o law)
