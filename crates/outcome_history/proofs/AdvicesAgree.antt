-- The advices that a lawful history leaves, in its journal and in the outcome law's.
-- for: laws::journals_agree
use Rattle.std.proofs.Common.{◌≡◌, ℕ, Bool, true, false, List, ◌∷◌, [], length, Option, Some, None, refl, sym, ◌∙◌, ap, arith}
use Rattle.std.specs.Prelude.{if◌then◌else◌, ◌==◌, ◌&&◌, nat_lt, not, slice_index}
use Rattle.std.proofs.lemmas.Bool.Decides.{nat_tests}
use Rattle.sw_participant.specs.declared.call.Act.{Act}
use Rattle.sw_participant.specs.declared.call.Act.TheVariants as act
use Rattle.flow_model.specs.declared.flow.Flow.{Flow}
use Rattle.tx_machine.specs.declared.values.Due.TheVariants as due
use Rattle.tx_machine.specs.declared.values.Phase.{Phase}
use Rattle.tx_machine.specs.declared.values.Phase.TheVariants.{Preparing, Aborting, Committing, Undoing}
use Rattle.tx_machine.specs.declared.values.Item.TheVariants as item
use Rattle.tx_machine.specs.Due.{call_of, due_at, due_of}
use Rattle.tx_machine.specs.Table.{TxState, Upcoming, is_due, is_open}
use Rattle.outcome_calls.specs.One.{DueCall, Preparation, Selection, Telling, Recovery, NoCall, FullReply, Answer, Chosen, Advice, Restored, Standing, advised}
use Rattle.outcome_calls.specs.One.{without}
use Rattle.outcome_calls.specs.States.{FullState, restores, seen, standing}
use Rattle.outcome_calls.specs.Stations.{outcome_act, station_call}
use Rattle.outcome_calls.specs.Core as core
use Rattle.outcome_calls.specs.Core.{IdView, IdEvent, advised_at, at, standing_of}
use Rattle.outcome_calls.specs.Plant as plant
use Rattle.outcome_calls.specs.Plant.{given_to}
use Rattle.tx_history.specs.declared.event.Event.{Event}
use Rattle.tx_history.specs.declared.event.Event.TheVariants.{Offered, Taken, Answered, Chose, Told, Recovered, Released, Acked, Broke, Cleared, LetGo, Closed}
use Rattle.tx_history.specs.Keys.{put_place}
use Rattle.tx_history.specs.History.{Start, next_id, advice_place, place_in, put_advice, serves, state_of}
use Rattle.tx_history.specs.History as history
use Rattle.tx_history.specs.Journal.{IsLawful, advices}
use Rattle.tx_history.specs.Views.{IsOrdered}
use Rattle.tx_history.proofs.OwnItems.{holds_serves}
use Rattle.outcome_history.specs.Looked.{advice_at, id_view}
use Rattle.outcome_history.specs.Sessions.{id_events, session_events}
use Rattle.outcome_history.specs.Calls.{call_or}
use Rattle.outcome_history.proofs.AdvicesByPlace.{put_at_place}
use Rattle.outcome_history.proofs.StatesAgree.{serves_agree}
use Rattle.outcome_history.proofs.CallsAgree.{calls_agree}
use Rattle.outcome_calls.proofs.StationCalls.{call_from}

-- replies that give no advice

abbrev pub gives_none : FullReply → Type 0
gives_none (Advice (Some a)) = ⊥
gives_none _ = Unit {0}

quiet_due : (d : DueCall) (x : FullReply) (told : ℕ) (old : ℕ → Option (List ℕ)) (n : ℕ) → gives_none x → advised d x told old n ≡ old n
quiet_due (Preparation p) x told old n h = refl
quiet_due (Selection p) x told old n h = refl
quiet_due (Recovery p) x told old n h = refl
quiet_due NoCall x told old n h = refl
quiet_due (Telling p) (Answer b c) told old n h = refl
quiet_due (Telling p) (Chosen t) told old n h = refl
quiet_due (Telling p) (Advice None) told old n h = refl
quiet_due (Telling p) (Advice (Some a)) told old n h = absurd h
quiet_due (Telling p) Restored told old n h = refl

quiet_standing : (o : Option Standing) (x : FullReply) (old : ℕ → Option (List ℕ)) (n : ℕ) → gives_none x → advised_at o x old n ≡ old n
quiet_standing None x old n h = refl
quiet_standing (Some st) x old n h = quiet_due st.due x st.told old n h

quiet_if : (b : Bool) (o : Option Standing) (x : FullReply) (old : ℕ → Option (List ℕ)) (n : ℕ) → gives_none x →
    (if b then advised_at o x old else old) n ≡ old n
quiet_if true o x old n h = quiet_standing o x old n h
quiet_if false o x old n h = refl

quiet_given : (f : Flow) (v : IdView) (o : Option ℕ) (x : FullReply) (l : List IdEvent) (id n : ℕ) → gives_none x →
    core.advice f v (given_to o x ∷ l) id n ≡ core.advice f v l id n
quiet_given f v None x l id n h = refl
quiet_given f v (Some i) x l id n h = quiet_if (i == id) (standing_of f (at f v l id)) x (core.advice f v l id) n h

-- an outcome of which a member was notified: it was due, and not a recover call before it

told_act : (id q : ℕ) (commit again recovering back : Bool) (a : Act) → a ≡ (if commit then act.Commit again else act.Abort again) →
    Some (call_from id q (outcome_act back commit recovering)) ≡ Some (call_from id q a)
    → back ≡ false
told_act id q commit again recovering false a is e = refl
told_act id q true again recovering true a is e = absurd (let s : act.Recover true ≡ a = grind (arith, e) in cc)
told_act id q false again recovering true a is e = absurd (let s : act.Recover false ≡ a = grind (arith, e) in cc)

told_at : (f : Flow) (st : FullState) (ph : Phase) (ms : List Upcoming) (id : ℕ) (again b : Bool) → nat_lt st.state.told (length st.state.joined) ≡ b →
    (not (is_open ph) && b) ≡ true
    → station_call f id st (due_at f st.state ph ms) ≡ call_of id again (due_at f st.state ph ms) → (p : ℕ) × (seen f st (due_at f st.state ph ms) ≡ Telling p)
told_at f st Preparing ms id again b lt h e = absurd (cc)
told_at f st Aborting ms id again b lt h e = absurd (cc)
told_at f st Committing ms id again false lt h e = absurd (cc)
told_at f st Undoing ms id again false lt h e = absurd (cc)
told_at f st Committing ms id again true lt h e =
    let q : ℕ = slice_index st.state.joined st.state.told in
    let is : due_at f st.state Committing ms ≡ due.Commit q = rw lt refl in
    let back : restores f st q ≡ false = told_act id q true again st.recovered (restores f st q) (act.Commit again) refl (rw is at e) in
    (q, rw (is, back) refl)
told_at f st Undoing ms id again true lt h e =
    let q : ℕ = slice_index st.state.joined st.state.told in
    let is : due_at f st.state Undoing ms ≡ due.Abort q = rw lt refl in
    let back : restores f st q ≡ false = told_act id q false again st.recovered (restores f st q) (act.Abort again) refl (rw is at e) in
    (q, rw (is, back) refl)

-- what is due to a transaction when a member of it is notified
pub record ToTell (f : Flow) (v : Start) (past : List Event) (id : ℕ) : Type 0 where
  pub state : FullState
  pub stands : at f (id_view f v.view) (id_events f v past) id ≡ Some state
  pub told : (standing f state).told ≡ (state_of f v past id).told
  pub participant : ℕ
  pub due : (standing f state).due ≡ Telling participant

to_tell : (f : Flow) (v : Start) (past : List Event) (s id : ℕ) (a : Option (List ℕ)) → IsOrdered v.view → IsLawful f v past → serves f v past s ≡ Some id →
    is_due (state_of f v past id) (item.Told a) ≡ true → history.restores f v past id ≡ None
    → ToTell f v past id
to_tell f v past s id a o law h told none =
    let w = calls_agree f v past s id o law h in
    let call : station_call f id w.state (due_of f w.state.state) ≡ call_of id (nat_lt id v.view.next_id) (due_of f w.state.state) =
    w.call ∙ (ap (λ (r : Option (ℕ × Bool)). call_or id (nat_lt id v.view.next_id) (due_of f (state_of f v past id)) r) none
    ∙ ap (λ (t : TxState). call_of id (nat_lt id v.view.next_id) (due_of f t)) (sym w.same)) in
    let k = told_at f w.state w.state.state.phase w.state.state.rest id (nat_lt id v.view.next_id) (nat_lt w.state.state.told (length w.state.state.joined))
    refl (ap (λ (t : TxState). is_due t (item.Told a)) w.same ∙ told) call in
    record { state = w.state; stands = w.stands; told = ap (λ (t : TxState). t.told) w.same; participant = k.0; due = k.1 }

given_some : (f : Flow) (v : IdView) (o : Option ℕ) (i : ℕ) (x : FullReply) (l : List IdEvent) (id n : ℕ) → o ≡ Some i
    → core.advice f v (given_to o x ∷ l) id n ≡ (if i == id then advised_at (standing_of f (at f v l id)) x (core.advice f v l id) else core.advice f v l id) n
given_some f v None i x l id n e = absurd (cc)
given_some f v (Some k) i x l id n e = let same : k ≡ i = grind (arith, e) in
    ap (λ (j : ℕ). (if j == id then advised_at (standing_of f (at f v l id)) x (core.advice f v l id) else core.advice f v l id) n) same

advised_there : (d : DueCall) (p told m n : ℕ) (a : List ℕ) (old : ℕ → Option (List ℕ)) → d ≡ Telling p → told ≡ m →
    advised d (Advice (Some a)) told old n ≡ (if m == n then Some a else old n)
advised_there d p told m n a old e t = rw (e, t) refl

told_if : (f : Flow) (v : IdView) (l : List IdEvent) (i id n m : ℕ) (a : List ℕ) (xs : List ((ℕ × ℕ) × List ℕ)) (st : FullState) (p : ℕ) →
    at f v l i ≡ Some st → (standing f st).told ≡ m → (standing f st).due ≡ Telling p → core.advice f v l id n ≡ advice_at (id, n) xs
    → (b : Bool) → (i == id) ≡ b → (if b then advised_at (standing_of f (at f v l id)) (Advice (Some a)) (core.advice f v l id) else core.advice f v l id) n
    ≡ (if b && (m == n) then Some a else advice_at (id, n) xs)
told_if f v l i id n m a xs st p there told due ih false e = ih
told_if f v l i id n m a xs st p there told due ih true e =
    let same : i ≡ id = grind (arith, nat_tests) in
    ap (λ (o : Option FullState). advised_at (standing_of f o) (Advice (Some a)) (core.advice f v l id) n) (sym (ap (at f v l) same) ∙ there)
    ∙ (advised_there (standing f st).due p (standing f st).told m n a (core.advice f v l id) due told
    ∙ ap (λ (o : Option (List ℕ)). if m == n then Some a else o) ih)

told_same : (f : Flow) (v : Start) (past : List Event) (s i id n : ℕ) (a : Option (List ℕ)) → IsOrdered v.view → IsLawful f v past →
    serves f v past s ≡ Some i → ToTell f v past i → core.advice f (id_view f v.view) (id_events f v past) id n ≡ advice_at (id, n) (advices f v past)
    → core.advice f (id_view f v.view) (given_to (plant.serves f (id_view f v.view) (session_events f v past) s) (Advice a) ∷ id_events f v past) id n
    ≡ advice_at (id, n) (put_place (put_advice (advice_place f v past s) a) (advices f v past))
told_same f v past s i id n None o law h w ih =
    quiet_given f (id_view f v.view) (plant.serves f (id_view f v.view) (session_events f v past) s) (Advice None) (id_events f v past) id n tt
    ∙ (ih ∙ ap (λ (t : Option ℕ). advice_at (id, n) (put_place (put_advice (place_in f v past t) None) (advices f v past))) (sym h))
told_same f v past s i id n (Some a) o law h w ih =
    given_some f (id_view f v.view) (plant.serves f (id_view f v.view) (session_events f v past) s) i (Advice (Some a)) (id_events f v past) id n
    (serves_agree f v past s o law ∙ h)
    ∙ (told_if f (id_view f v.view) (id_events f v past) i id n (state_of f v past i).told a (advices f v past) w.state w.participant w.stands w.told w.due
    ih (i == id) refl
    ∙ (sym (put_at_place (id, n) (i, (state_of f v past i).told) (Some a) (advices f v past))
    ∙ ap (λ (t : Option ℕ). advice_at (id, n) (put_place (put_advice (place_in f v past t) (Some a)) (advices f v past))) (sym h)))

acked_if : (k id n m : ℕ) (old : ℕ → Option (List ℕ)) (there : Option (List ℕ)) → old n ≡ there → (b : Bool) →
    (if b then without m old else old) n ≡ (if b && (m == n) then None else there)
acked_if k id n m old there ih true = ap (λ (o : Option (List ℕ)). if m == n then None else o) ih
acked_if k id n m old there ih false = ih

pub advices_agree : (f : Flow) (v : Start) (past : List Event) (id n : ℕ) → IsOrdered v.view → IsLawful f v past →
    core.advice f (id_view f v.view) (id_events f v past) id n ≡ advice_at (id, n) (advices f v past)
advices_agree f v [] id n o law = refl
advices_agree f v (Offered x ∷ past) id n o law = advices_agree f v past id n o law.2
advices_agree f v (Taken t ∷ past) id n o law = advices_agree f v past id n o law.2
advices_agree f v (Answered t b x ∷ past) id n o law =
    quiet_given f (id_view f v.view) (plant.serves f (id_view f v.view) (session_events f v past) t) (Answer b x) (id_events f v past) id n tt
    ∙ advices_agree f v past id n o law.2
advices_agree f v (Chose t x ∷ past) id n o law =
    quiet_given f (id_view f v.view) (plant.serves f (id_view f v.view) (session_events f v past) t) (Chosen x) (id_events f v past) id n tt
    ∙ advices_agree f v past id n o law.2
advices_agree f v (Told t a ∷ past) id n o law =
    let h = (holds_serves f v past t law.0.0 law.0.1).0 in
    told_same f v past t law.0.0 id n a o law.2 h (to_tell f v past t law.0.0 a o law.2 h law.0.2 law.0.3) (advices_agree f v past id n o law.2)
advices_agree f v (Recovered t x ∷ past) id n o law =
    quiet_given f (id_view f v.view) (plant.serves f (id_view f v.view) (session_events f v past) t) Restored (id_events f v past) id n tt
    ∙ advices_agree f v past id n o law.2
advices_agree f v (Released ∷ past) id n o law = advices_agree f v past id n o law.2
advices_agree f v (Acked k m ∷ past) id n o law =
    acked_if k id n m (core.advice f (id_view f v.view) (id_events f v past) id) (advice_at (id, n) (advices f v past))
    (advices_agree f v past id n o law.2) (k == id)
    ∙ sym (put_at_place (id, n) (k, m) None (advices f v past))
advices_agree f v (Broke p ∷ past) id n o law = advices_agree f v past id n o law.2
advices_agree f v (Cleared p ∷ past) id n o law = advices_agree f v past id n o law.2
advices_agree f v (LetGo t ∷ past) id n o law = advices_agree f v past id n o law.2
advices_agree f v (Closed k ∷ past) id n o law = advices_agree f v past id n o law.2
