-- What session 0 serves while journalled transactions are recovered, and the last entries of those after.
-- for: whoever keeps of each session whom it serves and where that stands
use Rattle.std.proofs.Common.{◌≡◌, ◌≢◌, ℕ, ◌+◌, ◌<◌, ◌≤◌, true, false, inl, inr, List, [], ◌∷◌, length, Option, Some, None, refl, sym, ◌∙◌, ap, arith}
use Rattle.std.specs.Prelude.{if◌then◌else◌, nat_lt}
use Rattle.std.proofs.lemmas.Bool.Decides.{nat_tests}
use Rattle.flow_model.specs.declared.flow.Flow.{Flow}
use Rattle.tx_machine.specs.declared.values.Item.{Item}
use Rattle.tx_machine.specs.declared.values.Item.TheVariants.{Answer, Choice, Told as ToldOne}
use Rattle.tx_machine.specs.Table.{TxState, next}
use Rattle.tx_history.specs.declared.event.Event.{Event}
use Rattle.tx_history.specs.declared.event.Event.TheVariants.{Offered, Taken, Answered, Chose, Told, Recovered, Released, Acked, Broke, Cleared, LetGo, Closed}
use Rattle.tx_history.specs.Keys.{look}
use Rattle.tx_history.specs.History.{Start, is_ended, is_id, reopened_at, first_unfinished, last_of, or_taken, serves, taken, takes, own_items, recovering}
use Rattle.tx_history.specs.History.{state_of}
use Rattle.tx_history.specs.Held.{session_state, state_of_served}
use Rattle.tx_history.specs.Journal.{IsLawful, IsAccepted}
use Rattle.tx_history.specs.Views.{IsOrdered}
use Rattle.tx_history.proofs.RisingKeys.{look_within}
use Rattle.tx_history.proofs.OwnItems.{found, is_other, taken_from, holds_serves}
use Rattle.tx_history.proofs.GivenItems.{Gave, gave_answered, gave_chose, gave_told}
use Rattle.tx_history.proofs.Sessions.{serves_who, recovered_first, recovered_stays, recovering_below, recovering_other, state_given}
use Rattle.tx_history.proofs.RecoveryOrder.{rows_after, fresh_items, later_none, recovering_next, step_on}

-- without a take no session has taken anything
pub none_taken : (v : Start) (past : List Event) (s : ℕ) → takes past ≡ 0 → taken v past s ≡ None
none_taken v [] s h = refl
none_taken v (Offered c ∷ past) s h = none_taken v past s h
none_taken v (Taken t ∷ past) s h = absurd (omega arith)
none_taken v (Answered t b c ∷ past) s h = none_taken v past s h
none_taken v (Chose t c ∷ past) s h = none_taken v past s h
none_taken v (Told t a ∷ past) s h = none_taken v past s h
none_taken v (Recovered t c ∷ past) s h = none_taken v past s h
none_taken v (Released ∷ past) s h = none_taken v past s h
none_taken v (Acked i n ∷ past) s h = none_taken v past s h
none_taken v (Broke p ∷ past) s h = none_taken v past s h
none_taken v (Cleared p ∷ past) s h = none_taken v past s h
none_taken v (LetGo t ∷ past) s h = none_taken v past s h
none_taken v (Closed i ∷ past) s h = none_taken v past s h

-- j is not k, and has no entry yet
pub record Passes (f : Flow) (v : Start) (past : List Event) (k j : ℕ) : Type 0 where
  pub apart : j ≢ k
  pub none : last_of f v past j ≡ 0

passes : (f : Flow) (v : Start) (past : List Event) (e : Event) (k s id j : ℕ) (x : Item) → IsOrdered v.view → IsAccepted f v past e → Gave f v past e k x →
    serves f v past s ≡ Some k → recovering f v (e ∷ past) ≡ Some id → id < j → j < v.view.next_id
    → ((i : ℕ) → recovering f v past ≡ Some i → i < j → last_of f v past j ≡ 0) → (o : Option ℕ) → recovering f v past ≡ o → Passes f v past k j
passes f v past e k s id j x o acc g h r lt le ih None was = absurd (let n = recovered_stays f v past e o acc was in cc)
passes f v past e k s id j x o acc g h r lt le ih (Some i) was = elim (serves_who f v past s k h) [
  | inl a ↦ (let same : k ≡ i = (let w = a.0 in grind (arith)) in
      let on : k ≤ id = step_on f v.view.rows (own_items f v past) (own_items f v (e ∷ past)) 1 v.view.next_id k id o.rows g.others a.0 r in
      record { apart = λ z. omega arith; none = ih k a.0 (omega arith) })
  | inr a ↦ (let above = taken_from v past s k a in
      let still : recovering f v (e ∷ past) ≡ recovering f v past = recovering_other f v past e k x o g above in
      let eq : Some i ≡ Some id = sym was ∙ (sym still ∙ r) in
      let same : i ≡ id = grind (arith) in
      record { apart = λ z. omega arith; none = ih i was (omega arith) })
]

-- an entry for a transaction is not one of another's
last_other : (f : Flow) (v : Start) (past : List Event) (s k j n : ℕ) → serves f v past s ≡ Some k → Passes f v past k j →
    (if is_id (serves f v past s) j then n else last_of f v past j) ≡ 0
last_other f v past s k j n h p = rw (is_other (serves f v past s) k j h p.apart) p.none

-- a session that serves somebody while a journalled one is recovered serves that one, or one that was taken
restored_apart : (f : Flow) (v : Start) (past : List Event) (s k id j : ℕ) → serves f v past s ≡ Some k → recovering f v past ≡ Some id → id < j →
    j < v.view.next_id → j ≢ k
restored_apart f v past s k id j h r lt le z = elim (serves_who f v past s k h) [
  | inl a ↦ (let same : k ≡ id = (let w = a.0 in grind (arith)) in omega arith)
  | inr a ↦ (let above = taken_from v past s k a in omega arith)
]

-- those after the one that is being recovered have no entry yet
pub last_none : (f : Flow) (v : Start) (past : List Event) (id j : ℕ) → IsOrdered v.view → IsLawful f v past → recovering f v past ≡ Some id → id < j →
    j < v.view.next_id → last_of f v past j ≡ 0
last_none f v [] id j o law h lt le = refl
last_none f v (Offered c ∷ past) id j o law h lt le = last_none f v past id j o law.2 h lt le
last_none f v (Taken t ∷ past) id j o law h lt le = absurd (let n = law.0.0 in cc)
last_none f v (Answered t b x ∷ past) id j o law h lt le =
    let w = holds_serves f v past t law.0.0 law.0.1 in
    last_other f v past t law.0.0 j (length past + 1) w.0
    (passes f v past (Answered t b x) law.0.0 t id j (Answer b x) o law.0 (gave_answered f v past t b x law.0.0 w.0) w.0 h lt le
    (λ i k l. last_none f v past i j o law.2 k l le) (recovering f v past) refl)
last_none f v (Chose t x ∷ past) id j o law h lt le =
    let w = holds_serves f v past t law.0.0 law.0.1 in
    last_other f v past t law.0.0 j (length past + 1) w.0
    (passes f v past (Chose t x) law.0.0 t id j (Choice x) o law.0 (gave_chose f v past t x law.0.0 w.0) w.0 h lt le
    (λ i k l. last_none f v past i j o law.2 k l le) (recovering f v past) refl)
last_none f v (Told t x ∷ past) id j o law h lt le =
    let w = holds_serves f v past t law.0.0 law.0.1 in
    last_other f v past t law.0.0 j (length past + 1) w.0
    (passes f v past (Told t x) law.0.0 t id j (ToldOne x) o law.0 (gave_told f v past t x law.0.0 w.0) w.0 h lt le
    (λ i k l. last_none f v past i j o law.2 k l le) (recovering f v past) refl)
last_none f v (Recovered t c ∷ past) id j o law h lt le =
    let w = holds_serves f v past t law.0.0 law.0.2 in
    last_other f v past t law.0.0 j (length past + 1) w.0
    (record { apart = restored_apart f v past t law.0.0 id j w.0 h lt le; none = last_none f v past id j o law.2 h lt le })
last_none f v (Released ∷ past) id j o law h lt le = last_none f v past id j o law.2 h lt le
last_none f v (Acked i n ∷ past) id j o law h lt le = last_none f v past id j o law.2 h lt le
last_none f v (Broke p ∷ past) id j o law h lt le = last_none f v past id j o law.2 h lt le
last_none f v (Cleared p ∷ past) id j o law h lt le = last_none f v past id j o law.2 h lt le
last_none f v (LetGo t ∷ past) id j o law h lt le = last_none f v past id j o law.2 h lt le
last_none f v (Closed i ∷ past) id j o law h lt le = last_none f v past id j o law.2 h lt le

-- the first one after it with somebody to notify
abbrev pub next_one : Flow → Start → ℕ → Option ℕ
next_one f v id = first_unfinished f (rows_after id v.view.rows) fresh_items

-- that one as its row says
abbrev pub next_reopened : Flow → Start → Option ℕ → Option (ℕ × TxState)
next_reopened f v None = None
next_reopened f v (Some j) = Some (j, reopened_at f (look j v.view.rows))

-- while it goes on, session 0 still serves it
pub session_goes_on : (f : Flow) (v : Start) (past : List Event) (e : Event) (id : ℕ) (x : Item) → IsOrdered v.view → IsLawful f v past →
    Gave f v past e id x → recovering f v past ≡ Some id
    → is_ended f (next f (state_of f v past id) x) ≡ false → session_state f v (e ∷ past) 0 ≡ Some (id, next f (state_of f v past id) x)
session_goes_on f v past e id x o law g h going =
    let given = state_given f v past e id x g in
    let still : recovering f v (e ∷ past) ≡ Some id = recovering_next f v past e id x o law g h ∙ (rw (given, going) refl) in
    ap (λ (r : Option ℕ). state_of_served f v (e ∷ past) (or_taken r (taken v (e ∷ past) 0))) still ∙ ap (λ (s : TxState). Some (id, s)) given

-- the one that is recovered next comes after it
pub next_after : (f : Flow) (v : Start) (past : List Event) (e : Event) (id j : ℕ) (x : Item) → IsOrdered v.view → IsLawful f v past →
    Gave f v past e id x → recovering f v past ≡ Some id
    → recovering f v (e ∷ past) ≡ Some j → j ≢ id → (id < j) × (j < v.view.next_id)
next_after f v past e id j x o law g h r apart =
    let on : id ≤ j = step_on f v.view.rows (own_items f v past) (own_items f v (e ∷ past)) 1 v.view.next_id id j o.rows g.others h r in
    let below = recovering_below f v (e ∷ past) j o r in
    (omega (arith, apart), below)

-- one after it is in the state that its row says
reopened_as : (f : Flow) (v : Start) (past : List Event) (e : Event) (id j : ℕ) (x : Item) → IsOrdered v.view → IsLawful f v past → Gave f v past e id x →
    recovering f v past ≡ Some id → id < j → j < v.view.next_id
    → state_of f v (e ∷ past) j ≡ reopened_at f (look j v.view.rows)
reopened_as f v past e id j x o law g h lt le =
    let none : own_items f v (e ∷ past) j ≡ [] = g.others j (λ z. omega arith) ∙ later_none f v past id j o law h lt le in
    let low : nat_lt j v.view.next_id ≡ true = grind (arith, nat_tests) in
    rw (none, low) refl

-- one that is over is not recovered
over_apart : (f : Flow) (v : Start) (past : List Event) (id j : ℕ) → IsOrdered v.view → recovering f v past ≡ Some j →
    is_ended f (state_of f v past id) ≡ true → j ≢ id
over_apart f v past id j o h over z =
    let w = found f v.view.rows (own_items f v past) 1 v.view.next_id j o.rows h in
    let l : j < v.view.next_id = (look_within v.view.rows 1 v.view.next_id j w.row o.rows w.there).1 in
    let low : nat_lt j v.view.next_id ≡ true = grind (arith, nat_tests) in
    let going : is_ended f (state_of f v past j) ≡ false = rw (low, w.there) w.unfinished in
    let same : is_ended f (state_of f v past j) ≡ is_ended f (state_of f v past id) = ap (λ (i : ℕ). is_ended f (state_of f v past i)) z in
    cc

-- when it is over, session 0 serves the next one, as its row says, or nobody
pub session_goes_to_next : (f : Flow) (v : Start) (past : List Event) (e : Event) (id : ℕ) (x : Item) → IsOrdered v.view → IsLawful f v past →
    Gave f v past e id x → recovering f v past ≡ Some id
    → taken v (e ∷ past) 0 ≡ taken v past 0 → is_ended f (next f (state_of f v past id) x) ≡ true →
    session_state f v (e ∷ past) 0 ≡ next_reopened f v (next_one f v id)
session_goes_to_next f v past e id x o law g h same over =
    let given = state_given f v past e id x g in
    let ended : is_ended f (state_of f v (e ∷ past) id) ≡ true = rw given over in
    let now : recovering f v (e ∷ past) ≡ next_one f v id = recovering_next f v past e id x o law g h ∙ (rw ended refl) in
    let free : taken v (e ∷ past) 0 ≡ None = same ∙ none_taken v past 0 (recovered_first f v past id o law h) in
    ap (λ (r : Option ℕ). state_of_served f v (e ∷ past) (or_taken r (taken v (e ∷ past) 0))) now ∙ by (next_one f v id) (now) ended free
  where
    by : (r : Option ℕ) → recovering f v (e ∷ past) ≡ r → is_ended f (state_of f v (e ∷ past) id) ≡ true → taken v (e ∷ past) 0 ≡ None →
        state_of_served f v (e ∷ past) (or_taken r (taken v (e ∷ past) 0)) ≡ next_reopened f v r
    by None now ended free = rw free refl
    by (Some j) now ended free =
        let w = next_after f v past e id j x o law g h now (over_apart f v (e ∷ past) id j o now ended) in
        ap (λ (s : TxState). Some (j, s)) (reopened_as f v past e id j x o law g h w.0 w.1)

-- and the next one has no entry yet
pub last_of_next : (f : Flow) (v : Start) (past : List Event) (e : Event) (id j : ℕ) (x : Item) → IsOrdered v.view → IsLawful f v (e ∷ past) →
    Gave f v past e id x → recovering f v past ≡ Some id
    → is_ended f (next f (state_of f v past id) x) ≡ true → recovering f v (e ∷ past) ≡ Some j → last_of f v past j ≡ 0
last_of_next f v past e id j x o law g h over r =
    let given = state_given f v past e id x g in
    let ended : is_ended f (state_of f v (e ∷ past) id) ≡ true = rw given over in
    let w = next_after f v past e id j x o law.2 g h r (over_apart f v (e ∷ past) id j o r ended) in
    last_none f v past id j o law.2 h w.0 w.1
