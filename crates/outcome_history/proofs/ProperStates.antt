-- The table's bounds hold of every transaction of a lawful history, also of journalled ones.
-- for: laws::journals_agree
use Rattle.std.proofs.Common.{◌≡◌, ◌≢◌, ℕ, ◌-◌, ◌<◌, ◌≤◌, Bool, true, false, List, [], ◌∷◌, length, map, Option, Some, None, refl, sym, ◌∙◌, subst, arith}
use Rattle.std.specs.Prelude.{if◌then◌else◌, slice_get, ◌==◌, nat_lt}
use Rattle.std.proofs.lemmas.Bool.Decides.{nat_tests}
use Rattle.std.proofs.lemmas.List.Elements.{All-nil, All-map}
use Rattle.flow_model.specs.declared.flow.Flow.{Flow}
use Rattle.flow_model.specs.Places.{parts_of}
use Rattle.tx_machine.specs.declared.values.Item.{Item}
use Rattle.tx_machine.specs.declared.values.Item.TheVariants as item
use Rattle.tx_machine.specs.Table.{is_open, is_due}
use Rattle.tx_machine.specs.Bounds.{IsProper}
use Rattle.tx_machine.proofs.BoundLaws.{next_proper, opening_proper, reopening_proper}
use Rattle.tx_history.specs.declared.event.Event.{Event}
use Rattle.tx_history.specs.declared.event.Event.TheVariants.{Offered, Taken, Answered, Chose, Told, Recovered, Released, Acked, Broke, Cleared, LetGo, Closed}
use Rattle.tx_history.specs.declared.journal.Row.{Row}
use Rattle.tx_history.specs.declared.journal.WaitingContext.{WaitingContext}
use Rattle.tx_history.specs.Keys.{look}
use Rattle.tx_history.specs.History.{Start, number_of, is_committing, to_tell, no_state, reopened_at, begun, first, own_items, arrivals, next_id, state_of}
use Rattle.tx_history.specs.Journal.{IsLawful}
use Rattle.tx_history.specs.Views.{RowFits, StartFits}
use Rattle.tx_history.proofs.OwnItems.{holds_serves}
use Rattle.tx_history.proofs.GivenItems.{Gave, gave_answered, gave_chose, gave_told, state_other}
use Rattle.tx_history.proofs.Sessions.{state_given, state_more, state_released}
use Rattle.tx_history.proofs.SoundJournals.{length_numbers, members_told, own_none}
use Rattle.outcome_history.proofs.OpeningClosings.{more_names}

-- before any event

none_proper : (f : Flow) → IsProper f no_state
none_proper f = reopening_proper f false [] 0 0 [] (omega arith) (omega arith) (All-nil (λ p. p < length (parts_of f)))

told_within : (f : Flow) (r : Row) (b : Bool) → is_open r.phase ≡ b → RowFits r → r.told ≤ length (map (number_of f) (to_tell r r.doing))
told_within f r true e fits = let none : r.told ≡ 0 = (fits.untold e).0 in omega arith
told_within f r false e fits =
    let less : r.told < length r.joined = (fits.telling e).1 in
    let more : length r.joined ≤ length (to_tell r r.doing) = more_names r r.doing in
    let same : length (map (number_of f) (to_tell r r.doing)) ≡ length (to_tell r r.doing) = length_numbers f (to_tell r r.doing) in
    omega arith

few_told : (f : Flow) (r : Row) → RowFits r → length (map (number_of f) (to_tell r r.doing)) ≤ 1001
few_told f r fits =
    let few : length (to_tell r r.doing) ≤ 1001 = members_told r r.doing refl fits in
    let same : length (map (number_of f) (to_tell r r.doing)) ≡ length (to_tell r r.doing) = length_numbers f (to_tell r r.doing) in
    omega arith

reopened_proper : (f : Flow) (v : Start) (id : ℕ) (o : Option Row) → look id v.view.rows ≡ o → StartFits f v → IsProper f (reopened_at f o)
reopened_proper f v id None e st = none_proper f
reopened_proper f v id (Some r) e st =
    let fits = st.view.rows id r e in
    reopening_proper f (is_committing r.phase) (map (number_of f) (to_tell r r.doing)) r.told r.tries r.context
    (told_within f r (is_open r.phase) refl fits) (few_told f r fits)
    (All-map (λ p. p < length (parts_of f)) (number_of f) (to_tell r r.doing) (st.knows id r e))

begun_proper : (f : Flow) (o : Option WaitingContext) → IsProper f (begun f o)
begun_proper f None = none_proper f
begun_proper f (Some w) = opening_proper f w.tries w.context

first_if : (f : Flow) (v : Start) (ws : List WaitingContext) (id : ℕ) (b : Bool) → StartFits f v →
    IsProper f (if b then reopened_at f (look id v.view.rows) else begun f (slice_get ws (id - v.view.next_id)))
first_if f v ws id true st = reopened_proper f v id (look id v.view.rows) refl st
first_if f v ws id false st = begun_proper f (slice_get ws (id - v.view.next_id))

first_proper : (f : Flow) (v : Start) (ws : List WaitingContext) (id : ℕ) → StartFits f v → IsProper f (first f v ws id)
first_proper f v ws id st = first_if f v ws id (nat_lt id v.view.next_id) st

-- after each event

given_if : (f : Flow) (v : Start) (past : List Event) (e : Event) (id : ℕ) (x : Item) (j : ℕ) → Gave f v past e id x →
    is_due (state_of f v past id) x ≡ true → ((k : ℕ) → IsProper f (state_of f v past k))
    → (b : Bool) → (j == id) ≡ b → IsProper f (state_of f v (e ∷ past) j)
given_if f v past e id x j g due all true at =
    let same : j ≡ id = grind (arith, nat_tests) in
    subst (λ (i : ℕ). IsProper f (state_of f v (e ∷ past) i)) (sym same)
    (subst (IsProper f) (sym (state_given f v past e id x g)) (next_proper f (state_of f v past id) x due (all id)))
given_if f v past e id x j g due all false at = let differ : j ≢ id = grind (arith, nat_tests) in
    subst (IsProper f) (sym (state_other f v past e id x j g differ)) (all j)

given_proper : (f : Flow) (v : Start) (past : List Event) (e : Event) (id : ℕ) (x : Item) (j : ℕ) → Gave f v past e id x →
    is_due (state_of f v past id) x ≡ true → ((k : ℕ) → IsProper f (state_of f v past k)) → IsProper f (state_of f v (e ∷ past) j)
given_proper f v past e id x j g due all = given_if f v past e id x j g due all (j == id) refl

more_if : (f : Flow) (v : Start) (past : List Event) (e : Event) (id : ℕ) → StartFits f v → own_items f v (e ∷ past) id ≡ own_items f v past id →
    (id < next_id v past → state_of f v (e ∷ past) id ≡ state_of f v past id)
    → IsProper f (state_of f v past id) → (b : Bool) → nat_lt id (next_id v past) ≡ b → IsProper f (state_of f v (e ∷ past) id)
more_if f v past e id st own same p true lt = let low : id < next_id v past = grind (arith, nat_tests) in subst (IsProper f) (sym (same low)) p
more_if f v past e id st own same p false lt =
    let above : next_id v past ≤ id = grind (arith, nat_tests) in
    let none : own_items f v (e ∷ past) id ≡ [] = own ∙ own_none f v past id st.view.ordered above in
    rw none (first_proper f v (arrivals f v (e ∷ past)) id st)

pub proper_state : (f : Flow) (v : Start) (past : List Event) (id : ℕ) → StartFits f v → IsLawful f v past → IsProper f (state_of f v past id)
proper_state f v [] id st law = first_proper f v v.queue id st
proper_state f v (Offered c ∷ past) id st law =
    more_if f v past (Offered c) id st refl (state_more f v past c id st.view.ordered law.2) (proper_state f v past id st law.2)
    (nat_lt id (next_id v past)) refl
proper_state f v (Released ∷ past) id st law =
    more_if f v past Released id st refl (state_released f v past id st.view.ordered law.2) (proper_state f v past id st law.2) (nat_lt id (next_id v past))
    refl
proper_state f v (Answered s b c ∷ past) id st law =
    let g = gave_answered f v past s b c law.0.0 (holds_serves f v past s law.0.0 law.0.1).0 in
    given_proper f v past (Answered s b c) law.0.0 (item.Answer b c) id g law.0.2 (λ k. proper_state f v past k st law.2)
proper_state f v (Chose s t ∷ past) id st law =
    let g = gave_chose f v past s t law.0.0 (holds_serves f v past s law.0.0 law.0.1).0 in
    given_proper f v past (Chose s t) law.0.0 (item.Choice t) id g law.0.2 (λ k. proper_state f v past k st law.2)
proper_state f v (Told s a ∷ past) id st law =
    let g = gave_told f v past s a law.0.0 (holds_serves f v past s law.0.0 law.0.1).0 in
    given_proper f v past (Told s a) law.0.0 (item.Told a) id g law.0.2 (λ k. proper_state f v past k st law.2)
proper_state f v (Taken t ∷ past) id st law = proper_state f v past id st law.2
proper_state f v (Recovered t x ∷ past) id st law = proper_state f v past id st law.2
proper_state f v (Acked k n ∷ past) id st law = proper_state f v past id st law.2
proper_state f v (Broke p ∷ past) id st law = proper_state f v past id st law.2
proper_state f v (Cleared p ∷ past) id st law = proper_state f v past id st law.2
proper_state f v (LetGo t ∷ past) id st law = proper_state f v past id st law.2
proper_state f v (Closed k ∷ past) id st law = proper_state f v past id st law.2
