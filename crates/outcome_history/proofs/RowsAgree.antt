-- The rows that a lawful history leaves, by name in its journal and by number in the outcome law's.
-- for: laws::journals_agree
use Rattle.std.proofs.Common.{◌≡◌, ℕ, ◌+◌, ◌<◌, ◌≤◌, Bool, true, false, List, [], ◌∷◌, map, length, Option, Some, None, refl, sym, ◌∙◌, ap, arith}
use Rattle.std.specs.Prelude.{if◌then◌else◌, ◌==◌, nat_lt, option_map}
use Rattle.std.specs.List.{All}
use Rattle.std.specs.Option.{option_map_or}
use Rattle.std.proofs.lemmas.Bool.Decides.{nat_tests}
use Rattle.std.proofs.lemmas.List.Elements.{All-head, All-tail}
use Rattle.std.proofs.lemmas.Option.{slice_get-get_or}
use Rattle.flow_model.specs.declared.flow.Flow.{Flow}
use Rattle.flow_model.specs.declared.numbering.Part.{Part}
use Rattle.flow_model.specs.Places.{parts_of, number_in}
use Rattle.sw_seating.specs.Seating.{AreNumbered}
use Rattle.tx_machine.specs.declared.values.Item.{Item}
use Rattle.tx_machine.specs.declared.values.Item.TheVariants as item
use Rattle.tx_machine.specs.Table.{TxState}
use Rattle.tx_machine.specs.Bounds.{IsProper, after_newest}
use Rattle.tx_machine.specs.Row.{Row as TxRow, IsDoing, IsRow, row_of}
use Rattle.tx_machine.proofs.BoundLaws.{row_bounded}
use Rattle.outcome_calls.specs.One.{standing_row}
use Rattle.outcome_calls.specs.States.{FullState, own, standing}
use Rattle.outcome_calls.specs.Core.{at, standing_of}
use Rattle.tx_history.specs.declared.event.Event.{Event}
use Rattle.tx_history.specs.declared.event.Event.TheVariants.{Offered, Taken, Answered, Chose, Told, Recovered, Released, Acked, Broke, Cleared, LetGo, Closed}
use Rattle.tx_history.specs.declared.journal.Row.{Row}
use Rattle.tx_history.specs.Keys.{look}
use Rattle.tx_history.specs.History.{Start, name_of, number_of, is_id, own_items, next_id, takes, ids, reopened, serves, state_of}
use Rattle.tx_history.specs.Journal.{IsLawful, is_closed, journal, named_row, old_row, row, row_at}
use Rattle.tx_history.specs.Views.{IsOrdered, StartFits}
use Rattle.tx_history.proofs.RisingKeys.{look_below}
use Rattle.tx_history.proofs.Lookups.{gathered_not, gathered_at}
use Rattle.outcome_history.specs.Looked.{numbered, id_view}
use Rattle.outcome_history.specs.Sessions.{opened_since, journalled, full_state, id_events, restored}
use Rattle.outcome_history.proofs.StatesAgree.{states_agree}
use Rattle.outcome_history.proofs.StandingStates.{untaken}
use Rattle.outcome_history.proofs.RestoredAgree.{no_reply}
use Rattle.outcome_history.proofs.CallsAgree.{recovered_id}
use Rattle.outcome_history.proofs.ProperStates.{proper_state}
use Rattle.tx_history.proofs.OwnItems.{old_state}

-- numbers of names

nobody : Part
nobody = record { name = []; kind = record { selector = false; abort_aware = false; recovers = false } }

number_back : (f : Flow) (p : ℕ) → AreNumbered (parts_of f) → p < length (parts_of f) → number_of f (name_of f p) ≡ p
number_back f p all lt =
    ap (λ (o : Option Part). number_in (parts_of f) (option_map_or (λ (x : Part). x.name) o [])) (slice_get-get_or (parts_of f) p nobody lt) ∙ all p nobody lt

numbers_back : (f : Flow) (ps : List ℕ) → AreNumbered (parts_of f) → All (λ p. p < length (parts_of f)) ps → map (number_of f) (map (name_of f) ps) ≡ ps
numbers_back f [] all h = refl
numbers_back f (p ∷ ps) all h =
    let one : number_of f (name_of f p) ≡ p = number_back f p all (All-head (λ p. p < length (parts_of f)) p ps h) in
    rw (one, numbers_back f ps all (All-tail (λ p. p < length (parts_of f)) p ps h)) refl

doing_back : (f : Flow) (o : Option ℕ) → AreNumbered (parts_of f) → IsDoing (length (parts_of f)) o → option_map (number_of f) (option_map (name_of f) o) ≡ o
doing_back f None all h = refl
doing_back f (Some p) all h = ap Some (number_back f p all h)

-- a row that is named and numbered again
row_back : (f : Flow) (r : TxRow) → AreNumbered (parts_of f) → IsRow f r → numbered f (named_row f r) ≡ r
row_back f r all fits =
    ap (λ (js : List ℕ). record {
      phase = r.phase;
      joined = js;
      told = r.told;
      doing = option_map (number_of f) (option_map (name_of f) r.doing);
      tries =
          r.tries;
      saved = r.saved;
    }) (numbers_back f r.joined all fits.members)
    ∙ ap (λ (d : Option ℕ). record { phase = r.phase; joined = r.joined; told = r.told; doing = d; tries = r.tries; saved = r.saved })
    (doing_back f r.doing all fits.doing)

rows_back : (f : Flow) (st : TxState) → AreNumbered (parts_of f) → IsProper f st → (o : Option TxRow) → row_of f st ≡ o →
    o ≡ option_map (numbered f) (option_map (named_row f) o)
rows_back f st all p None e = refl
rows_back f st all p (Some r) e = ap Some (sym (row_back f r all (row_bounded f st r p e)))

-- of one with a member notified, or one of this life
state_row : (f : Flow) (st : FullState) → AreNumbered (parts_of f) → IsProper f st.state → (o : Option TxRow) → st.opened ≡ o → o ≡ None →
    (standing f st).row ≡ option_map (numbered f) (row f st.state)
state_row f st all p None e n = rw e (rows_back f st.state all p (row_of f st.state) refl)
state_row f st all p (Some r) e n = absurd (cc)

-- the items of a journalled transaction are outcomes

abbrev pub AreTold : List Item → Type 0
AreTold [] = Unit {0}
AreTold (item.Answer b c ∷ xs) = ⊥
AreTold (item.Choice t ∷ xs) = ⊥
AreTold (item.Told a ∷ xs) = AreTold xs

told_if : (o : Option ℕ) (id : ℕ) (x : Item) (xs : List Item) → (o ≡ Some id → AreTold (x ∷ xs)) → AreTold xs → AreTold (if is_id o id then x ∷ xs else xs)
told_if None id x xs here rest = rest
told_if (Some k) id x xs here rest = by (k == id) refl
  where
    by : (b : Bool) → (k == id) ≡ b → AreTold (if b then x ∷ xs else xs)
    by true e = here (let same : k ≡ id = grind (arith, nat_tests) in ap Some same)
    by false e = rest

pub old_items : (f : Flow) (v : Start) (past : List Event) (id : ℕ) → IsOrdered v.view → IsLawful f v past → id < v.view.next_id →
    AreTold (own_items f v past id)
old_items f v [] id o law lt = tt
old_items f v (Offered x ∷ past) id o law lt = old_items f v past id o law.2 lt
old_items f v (Taken t ∷ past) id o law lt = old_items f v past id o law.2 lt
old_items f v (Answered t b x ∷ past) id o law lt =
    told_if (serves f v past t) id (item.Answer b x) (own_items f v past id)
    (λ h. no_reply f v past t law.0.0 id _ o law.2 (recovered_id f v past t id h lt) law.0.1 law.0.2) (old_items f v past id o law.2 lt)
old_items f v (Chose t x ∷ past) id o law lt =
    told_if (serves f v past t) id (item.Choice x) (own_items f v past id) (λ h. no_reply f v past t law.0.0 id _ o law.2 (recovered_id f v past t id h lt)
    law.0.1 law.0.2) (old_items f v past id o law.2 lt)
old_items f v (Told t x ∷ past) id o law lt = let rest = old_items f v past id o law.2 lt in
    told_if (serves f v past t) id (item.Told x) (own_items f v past id) (λ h. rest) rest
old_items f v (Recovered t x ∷ past) id o law lt = old_items f v past id o law.2 lt
old_items f v (Released ∷ past) id o law lt = old_items f v past id o law.2 lt
old_items f v (Acked k n ∷ past) id o law lt = old_items f v past id o law.2 lt
old_items f v (Broke p ∷ past) id o law lt = old_items f v past id o law.2 lt
old_items f v (Cleared p ∷ past) id o law lt = old_items f v past id o law.2 lt
old_items f v (LetGo t ∷ past) id o law lt = old_items f v past id o law.2 lt
old_items f v (Closed k ∷ past) id o law lt = old_items f v past id o law.2 lt

since_told : (r : TxRow) (x : Item) (xs : List Item) → AreTold (x ∷ xs) → opened_since r (x ∷ xs) ≡ None
since_told r (item.Answer b c) xs h = absurd h
since_told r (item.Choice t) xs h = absurd h
since_told r (item.Told a) xs h = refl

-- the row of a journalled transaction
old_rows : (f : Flow) (o : Option Row) (c : Bool) (items : List Item) (back : Bool) → AreNumbered (parts_of f) →
    ((r : Row) → o ≡ Some r → IsProper f (after_newest f (reopened f r) items)) → AreTold items
    → standing_row (standing_of f (journalled f o c items back)) ≡ option_map (numbered f) (old_row f o c items)
old_rows f None c items back all p told = refl
old_rows f (Some r) true items back all p told = refl
old_rows f (Some r) false [] back all p told = refl
old_rows f (Some r) false (x ∷ xs) back all p told =
    state_row f (record {
      state = after_newest f (reopened f r) (x ∷ xs);
      opened = opened_since (numbered f r) (x ∷ xs);
      recovered = true;
      restored =
          back;
    }) all (p r refl) (opened_since (numbered f r) (x ∷ xs)) refl (since_told (numbered f r) x xs told)

rows_if : (f : Flow) (v : Start) (past : List Event) (id : ℕ) → AreNumbered (parts_of f) → StartFits f v → IsLawful f v past → id < next_id v past →
    (b : Bool) → nat_lt id v.view.next_id ≡ b
    → standing_row (standing_of f (full_state f v past id)) ≡ option_map (numbered f) (row_at f v past id)
rows_if f v past id all st law lt true e =
    let low : id < v.view.next_id = grind (arith, nat_tests) in
    rw e (old_rows f (look id v.view.rows) (is_closed past id) (own_items f v past id) (restored f v past id) all
    (λ r h. rw (old_state f v past id r e h) at (proper_state f v past id st law))
    (old_items f v past id st.view.ordered law low))
rows_if f v past id all st law lt false e =
    let new : nat_lt id (v.view.next_id + takes past) ≡ true = grind (arith, nat_tests) in
    let full : full_state f v past id ≡ Some (own (state_of f v past id)) = rw (e, new) refl in
    let named : row_at f v past id ≡ row f (state_of f v past id) = rw e refl in
    ap (λ (s : Option FullState). standing_row (standing_of f s)) full
    ∙ (state_row f (own (state_of f v past id)) all (proper_state f v past id st law) None refl refl ∙ ap (option_map (numbered f)) (sym named))

-- each row

no_row_at_0 : (f : Flow) (v : Start) (past : List Event) → IsOrdered v.view → row_at f v past 0 ≡ None
no_row_at_0 f v past o =
    let first = o.next in
    let old : nat_lt 0 v.view.next_id ≡ true = grind (arith, nat_tests) in
    rw (old, look_below v.view.rows 1 v.view.next_id 0 o.rows (omega arith)) refl

row_here : (f : Flow) (v : Start) (past : List Event) (id : ℕ) → IsOrdered v.view → id < next_id v past → (b : Bool) → (id == 0) ≡ b →
    row_at f v past id ≡ look id (journal f v past).rows
row_here f v past id o lt true e =
    let none : id ≡ 0 = grind (arith, nat_tests) in
    rw none (no_row_at_0 f v past o ∙ sym (gathered_not (row_at f v past) 1 (ids v past) 0 (λ a b. omega arith)))
row_here f v past id o lt false e =
    let some : 1 ≤ id = grind (arith, nat_tests) in
    sym (gathered_at (row_at f v past) 1 (ids v past) id some (omega arith))

row_if : (f : Flow) (v : Start) (past : List Event) (id : ℕ) → AreNumbered (parts_of f) → StartFits f v → IsLawful f v past → (b : Bool) →
    nat_lt id (next_id v past) ≡ b
    → standing_row (standing_of f (at f (id_view f v.view) (id_events f v past) id)) ≡ option_map (numbered f) (look id (journal f v past).rows)
row_if f v past id all st law true e =
    let lt : id < next_id v past = grind (arith, nat_tests) in
    ap (λ (s : Option FullState). standing_row (standing_of f s)) (states_agree f v past st.view.ordered law id)
    ∙ (rows_if f v past id all st law lt (nat_lt id v.view.next_id) refl ∙ ap (option_map (numbered f))
    (row_here f v past id st.view.ordered lt (id == 0) refl))
row_if f v past id all st law false e =
    let first = st.view.ordered.next in
    let above : next_id v past ≤ id = grind (arith, nat_tests) in
    ap (λ (s : Option FullState). standing_row (standing_of f s)) (untaken f v past id st.view.ordered law above)
    ∙ ap (option_map (numbered f)) (sym (gathered_not (row_at f v past) 1 (ids v past) id (λ a b. omega arith)))

pub rows_agree : (f : Flow) (v : Start) (past : List Event) (id : ℕ) → AreNumbered (parts_of f) → StartFits f v → IsLawful f v past
    → standing_row (standing_of f (at f (id_view f v.view) (id_events f v past) id)) ≡ option_map (numbered f) (look id (journal f v past).rows)
rows_agree f v past id all st law = row_if f v past id all st law (nat_lt id (next_id v past)) refl
