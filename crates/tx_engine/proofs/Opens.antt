-- What an opening leaves an engine with.
-- for: engine::opening::open
use Rattle.std.proofs.Common.{◌≡◌, ◌≢◌, ℕ, ◌+◌, ◌≤◌, Bool, true, false, List, [], ◌∷◌, length, Option, Some, None, refl, sym, ◌∙◌, ap, subst, arith, suc, zero}
use Rattle.std.proofs.Common.{replicate}
use Rattle.std.specs.Prelude.{slice_get, slice_set, ◌==◌, nat_lt, is_some, option_map}
use Rattle.std.proofs.lemmas.Bool.Decides.{nat_tests}
use Rattle.flow_model.specs.declared.flow.Flow.{Flow}
use Rattle.flow_model.specs.Places.{parts_of}
use Rattle.tx_machine.specs.Table.{TxState}
use Rattle.tx_history.specs.declared.event.Event.{Event}
use Rattle.tx_history.specs.declared.event.Event.TheVariants.{Closed}
use Rattle.tx_history.specs.declared.event.Entry.{Entry}
use Rattle.tx_history.specs.declared.journal.JournalView.{JournalView}
use Rattle.tx_history.specs.declared.journal.Row.{Row}
use Rattle.tx_history.specs.declared.journal.WaitingContext.{WaitingContext}
use Rattle.tx_history.specs.History.{Start, first_unfinished, has_break, is_let_go, is_restored, last_of, next_id, or_taken, queue, recovering, shelf}
use Rattle.tx_history.specs.Held.{session_state, state_of_served}
use Rattle.tx_history.specs.Journal.{advices, entries, to_close}
use Rattle.tx_history.specs.Lives.{closes_of, opened}
use Rattle.tx_history.specs.Views.{AreSessions, AreSpelled, FlowFits, IsOrdered, StartFits}
use Rattle.tx_history.proofs.Changes.{journal_first}
use Rattle.tx_history.proofs.NextStarts.{opened_lawful}
use Rattle.tx_history.proofs.RecoveredSessions.{next_reopened}
use Rattle.tx_history.proofs.RecoveryOrder.{fresh_items, filter_above}
use Rattle.tx_history.proofs.Sessions.{recovering_below}
use Rattle.tx_slots.specs.declared.slot.Slot.{Slot}
use Rattle.tx_slots.specs.declared.slot.Slot.TheVariants.{Free}
use Rattle.tx_engine.specs.Opening.{first_start, opened_world}
use Rattle.tx_slots.specs.Rows.{IsNextSlot, next_row}
use Rattle.tx_slots.specs.Slots.{flag, is_holding}
use Rattle.tx_engine.specs.Kept.{Kept, Running, SlotIs, going_on, past_of, world}
use Rattle.tx_engine.proofs.Gives.{next_found, next_going, next_made, row_holding}
use Rattle.tx_engine.proofs.Keeps.{past_snoc, set_slots, length_set}
use Rattle.tx_engine.proofs.Turns.{next_is}

-- closing entries leave all but the rows

pub closes_same : {A : Type 0} (g : List Event → A) → ((id : ℕ) (past : List Event) → g (Closed id ∷ past) ≡ g past) → (ids : List ℕ) (past : List Event) →
    g (closes_of ids past) ≡ g past
closes_same g h [] past = refl
closes_same g h (id ∷ ids) past = closes_same g h ids (Closed id ∷ past) ∙ h id past

closes_sessions : (n : ℕ) (ids : List ℕ) (past : List Event) → AreSessions n past → AreSessions n (closes_of ids past)
closes_sessions n [] past h = h
closes_sessions n (id ∷ ids) past h = closes_sessions n ids (Closed id ∷ past) h

closes_spelled : (ids : List ℕ) (past : List Event) → AreSpelled past → AreSpelled (closes_of ids past)
closes_spelled [] past h = h
closes_spelled (id ∷ ids) past h = closes_spelled ids (Closed id ∷ past) h

length_closes : (ids : List ℕ) (past : List Event) → length (closes_of ids past) ≡ length ids + length past
length_closes [] past = omega arith
length_closes (id ∷ ids) past = let more = length_closes ids (Closed id ∷ past) in omega arith

-- the events of the entries of a history
past_entries : (f : Flow) (v : Start) (past : List Event) → past_of (entries f v past) ≡ past
past_entries f v [] = refl
past_entries f v (e ∷ past) = past_snoc (entries f v past) _ ∙ ap (λ (l : List Event). e ∷ l) (past_entries f v past)

recovering_first : (f : Flow) (j : JournalView) → IsOrdered j → recovering f (first_start j) [] ≡ option_map (λ (r : ℕ × Row). r.0) (next_row f j.rows 0)
recovering_first f j o = ap (λ (rows : List (ℕ × Row)). first_unfinished f rows fresh_items) (sym (filter_above 0 1 j.next_id j.rows (omega arith) o.rows))
    ∙ next_is f j.rows 0

session_first : (f : Flow) (j : JournalView) → IsOrdered j →
    session_state f (first_start j) [] 0 ≡ next_reopened f (first_start j) (option_map (λ (r : ℕ × Row). r.0) (next_row f j.rows 0))
session_first f j o = ap (λ (r : Option ℕ). state_of_served f (first_start j) [] (or_taken r None)) (recovering_first f j o)
    ∙ by (option_map (λ (r : ℕ × Row). r.0) (next_row f j.rows 0)) (recovering_first f j o)
  where
    by : (r : Option ℕ) → recovering f (first_start j) [] ≡ r → state_of_served f (first_start j) [] (or_taken r None) ≡ next_reopened f (first_start j) r
    by None e = refl
    by (Some id) e =
        let below = recovering_below f (first_start j) [] id o e in
        let low : nat_lt id j.next_id ≡ true = grind (arith, nat_tests) in
        ap (λ (s : TxState). Some (id, s)) (rw low refl)

-- slots

get_replicate : {A : Type 0} (n k : ℕ) (x y : A) → slice_get (replicate n x) k ≡ Some y → y ≡ x
get_replicate zero k x y h = absurd (cc)
get_replicate (suc n) zero x y h = grind (arith)
get_replicate (suc n) (suc k) x y h = get_replicate n k x y h

flag_none : (n p : ℕ) → flag (replicate n false) p ≡ false
flag_none zero p = refl
flag_none (suc n) zero = refl
flag_none (suc n) (suc p) = flag_none n p

length_replicate : {A : Type 0} (n : ℕ) (x : A) → length (replicate n x) ≡ n
length_replicate zero x = refl
length_replicate (suc n) x = ap (λ k. suc k) (length_replicate n x)

free_slot : (f : Flow) (j : JournalView) (t : ℕ) → 0 ≢ t → going_on f (session_state f (first_start j) [] t) ≡ None
free_slot f j t h = let no : (t == 0) ≡ false = grind (arith, nat_tests) in rw no refl

-- the parts of an engine that was opened on a view
abbrev pub opened_parts : Flow → JournalView → ℕ → Slot → Running
opened_parts f j n x =
    record {
      slots = slice_set (replicate n Free) 0 x;
      queue = [];
      shelf = j.shelf;
      advices = j.advices;
      breaks = replicate (length (parts_of f)) false;
      next_id = j.next_id;
      restored = false;
      recovering = is_holding x;
    }

pub kept_opened : (f : Flow) (j : JournalView) (n m : ℕ) (es : List Entry) (x : Slot) → FlowFits f → StartFits f (first_start j) → 1 ≤ n → n ≤ 16 → m ≡ n →
    es ≡ entries f (first_start j) (opened f (first_start j)) → IsNextSlot f j.rows 0 x
    → Kept (world f m (first_start j) es 0 0) es (opened_parts f j n x)
kept_opened f j n m es x fits st some few same is next =
    let v : Start = first_start j in
    let ids : List ℕ = to_close f j.rows in
    let past : List Event = opened f v in
    let o = st.view.ordered in
    let events : past_of es ≡ past = ap past_of is ∙ past_entries f v past in
    let state : session_state f v past 0 ≡ next_reopened f v (option_map (λ (r : ℕ × Row). r.0) (next_row f j.rows 0)) =
    closes_same (λ p. session_state f v p 0) (λ id p. refl) ids [] ∙ session_first f j o in
    let first : SlotIs f v past 0 x =
    next_made f v past (next_row f j.rows 0) x next
    (λ r h. ((next_found f j.rows 0 1 j.next_id r o.rows h).1, next_going f j.rows 0 r h, closes_same (λ p. last_of f v p r.0) (λ id p. refl) ids []))
    state (closes_same (λ p. is_let_go p 0) (λ id p. refl) ids []) in
    let busy : is_holding x ≡ is_some (recovering f v past) =
    row_holding f (next_row f j.rows 0) x next ∙ sym (ap (λ (r : Option ℕ). is_some r) (closes_same (λ p. recovering f v p) (λ id p. refl) ids []
    ∙ recovering_first f j o)) in
    let len = length_closes ids [] in
    let last = st.view.last in
    subst (λ (p : List Event). Kept (record { flow = f; sessions = m; start = v; past = p; mark = 0; reserved = 0 }) es (opened_parts f j n x)) (sym events)
    (rw same (record {
      seats = some;
      flow = fits;
      start = st;
      past = record { few = few; sessions = closes_sessions n ids [] tt; spelled = closes_spelled ids [] tt; lawful = opened_lawful f v };
      history = is;
      sessions = set_slots (λ t z. z ≡ Free) (λ t z. SlotIs f v past t z) (replicate n Free) 0 x first
          (λ t z differ free. subst (λ (z : Slot). SlotIs f v past t z) (sym free)
          (ap (going_on f) (closes_same (λ p. session_state f v p t) (λ id p. refl) ids []) ∙ free_slot f j t differ))
          (λ t z h. get_replicate n t Free z h);
      queued = sym (closes_same (λ p. queue f v p) (λ id p. refl) ids []);
      shelved = sym (closes_same (λ p. shelf f v p) (λ id p. refl) ids [] ∙ ap (λ (w : JournalView). w.shelf) (journal_first f v o));
      advised = sym (closes_same (λ p. advices f v p) (λ id p. refl) ids []);
      stops = (
        length_replicate (length (parts_of f)) false,
        λ p. flag_none (length (parts_of f)) p
            ∙ sym (closes_same (λ q. has_break v q p) (λ id q. refl) ids []),
      );
      numbered = let zero_more : j.next_id + 0 ≡ j.next_id = omega arith in sym (closes_same (λ p. next_id v p) (λ id p. refl) ids [] ∙ zero_more);
      renewed = sym (closes_same (λ p. is_restored p) (λ id p. refl) ids []);
      recovers = busy;
      closed = omega arith;
      spent = last;
      marked = omega arith;
    }))

-- what contracts see of it
pub world_opened : (f : Flow) (j : JournalView) (n m : ℕ) (es : List Entry) → m ≡ n → es ≡ entries f (first_start j) (opened f (first_start j)) →
    world f m (first_start j) es 0 0 ≡ opened_world f j n
world_opened f j n m es same is =
    let events : past_of es ≡ opened f (first_start j) = ap past_of is ∙ past_entries f (first_start j) (opened f (first_start j)) in
    rw (same, events) refl

pub sessions_are : (n : ℕ) (x : Slot) → length (slice_set (replicate n Free) 0 x) ≡ n
sessions_are n x = length_set (replicate n Free) 0 x ∙ length_replicate n Free

-- the same of parts that are equal to these
pub kept_made : (f g : Flow) (j k : JournalView) (n m : ℕ) (es : List Entry) (x : Slot) (q : List WaitingContext) (b : List ℕ) (slots : List Slot)
    (waiting : List WaitingContext) (kept : List (ℕ × WaitingContext)) (stored : List ((ℕ × ℕ) × List ℕ)) (breaks : List Bool) (busy : Bool)
    → FlowFits f → StartFits f (first_start j) → 1 ≤ n → n ≤ 16 → es ≡ entries f (first_start j) (opened f (first_start j)) → IsNextSlot f j.rows 0 x
    → g ≡ f → k ≡ j → m ≡ n → q ≡ [] → b ≡ [] → slots ≡ slice_set (replicate n Free) 0 x → waiting ≡ [] → kept ≡ j.shelf → stored ≡ j.advices →
    breaks ≡ replicate (length (parts_of f)) false → busy ≡ is_holding x
    → Kept (world g m (record { view = k; queue = q; breaks = b }) es 0 0) es (record {
      slots = slots;
      queue = waiting;
      shelf = kept;
      advices =
          stored;
      breaks = breaks;
      next_id = j.next_id;
      restored = false;
      recovering = busy;
    })
kept_made f g j k n m es x q b slots waiting kept stored breaks busy fits st some few is next eg ek em eq eb es' ew ek' et er ey =
    rw (eg, ek, eq, eb, es', ew, ek', et, er, ey) (kept_opened f j n m es x fits st some few em is next)
