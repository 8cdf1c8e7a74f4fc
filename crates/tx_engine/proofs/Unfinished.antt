-- How many journalled transactions are not finished.
-- for: engine::Engine::recovering
use Rattle.std.proofs.Common.{◌≡◌, ℕ, ◌+◌, ◌<◌, Bool, true, false, List, [], ◌∷◌, length, Option, Some, None, refl, sym, ◌∙◌, ap, subst, arith}
use Rattle.std.specs.Prelude.{if◌then◌else◌, slice_get, nat_lt, not, is_some}
use Rattle.std.proofs.lemmas.Bool.Decides.{nat_tests}
use Rattle.flow_model.specs.declared.flow.Flow.{Flow}
use Rattle.tx_machine.specs.Bounds.{after_newest}
use Rattle.tx_machine.specs.declared.values.Item.{Item}
use Rattle.tx_history.specs.declared.event.Event.{Event}
use Rattle.tx_history.specs.declared.event.Entry.{Entry}
use Rattle.tx_history.specs.declared.journal.Row.{Row}
use Rattle.tx_history.specs.Keys.{Rising}
use Rattle.tx_history.specs.History.{Start, first_unfinished, holds, is_ended, own_items, recovering, reopened}
use Rattle.tx_history.proofs.OwnItems.{found}
use Rattle.tx_history.proofs.RecoveryOrder.{later_none}
use Rattle.tx_history.proofs.RisingKeys.{look_within}
use Rattle.tx_history.proofs.Sessions.{holds_recovered}
use Rattle.tx_slots.specs.declared.slot.Hold.{Hold}
use Rattle.tx_slots.specs.declared.slot.Slot.{Slot}
use Rattle.tx_slots.specs.declared.slot.Slot.TheVariants.{Free, Holding}
use Rattle.tx_engine.specs.World.{World}
use Rattle.tx_engine.specs.Calls.{unfinished, unfinished_in}
use Rattle.tx_slots.specs.Rows.{later_rows}
use Rattle.tx_engine.specs.Kept.{Kept, Running, SlotIs}
use Rattle.tx_engine.proofs.Keeps.{hold_holds, holds_is}

unfinished_none : (f : Flow) (rows : List (ℕ × Row)) (items : ℕ → List Item) → first_unfinished f rows items ≡ None → unfinished_in f items rows ≡ []
unfinished_none f [] items h = refl
unfinished_none f (r ∷ rows) items h = by (is_ended f (after_newest f (reopened f r.1) (items r.0))) h (unfinished_none f rows items)
  where
    by : (b : Bool) → (if b then first_unfinished f rows items else Some r.0) ≡ None →
        (first_unfinished f rows items ≡ None → unfinished_in f items rows ≡ []) →
        (if not b then r ∷ unfinished_in f items rows else unfinished_in f items rows) ≡ []
    by true e ih = ih e
    by false e ih = absurd (cc)

-- those after the one that is being recovered were given nothing
all_later : (f : Flow) (rows : List (ℕ × Row)) (items : ℕ → List Item) (id n m : ℕ) → Rising n m rows → id < n →
    ((j : ℕ) → id < j → j < m → items j ≡ []) → unfinished_in f items rows ≡ later_rows f rows id
all_later f [] items id n m rise lt none = refl
all_later f (r ∷ rows) items id n m rise lt none =
    let lo = rise.0 in
    let hi = rise.1 in
    let above : nat_lt id r.0 ≡ true = grind (arith, nat_tests) in
    let fresh : items r.0 ≡ [] = none r.0 (omega arith) hi in
    rw (above, fresh, all_later f rows items id (r.0 + 1) m rise.2 (omega arith) none) refl

unfinished_first_if : (f : Flow) (r : ℕ × Row) (rows : List (ℕ × Row)) (items : ℕ → List Item) (id n m : ℕ) → Rising n m (r ∷ rows) →
    ((j : ℕ) → id < j → j < m → items j ≡ [])
    → (first_unfinished f rows items ≡ Some id → length (unfinished_in f items rows) ≡ length (later_rows f rows id) + 1)
    → (b : Bool) → is_ended f (after_newest f (reopened f r.1) (items r.0)) ≡ b → (if b then first_unfinished f rows items else Some r.0) ≡ Some id
    → length (unfinished_in f items (r ∷ rows)) ≡ length (later_rows f (r ∷ rows) id) + 1
unfinished_first_if f r rows items id n m rise none ih true e h =
    let w = found f rows items (r.0 + 1) m id rise.2 h in
    let within = look_within rows (r.0 + 1) m id w.row rise.2 w.there in
    let lo = within.0 in
    let below : nat_lt id r.0 ≡ false = grind (arith, nat_tests) in
    rw (e, below) (ih h)
unfinished_first_if f r rows items id n m rise none ih false e h =
    let same : r.0 ≡ id = grind (arith) in
    let below : nat_lt id r.0 ≡ false = grind (arith, nat_tests) in
    let rest : unfinished_in f items rows ≡ later_rows f rows id = all_later f rows items id (r.0 + 1) m rise.2 (omega arith) none in
    let len = ap (λ (l : List (ℕ × Row)). length l) rest in
    rw (e, below) (omega arith)

unfinished_first : (f : Flow) (rows : List (ℕ × Row)) (items : ℕ → List Item) (id n m : ℕ) → Rising n m rows → ((j : ℕ) → id < j → j < m → items j ≡ []) →
    first_unfinished f rows items ≡ Some id
    → length (unfinished_in f items rows) ≡ length (later_rows f rows id) + 1
unfinished_first f [] items id n m rise none h = absurd (cc)
unfinished_first f (r ∷ rows) items id n m rise none h =
    unfinished_first_if f r rows items id n m rise none (λ e. unfinished_first f rows items id (r.0 + 1) m rise.2 none e)
    (is_ended f (after_newest f (reopened f r.1) (items r.0))) refl h

is_recovering : (f : Flow) (v : Start) (past : List Event) (o : Option ℕ) → recovering f v past ≡ o → is_some o ≡ true →
    (id : ℕ) × (recovering f v past ≡ Some id)
is_recovering f v past None e h = absurd (cc)
is_recovering f v past (Some id) e h = (id, e)

not_recovering : (o : Option ℕ) → is_some o ≡ false → o ≡ None
not_recovering None h = refl
not_recovering (Some id) h = absurd (cc)

pub none_unfinished : (u w : World) (es : List Entry) (r : Running) → Kept u es r → u ≡ w → r.recovering ≡ false → 0 ≡ unfinished w
none_unfinished u w es r k same h =
    let none : recovering u.flow u.start u.past ≡ None = not_recovering (recovering u.flow u.start u.past) (sym k.recovers ∙ h) in
    subst (λ (z : World). 0 ≡ unfinished z) same
    (sym (ap (λ (l : List (ℕ × Row)). length l) (unfinished_none u.flow u.start.view.rows (own_items u.flow u.start u.past) none)))

-- session 0 holds the one that is recovered
pub unfinished_held : (u w : World) (es : List Entry) (r : Running) (x : Slot) (h : Hold) → Kept u es r → u ≡ w → r.recovering ≡ true →
    slice_get r.slots 0 ≡ Some x → x ≡ Holding h → length (later_rows u.flow u.start.view.rows h.id) + 1 ≡ unfinished w
unfinished_held u w es r x h k same busy at is =
    let b = is_recovering u.flow u.start u.past (recovering u.flow u.start u.past) refl (sym k.recovers ∙ busy) in
    let o = k.start.view.ordered in
    let here : SlotIs u.flow u.start u.past 0 (Holding h) = subst (λ (z : Slot). SlotIs u.flow u.start u.past 0 z) is (k.sessions 0 x at) in
    let who : Some b.0 ≡ Some h.id = sym (holds_recovered u.flow u.start u.past b.0 o b.1) ∙ hold_holds u.flow u.start u.past 0 h here in
    let one : b.0 ≡ h.id = grind (arith) in
    let first : recovering u.flow u.start u.past ≡ Some h.id = b.1 ∙ who in
    subst (λ (z : World). length (later_rows u.flow u.start.view.rows h.id) + 1 ≡ unfinished z) same
    (sym (unfinished_first u.flow u.start.view.rows (own_items u.flow u.start u.past) h.id 1 u.start.view.next_id o.rows
    (λ j lo hi. later_none u.flow u.start u.past h.id j o k.past.lawful first lo hi) first))

pub recovered_held : (u : World) (es : List Entry) (r : Running) (x : Slot) → Kept u es r → r.recovering ≡ true → slice_get r.slots 0 ≡ Some x → x ≡ Free → ⊥
recovered_held u es r x k busy at is =
    let b = is_recovering u.flow u.start u.past (recovering u.flow u.start u.past) refl (sym k.recovers ∙ busy) in
    let o = k.start.view.ordered in
    let free : SlotIs u.flow u.start u.past 0 Free = subst (λ (z : Slot). SlotIs u.flow u.start u.past 0 z) is (k.sessions 0 x at) in
    let none : holds u.flow u.start u.past 0 ≡ None = holds_is u.flow u.start u.past 0 ∙ free in
    let some = holds_recovered u.flow u.start u.past b.0 o b.1 in
    cc
