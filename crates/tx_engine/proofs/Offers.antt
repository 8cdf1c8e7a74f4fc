-- How an offer and a release keep what the running parts say of the history.
-- for: engine::queue
use Rattle.std.proofs.Common.{◌≡◌, ℕ, ◌+◌, ◌-◌, ◌<◌, ◌≤◌, true, List, [], ◌∷◌, ◌++◌, length, None, refl, sym, ap, subst, arith, map}
use Rattle.std.proofs.lemmas.Bool.Decides.{nat_tests}
use Rattle.std.proofs.lemmas.List.{drop-append-le}
use Rattle.sw_context.specs.Spelling.{IsSpelled}
use Rattle.flow_model.specs.declared.flow.Flow.{Flow}
use Rattle.tx_history.specs.declared.event.Event.{Event}
use Rattle.tx_history.specs.declared.event.Event.TheVariants.{Offered, Released}
use Rattle.tx_history.specs.declared.event.Entry.{Entry}
use Rattle.tx_history.specs.declared.journal.WaitingContext.{WaitingContext}
use Rattle.tx_history.specs.History.{Start, takes, arrivals, shelf_of}
use Rattle.tx_history.specs.Journal.{no_change}
use Rattle.tx_history.proofs.OwnItems.{room}
use Rattle.tx_history.proofs.SessionStates.{held_offered, held_released}
use Rattle.tx_engine.specs.World.{World, Recorded}
use Rattle.tx_engine.specs.Calls.{offer_refusal, spare_of, with_reserved}
use Rattle.tx_engine.specs.Kept.{Kept, Running, past_of, world}
use Rattle.tx_engine.proofs.Keeps.{Steps, slot_keep, length_past}

pub steps_offered : (f : Flow) (n : ℕ) (v : Start) (es : List Entry) (mark reserved : ℕ) (r : Running) (c : List ℕ) → IsSpelled c →
    Kept (world f n v es mark reserved) es r
    → Steps f n v (past_of es) (Offered c) no_change r (record r { queue = r.queue ++ record { tries = f.retries; context = c } ∷ [] })
steps_offered f n v es mark reserved r c sp k = record {
  accepted = tt;
  usual = refl;
  takers = λ h. h;
  spelled = λ h. (sp, h);
  change = refl;
  sessions = λ s x h. slot_keep f v (past_of es) (Offered c) s x (held_offered f v (past_of es) c s k.start.view.ordered k.past.lawful) (λ id z. refl) refl
      (k.sessions s x h);
  queued = rw (drop-append-le (takes (past_of es)) (arrivals f v (past_of es)) (record { tries = f.retries; context = c } ∷ [])
      (room f v (past_of es) k.past.lawful)) (ap (λ (l : List WaitingContext). l ++ record { tries = f.retries; context = c } ∷ []) k.queued);
  shelved = refl;
  advised = refl;
  stops = k.stops;
  numbered = k.numbered;
  renewed = k.renewed;
  recovers = k.recovers;
  spent = k.spent;
}

pub steps_released : (f : Flow) (n : ℕ) (v : Start) (es : List Entry) (mark reserved : ℕ) (r : Running) → Kept (world f n v es mark reserved) es r
    → Steps f n v (past_of es) Released (record { next_id = None; row = None; shelved = None; emptied = true; advice = None }) r
    (record r { queue = r.queue ++ map (λ (item : ℕ × WaitingContext). item.1) r.shelf; shelf = [] })
steps_released f n v es mark reserved r k = record {
  accepted = tt;
  usual = refl;
  takers = λ h. h;
  spelled = λ h. h;
  change = refl;
  sessions = λ s x h. slot_keep f v (past_of es) Released s x (held_released f v (past_of es) s k.start.view.ordered k.past.lawful) (λ id z. refl) refl
      (k.sessions s x h);
  queued = rw (
    drop-append-le (takes (past_of es)) (arrivals f v (past_of es))
        (map (λ (item : ℕ × WaitingContext). item.1) (shelf_of f v (arrivals f v (past_of es)) (past_of es))) (room f v (past_of es) k.past.lawful),
    k.queued,
    k.shelved,
  ) refl;
  shelved = refl;
  advised = refl;
  stops = k.stops;
  numbered = k.numbered;
  renewed = k.renewed;
  recovers = k.recovers;
  spent = k.spent;
}

-- the history after an offer in memory that was reserved for it
back : (w : World) → with_reserved (with_reserved w (w.reserved + 1)) (w.reserved + 1 - 1) ≡ w
back w = let same : w.reserved + 1 - 1 ≡ w.reserved = omega arith in ap (λ (n : ℕ). with_reserved w n) same

pub recorded_back : (w m new : World) (e : Event) (number : ℕ) → m ≡ with_reserved w (w.reserved + 1) →
    Recorded (with_reserved m (m.reserved - 1)) e number new → Recorded w e number new
recorded_back w m new e number is h =
    subst (λ (z : World). Recorded z e number new) (back w) (subst (λ (z : World). Recorded (with_reserved z (z.reserved - 1)) e number new) is h)

-- an entry that is allowed has room
pub entry_room : (u w : World) (es : List Entry) → u ≡ w → u.past ≡ past_of es → offer_refusal w ≡ None → length es < 1048576
entry_room u w es same is none = let len = length_past es in let none' = subst (λ (x : World). offer_refusal x ≡ None) (sym same) none in
    grind (arith, nat_tests)

-- there is room for an offer whose memory was reserved
pub spare_made : (w : World) → offer_refusal w ≡ None → 1 ≤ spare_of (with_reserved w (w.reserved + 1))
spare_made w none = grind (arith, nat_tests)

pub spare_entry : (u w : World) (es : List Entry) → u ≡ w → u.past ≡ past_of es → 1 ≤ spare_of w → length es < 1048576
spare_entry u w es same is some = let len = length_past es in let some' = subst (λ (x : World). 1 ≤ spare_of x) (sym same) some in grind (arith, nat_tests)

pub spare_reserved : (u w : World) → u ≡ w → 1 ≤ spare_of w → 1 ≤ u.reserved
spare_reserved u w same some = let some' = subst (λ (x : World). 1 ≤ spare_of x) (sym same) some in grind (arith, nat_tests)
