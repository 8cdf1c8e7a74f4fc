-- How a restored context keeps what the running parts say of the history.
-- for: engine::Engine::recovered
use Rattle.std.proofs.Common.{◌≡◌, ℕ, ◌+◌, ◌<◌, true, false, List, ◌∷◌, length, Some, refl, ◌∙◌, ap, arith}
use Rattle.std.specs.Prelude.{slice_set}
use Rattle.std.proofs.lemmas.Bool.Decides.{nat_tests}
use Rattle.tx_engine.specs.Calls.{is_full}
use Rattle.sw_context.specs.Spelling.{IsSpelled}
use Rattle.flow_model.specs.declared.flow.Flow.{Flow}
use Rattle.tx_machine.specs.Contract.{tx_state}
use Rattle.tx_history.specs.declared.event.Event.{Event}
use Rattle.tx_history.specs.declared.event.Event.TheVariants.{Recovered}
use Rattle.tx_history.specs.declared.event.Entry.{Entry}
use Rattle.tx_history.specs.History.{Start, serves}
use Rattle.tx_history.specs.Journal.{no_change}
use Rattle.tx_history.specs.Views.{IsOrdered}
use Rattle.tx_history.proofs.OwnItems.{is_yes, is_other}
use Rattle.tx_history.proofs.Sessions.{served_once}
use Rattle.tx_slots.specs.declared.slot.Slot.{Slot}
use Rattle.tx_slots.specs.declared.slot.Slot.TheVariants.{Free, Holding}
use Rattle.tx_slots.specs.declared.slot.Hold.{Hold}
use Rattle.tx_slots.specs.declared.next.ReplyKind.TheVariants as kind
use Rattle.tx_engine.specs.Items.{Allows}
use Rattle.tx_slots.specs.Slots.{touched}
use Rattle.tx_engine.specs.Kept.{Kept, Running, SlotIs, past_of, world}
use Rattle.tx_engine.proofs.Keeps.{Steps, slot_keep, set_slots, state_served, hold_holds, length_past, same_yes, same_no}

touched_is : (f : Flow) (v : Start) (past : List Event) (s : ℕ) (c : List ℕ) (x : Slot) (number : ℕ) → number ≡ length past + 1 → SlotIs f v past s x →
    SlotIs f v (Recovered s c ∷ past) s (touched x number)
touched_is f v past s c Free number is k = k
touched_is f v past s c (Holding h) number is k =
    let who = (state_served f v past (serves f v past s) h.id (tx_state f h.machine) k.serves).0 in
    record {
      serves = k.serves;
      unfinished = k.unfinished;
      sound = k.sound;
      last = rw (is_yes (serves f v past s) h.id who) is;
      gone = rw (same_yes s) refl;
    }

pub steps_recovered : (f : Flow) (n : ℕ) (v : Start) (es : List Entry) (mark reserved : ℕ) (r : Running) (s : ℕ) (c : List ℕ) (h : Hold) (x : Slot)
    (number : ℕ) → Kept (world f n v es mark reserved) es r → Allows (world f n v es mark reserved) s kind.Recovered h → IsSpelled c →
    SlotIs f v (past_of es) s x
    → number ≡ length es + 1 → Steps f n v (past_of es) (Recovered s c) no_change r (record r {
      slots = slice_set r.slots s (touched x number);
      restored =
          true;
    })
steps_recovered f n v es mark reserved r s c h x number k a sp here is =
    let past : List Event = past_of es in
    let len : length past ≡ length es = length_past es in
    let o : IsOrdered v.view = k.start.view.ordered in
    let who : serves f v past s ≡ Some h.id = (state_served f v past (serves f v past s) h.id (tx_state f h.machine) a.hold.serves).0 in
    record {
      accepted = (h.id, a.asked.0, hold_holds f v past s h a.hold, a.asked.1);
      usual = refl;
      takers = λ z. z;
      spelled = λ z. (sp, z);
      change = refl;
      sessions = set_slots (SlotIs f v past) (SlotIs f v (Recovered s c ∷ past)) r.slots s (touched x number)
          (touched_is f v past s c x number (omega arith) here)
          (λ t y d i. slot_keep f v past (Recovered s c) t y refl
          (λ id z. rw (is_other (serves f v past s) h.id id who (λ q. d (served_once f v past s t h.id o who (z ∙ ap Some q)))) refl)
          (rw (same_no s t d) refl) i)
          k.sessions;
      queued = k.queued;
      shelved = refl;
      advised = refl;
      stops = k.stops;
      numbered = k.numbered;
      renewed = refl;
      recovers = k.recovers;
      spent = k.spent;
    }

pub room_of : (f : Flow) (n : ℕ) (v : Start) (es : List Entry) (mark reserved : ℕ) → is_full (world f n v es mark reserved) ≡ false → length es < 1048576
room_of f n v es mark reserved h = let len = length_past es in grind (arith, nat_tests)
