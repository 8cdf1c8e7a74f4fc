-- One more thing since a run began.
-- for: locked::Locked
use Rattle.std.proofs.Common.{◌≡◌, ◌≤◌, ◌<◌, arith, take, ◌+◌, ◌-◌, ℕ, List, [], ◌∷◌, ◌++◌, length, None, refl, sym, ap, subst, ◌∙◌}
use Rattle.std.proofs.lemmas.List.{length-take-le}
use Rattle.std.specs.Prelude.{Bool, true, false, nat_le}
use Rattle.std.proofs.lemmas.Bool.Decides.{nat_tests}
use Rattle.sw_base.specs.Refusals.{refused_if}
use Rattle.tx_engine.specs.declared.error.EngineError.TheVariants as error
use Rattle.sw_context.specs.Pairs.{Pairs}
use Rattle.sw_participant.specs.Chains.{Began}
use Rattle.tx_history.specs.declared.event.Event.TheVariants as event
use Rattle.tx_engine.specs.World.{Recorded, World}
use Rattle.tx_engine.specs.Calls.{offer_refusal, reserve_refusal, with_reserved}
use Rattle.tx_plant.specs.Core.{Core}
use Rattle.tx_plant.specs.Turns.{Taken}
use Rattle.tx_plant.specs.Entered.{Entered}
use Rattle.tx_plant.specs.Plant.{IsEngine, late}
use Rattle.tx_locked.specs.declared.station.MadeCall.{MadeCall}
use Rattle.tx_locked.specs.RunSteps.{Offers, Takes, Replies, Writes, Does, Marks}
use Rattle.tx_locked.specs.Since.{Since}

pub since_start : (start now : Core) (got : List (List ℕ)) (total : ℕ) → now ≡ start → got ≡ [] → total ≡ 0 → Since start now got total []
since_start start now got total e g f = record { steps = []; does = e; offers = sym g; counts = sym f; calls = refl }

pub since_same : (start p q : Core) (got : List (List ℕ)) (total : ℕ) (made : List MadeCall) → Since start p got total made → q ≡ p →
    Since start q got total made
since_same start p q got total made s e = subst (λ (z : Core). Since start z got total made) (sym e) s

pub since_take : (start p q : Core) (got : List (List ℕ)) (t u : ℕ) (made : List MadeCall) (s n : ℕ) → Since start p got t made →
    (id : ℕ) × (x : Pairs) × Taken p s n (Began id x ∷ []) q → IsEngine q.world → u ≡ t + 1 → Since start q got u made
since_take start p q got t u made s n h (id, x, k) i e = record {
  steps = Takes s n id x ∷ h.steps;
  does = (p, h.does, k, i);
  offers = h.offers;
  counts =
      ap (λ z. z + 1) h.counts ∙ sym e;
  calls = h.calls;
}

pub since_offer : (start p q : Core) (got gets : List (List ℕ)) (t : ℕ) (made : List MadeCall) (b : List ℕ) (n : ℕ) → Since start p got t made →
    Does (Offers b n) p q → IsEngine q.world → gets ≡ got ++ b ∷ [] → Since start q gets t made
since_offer start p q got gets t made b n h k i e = record {
  steps = Offers b n ∷ h.steps;
  does = (p, h.does, k, i);
  offers =
      ap (λ z. z ++ b ∷ []) h.offers ∙ sym e;
  counts = h.counts;
  calls = h.calls;
}

pub since_reply : (start p q : Core) (got : List (List ℕ)) (t u : ℕ) (made mades : List MadeCall) (s n : ℕ) (m : MadeCall) → Since start p got t made →
    Entered p s m.call m.reply m.before m.after n q → IsEngine q.world → u ≡ t + 1 → mades ≡ made ++ m ∷ [] → Since start q got u mades
since_reply start p q got t u made mades s n m h k i e f = record {
  steps = Replies s n m ∷ h.steps;
  does = (p, h.does, k, i);
  offers = h.offers;
  counts =
      ap (λ z. z + 1) h.counts ∙ sym e;
  calls = ap (λ z. z ++ m ∷ []) h.calls ∙ sym f;
}

pub since_write : (start p q : Core) (got : List (List ℕ)) (t : ℕ) (made : List MadeCall) (k : ℕ) → Since start p got t made → 0 < k →
    k ≤ length (late p.world) → q ≡ record p { world = record p.world { mark = p.world.mark + k } } → IsEngine q.world → Since start q got t made
since_write start p q got t made k h some few e i =
    let n : length (take k (late p.world)) ≡ k = length-take-le k (late p.world) few in
    let marks : Marks (take k (late p.world)) p q = record {
      some = subst (λ z. 0 < z) (sym n) some;
      batch = ap (λ z. take z (late p.world)) (sym n);
      few = subst (λ z. z ≤ length (late p.world)) (sym n) few;
      core = e ∙ ap (λ z. record p { world = record p.world { mark = p.world.mark + z } }) (sym n);
    } in
    record { steps = Writes (take k (late p.world)) ∷ h.steps; does = (p, h.does, marks, i); offers = h.offers; counts = h.counts; calls = h.calls }

-- memory that is reserved for an offer, and then used or given back
reserved_back : (w : World) → with_reserved (with_reserved w (w.reserved + 1)) ((w.reserved + 1) - 1) ≡ w
reserved_back w = let e : (w.reserved + 1) - 1 ≡ w.reserved = omega arith in ap (λ (z : ℕ). record w { reserved = z }) e

pub unreserved : (w x y : World) → x ≡ with_reserved w (w.reserved + 1) → y ≡ with_reserved x (x.reserved - 1) → y ≡ w
unreserved w x y e f = f ∙ (ap (λ (z : World). with_reserved z (z.reserved - 1)) e ∙ reserved_back w)

pub offered_in : (w x y : World) (b : List ℕ) (n : ℕ) → x ≡ with_reserved w (w.reserved + 1) →
    Recorded (with_reserved x (x.reserved - 1)) (event.Offered b) n y → Recorded w (event.Offered b) n y
offered_in w x y b n e r = subst (λ (z : World). Recorded z (event.Offered b) n y) (ap (λ (z : World). with_reserved z (z.reserved - 1)) e ∙ reserved_back w) r

-- where memory may be reserved an offer is allowed
pub offer_allowed : (w : World) → reserve_refusal w ≡ None → offer_refusal w ≡ None
offer_allowed w h = by (nat_le 1048576 (length w.past + w.reserved)) (nat_le 1048576 (length w.past)) refl refl h where
  by : (a b : Bool) → nat_le 1048576 (length w.past + w.reserved) ≡ a → nat_le 1048576 (length w.past) ≡ b → refused_if a error.HistoryFull ≡ None →
      refused_if b error.HistoryFull ≡ None
  by true b e f r = absurd (cc)
  by false false e f r = refl
  by false true e f r = absurd (grind (arith, nat_tests, e, f))
