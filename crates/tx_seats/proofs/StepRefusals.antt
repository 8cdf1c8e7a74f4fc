-- Why a step is refused where the sessions have their seats.
-- for: laws::seats_are_held
use Rattle.std.proofs.Common.{◌≡◌, ℕ, Bool, true, false, inl, inr, List, [], ◌∷◌, Option, Some, None, Result, Ok, Err, refl, sym, ◌∙◌, ap, subst}
use Rattle.std.specs.Prelude.{not}
use Rattle.sw_base.specs.Refusals.{first_of, refused_if}
use Rattle.sw_participant.specs.declared.call.Reply.{Reply}
use Rattle.tx_slots.specs.DueCalls.{asked}
use Rattle.tx_engine.specs.declared.error.EngineError.{EngineError}
use Rattle.tx_engine.specs.declared.error.EngineError.TheVariants.{HistoryFull, NoSession, NotDue}
use Rattle.tx_engine.specs.World.{World}
use Rattle.tx_engine.specs.Calls.{is_full, next_of, no_session, reply_refusal}
use Rattle.tx_engine.specs.Replies.{kind_of}
use Rattle.tx_plant.specs.declared.seat.Seat.{Seat}
use Rattle.tx_plant.specs.declared.turn.Outcome.{Outcome}
use Rattle.tx_plant.specs.declared.turn.Outcome.TheVariants as outcome
use Rattle.tx_plant.specs.declared.turn.StepFault.{StepFault}
use Rattle.tx_plant.specs.declared.turn.StepFault.TheVariants as fault
use Rattle.tx_plant.specs.declared.turn.Turn.TheVariants as turn
use Rattle.tx_plant.specs.Steps.{Asked, Declines, Moved, Serves, Waits, told_of}
use Rattle.tx_plant.specs.Core.{Core, Stepped, seat_of}
use Rattle.tx_plant.specs.Plant.{Turned, Whole, step_fault}
use Rattle.tx_seats.specs.Seated.{Seated, seat_id, step_refusal}
use Rattle.tx_seats.proofs.DueCalls.{due_id, is_due}
use Rattle.tx_seats.proofs.SeatedCuts.{some_none}

-- without a seat no call is due

unseated : (p : Core) (s : ℕ) (e : EngineError) → Seated p → seat_of p s ≡ None → Waits (next_of p.world s) (outcome.Refused e) → ⊥
unseated p s e h none (not_due, call, due) = let k = is_due p.world s call due in some_none k.id (sym (ap seat_id none) ∙ (h.seats s ∙ k.held))

-- and the call that is due is that of the seat

some_id : (i j : ℕ) → Some i ≡ Some j → i ≡ j
some_id i j e = cc

apart : (p : Core) (s : ℕ) (e : EngineError) (l : Seat) → Seated p → seat_of p s ≡ Some l → Declines (next_of p.world s) l (outcome.Refused e) → ⊥
apart p s e l h at (not_due, call, due, other) =
    let k = is_due p.world s call due in
    let own : l.id ≡ k.id = some_id l.id k.id (sym (ap seat_id at) ∙ (h.seats s ∙ k.held)) in
    other (due_id p.world k.id call k.call_is ∙ sym own)

-- a reply that is asked for

asked_refusal : (w : World) (s : ℕ) (r : Reply) (e : EngineError) → asked (kind_of r) (next_of w s) ≡ true → reply_refusal (kind_of r) w s ≡ Some e →
    step_refusal w s ≡ Some e
asked_refusal w s r e asks h =
    sym (ap (λ (b : Bool). first_of (refused_if (no_session w s) NoSession ∷ refused_if (not b) NotDue ∷ refused_if (is_full w) HistoryFull ∷ [])) asks) ∙ h

reply_asked : (p : Core) (s : ℕ) (l t : Seat) (m : List Moved) (r : Reply) → Seated p → seat_of p s ≡ Some l →
    Asked (next_of p.world s) (told_of p.world l.id) l t m r → asked (kind_of r) (next_of p.world s) ≡ true
reply_asked p s l t m r h at (kept, inl rests) = h.replies s l r at (sym (ap (λ (z : Seat). z.kept) rests.0) ∙ kept)
reply_asked p s l t m r h at (kept, inr k) =
    let same : r ≡ k.reply = one k.reply r t.kept (ap (λ (z : Seat). z.kept) k.seat) kept in
    ap (λ (z : Reply). asked (kind_of z) (next_of p.world s)) same ∙ (ap (asked (kind_of k.reply)) k.due ∙ k.suits)
  where
    one : (x y : Reply) (o : Option Reply) → o ≡ Some x → o ≡ Some y → y ≡ x
    one x y o e f = cc

-- the step

known : (w : World) (s : ℕ) (e : EngineError) (b : Bool) → no_session w s ≡ b → refused_if b NoSession ≡ Some e → step_refusal w s ≡ Some e
known w s e true is h = ap (λ (b : Bool). first_of (refused_if b NoSession ∷ refused_if (is_full w) HistoryFull ∷ [])) is ∙ h
known w s e false is h = absurd (cc)

same_refusal : (o : Outcome) (e : EngineError) → ◌≡◌ {A = Result Outcome StepFault} (Ok (outcome.Refused e)) (Ok o) → o ≡ outcome.Refused e
same_refusal o e h = cc

same_error : (d e : EngineError) → outcome.Refused d ≡ outcome.Refused e → d ≡ e
same_error d e h = cc

step_refused : (p q : Core) (s : ℕ) (m : List Moved) (e : EngineError) → Seated p → Stepped p s m (Ok (outcome.Refused e)) q → step_refusal p.world s ≡ Some e
step_refused p q s m e h (inl (same, o, is, inl (d, refused, told))) =
    let d_is : d ≡ e = same_error d e (sym told ∙ same_refusal o e is) in
    known p.world s e (no_session p.world s) refl (refused ∙ ap Some d_is)
step_refused p q s m e h (inl (same, o, is, inr (none, waits))) =
    absurd (unseated p s e h none (subst (λ (o : Outcome). Waits (next_of p.world s) o) (same_refusal o e is) waits))
step_refused p q s m e h (inr k) = served k.before k.after k.seated k.serves
  where
    served : (l t : Seat) → seat_of p s ≡ Some l → Serves p.world s l t m (Ok (outcome.Refused e)) q.world → step_refusal p.world s ≡ Some e
    served l t at (inl z) = absurd (apart p s e l h at z.1)
    served l t at (inr (r, refused, keeps)) = asked_refusal p.world s r e (reply_asked p s l t m r h at keeps.0) refused

told_by : (x : Result Outcome StepFault) (o : Outcome) → Ok o ≡ step_fault x → x ≡ Ok o
told_by (Ok y) o e = cc
told_by (Err fault.OutOfMemory) o e = absurd (cc)
told_by (Err (fault.NoStation n)) o e = absurd (cc)

pub refused : (s : ℕ) (e : EngineError) (m : List Moved) (p q : Whole) → Seated p.core → Turned (turn.Step s) (Ok (outcome.Refused e)) m p q →
    step_refusal p.core.world s ≡ Some e
refused s e m p q h (x, is, stepped, journal) =
    step_refused p.core q.core s m e h (subst (λ (x : Result Outcome StepFault). Stepped p.core s m x q.core) (told_by x (outcome.Refused e) is) stepped)
