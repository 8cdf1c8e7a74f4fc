-- Turns that are one entry of the engine, and no session's own.
-- for: laws::seats_are_held
use Rattle.std.proofs.Common.{◌≡◌, ◌⊎◌, inl, inr, Option, Some, None, Result, Ok, Err, refl, subst}
use Rattle.std.specs.declared.alloc.AllocError.{AllocError}
use Rattle.tx_history.specs.declared.event.Event.{Event}
use Rattle.tx_history.specs.declared.event.Event.TheVariants.{Offered, Released, Acked, Broke, Cleared, LetGo}
use Rattle.tx_engine.specs.declared.error.EngineError.{EngineError}
use Rattle.tx_engine.specs.World.{World, happened}
use Rattle.tx_plant.specs.declared.turn.Outcome.{Outcome}
use Rattle.tx_plant.specs.declared.turn.Outcome.TheVariants as outcome
use Rattle.tx_plant.specs.declared.turn.Turn.{Turn}
use Rattle.tx_plant.specs.declared.turn.Turn.TheVariants as turn
use Rattle.tx_plant.specs.Turns.{event_for, Logs}

abbrev pub IsQuiet : Event → Type 0
IsQuiet (Offered c) = Unit {0}
IsQuiet Released = Unit {0}
IsQuiet (Acked id place) = Unit {0}
IsQuiet (Broke p) = Unit {0}
IsQuiet (Cleared p) = Unit {0}
IsQuiet (LetGo s) = Unit {0}
IsQuiet _ = ⊥

same_event : (x y : Event) → Some x ≡ Some y → x ≡ y
same_event x y e = cc

pub quiet_for : (w : World) (t : Turn) (e : Event) → event_for w t ≡ Some e → IsQuiet e
quiet_for w (turn.Offer x) e h = subst IsQuiet (same_event _ e h) tt
quiet_for w turn.Release e h = subst IsQuiet (same_event _ e h) tt
quiet_for w (turn.Ack id place) e h = subst IsQuiet (same_event _ e h) tt
quiet_for w (turn.Break name) e h = subst IsQuiet (same_event _ e h) tt
quiet_for w (turn.Clear name) e h = subst IsQuiet (same_event _ e h) tt
quiet_for w (turn.LetGo s) e h = subst IsQuiet (same_event _ e h) tt
quiet_for w (turn.Take s) e h = absurd (cc)
quiet_for w (turn.Step s) e h = absurd (cc)
quiet_for w (turn.Write most) e h = absurd (cc)
quiet_for w turn.Stop e h = absurd (cc)
quiet_for w turn.Cut e h = absurd (cc)

-- it is an entry, or nothing
abbrev pub Enters : Option Event → World → World → Type 0
Enters o w to = (to ≡ w) ⊎ ((e : Event) × (o ≡ Some e) × (to ≡ happened w e))

pub entered : (o : Option Event) (refusal : Option EngineError) (w : World) (x : Result Outcome AllocError) (to : World) → Logs o refusal w x to
    → Enters o w to
entered (Some e) refusal w (Ok (outcome.Accepted n)) to h = inr (e, refl, h.1.history)
entered (Some e) refusal w (Ok (outcome.Refused x)) to h = inl h.1
entered (Some e) refusal w (Err x) to h = inl h
entered (Some e) refusal w (Ok outcome.Idle) to h = absurd h
entered (Some e) refusal w (Ok outcome.Unwritten) to h = absurd h
entered (Some e) refusal w (Ok (outcome.Held c)) to h = absurd h
entered (Some e) refusal w (Ok (outcome.Written n)) to h = absurd h
entered (Some e) refusal w (Ok (outcome.Restarted n)) to h = absurd h
entered (Some e) refusal w (Ok (outcome.Cut n)) to h = absurd h
entered None refusal w (Ok (outcome.Refused x)) to h = inl h.1
entered None refusal w (Err x) to h = inl h
entered None refusal w (Ok (outcome.Accepted n)) to h = absurd h
entered None refusal w (Ok outcome.Idle) to h = absurd h
entered None refusal w (Ok outcome.Unwritten) to h = absurd h
entered None refusal w (Ok (outcome.Held c)) to h = absurd h
entered None refusal w (Ok (outcome.Written n)) to h = absurd h
entered None refusal w (Ok (outcome.Restarted n)) to h = absurd h
entered None refusal w (Ok (outcome.Cut n)) to h = absurd h
