use Rattle.std.proofs.Common.{refl}
use Rattle.sw_participant.specs.Chains.{rule_at}
use Rattle.sw_participant.specs.Stations.{rule_of}
use Rattle.tx_plant.specs.Recovery.{recovery_turn}
use Rattle.tx_plant.specs.Wholes.{engine_of, kept_of, stations_of, whole_at}
use Rattle.tx_plant.proofs.Recovering.{none_other, on, recovery_batch, same_cause, turn_failed, written_shrinks}
use Rattle.tx_plant.proofs.plant.Plant.recover_by.Goals as goal

pub returns-in-Written-clause-recovers : goal.returns-in-Written-clause-recovers
returns-in-Written-clause-recovers g c =
    let w = engine_of c.args.self.now in
    let (m, turned, led, counts) = c.in-Ok.ensures.turned in (
      c.in-Ok.outcome,
      c.in-Ok.ensures.turned,
      written_shrinks c.args.turn.now c.in-Ok.outcome m (whole_at g.S.Store c.args.self.now) (whole_at g.S.Store c.do_turn-done.new.self) _ c.in-Written.is
          (on w (recovery_turn w) c.args.turn.now refl c.requires.within c.requires.next) c.requires.within turned,
    )

pub unreachable-requires : goal.unreachable-requires
unreachable-requires g c =
    let w = engine_of c.args.self.now in
    let (m, turned, led, counts) = c.in-Ok.ensures.turned in
    none_other c.args.turn.now m (whole_at g.S.Store c.args.self.now) (whole_at g.S.Store c.do_turn-done.new.self) c.in-Ok.outcome
    (on w (recovery_turn w) c.args.turn.now refl c.requires.within c.requires.next) c.requires.within c.requires.start turned c.in_default.not-Accepted
    c.in_default.not-Written c.in_default.not-Held c.in_default.not-Refused

pub returns-in-Err-clause-recovers : goal.returns-in-Err-clause-recovers
returns-in-Err-clause-recovers g c =
    let w = engine_of c.args.self.now in
    turn_failed (rule_at (rule_of (goal.Participant-dyn g)) (stations_of c.args.self.now)) _ _ c.args.turn.now c.in-Err.error
    (whole_at g.S.Store c.args.self.now) _ _ (whole_at g.S.Store c.do_turn-done.new.self)
    (on w (recovery_turn w) c.args.turn.now refl c.requires.within c.requires.next) c.in-Err.ensures.turned

pub returns-in-Err-clause-batch : goal.returns-in-Err-clause-batch
returns-in-Err-clause-batch g c = λ h cause same. recovery_batch (engine_of c.args.self.now) (engine_of c.do_turn-done.new.self) c.args.turn.now
    c.in-Err.error c.in-Err.ensures.turned.0 _ _ (kept_of g.S.Store c.do_turn-done.new.self) c.requires.next c.in-Err.ensures.turned.1
    (c.in-Err.ensures.batch h) cause (same_cause c.in-Err.error _ same)
