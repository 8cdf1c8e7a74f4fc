use Rattle.std.proofs.Common.{◌∙◌, ap, refl, arith}
use Rattle.tx_engine.specs.World.{World}
use Rattle.tx_plant.specs.Core.{core}
use Rattle.tx_plant.specs.Wholes.{core_in}
use Rattle.tx_locked.proofs.Growth.{since_write}
use Rattle.tx_locked.proofs.locked.Locked.wrote.Goals as goal

pub invariant_of-self : goal.invariant_of-self
invariant_of-self g c =
    let i = c.self.inside in
    let j = c.wrote.new.self in
    let moved = ap (core j.engine) c.if-wrote.ensures.seats ∙ ap (λ (w : World). core w i.running.seats) (c.if-wrote.ensures.moved refl) in (
      since_write g.K.Run.start (core_in i.running) (core_in j) i.getter.passed i.book.total i.made.items c.args.count
          c.self.invariant.0 (omega (arith, c.if-count-eq0.false)) (c.if-wrote.ensures.few refl) moved c.engine_is_sound.ensures.engine,
      c.self.invariant.1,
    )
