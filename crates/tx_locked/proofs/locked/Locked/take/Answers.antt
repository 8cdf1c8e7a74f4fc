use Rattle.tx_locked.proofs.Growth.{since_take}
use Rattle.tx_locked.proofs.locked.Locked.take.Goals as goal
use Rattle.tx_plant.specs.Wholes.{core_in}

pub invariant_of-self : goal.invariant_of-self
invariant_of-self g c =
    let i = c.self.inside in
    let j = c.take.new.running in (
      since_take g.K.Run.start (core_in i.running) (core_in j) i.getter.passed i.book.total c.add.new.self.total i.made.items
          c.args.session.now.index c.in-Ok.number c.self.invariant.0 c.in-Ok.ensures.taken c.in-Ok.ensures.engine c.add.ensures.total,
      c.self.invariant.1,
    )
