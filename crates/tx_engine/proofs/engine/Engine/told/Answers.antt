use Rattle.std.proofs.Common.{None}
use Rattle.tx_engine.specs.contracts.engine.Engine.{the_view}
use Rattle.tx_engine.proofs.Dues.{allows_of, gives_told}
use Rattle.tx_engine.proofs.engine.Engine.told.Goals as goal

pub after_told-requires-clause-due : goal.after_told-requires-clause-due
after_told-requires-clause-due c = (allows_of (the_view c.self.inside) _ c.args.s _ _ c.self.view_is c.in_ok-hold.ensures).asked.0 None

pub give-requires : goal.give-requires
give-requires c =
    rw (c.in_ok-advice_bytes.ensures, c.in_ok-advice_at.ensures)
    (gives_told (the_view c.self.inside) _ c.args.s c.told_count.result _ c.in_ok-hold.hold.now c.in_ok-machine.machine c.self.inside.restored _
    c.self.view_is c.in_ok-hold.ensures c.self.invariant.renewed c.restored_after.ensures
    (c.told_count.ensures c.self.inside.code) c.in_ok-machine.ensures.sound c.in_ok-machine.ensures.after)
