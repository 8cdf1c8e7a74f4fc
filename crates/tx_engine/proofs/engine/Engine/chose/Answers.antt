use Rattle.tx_engine.specs.contracts.engine.Engine.{the_view}
use Rattle.tx_engine.proofs.Dues.{allows_of, gives_choice}
use Rattle.tx_engine.proofs.engine.Engine.chose.Goals as goal

pub after_choice-requires-clause-due : goal.after_choice-requires-clause-due
after_choice-requires-clause-due c = (allows_of (the_view c.self.inside) _ c.args.s _ _ c.self.view_is c.in_ok-hold.ensures).asked.0 c.args.text.now

pub give-requires : goal.give-requires
give-requires c =
    rw c.in_ok-from_str.ensures
    (gives_choice (the_view c.self.inside) _ c.args.s c.args.text.now c.in_ok-hold.hold.now c.in_ok-machine.machine c.self.inside.restored c.self.view_is
    c.in_ok-hold.ensures c.self.invariant.renewed c.in_ok-machine.ensures.sound c.in_ok-machine.ensures.after)
