use Rattle.std.proofs.Common.{◌<◌, length, arith}
use Rattle.tx_engine.specs.World.{World}
use Rattle.tx_engine.specs.contracts.engine.Engine.{the_view}
use Rattle.tx_engine.proofs.Dues.{next_ok}
use Rattle.tx_engine.proofs.engine.Engine.next.Goals as goal

pub next_of-requires : goal.next_of-requires
next_of-requires c =
    let lt : c.args.s < length c.self.inside.slots.items = omega arith in
    rw (← c.self.view_is) lt

pub returns : goal.returns
returns c =
    let lt : c.args.s < length c.self.inside.slots.items = omega arith in
    let w : World = the_view c.self.inside in
    rw (← c.self.view_is) (next_ok w c.args.s c.next_of.result lt (rw (← c.self.view_is) at c.next_of.ensures))
