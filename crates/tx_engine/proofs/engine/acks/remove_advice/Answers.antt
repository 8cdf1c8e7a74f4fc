use Rattle.std.proofs.Common.{◌∙◌}
use Rattle.tx_history.specs.Keys.{place_lt, place_cmp}
use Rattle.tx_history.proofs.MapKeys.{places_order, remove_put_by}
use Rattle.tx_engine.proofs.engine.acks.remove_advice.Goals as goal

pub returns : goal.returns
returns c = c.remove.ensures.entries ∙ remove_put_by place_cmp place_lt places_order c.args.advices.now.entries c.args.place c.len-stored.ensures.ordered
