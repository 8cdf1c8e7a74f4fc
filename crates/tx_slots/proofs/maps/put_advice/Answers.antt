use Rattle.std.proofs.Common.{◌∙◌}
use Rattle.tx_history.specs.Keys.{place_lt, place_cmp}
use Rattle.tx_history.proofs.MapKeys.{places_order, insert_put_by, remove_put_by}
use Rattle.tx_slots.proofs.maps.put_advice.Goals as goal

pub returns-in-Some-default-None-clause-put : goal.returns-in-Some-default-None-clause-put
returns-in-Some-default-None-clause-put c =
    rw (c.in-Some-default-None.is, c.in-Some-default-None.field-0-1-is)
    (c.remove.ensures.entries ∙ remove_put_by place_cmp place_lt places_order c.args.advices.now.entries c.in-Some-default-None.place
    c.len-entries.ensures.ordered)

pub returns-in-Ok-clause-put : goal.returns-in-Ok-clause-put
returns-in-Ok-clause-put c =
    rw (c.in-Some-default-Some.is, c.in-Some-default-Some.field-0-1-is)
    (c.in-Ok.ensures.entries ∙ insert_put_by place_cmp place_lt places_order c.args.advices.now.entries c.in-Some-default-Some.place _
    c.in-Ok.ensures.was_ordered)
