use Rattle.std.proofs.Common.{◌≡◌, ◌∙◌, None}
use Rattle.std.specs.Ordering.{nat_cmp}
use Rattle.tx_history.specs.Keys.{look}
use Rattle.std.specs.Prelude.{nat_lt}
use Rattle.tx_history.proofs.MapKeys.{ids_order, insert_put_by}
use Rattle.tx_slots.proofs.Undone.{undone}
use Rattle.tx_slots.proofs.maps.put_both.Goals as goal

pub returns-in_default-put_advice-clause-shelf_kept :
    goal.returns-in_default-put_advice-clause-shelf_kept
returns-in_default-put_advice-clause-shelf_kept c =
    let absent : look c.in-Some.id c.args.shelf.now.entries ≡ None = rw c.in-Some.is at c.requires in
    c.remove.ensures.entries ∙ (rw c.in-Ok.ensures.entries (undone c.args.shelf.now.entries c.in-Some.id c.in-Some.waiting absent))

pub returns-clause-shelf : goal.returns-clause-shelf
returns-clause-shelf c =
    rw c.in-Some.is (c.in-Ok.ensures.entries ∙ insert_put_by nat_cmp nat_lt ids_order c.args.shelf.now.entries c.in-Some.id _ c.in-Ok.ensures.was_ordered)
