use Rattle.std.proofs.Common.{◌≡◌, ◌<◌, ◌+◌, length, arith, rules}
use Rattle.tx_history.specs.History.{Start}
use Rattle.tx_engine.specs.contracts.engine.Engine.{the_view}
use Rattle.tx_engine.proofs.Keeps.{length_set}
use Rattle.tx_engine.proofs.Turns.{lacks_change}
use Rattle.tx_engine.proofs.Gives.{gives_at, gives_lacks, are_known, kept_given, same_entry}
use Rattle.tx_engine.proofs.engine.Engine.give.Goals as goal

pub make_ready-requires-clause-known : goal.make_ready-requires-clause-known
make_ready-requires-clause-known c =
    rw c.as_slice-rows.ensures (are_known c.self.inside.code (the_view c.self.inside).start c.self.invariant.start.view.ordered c.self.invariant.start.knows)

pub put_both-requires : goal.put_both-requires
put_both-requires c =
    let g = gives_at (the_view c.self.inside) _ _ _ _ _ _ _ c.self.view_is c.requires in
    let lacks = gives_lacks _ _ _ _ _ _ _ _ _ _ _ _ _ c.self.invariant g in
    rw c.in_ok-ready.ensures.shelved (lacks_change c.args.given.id _ c.self.inside.shelf.entries lacks)

pub invariant_of-self-in_err-put_both : goal.invariant_of-self-in_err-put_both
invariant_of-self-in_err-put_both c =
    rw (
      c.in_err-put_both.ensures.shelf_kept,
      c.in_err-put_both.ensures.advices_kept,
      c.in_ok-reserve_entry.ensures.entries,
      c.in_ok-reserve_entry.ensures.queue,
      c.in_ok-reserve_entry.ensures.reserved,
    ) c.self.invariant

pub index_mut-requires : goal.index_mut-requires
index_mut-requires c =
    let g = gives_at (the_view c.self.inside) _ _ _ _ _ _ _ c.self.view_is c.requires in
    let there : c.args.given.session < length c.self.inside.slots.items = g.session in
    search rules

pub invariant_of-self-2 : goal.invariant_of-self-2
invariant_of-self-2 c =
    let v : Start = (the_view c.self.inside).start in
    let g = gives_at (the_view c.self.inside) _ _ _ _ _ _ _ c.self.view_is c.requires in
    let n : c.len-number.result + 1 ≡ length c.self.inside.lists.entries.items + 1 = omega arith in
    let entry = same_entry c.in_ok-ready.ready.entry _ _ _ c.in_ok-ready.ensures.number c.in_ok-ready.ensures.event c.in_ok-ready.ensures.change in
    let slot = rw c.as_slice-rows.ensures at c.in_ok-ready.ensures.slot in
    let shelves = rw c.in_ok-ready.ensures.shelved at c.in_ok-put_both.ensures.shelf in
    let stores = rw c.in_ok-ready.ensures.advice at c.in_ok-put_both.ensures.advices in
    rw (
      c.push_reserved.ensures.entries,
      c.push_reserved.ensures.queue,
      c.push_reserved.ensures.reserved,
      c.in_ok-reserve_entry.ensures.entries,
      c.in_ok-reserve_entry.ensures.queue,
      c.in_ok-reserve_entry.ensures.reserved,
    )
    (kept_given c.self.inside.code _ _ v _ _ _ _ c.args.given.session c.args.given.id _ c.args.given.machine _ _ _ _ _ _ _ _ c.self.invariant g n
    (length_set c.self.inside.slots.items c.args.given.session _) slot entry shelves stores c.goes_on-self-inside.ensures)

pub invariant_of-self : goal.invariant_of-self
invariant_of-self c = rw (c.in_err-reserve_entry.ensures.entries, c.in_err-reserve_entry.ensures.queue, c.in_err-reserve_entry.ensures.reserved)
    c.self.invariant
