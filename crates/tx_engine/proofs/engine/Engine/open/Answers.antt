use Rattle.std.proofs.Common.{◌≡◌, ◌≤◌, ◌∙◌, ap, arith, List, length, replicate, false}
use Rattle.flow_model.specs.declared.numbering.Part.{Part}
use Rattle.tx_slots.specs.declared.slot.Slot.{Slot}
use Rattle.tx_history.proofs.CheckedFlows.{checked_fits}
use Rattle.tx_engine.specs.Opening.{first_start}
use Rattle.tx_engine.proofs.Opens.{kept_made, sessions_are, world_opened}
use Rattle.tx_engine.proofs.Unknown.{rows_known, start_fits}
use Rattle.tx_engine.proofs.engine.Engine.open.Goals as goal

pub next_slot-requires : goal.next_slot-requires
next_slot-requires c = rows_known c.args.code.now c.as_slice-rows.result.now (c.in_ok-check_rows.ensures)

pub invariant_of-result : goal.invariant_of-result
invariant_of-result c =
    let known = rows_known c.args.code.now c.args.view.now.rows (rw c.as_slice-rows.ensures at (c.in_ok-check_rows.ensures)) in
    let st = start_fits c.args.code.now c.args.view.now c.requires known in
    let fits = checked_fits c.args.code.now c.is_checked.ensures in
    let some : 1 ≤ c.args.sessions = omega arith in
    let few : c.args.sessions ≤ 16 = omega arith in
    let is = rw c.as_slice-rows.ensures at (c.in_ok-closings.ensures c.args.code.now (first_start c.args.view.now)) in
    let next = rw c.as_slice-rows.ensures at (c.in_ok-first_slot.ensures) in
    let many : length c.in_ok-slots.slots.items ≡ c.args.sessions = ap (λ (l : List Slot). length l) (c.in_ok-slots.ensures) ∙ sessions_are c.args.sessions
    c.in_ok-first_slot.first_slot in
    rw c.new-lists.ensures.reserved (kept_made c.args.code.now _ c.args.view.now _ c.args.sessions _ _ c.in_ok-first_slot.first_slot _ _ _ _ _ _ _ _ fits st
    some few (c.new-lists.ensures.entries ∙ is) next
    (c.in_ok-code.ensures) (c.in_ok-first.ensures) many (c.new-2.ensures ∙ c.new.ensures.items) (c.new-4.ensures ∙ c.new-3.ensures.items)
    (c.in_ok-slots.ensures) c.new-lists.ensures.queue
    (c.in_ok-shelf.ensures ∙ c.as_slice.ensures) (c.in_ok-advices.ensures ∙ c.as_slice-2.ensures)
    (c.in_ok-breaks.ensures ∙ ap (λ (ps : List Part). replicate (length ps) false) c.participants.ensures.participants) c.is_holding-recovering.ensures)

pub returns-clause-opened : goal.returns-clause-opened
returns-clause-opened c =
    let is = rw c.as_slice-rows.ensures at (c.in_ok-closings.ensures c.args.code.now (first_start c.args.view.now)) in
    rw (
      c.in_ok-code.ensures,
      c.in_ok-first.ensures,
      c.new-2.ensures,
      c.new.ensures.items,
      c.new-4.ensures,
      c.new-3.ensures.items,
      c.in_ok-slots.ensures,
      c.new-lists.ensures.reserved,
    )
    (world_opened c.args.code.now c.args.view.now c.args.sessions _ _ (sessions_are c.args.sessions c.in_ok-first_slot.first_slot)
    (c.new-lists.ensures.entries ∙ is))
