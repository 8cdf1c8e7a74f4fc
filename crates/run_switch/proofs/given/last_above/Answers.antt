use Rattle.std.proofs.Common.{◌-◌, arith, refl, sym, ap, length}
use Rattle.std.specs.Map.{keys_of}
use Rattle.run_responses.specs.Responses.{last_id}
use Rattle.run_responses.proofs.Ended.{last_is_above, none_above, none_above_more}
use Rattle.run_switch.proofs.given.last_above.Goals as goal

pub returns-in-Some : goal.returns-in-Some
returns-in-Some c =
    let many = c.in-Some.ensures.variant.0 refl in
    sym (last_is_above c.args.id c.args.ended.now.entries (length c.args.ended.now.entries - 1) c.in-Some.last.now c.in-Some.field-0-1.now
    (omega (arith, many)) c.in-Some.ensures.last c.if-last-id.true)

pub returns-in_default : goal.returns-in_default
returns-in_default c =
    let none = none_above c.args.id c.args.ended.now.entries (none_above_more c.in-Some.last.now c.args.id (keys_of c.args.ended.now.entries)
    c.if-last-id.false c.in-Some.ensures.all_up_to) in
    sym (ap (last_id c.args.id) none)
