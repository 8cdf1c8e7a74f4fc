use Rattle.std.proofs.Common.{◌∙◌, sym}
use Rattle.sw_rules.proofs.NoBreach.{checked_if_none, joined, none_if_checked}
use Rattle.sw_rules.proofs.all.breaches.Goals as goal

pub returns-clause-checked : goal.returns-clause-checked
returns-clause-checked c = λ none. checked_if_none c.args.flow.now c.args.set_up.now
    (sym (joined c.new-found.result.items c.add_of_groups.new.found.items c.add_of_routes.new.found.items _ _ c.new-found.ensures.items
    c.in_ok-add_of_groups.ensures c.in_ok-add_of_routes.ensures) ∙ none)

pub returns-clause-refused : goal.returns-clause-refused
returns-clause-refused c = λ is.
    joined c.new-found.result.items c.add_of_groups.new.found.items c.add_of_routes.new.found.items _ _ c.new-found.ensures.items
    c.in_ok-add_of_groups.ensures c.in_ok-add_of_routes.ensures ∙ none_if_checked c.args.flow.now c.args.set_up.now is
