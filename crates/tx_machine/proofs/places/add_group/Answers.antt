use Rattle.std.proofs.Common.{◌≡◌, ◌∙◌, ◌++◌, ap, sym, subst}
use Rattle.std.specs.Prelude.{OnOk}
use Rattle.std.proofs.lemmas.List.{append-nil}
use Rattle.tx_machine.specs.Due.{places_of}
use Rattle.tx_machine.proofs.RestPlaces.{group_visited, none_visited}
use Rattle.tx_machine.proofs.places.add_group.Goals as goal

pub returns-in-Some : goal.returns-in-Some
returns-in-Some c =
    subst (λ ms. OnOk c.add_steps.result (c.add_steps.new.places.items ≡ c.args.places.now.items ++ places_of ms))
    (group_visited c.args.code.now c.groups.result.now c.args.group c.in-Some.start.now _ c.groups.ensures c.in-Some.ensures.lookup.3.0
    c.in-Some.ensures.lookup.1) c.add_steps.ensures

pub returns-in-None : goal.returns-in-None
returns-in-None c =
    sym (ap (λ ms. c.args.places.now.items ++ places_of ms) (none_visited c.args.code.now c.groups.result.now c.args.group c.groups.ensures
    c.in-None.ensures.lookup.3) ∙ append-nil c.args.places.now.items)
