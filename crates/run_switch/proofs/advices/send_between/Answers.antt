use Rattle.std.proofs.Common.{◌≡◌, ◌∙◌, arith, length, map}
use Rattle.std.proofs.lemmas.Bool.Decides.{nat_tests}
use Rattle.std.proofs.lemmas.List.{length-map}
use Rattle.run_switch.specs.Stored.{plain}
use Rattle.run_switch.proofs.Advancing.{none_between}
use Rattle.run_switch.proofs.advices.send_between.Goals as goal

pub returns-then-is_empty-clause-sends : goal.returns-then-is_empty-clause-sends
returns-then-is_empty-clause-sends g c =
    let list = c.in_ok-list.list in
    let zero : list.len ≡ 0 = grind (arith, nat_tests, c.if-is_empty.ensures) in
    let none : length list.items ≡ 0 = (let long = list.ok.0 in omega (arith, zero, long)) in
    none_between _ (map plain list.items) _ _ _ c.in_ok-list.ensures (length-map list.items plain ∙ none) c.requires.ready.short
