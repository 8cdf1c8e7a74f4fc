use Rattle.std.proofs.Common.{◌∙◌, ◌++◌, ◌+◌, ℕ, Vec, Global, ap, sym, drop}
use Rattle.std.specs.Option.{option_to_list}
use Rattle.std.proofs.lemmas.List.{append-nil}
use Rattle.flow_asm.specs.Places.{place_of}
use Rattle.flow_asm.specs.Steps.{stages}
use Rattle.tx_machine.specs.Due.{places_of}
use Rattle.tx_machine.specs.Position.{calls_of}
use Rattle.tx_machine.proofs.RestPlaces.{call_visited, pick_visited, places_from, return_visited, step_on}
use Rattle.tx_machine.proofs.places.add_steps.Goals as goal
use Rattle.tx_machine.proofs.places.add_steps.Goals.{in-Call+in_ok-add_place-in-Call, in-Pick}

pub loop-step-init : goal.loop-step-init
loop-step-init c = ap (λ ps. c.args.places.now.items ++ ps) (places_from (drop c.args.from (stages c.args.code.now)))

pub returns-in-Return : goal.returns-in-Return
returns-in-Return c =
    sym (append-nil c.loop-step.places.items) ∙ ap (λ ps. c.loop-step.places.items ++ ps)
    (sym (return_visited c.args.code.now c.steps-all.result.now c.loop-step.step _ c.steps-all.ensures c.loop-step-test.true c.in-Return.is))
    ∙ c.loop-step.invariant

pub loop-step-preserved : goal.loop-step-preserved
loop-step-preserved c = elim c.match-all-step.branch [
  | in-Call+in_ok-add_place-in-Call w ↦
      step_on c.loop-step.places.items c.match-all-step.places.items (option_to_list (place_of c.args.code.now c.loop-step.step)) _ _ _
      (ap (λ (v : Vec (ℕ × ℕ) Global). v.items) w.places-is ∙ w.in_ok-add_place-in-Call.ensures ∙ ap (λ o. c.loop-step.places.items ++ option_to_list o)
      w.place.ensures.value)
      (call_visited c.args.code.now c.steps-all.result.now c.loop-step.step _ _ c.steps-all.ensures c.loop-step-test.true w.in-Call.is) c.loop-step.invariant
  | in-Pick w ↦
      ap (λ (v : Vec (ℕ × ℕ) Global). v.items ++ places_of (calls_of (drop (c.loop-step.step + 1) (stages c.args.code.now)))) w.places-is
      ∙ ap (λ ps. c.loop-step.places.items ++ ps) (sym (pick_visited c.args.code.now c.steps-all.result.now c.loop-step.step _ _ c.steps-all.ensures
      c.loop-step-test.true w.in-Pick.is)) ∙ c.loop-step.invariant
]
