use Rattle.std.proofs.Common.{◌≡◌, ◌∙◌, [], ℕ, None, arith, refl, rules, string_bytes, subst}
use Rattle.std.specs.Bool.{⊤}
use Rattle.tx_plant.specs.declared.turn.Turn.TheVariants as turn
use Rattle.cli_step.proofs.Adding.{Going, adds_then, any_still, any_then, ends, gives_up, goes_on, none_gone, on_err, on_ok}
use Rattle.cli_step.proofs.Joining.{any_err}
use Rattle.cli_step.specs.Auto.{Quietly, Then, ToEnd}
use Rattle.cli_step.specs.Doing.{Adds, point_of}
use Rattle.cli_step.proofs.auto.auto.Goals.{else-loop-test, then-loop-test+in_ok-auto_step+then-not-branch}
use Rattle.cli_step.proofs.auto.auto.Goals as goal

pub loop-init : goal.loop-init
loop-init g c = record {
  follows = c.in_ok-quiet_turn-2.ensures.follows;
  goes = none_gone (point_of g.S.Store c.quiet_turn-2.new.plant) (string_bytes c.quiet_turn-2.new.text);
}

pub auto_step-requires : goal.auto_step-requires
auto_step-requires g c = c.loop.invariant.follows

pub loop-preserved : goal.loop-preserved
loop-preserved g c =
    let p = point_of g.S.Store c.quiet_turn-2.new.plant in
    let w = point_of g.S.Store c.loop.plant in
    let q = point_of g.S.Store c.auto_step.new.plant in
    let round = c.in_ok-auto_step.ensures.round in
    record {
      follows = c.in_ok-auto_step.ensures.follows;
      goes = goes_on c.loop.counter round.0 p w q (string_bytes c.quiet_turn-2.new.text) (string_bytes c.loop.text) (string_bytes c.auto_step.new.text)
          c.loop.invariant.goes (round.1 ∙ search rules) round.2;
    }

pub quiet_turn-requires-3 : goal.quiet_turn-requires-3
quiet_turn-requires-3 g c = elim c.loop-test.branch [
  | else-loop-test w ↦ rw (w.plant-is, w.tracer-is) c.loop.invariant.follows
  | then-loop-test+in_ok-auto_step+then-not-branch w ↦ rw (w.plant-is, w.tracer-is) w.in_ok-auto_step.ensures.follows
]

pub returns-clause-autos : goal.returns-clause-autos
returns-clause-autos g c =
    let p = point_of g.S.Store c.args.plant.now in
    let offered = point_of g.S.Store c.quiet_turn.new.plant in
    let taken = point_of g.S.Store c.quiet_turn-2.new.plant in
    let done = point_of g.S.Store c.loop-test.plant in
    let q = point_of g.S.Store c.quiet_turn-3.new.plant in
    let first = rw c.new-context.ensures at c.in_ok-quiet_turn.ensures.quietly in
    let write = Quietly (turn.Write None) in
    let text = string_bytes c.quiet_turn-3.new.text in
    let went = point_of g.S.Store c.loop.plant in
    let two = string_bytes c.quiet_turn-2.new.text in
    let rounds : Adds (λ t. ToEnd taken t done) two (string_bytes c.loop-test.text) = elim c.loop-test.branch [
      | else-loop-test w ↦
          let all : c.loop.counter ≡ 1048577 = omega arith in
          let gone : Adds (λ t. Going 1048577 taken t went) two (string_bytes c.loop.text) =
          subst (λ (n : ℕ). Adds (λ t. Going n taken t went) two (string_bytes c.loop.text)) all c.loop.invariant.goes in
          rw (w.plant-is, w.text-is) (gives_up taken went two (string_bytes c.loop.text) gone)
      | then-loop-test+in_ok-auto_step+then-not-branch w ↦
          let round = w.in_ok-auto_step.ensures.round in
          rw (w.plant-is, w.text-is) (ends c.loop.counter round.0 taken went (point_of g.S.Store w.auto_step.new.plant) two (string_bytes c.loop.text)
          (string_bytes w.auto_step.new.text) c.loop.invariant.goes (round.1 ∙ search rules) round.2)
    ] in
    on_ok c.quiet_turn-3.result (λ last.
    adds_then (Quietly (turn.Offer [])) (Then (Quietly (turn.Take 0)) (Then ToEnd write)) p offered q (string_bytes c.args.text.now)
    (string_bytes c.quiet_turn.new.text) text first
    (adds_then (Quietly (turn.Take 0)) (Then ToEnd write) offered taken q (string_bytes c.quiet_turn.new.text) two text
    c.in_ok-quiet_turn-2.ensures.quietly
    (adds_then ToEnd write taken done q two (string_bytes c.loop-test.text) text rounds last)))
    c.quiet_turn-3.ensures.quietly

pub returns-clause-failed : goal.returns-clause-failed
returns-clause-failed g c =
    let zero = string_bytes c.args.text.now in
    let one = string_bytes c.quiet_turn.new.text in
    let two = string_bytes c.quiet_turn-2.new.text in
    let three = string_bytes c.loop-test.text in
    let rounds : Adds (λ t. ⊤) two three = elim c.loop-test.branch [
      | else-loop-test w ↦ rw w.text-is (any_still two (string_bytes c.loop.text) _ c.loop.invariant.goes refl)
      | then-loop-test+in_ok-auto_step+then-not-branch w ↦
          rw w.text-is (any_then two (string_bytes c.loop.text) (string_bytes w.auto_step.new.text) c.loop.invariant.goes w.in_ok-auto_step.ensures.round.2)
    ] in
    on_err c.quiet_turn-3.result (λ same.
    any_still zero three _ (any_then zero two three (any_then zero one two c.in_ok-quiet_turn.ensures.quietly c.in_ok-quiet_turn-2.ensures.quietly)
    rounds) same)
    c.quiet_turn-3.ensures.failed

pub returns-in_err-auto_step-clause-failed : goal.returns-in_err-auto_step-clause-failed
returns-in_err-auto_step-clause-failed g c =
    let zero = string_bytes c.args.text.now in
    let one = string_bytes c.quiet_turn.new.text in
    let two = string_bytes c.quiet_turn-2.new.text in
    let three = string_bytes c.loop.text in
    let four = string_bytes c.auto_step.new.text in
    any_err _ (any_then zero three four
    (any_then zero two three (any_then zero one two c.in_ok-quiet_turn.ensures.quietly c.in_ok-quiet_turn-2.ensures.quietly) c.loop.invariant.goes)
    c.in_err-auto_step.ensures.failed)
