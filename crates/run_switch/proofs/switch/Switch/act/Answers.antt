use Rattle.std.proofs.Common.{[], ◌∷◌, ◌∙◌, sym}
use Rattle.journal_store.specs.Kept.{kept}
use Rattle.tx_plant.specs.Plant.{seen, whole}
use Rattle.tx_seats.proofs.SeatedTurns.{all_seated}
use Rattle.run_switch.specs.Rounds.{doing}
use Rattle.run_switch.proofs.Doings.{does_turn, first_out}
use Rattle.run_switch.proofs.Rounds.{if_ok, on_if}
use Rattle.run_switch.proofs.switch.Switch.act.Goals as goal

pub returns : goal.returns
returns g c =
    let p = whole c.args.self.now.plant.running.engine c.args.self.now.plant.running.seats (seen (kept g.S.Store c.args.self.now.plant.journal)) in
    let q = whole c.drive.new.self.running.engine c.drive.new.self.running.seats (seen (kept g.S.Store c.drive.new.self.journal)) in
    let (m, driven, led, counts) = c.in-Ok.ensures.done in
    let first = first_out c.in-Ok.outcomes.items _ c.next.result c.in-Some.outcome (sym c.into_iter.ensures.rest ∙ c.next.ensures.items) c.in-Some.is in
    let turn = does_turn c.args.turn c.in-Ok.outcomes.items _ m p q c.args.self.now.answered c.in-Some.outcome driven first in
    record {
      does = if_ok c.unless_refused.result (λ o done. rw done.0 (turn done.1)) c.unless_refused.ensures;
      seated = on_if c.unless_refused.result (λ o done. (let t = turn done.1 in
          all_seated (doing c.args.turn (c.in-Some.outcome, t.wrote) ∷ []) t.acts.moved p q c.requires.seated t.acts.driven)) c.unless_refused.ensures;
    }
