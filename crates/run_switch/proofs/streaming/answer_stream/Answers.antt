use Rattle.std.proofs.Common.{◌≡◌, Some, Ok, ap, refl, ◌∙◌}
use Rattle.sw_frame.specs.Stream.{blank}
use Rattle.run_input.specs.Arrivals.{IsLast}
use Rattle.run_input.proofs.Hearings.{came_so_far, came_to}
use Rattle.run_switch.proofs.Advancing.{advanced_all, advanced_leg, advanced_none, advanced_sends, stops_by, stops_fresh, stops_heard}
use Rattle.run_switch.proofs.Stops.{on_err_of}
use Rattle.run_switch.proofs.streaming.answer_stream.Goals as goal

pub loop-init : goal.loop-init
loop-init g c = record { serves = rw c.in_ok-arrivals.ensures (advanced_none _ (Some c.args.stream.order) _ _); ready = c.requires.ready }

pub returns-in_err-watch-clause-stops : goal.returns-in_err-watch-clause-stops
returns-in_err-watch-clause-stops g c = on_err_of c.from_residual.result (stops_fresh g.B.Input.header _ (Some c.args.stream.order) g.B.Input.input blank _ refl)

pub returns-in_err-arrivals-clause-stops : goal.returns-in_err-arrivals-clause-stops
returns-in_err-arrivals-clause-stops g c =
    on_err_of c.from_residual-in_err-arrivals.result (stops_fresh g.B.Input.header _ (Some c.args.stream.order) g.B.Input.input blank _ refl)

pub returns-in_err-led-clause-stops : goal.returns-in_err-led-clause-stops
returns-in_err-led-clause-stops g c =
    on_err_of c.from_residual-in_err-led.result (stops_by g.B.Input.header _ c.args.stream.order g.B.Input.input _ _ _ _ _ _ c.loop.invariant.serves c.in_err-led.ensures.halts)

pub returns-in-Some-Ok-clause-serves : goal.returns-in-Some-Ok-clause-serves
returns-in-Some-Ok-clause-serves g c =
    let inner : c.in-Some-Ok.field-0 ≡ Ok c.in-Some-Ok.end = rw c.in-Some-Ok.is at c.in-Some-Ok.field-0-is in
    let ended : c.in_ok-led.led.1.end ≡ Some (Ok c.in-Some-Ok.end) = c.in-Some-Ok.is ∙ ap Some inner in
    let last : IsLast (Ok c.in-Some-Ok.end) c.in_ok-led.led.1.arrivals = rw ended at c.in_ok-led.ensures.end in
    let all = came_to g.B.Input.header g.B.Input.input (Ok c.in-Some-Ok.end) c.in_ok-led.led.1.arrivals c.has_come.ensures last in
    let served = advanced_leg _ c.args.stream.order _ _ _ _ _ _ _ _ _ c.loop.invariant.serves c.in_ok-led.ensures.answered in
    (all.frames, all.read, advanced_all g.B.Input.header _ c.args.stream.order g.B.Input.input c.in-Some-Ok.end _ _ _ _ _ all served)

pub returns-in-Some-Err-clause-stops : goal.returns-in-Some-Err-clause-stops
returns-in-Some-Err-clause-stops g c =
    let served = advanced_leg _ c.args.stream.order _ _ _ _ _ _ _ _ _ c.loop.invariant.serves c.in_ok-led.ensures.answered in
    stops_heard g.B.Input.header _ c.args.stream.order g.B.Input.input _ _ _ _ _ served (came_so_far g.B.Input.header g.B.Input.input _ c.has_come.ensures)

pub returns-in_err-send_between-in-None-end-clause-stops : goal.returns-in_err-send_between-in-None-end-clause-stops
returns-in_err-send_between-in-None-end-clause-stops g c =
    let served = advanced_leg _ c.args.stream.order _ _ _ _ _ _ _ _ _ c.loop.invariant.serves c.in_ok-led.ensures.answered in
    on_err_of c.from_residual-in_err-send_between-in-None-end.result (stops_heard g.B.Input.header _ c.args.stream.order g.B.Input.input _ _ _ _ _ served
    (came_so_far g.B.Input.header g.B.Input.input _ c.has_come.ensures))

pub loop-preserved : goal.loop-preserved
loop-preserved g c = record {
  serves = advanced_sends _ (Some c.args.stream.order) _ _ _ _ _ _ _ _
      (advanced_leg _ c.args.stream.order _ _ _ _ _ _ _ _ _ c.loop.invariant.serves c.in_ok-led.ensures.answered) c.in_ok-send_between-in-None-end.ensures.sends;
  ready = c.in_ok-send_between-in-None-end.ensures.ready;
}
