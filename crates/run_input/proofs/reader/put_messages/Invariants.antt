use Rattle.std.proofs.Common.{◌≡◌, ℕ, List, Option, drop}
use Rattle.sw_frame.specs.Feeds.{messages}
use Rattle.sw_frame.specs.Stream.{State}
use Rattle.run_input.specs.Arrivals.{CameSo}
use Rattle.run_input.proofs.reader.put_messages.Given as goal

abbrev pub invariant-loop-frame : goal.invariant-loop-frame
invariant-loop-frame g l = record {
  own : l.putter.intake ≡ l.queue.intake.id;
  so : (left : Option (List ℕ)) (s : State) → CameSo g.B.Input.header g.B.Input.input left s l.fn.putter.passed (messages l.list)
      → CameSo g.B.Input.header g.B.Input.input left s l.putter.passed (messages (drop l.frame-index l.list));
}
