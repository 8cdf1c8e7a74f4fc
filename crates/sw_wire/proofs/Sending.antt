-- A message that is sent over a way.
-- for: way::send_over
use Rattle.std.proofs.Common.{◌≡◌, ℕ, List, Option, Some, subst, ◌∙◌, ap}
use Rattle.sw_mux.specs.declared.key.Key.{Key}
use Rattle.sw_wire.specs.declared.expected.Expected.{Expected}
use Rattle.sw_wire.specs.declared.frame.Frame.{Frame}
use Rattle.sw_wire.specs.declared.moment.Moment.{Moment}
use Rattle.sw_wire.specs.declared.outgoing.Awaited.{Awaited}
use Rattle.sw_wire.specs.declared.outgoing.Outgoing.{Outgoing}
use Rattle.sw_wire.specs.declared.sent.Sent.{Sent}
use Rattle.sw_wire.specs.Outgoings.{SentAs}
use Rattle.sw_wire.specs.Ways.{SendsOver, awaited_of, key_asked}

module _ {W : Type 0} (enters : W → Option Expected → Option Moment → W → Type 0) (takes : W → Option Key → Frame → Option Sent → W → Type 0) where
  pub sends_over : (way entered new : W) (message : List ℕ) (o : Outgoing) (expected : Option Expected) (asked : Option Moment) (deadline : Moment)
      (key : Option Key) (frame : Frame) (sent : Option Sent) (awaited : Option Awaited) → SentAs message o → expected ≡ o.expected → asked ≡ Some deadline
      → enters way expected asked entered → key ≡ key_asked o.expected → frame.bytes ≡ o.bytes → frame.deadline ≡ deadline
      → takes entered key frame sent new → awaited ≡ awaited_of key deadline sent → SendsOver enters takes way message new awaited
  sends_over way entered new message o expected asked deadline key frame sent awaited as' same is enter keyed bytes at took waits =
      let entered' : enters way o.expected (Some deadline) entered =
      subst (λ e. enters way e (Some deadline) entered) same (subst (λ m. enters way expected m entered) is enter) in
      let took' : takes entered (key_asked o.expected) frame sent new = subst (λ k. takes entered k frame sent new) keyed took in (
        Some o,
        as',
        (Some deadline, entered, entered', (frame, sent, bytes, at, took', waits ∙ ap (λ k. awaited_of k deadline sent) keyed)),
      )
