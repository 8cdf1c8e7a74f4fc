-- What the calls of the way over a host's threads did. Nothing is known of what passes between threads; so these say only that the way is the
-- same. They are opaque: no other function can say that one of these calls was made.
use Rattle.std.specs.Prelude.{◌≡◌, Option}
use Rattle.sw_mux.specs.declared.key.Key.{Key}
use Rattle.sw_wire.specs.declared.expected.Expected.{Expected}
use Rattle.sw_wire.specs.declared.frame.Frame.{Frame}
use Rattle.sw_wire.specs.declared.moment.Moment.{Moment}
use Rattle.sw_wire.specs.declared.sent.Sent.{Sent}

-- a request was to wait, or a message without one, and the deadline, if the host was asked
unfoldable pub WasEntered : {W : Type 0} → W → Option Expected → Option Moment → W → Type 0
WasEntered way expected deadline new = new ≡ way

-- a frame was handed to the host's thread, and what had been seen of the host, if it was taken
unfoldable pub WasHanded : {W : Type 0} → W → Option Key → Frame → Option Sent → W → Type 0
WasHanded way key frame sent new = new ≡ way

-- a request waits no more
unfoldable pub WasForgotten : {W : Type 0} → W → Key → W → Type 0
WasForgotten way key new = new ≡ way
