-- A link to a host, over a way of any kind.
use Rattle.std.specs.Prelude.{◌≡◌, ℕ, List, [], Option, Some, None}
use Rattle.sw_mux.specs.declared.key.Key.{Key}
use Rattle.sw_wire.specs.declared.expected.Expected.{Expected}
use Rattle.sw_wire.specs.declared.frame.Frame.{Frame}
use Rattle.sw_wire.specs.declared.moment.Moment.{Moment}
use Rattle.sw_wire.specs.declared.outgoing.Awaited.{Awaited}
use Rattle.sw_wire.specs.declared.sent.Sent.{Sent}
use Rattle.sw_wire.specs.Ways.{SendsOver}
use Rattle.sw_hosts.specs.declared.link.HostLink.{HostLink}

-- the one state that links to hosts have
abbrev pub no_state : List ℕ
no_state = []

-- its way, and the answer that is waited for
pub record ShownLink (W : Type 0) : Type 0 where
  pub way : W
  pub awaited : Option Awaited

abbrev pub shown_link : {W : Type 0} → HostLink W → ShownLink W
shown_link link = record { way = link.way; awaited = link.awaited }

-- the answer that was waited for until now is late, if one was
abbrev pub Forgets : {W : Type 0} → (W → Key → W → Type 0) → W → Option Awaited → W → Type 0
Forgets forgets way None new = new ≡ way
Forgets forgets way (Some awaited) new = forgets way awaited.key new

-- Then the message is sent over the way, once, and its answer is waited for.
abbrev pub Sends :
    {W : Type 0} → (W → Option Expected → Option Moment → W → Type 0) → (W → Option Key → Frame → Option Sent → W → Type 0)
    → (W → Key → W → Type 0) → ShownLink W → List ℕ → ShownLink W → Type 0
Sends {W} enters takes forgets old message new =
    (way : W) × Forgets forgets old.way old.awaited way × SendsOver enters takes way message new.way new.awaited
