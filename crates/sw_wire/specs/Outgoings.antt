-- What a message becomes when it is sent.
use Rattle.std.specs.Prelude.{◌≡◌, ◌<◌, ℕ, List, length, Option, Some, None}
use Rattle.iso_msg.specs.Messages.{PlainMessage}
use Rattle.sw_frame.specs.Stream.{Framed}
use Rattle.sw_messages.specs.Requests.{message_of}
use Rattle.sw_mux.specs.Keys.{key}
use Rattle.sw_wire.specs.declared.expected.Expected.{Expected}
use Rattle.sw_wire.specs.declared.outgoing.Outgoing.{Outgoing}

-- the message waits for its answer exactly where it has a key
abbrev pub ExpectedFor : PlainMessage → Option Expected → Type 0
ExpectedFor m None = key m ≡ None
ExpectedFor m (Some e) = (e.request ≡ m) × (key m ≡ Some e.key.bytes)

-- likewise the message of these bytes, if they are one
abbrev pub IsExpected : Option PlainMessage → Option Expected → Type 0
IsExpected None expected = expected ≡ None
IsExpected (Some m) expected = ExpectedFor m expected

-- its frame, and it as a request that waits for its answer
pub record SentAs (message : List ℕ) (o : Outgoing) : Type 0 where
  pub framed : Framed o.bytes.items message
  pub expected : IsExpected (message_of (Some message)) o.expected

-- nothing where it is too long for a frame
abbrev pub IsOutgoing : List ℕ → Option Outgoing → Type 0
IsOutgoing message None = 9999 < length message
IsOutgoing message (Some o) = SentAs message o
