-- What is done over a way to a host, whatever way that is.
use Rattle.std.specs.Prelude.{◌≡◌, ◌<◌, ⊤, ℕ, true, List, Option, Some, None, option_map}
use Rattle.std.specs.Global.{Vec}
use Rattle.sw_mux.specs.declared.key.Key.{Key}
use Rattle.sw_wire.specs.declared.expected.Expected.{Expected}
use Rattle.sw_wire.specs.declared.frame.Frame.{Frame}
use Rattle.sw_wire.specs.declared.moment.Moment.{Moment}
use Rattle.sw_wire.specs.declared.sent.Sent.{Sent}
use Rattle.sw_wire.specs.declared.look.Look.{Look}
use Rattle.sw_wire.specs.declared.look.Look.TheVariants.{Answer}
use Rattle.sw_wire.specs.declared.outgoing.Awaited.{Awaited}
use Rattle.sw_wire.specs.declared.outgoing.Outgoing.{Outgoing}
use Rattle.sw_wire.specs.Keyed.{key_in, Answers, WaitsFor}
use Rattle.sw_wire.specs.Looks.{answer_in, is_open}
use Rattle.sw_wire.specs.Outgoings.{IsOutgoing}

-- the key that is waited for
abbrev pub awaited_key : Option Awaited → Option (List ℕ)
awaited_key awaited = option_map (λ a. a.key.bytes) awaited

-- after this message nothing is waited for, or the answer with its key
abbrev pub KeyedFor : List ℕ → Option Awaited → Type 0
KeyedFor message awaited = WaitsFor (key_in message) (awaited_key awaited)

-- these bytes are an answer with the key that is waited for
abbrev pub AnswersTo : Option Awaited → List ℕ → Type 0
AnswersTo awaited bytes = Answers (awaited_key awaited) bytes

-- an answer has the key that is waited for
abbrev pub AnswersLook : Awaited → Look → Type 0
AnswersLook a (Answer v) = key_in v.items ≡ Some a.key.bytes
AnswersLook a look = ⊤

-- the answer to a message with this key is waited for where its frame is on its way
abbrev pub awaited_of : Option Key → Moment → Option Sent → Option Awaited
awaited_of (Some k) deadline (Some s) = Some (record { key = k; deadline = deadline; sent = s })
awaited_of key deadline sent = None

abbrev pub key_asked : Option Expected → Option Key
key_asked expected = option_map (λ e. e.key) expected

-- Over a way of any kind: how it is entered with a request, and takes a frame. Each leads from one state of it to another.
module _ {W : Type 0} (enters : W → Option Expected → Option Moment → W → Type 0) (takes : W → Option Key → Frame → Option Sent → W → Type 0) where
  -- Where the host is asked, the frame was handed over once, with the deadline, and the answer is waited for where the frame is on its way.
  abbrev pub HandsOver : W → Option Moment → Outgoing → W → Option Awaited → Type 0
  HandsOver way None o new awaited = (new ≡ way) × (awaited ≡ None)
  HandsOver way (Some deadline) o new awaited =
      (frame : Frame) × (sent : Option Sent) × (frame.bytes ≡ o.bytes) × (frame.deadline ≡ deadline)
      × takes way (key_asked o.expected) frame sent new × (awaited ≡ awaited_of (key_asked o.expected) deadline sent)

  -- It is handed over after the way was entered once with the request, if it is one that waits for an answer.
  abbrev pub Enters : W → Option Outgoing → W → Option Awaited → Type 0
  Enters way None new awaited = (new ≡ way) × (awaited ≡ None)
  Enters way (Some o) new awaited =
      (deadline : Option Moment) × (entered : W) × enters way o.expected deadline entered × HandsOver entered deadline o new awaited

  -- The message was made a frame, and that was handed over.
  abbrev pub SendsOver : W → List ℕ → W → Option Awaited → Type 0
  SendsOver way message new awaited = (o : Option Outgoing) × IsOutgoing message o × Enters way o new awaited

-- the look of that number showed nothing yet
abbrev pub ShowsNothing : (ℕ → Look → Type 0) → ℕ → Type 0
ShowsNothing shows n = (look : Look) × shows n look × (is_open look ≡ true)

-- This is what a look showed, and those before it showed nothing yet. It shows nothing yet itself only where it is the last of 2 ^ 64.
abbrev pub SeesLast : (ℕ → Look → Type 0) → Look → Type 0
SeesLast shows look =
    (n : ℕ) × shows n look × ((k : ℕ) → k < n → ShowsNothing shows k) × (is_open look ≡ true → n ≡ 18446744073709551615)

-- What the last look for it showed is received.
abbrev pub ReceivesOver : (Awaited → ℕ → Look → Type 0) → Option Awaited → Option (Vec ℕ) → Type 0
ReceivesOver shows None answer = answer ≡ None
ReceivesOver shows (Some a) answer = (look : Look) × SeesLast (shows a) look × (answer ≡ answer_in look)
