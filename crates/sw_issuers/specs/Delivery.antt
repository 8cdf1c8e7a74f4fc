-- Whether an issuer accepted an advice.
use Rattle.std.specs.Prelude.{◌≡◌, ℕ, Bool, false, List, Option, Some, None}
use Rattle.iso_msg.specs.Messages.{PlainMessage, value_at}
use Rattle.sw_messages.specs.Requests.{is_approved}
use Rattle.sw_parts.specs.Queries.{Sending, Receiving, Starving, Hears}

-- a response came, and its response code is 00
abbrev pub is_accepted : Option PlainMessage → Bool
is_accepted None = false
is_accepted (Some m) = is_approved (value_at 39 m.fields)

module _ (sends : Sending) (receives : Receiving) (starves : Starving) (refused : Type 0) where
  -- The advice is sent once, and a response with its key is waited for; one without a key is sent,
  -- and no response counts as its own. Bytes, key, the link's state before, the answer, the state
  -- after.
  abbrev pub Delivers : List ℕ → Option (List ℕ) → List ℕ → Bool → List ℕ → Type 0
  Delivers bytes None s accepted t = sends s bytes t × (accepted ≡ false)
  Delivers bytes (Some k) s accepted t =
      (u : List ℕ) × (r : Option PlainMessage)
      × sends s bytes u × Hears receives starves refused 8 k u r t × (accepted ≡ is_accepted r)
