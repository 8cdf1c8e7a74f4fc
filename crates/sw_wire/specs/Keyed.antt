-- The key of a message of which the bytes are known.
use Rattle.std.specs.Prelude.{◌≡◌, ℕ, ⊤, List, Option, Some, None}
use Rattle.iso_msg.specs.Messages.{PlainMessage}
use Rattle.sw_messages.specs.Requests.{message_of}
use Rattle.sw_mux.specs.Keys.{key}

abbrev pub key_of_message : Option PlainMessage → Option (List ℕ)
key_of_message None = None
key_of_message (Some m) = key m

-- none where they are not a message
abbrev pub key_in : List ℕ → Option (List ℕ)
key_in bytes = key_of_message (message_of (Some bytes))

-- the bytes are those of a message with the key that is waited for
abbrev pub Answers : Option (List ℕ) → List ℕ → Type 0
Answers None bytes = ⊥
Answers (Some k) bytes = key_in bytes ≡ Some k

-- after a message was sent nothing is waited for, or its key
abbrev pub WaitsFor : Option (List ℕ) → Option (List ℕ) → Type 0
WaitsFor sent None = ⊤
WaitsFor sent (Some k) = sent ≡ Some k
