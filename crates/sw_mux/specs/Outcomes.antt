-- What a message from the other side is.
use Rattle.std.specs.Prelude.{◌≡◌, true, false, Some}
use Rattle.iso_msg.specs.Messages.{PlainMessage}
use Rattle.sw_mux.specs.declared.mux.Response.{Response}
use Rattle.sw_mux.specs.declared.mux.Response.TheVariants.{Matched, Unhandled}
use Rattle.sw_mux.specs.Keys.{key}
use Rattle.sw_mux.specs.Waiting.{WaitingKeys, waits, without, answers}

-- Matched exactly where the message's key waits, which then waits no more; the message comes back
abbrev pub Answers : PlainMessage → WaitingKeys → Response → WaitingKeys → Type 0
Answers m es (Matched k n) fs =
    (n ≡ m) × (key m ≡ Some k.bytes) × (waits k.bytes es ≡ true) × (fs ≡ without k.bytes es)
Answers m es (Unhandled n) fs = (n ≡ m) × (answers (key m) es ≡ false) × (fs ≡ es)
