-- What `check` does.
use Rattle.std.specs.Prelude.{◌≡◌, ℕ, Option, Some, None}
use Rattle.sw_context.specs.Pairs.{Pairs}
use Rattle.sw_messages.specs.declared.response_code.ResponseCode.{ResponseCode}
use Rattle.sw_messages.specs.Faults.{fault_of}
use Rattle.sw_messages.specs.Requests.{request_in, coded}
use Rattle.sw_parts.specs.Quiet.{passes, refuses}

-- a refusal is noted, and the transaction aborts
abbrev pub Decided : Option ResponseCode → Pairs → ℕ → Pairs → Type 0
Decided None x byte y = (byte ≡ passes) × (y ≡ x)
Decided (Some code) x byte y = (byte ≡ refuses) × (y ≡ coded code x)

-- check, as it prepares: context, answer byte, context after
abbrev pub ChecksFields : Pairs → ℕ → Pairs → Type 0
ChecksFields x byte y = Decided (fault_of (request_in x)) x byte y
