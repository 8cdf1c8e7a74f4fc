-- When `reverse` gives the reversal of a request.
use Rattle.std.specs.Prelude.{ℕ, Bool, ◌&&◌, ◌||◌, List, Option, Some, None, is_some}
use Rattle.std.specs.Prelude.{if◌then◌else◌, codes}
use Rattle.iso_msg.specs.Messages.{PlainMessage}
use Rattle.iso_codec.specs.Spelling.{spelling}
use Rattle.sw_context.specs.Pairs.{Pairs, find}
use Rattle.sw_messages.specs.declared.class.Class.{Class}
use Rattle.sw_messages.specs.declared.class.Class.TheVariants.{Authorization}
use Rattle.sw_messages.specs.Requests.{request_in, class_of, is_approved}
use Rattle.sw_messages.specs.Reversals.{reversal_of}
use Rattle.sw_parts.specs.Quiet.{passes, joins}

-- the issuer may have approved what was sent: its answer is late, or was an approval
abbrev pub may_stand : Pairs → Bool
may_stand x = is_some (find (codes "late") x) || is_approved (find (codes "rc") x)

-- an abort gives it after a restart, or where what was sent may stand with the issuer
abbrev pub is_due : Bool → Pairs → Bool
is_due recovering x = recovering || (is_some (find (codes "sent") x) && may_stand x)

-- the reversal of an authorization, if it is due
abbrev pub advice_by : Bool → Option Class → PlainMessage → Option (List ℕ)
advice_by due (Some Authorization) m = if due then Some (spelling (reversal_of m)) else None
advice_by due _ m = None

-- only an authorization is reversed
abbrev pub advice_of : Bool → Option PlainMessage → Option (List ℕ)
advice_of due None = None
advice_of due (Some m) = advice_by due (class_of m.mti) m

-- reverse, at commit and at abort
abbrev pub committed_advice : Pairs → Option (List ℕ)
committed_advice x = advice_of (is_some (find (codes "late") x)) (request_in x)

abbrev pub aborted_advice : Bool → Pairs → Option (List ℕ)
aborted_advice recovering x = advice_of (is_due recovering x) (request_in x)

-- the answer to a preparation, by what the request is for: reverse joins authorizations
abbrev pub reverse_answer : Option Class → ℕ
reverse_answer (Some Authorization) = joins
reverse_answer _ = passes
