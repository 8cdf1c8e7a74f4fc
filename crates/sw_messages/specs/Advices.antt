-- What issuers are notified of later: what the switch decided without them.
use Rattle.std.specs.Prelude.{codes}
use Rattle.iso_msg.specs.Messages.{PlainMessage}
use Rattle.sw_context.specs.Pairs.{Pairs, find}
use Rattle.sw_messages.specs.Placing.{with_field}

-- the authorization advice: all fields of the request, with the approval code and the response
-- code
abbrev pub authorization_advice : PlainMessage → Pairs → PlainMessage
authorization_advice m x = record {
  mti = codes "0120";
  fields = with_field 39 (find (codes "rc") x) (with_field 38 (find (codes "auth") x) m.fields);
}

-- the reversal advice: all fields of the request
abbrev pub reversal_advice : PlainMessage → PlainMessage
reversal_advice m = record { mti = codes "0420"; fields = m.fields }
