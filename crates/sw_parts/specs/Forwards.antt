-- What is stored to be forwarded: the advice of an approval of the switch's own, and each
-- reversal.
use Rattle.std.specs.Prelude.{ℕ, List, Option, Some, None, is_some, option_map, option_and_then, codes, if◌then◌else◌}
use Rattle.iso_msg.specs.Messages.{PlainMessage}
use Rattle.iso_codec.specs.Spelling.{spelling}
use Rattle.sw_context.specs.Pairs.{Pairs, find}
use Rattle.sw_messages.specs.declared.class.Class.{Class}
use Rattle.sw_messages.specs.declared.class.Class.TheVariants.{Authorization, Reversal}
use Rattle.sw_messages.specs.Advices.{authorization_advice, reversal_advice}
use Rattle.sw_messages.specs.Requests.{request_in, class_of}
use Rattle.sw_parts.specs.Quiet.{passes, joins}

-- the answer to a preparation, by what the request is for: forward joins authorizations and reversals
abbrev pub forward_answer : Option Class → ℕ
forward_answer (Some Authorization) = joins
forward_answer (Some Reversal) = joins
forward_answer _ = passes

-- the advice of a request that the switch approved by itself, whatever the request is for
abbrev pub approval : Pairs → Option (List ℕ)
approval x = option_map (λ m. spelling (authorization_advice m x)) (request_in x)

-- the advice of a reversal
abbrev pub reversal_by : Option Class → PlainMessage → Option (List ℕ)
reversal_by (Some Reversal) m = Some (spelling (reversal_advice m))
reversal_by _ m = None

-- the same of the request of a context
abbrev pub reversal : Pairs → Option (List ℕ)
reversal x = option_and_then (λ m. reversal_by (class_of m.mti) m) (request_in x)

-- forward, at commit
abbrev pub forwarded : Pairs → Option (List ℕ)
forwarded x = if is_some (find (codes "standin") x) then approval x else reversal x
