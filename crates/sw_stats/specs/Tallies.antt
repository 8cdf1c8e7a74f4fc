-- The numbers of a run, as a function of the contexts that its transactions ended with.
--
-- - *Tally*: what was counted of contexts that transactions ended
--   with. *Line of numbers* (`Line.antt`): its text, of a tally, the messages passed over, the
--   advices stored and a time.
use Rattle.std.specs.Prelude.{ℕ, ◌+◌, ◌-◌, ◌^◌, Bool, true, false, List, [], ◌∷◌, Option, Some, None, bytes_eq, codes, if◌then◌else◌, is_some, min}
use Rattle.std.specs.Prelude.{option_and_then, unwrap_or}
use Rattle.std.specs.Map.{lookup}
use Rattle.std.specs.declared.cmp.Ordering.{Ordering}
use Rattle.std.specs.Ordering.{nat_cmp}
use Rattle.std.specs.Cmp.Lexicographic.{slice_cmp}
use Rattle.std.specs.BTreeMap.{insert_entry, is_at}
use Rattle.iso_msg.specs.Messages.{value_at}
use Rattle.sw_context.specs.Pairs.{Pairs, find}
use Rattle.sw_messages.specs.declared.class.Class.{Class}
use Rattle.sw_messages.specs.declared.class.Class.TheVariants.{Authorization, NetworkManagement, Reversal}
use Rattle.sw_messages.specs.Requests.{is_stand_in, class_in, message_of}

-- Response codes with how often each was given. The codes rise.
abbrev pub Declined : Type 0
Declined = List (List ℕ × ℕ)

-- what was counted of contexts that transactions ended with, and how many advices were accepted
pub record Tally : Type 0 where
  pub requests : ℕ
  pub approved : ℕ
  pub declined : Declined
  pub stand_ins : ℕ
  pub reversals : ℕ
  pub delivered : ℕ

abbrev pub no_tally : Tally
no_tally = record { requests = 0; approved = 0; declined = []; stand_ins = 0; reversals = 0; delivered = 0 }

-- one more; a count of 64 bits that is full stays as it is
abbrev pub more : ℕ → ℕ
more n = min (n + 1) (2 ^ 64 - 1)

-- one more, if this is so
abbrev pub one_more : Bool → ℕ → ℕ
one_more b n = if b then more n else n

-- codes as the bytes are ordered
abbrev pub code_cmp : List ℕ → List ℕ → Ordering
code_cmp = slice_cmp nat_cmp

-- how often a code was given
abbrev pub count_of : List ℕ → Declined → ℕ
count_of code cs = unwrap_or (lookup (is_at (code_cmp code)) cs) 0

abbrev pub with_declined : List ℕ → Tally → Tally
with_declined code t = record t { declined = insert_entry code_cmp t.declined code (more (count_of code t.declined)) }

-- a response is approved if its code is 00, and otherwise declined with its code
abbrev pub with_code : Option (List ℕ) → Tally → Tally
with_code None t = t
with_code (Some code) t = if bytes_eq code (codes "00") then record t { approved = more t.approved } else with_declined code t

-- field 39 of the response that a context has
abbrev pub code_of : Pairs → Option (List ℕ)
code_of x = option_and_then (λ m. value_at 39 m.fields) (message_of (find (codes "response") x))

abbrev pub is_of_reversal : Option Class → Bool
is_of_reversal None = false
is_of_reversal (Some Authorization) = false
is_of_reversal (Some Reversal) = true
is_of_reversal (Some NetworkManagement) = false

abbrev pub is_reversal : Pairs → Bool
is_reversal x = is_of_reversal (class_in x)

-- The context of one more transaction: its request, the code of its response, whether the switch stood in, whether it
-- was a reversal.
abbrev pub with_context : Pairs → Tally → Tally
with_context x t =
    let u = with_code (code_of x) t in
    record u {
      requests = more u.requests;
      stand_ins = one_more (is_stand_in x) u.stand_ins;
      reversals = one_more (is_reversal x) u.reversals;
    }

-- contexts under ids, one after the other
abbrev pub tallied : Tally → List (ℕ × Pairs) → Tally
tallied t [] = t
tallied t (e ∷ es) = tallied (with_context e.1 t) es

-- one more advice that its issuer accepted
abbrev pub with_delivered : Tally → Tally
with_delivered t = record t { delivered = more t.delivered }
