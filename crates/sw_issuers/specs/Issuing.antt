-- What the simulated issuer answers.
use Rattle.std.specs.Prelude.{◌≡◌, ℕ, Bool, ◌||◌, List, [], ◌∷◌, ◌++◌, drop, slice_get, codes}
use Rattle.std.specs.Prelude.{Option, Some, None, option_map, if◌then◌else◌}
use Rattle.std.specs.Str.{bytes_eq}
use Rattle.std.specs.Coded.{coded_bool, coded_ℕ, coded_list, coded×}
use Rattle.iso_msg.specs.Messages.{PlainMessage, value_at}
use Rattle.iso_codec.specs.Spelling.{spelling}
use Rattle.sw_participant.specs.Shown.{shown}
use Rattle.sw_messages.specs.Placing.{with_field, copied}
use Rattle.sw_messages.specs.Requests.{message_of, is_authorization}
use Rattle.sw_issuers.specs.declared.verdict.Verdict.{Verdict}
use Rattle.sw_issuers.specs.declared.verdict.Verdict.TheVariants.{Approved, Refused, Silent}

-- the fields that a response copies from its request: card number, processing code, amount, date
-- and time, STAN, terminal, currency
abbrev pub copied_numbers : List ℕ
copied_numbers = 2 ∷ 3 ∷ 4 ∷ 7 ∷ 11 ∷ 41 ∷ 49 ∷ []

-- a response of a type with a code
abbrev pub response : List ℕ → List ℕ → PlainMessage → PlainMessage
response mti code m = record {
  mti = mti;
  fields = with_field 39 (Some code) (copied copied_numbers m.fields []);
}

-- an approval: code 00, and the STAN as approval code
abbrev pub approval : PlainMessage → PlainMessage
approval m = record {
  mti = codes "0110";
  fields = with_field 38 (value_at 11 m.fields) (response (codes "0110") (codes "00") m).fields;
}

-- by the last two digits of the amount
abbrev pub is_refusal : List ℕ → Bool
is_refusal ending =
    bytes_eq ending (codes "05") || (bytes_eq ending (codes "51")
    || (bytes_eq ending (codes "54") || bytes_eq ending (codes "61")))

abbrev pub verdict_of : List ℕ → Verdict
verdict_of ending =
    if is_refusal ending then Refused
    else if bytes_eq ending (codes "91") then Silent
    else Approved

-- a refusal has the last two digits of the amount as its code
abbrev pub judged : Verdict → List ℕ → PlainMessage → Option PlainMessage
judged Approved ending m = Some (approval m)
judged Refused ending m = Some (response (codes "0110") ending m)
judged Silent ending m = None

-- an authorization without an amount is approved
abbrev pub authorized : Option (List ℕ) → PlainMessage → Option PlainMessage
authorized None m = Some (approval m)
authorized (Some amount) m = judged (verdict_of (drop 10 amount)) (drop 10 amount) m

abbrev pub is_authorization_advice : List ℕ → Bool
is_authorization_advice mti = bytes_eq mti (codes "0120") || bytes_eq mti (codes "0121")

abbrev pub is_reversal_advice : List ℕ → Bool
is_reversal_advice mti = bytes_eq mti (codes "0420") || bytes_eq mti (codes "0421")

-- the answer to a message, if it has one: advices are accepted, and other messages not answered
abbrev pub answer_to : PlainMessage → Option PlainMessage
answer_to m =
    if is_authorization m.mti then authorized (value_at 4 m.fields) m
    else if is_authorization_advice m.mti then Some (response (codes "0130") (codes "00") m)
    else if is_reversal_advice m.mti then Some (response (codes "0430") (codes "00") m)
    else None

abbrev pub answer_by : Option PlainMessage → Option (List ℕ)
answer_by None = None
answer_by (Some m) = option_map spelling (answer_to m)

-- the bytes of the answer to these bytes
abbrev pub answer_of : List ℕ → Option (List ℕ)
answer_of bytes = answer_by (message_of (Some bytes))

-- the answers that wait, with one more if there is one
abbrev pub with_answer : Option (List ℕ) → List (List ℕ) → List (List ℕ)
with_answer None waiting = waiting
with_answer (Some answer) waiting = waiting ++ answer ∷ []

-- the answers that wait after a message came; a silent issuer answers nothing
abbrev pub answered : Bool → List ℕ → List (List ℕ) → List (List ℕ)
answered silent bytes waiting = if silent then waiting else with_answer (answer_of bytes) waiting

-- an issuer as a list of numbers: whether it is silent, and the answers that wait; no two are
-- shown alike
abbrev pub shown_issuer : Bool → List (List ℕ) → List ℕ
shown_issuer silent waiting =
    shown (coded× coded_bool (coded_list (coded_list coded_ℕ))) (silent, waiting)

-- sending puts the answer after those that wait
abbrev pub Sends : List ℕ → List ℕ → List ℕ → Type 0
Sends s bytes t = (silent : Bool) × (waiting : List (List ℕ))
    × (s ≡ shown_issuer silent waiting)
    × (t ≡ shown_issuer silent (answered silent bytes waiting))

-- receiving takes the first of them, if there is one
abbrev pub Receives : List ℕ → Option (List ℕ) → List ℕ → Type 0
Receives s answer t = (silent : Bool) × (waiting : List (List ℕ))
    × (s ≡ shown_issuer silent waiting) × (answer ≡ slice_get waiting 0)
    × (t ≡ shown_issuer silent (drop 1 waiting))
