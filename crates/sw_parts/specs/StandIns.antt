-- What the switch decides by itself if the issuer's answer is late.
use Rattle.std.specs.Prelude.{◌≡◌, ℕ, Bool, false, true, ◌&&◌, nat_le, List, drop, ◌++◌}
use Rattle.std.specs.Prelude.{Option, Some, None, is_some, is_none, codes}
use Rattle.iso_msg.specs.Messages.{PlainMessage, value_at}
use Rattle.sw_base.specs.Digits.{number_of}
use Rattle.sw_context.specs.Pairs.{Pairs, find}
use Rattle.sw_messages.specs.declared.response_code.ResponseCode.TheVariants as rc
use Rattle.sw_messages.specs.Requests.{request_in, noted, coded}
use Rattle.sw_parts.specs.Quiet.{passes, refuses, leaves_notes}

-- the issuer's answer is late, and nobody has decided yet
abbrev pub is_open : Pairs → Bool
is_open x = is_some (find (codes "late") x) && is_none (find (codes "rc") x)

-- an amount up to the greatest one is approved
abbrev pub is_small : ℕ → Option ℕ → Bool
is_small most None = false
is_small most (Some amount) = nat_le amount most

-- the approval code: SI and the last four digits of the STAN
abbrev pub stand_in_code : List ℕ → List ℕ
stand_in_code stan = codes "SI" ++ drop 2 stan

-- the context as an approval of the switch's own leaves it: code 00, the approval code and the note `standin`
abbrev pub stood_in : List ℕ → Pairs → Pairs
stood_in stan x =
    noted (noted (coded rc.Approved x) (codes "auth") (stand_in_code stan))
    (codes "standin") (codes "1")

-- approved, with the approval code of this STAN, or refused with 91
abbrev pub Judged : Bool → List ℕ → Pairs → ℕ → Pairs → Type 0
Judged true stan x byte y = (byte ≡ leaves_notes) × (y ≡ stood_in stan x)
Judged false stan x byte y = (byte ≡ refuses) × (y ≡ coded rc.IssuerInoperative x)

-- a request without amount (4) or STAN (11) is passed over
abbrev pub StandsInWith : ℕ → Option (List ℕ) → Option (List ℕ) → Pairs → ℕ → Pairs → Type 0
StandsInWith most (Some amount) (Some stan) x byte y =
    Judged (is_small most (number_of amount)) stan x byte y
StandsInWith most _ _ x byte y = (byte ≡ passes) × (y ≡ x)

-- so is a context without a request that can be read
abbrev pub StandsInBy : ℕ → Option PlainMessage → Pairs → ℕ → Pairs → Type 0
StandsInBy most None x byte y = (byte ≡ passes) × (y ≡ x)
StandsInBy most (Some m) x byte y =
    StandsInWith most (value_at 4 m.fields) (value_at 11 m.fields) x byte y

-- it decides only where the answer is late and nobody has decided yet; otherwise it passes over
abbrev pub StandsInWhere : Bool → ℕ → Pairs → ℕ → Pairs → Type 0
StandsInWhere true most x byte y = StandsInBy most (request_in x) x byte y
StandsInWhere false most x byte y = (byte ≡ passes) × (y ≡ x)

-- stand-in up to an amount, as it prepares: context, answer byte, context after
abbrev pub StandsIn : ℕ → Pairs → ℕ → Pairs → Type 0
StandsIn most x byte y = StandsInWhere (is_open x) most x byte y
