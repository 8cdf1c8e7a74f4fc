-- Why a message is not a valid request of the switch, as a function of the message alone.
--
-- - *Fault of a request*: the first of format error, invalid
--   card, invalid amount; an unreadable request is a format error, one of another type an invalid
--   transaction.
use Rattle.std.specs.Prelude.{ℕ, Bool, false, ◌==◌, not, nat_lt, List, [], ◌∷◌, length}
use Rattle.std.specs.Prelude.{Option, Some, None, is_some}
use Rattle.std.specs.List.{list_all}
use Rattle.sw_base.specs.Refusals.{refused_if, first_of}
use Rattle.iso_msg.specs.Messages.{PlainMessage, value_at}
use Rattle.sw_messages.specs.declared.class.Class.{Class}
use Rattle.sw_messages.specs.declared.class.Class.TheVariants.{Authorization, Reversal}
use Rattle.sw_messages.specs.declared.class.Class.TheVariants.{NetworkManagement}
use Rattle.sw_messages.specs.declared.response_code.ResponseCode.{ResponseCode}
use Rattle.sw_messages.specs.declared.response_code.ResponseCode.TheVariants as rc
use Rattle.sw_messages.specs.Requests.{class_of}

-- The required fields of a request of the class: card number, processing code, amount,
-- date and time, STAN and terminal; of a reversal the original data elements (90); of a network
-- message its management code (70).
abbrev pub needed_fields : Class → List ℕ
needed_fields Authorization = 2 ∷ 3 ∷ 4 ∷ 7 ∷ 11 ∷ 41 ∷ []
needed_fields Reversal = 2 ∷ 4 ∷ 11 ∷ 41 ∷ 90 ∷ []
needed_fields NetworkManagement = 11 ∷ 70 ∷ []

abbrev pub has_all : List ℕ → PlainMessage → Bool
has_all ns m = list_all (λ n. is_some (value_at n m.fields)) ns

-- a card number has at least 12 digits, where there is one
abbrev pub is_short : Option (List ℕ) → Bool
is_short None = false
is_short (Some card) = nat_lt (length card) 12

-- an amount is 0, where there is one
abbrev pub is_zero : Option (List ℕ) → Bool
is_zero None = false
is_zero (Some amount) = list_all (λ d. d == 48) amount

-- only an authorization is refused for a short card number
abbrev pub has_short_card : Class → PlainMessage → Bool
has_short_card Authorization m = is_short (value_at 2 m.fields)
has_short_card _ m = false

-- why a readable request of a class is refused at once, if it is
abbrev pub fault_in : Class → PlainMessage → Option ResponseCode
fault_in class m = first_of (
    refused_if (not (has_all (needed_fields class) m)) rc.FormatError
    ∷ refused_if (has_short_card class m) rc.InvalidCard
    ∷ refused_if (is_zero (value_at 4 m.fields)) rc.InvalidAmount
    ∷ [])

abbrev pub fault_of_class : Option Class → PlainMessage → Option ResponseCode
fault_of_class None m = Some rc.InvalidTransaction
fault_of_class (Some class) m = fault_in class m

-- why a request is refused at once, if it is: an unreadable one, one of another type, and one of
-- the above
abbrev pub fault_of : Option PlainMessage → Option ResponseCode
fault_of None = Some rc.FormatError
fault_of (Some m) = fault_of_class (class_of m.mti) m
