-- What a request asks to hold, and what a reversal names.
--
-- - *What a request asks to hold, what a reversal names*: amount,
--   card and key; the key of the original data elements. *Holds, committed, given back, aborted*
--   (`Holding.antt`): what becomes of the book.
use Rattle.std.specs.Prelude.{ℕ, List, ◌++◌, length, take, drop, replicate, Option, Some, None}
use Rattle.iso_msg.specs.Messages.{PlainMessage, value_at}
use Rattle.sw_base.specs.Digits.{number_of}
use Rattle.sw_book.specs.declared.error.BookError.{BookError}
use Rattle.sw_book.specs.declared.error.BookError.TheVariants.{OverLimit, AmountTooLarge}
use Rattle.sw_book.specs.declared.item.BookKey.{BookKey}
use Rattle.sw_book.specs.declared.item.Card.{Card}
use Rattle.sw_book.specs.declared.item.Item.{Item}
use Rattle.sw_book.specs.declared.item.State.TheVariants.{Open}
use Rattle.sw_messages.specs.declared.response_code.ResponseCode.{ResponseCode}
use Rattle.sw_messages.specs.declared.response_code.ResponseCode.TheVariants as rc

-- the digits of the card number, filled up with spaces to 19 bytes
abbrev pub card_of : List ℕ → Card
card_of digits = record { digits = digits ++ drop (length digits) (replicate 19 32) }

-- card, terminal, STAN, transmission date and time
abbrev pub key_of : Card → List ℕ → List ℕ → List ℕ → BookKey
key_of card terminal stan sent =
    record { bytes = ((card.digits ++ terminal) ++ stan) ++ sent }

-- a value of a message, if its field is there
abbrev pub Value : Type 0
Value = Option (List ℕ)

-- an open item, where the amount is a number
abbrev pub asked_amount : Card → BookKey → Option ℕ → Option Item
asked_amount card key None = None
asked_amount card key (Some amount) =
    Some (record { card = card; key = key; amount = amount; state = Open })

-- by the values of card, terminal, STAN, date and time, and amount; nothing where one of them is missing
abbrev pub asked_by : Value → Value → Value → Value → Value → Option Item
asked_by (Some card) (Some terminal) (Some stan) (Some sent) (Some amount) =
    asked_amount (card_of card) (key_of (card_of card) terminal stan sent) (number_of amount)
asked_by _ _ _ _ _ = None

-- what a request asks to hold: the amount (4) of its card (2), under the key of its terminal (41),
-- STAN (11), date and time (7)
abbrev pub asked : PlainMessage → Option Item
asked m = asked_by (value_at 2 m.fields) (value_at 41 m.fields) (value_at 11 m.fields)
    (value_at 7 m.fields) (value_at 4 m.fields)

-- by the values of card, terminal and original data elements: after a type of 4 digits the STAN, then date and time
abbrev pub original_by : Value → Value → Value → Option BookKey
original_by (Some card) (Some terminal) (Some original) = Some
    (key_of (card_of card) terminal (take 6 (drop 4 original)) (take 10 (drop 10 original)))
original_by _ _ _ = None

-- what a reversal names: its card (2) and terminal (41), and the STAN, date and time of the
-- original data elements (90)
abbrev pub original : PlainMessage → Option BookKey
original m = original_by (value_at 2 m.fields) (value_at 41 m.fields) (value_at 90 m.fields)

-- the response code of a refusal of the book
abbrev pub code_for : BookError → ResponseCode
code_for OverLimit = rc.ExceedsLimit
code_for AmountTooLarge = rc.InvalidAmount
code_for _ = rc.DuplicateTransmission
