-- The line of the log for a transaction: its record, with its times, as an object of JSON.
use Rattle.std.specs.Prelude.{ℕ, List, [], ◌∷◌, ◌++◌, Option, Some, None, codes}
use Rattle.sw_json.specs.Json as json
use Rattle.sw_record.specs.declared.record.Record.{Record}
use Rattle.sw_log.specs.declared.line.Times.{Times}

-- a line, or a part of one, as bytes
abbrev pub Line : Type 0
Line = List ℕ

-- `,"WORD":"TEXT"`, if there is a value
abbrev pub text_if : List ℕ → Option (List ℕ) → Line
text_if word None = []
text_if word (Some value) = json.text word value

-- `,"WORD":N`, if there is a value
abbrev pub number_if : List ℕ → Option ℕ → Line
number_if word None = []
number_if word (Some value) = json.number word value

abbrev pub time_member : Option (List ℕ) → Line
time_member time = text_if (codes "time") time

-- what the request says: its type, and its fields 11, 41, 2, 4 and 49
unfoldable pub request_members : Record → Line
request_members r =
    text_if (codes "type") r.mti ++ (text_if (codes "stan") r.stan ++ (text_if (codes "terminal") r.terminal ++ (text_if (codes "card") r.card
    ++ (number_if (codes "amount") r.amount ++ text_if (codes "currency") r.currency))))

-- the host that was asked, and whether the switch decided in its place
unfoldable pub host_members : Record → Line
host_members r =
    text_if (codes "host") r.host ++ (number_if (codes "host_ms") r.host_milliseconds ++ json.flag (codes "stand_in") r.stand_in)

-- how it was answered
unfoldable pub answer_members : Record → Line
answer_members r =
    text_if (codes "code") r.code ++ (text_if (codes "decided") r.decided ++ (text_if (codes "group") r.group ++ (host_members r
    ++ json.number (codes "retries") r.retries)))

-- the record as an object
unfoldable pub record_object : Record → Times → Line
record_object r t =
    json.opening (codes "id") r.id ++ (time_member t.time ++ (request_members r ++ (answer_members r ++ (number_if (codes "ms") t.milliseconds
    ++ codes "}"))))

abbrev pub record_line : Record → Times → Line
record_line r t = record_object r t ++ 10 ∷ []

-- what is known of a transaction when it is taken: what the request says, and how often it was tried before
unfoldable pub taken_object : Record → Line
taken_object r = json.opening (codes "id") r.id ++ (request_members r ++ (json.number (codes "retries") r.retries ++ codes "}"))
