-- The record of a transaction.
use Rattle.std.specs.Prelude.{ℕ, ◌-◌, Bool, List, length, take, drop, Option, Some, None, codes, if◌then◌else◌, is_some, nat_le, option_and_then, option_map}
use Rattle.std.specs.Str.{bytes_eq}
use Rattle.iso_mask.specs.Masks.{masked_number}
use Rattle.iso_msg.specs.Messages.{PlainMessage, value_at}
use Rattle.sw_base.specs.Digits.{number_of}
use Rattle.sw_context.specs.Pairs.{Pairs, find}
use Rattle.sw_messages.specs.Requests.{is_stand_in, message_of}
use Rattle.tx_history.specs.declared.event.Entry.{Entry}
use Rattle.tx_history.specs.declared.event.Event.{Event}
use Rattle.tx_history.specs.declared.event.Event.TheVariants.{Taken}
use Rattle.tx_history.specs.declared.journal.Row.{Row}
use Rattle.tx_history.specs.declared.journal.WaitingContext.{WaitingContext}
use Rattle.sw_record.specs.Courses.{course, no_course, pairs_in, with_entry}
use Rattle.sw_record.specs.declared.record.Record.{Record}
use Rattle.sw_record.specs.declared.course.Course.{Course}

-- the message that a context carries under a name, if it can be read
abbrev pub message_at : List ℕ → Pairs → Option PlainMessage
message_at name x = message_of (find name x)

-- the value of a field, if there is a message, and it has one
abbrev pub field_in : ℕ → Option PlainMessage → Option (List ℕ)
field_in n m = option_and_then (λ (k : PlainMessage). value_at n k.fields) m

-- the amount of field 4
abbrev pub amount_in : Option PlainMessage → Option ℕ
amount_in m = option_and_then number_of (field_in 4 m)

-- the host that a participant of this name asks
abbrev pub host_named : List ℕ → Option (List ℕ)
host_named name = if bytes_eq (take 6 name) (codes "query_") then Some (drop 6 name) else None

abbrev pub host_of : Option (List ℕ) → Option (List ℕ)
host_of participant = option_and_then host_named participant

-- the number that up to twelve digits spell
abbrev pub short_number : List ℕ → Option ℕ
short_number digits = if nat_le (length digits) 12 then number_of digits else None

-- how many milliseconds the host took, if that was noted
abbrev pub milliseconds_in : Pairs → Option ℕ
milliseconds_in x = option_and_then short_number (find (codes "ms") x)

-- the record of a transaction with this course, of a flow that tries one again `retries` times; `tries` is how many tries it had left
abbrev pub record_of : ℕ → ℕ → ℕ → Course → Record
record_of id retries tries t = record {
  id = id;
  mti = option_map (λ (m : PlainMessage). m.mti) (message_at (codes "request") t.context);
  stan = field_in 11 (message_at (codes "request") t.context);
  terminal = field_in 41 (message_at (codes "request") t.context);
  card = option_map masked_number (field_in 2 (message_at (codes "request") t.context));
  amount = amount_in (message_at (codes "request") t.context);
  currency = field_in 49 (message_at (codes "request") t.context);
  code = field_in 39 (message_at (codes "response") t.context);
  decided = t.decided;
  host = host_of t.asked;
  host_milliseconds = milliseconds_in t.context;
  stand_in = is_stand_in t.context;
  retries = retries - tries;
  group = t.group;
}

-- the transaction that ends: its row is taken away, and it does not go to the shelf
abbrev pub ended_by : Option (ℕ × Option Row) → Option (ℕ × WaitingContext) → Option ℕ
ended_by None shelved = None
ended_by (Some (id, Some row)) shelved = None
ended_by (Some (id, None)) (Some w) = None
ended_by (Some (id, None)) None = Some id

abbrev pub ended_id : Entry → Option ℕ
ended_id entry = ended_by entry.change.row entry.change.shelved

-- there is a record of a transaction that was taken among the entries
abbrev pub recorded : ℕ → ℕ → Course → Option Record
recorded id retries t = option_map (λ tries. record_of id retries tries t) t.tries

-- the record of the transaction that ends with an entry, by the entries before that
abbrev pub record_after : ℕ → List Entry → Entry → Option Record
record_after retries before entry =
    option_and_then (λ id. recorded id retries (with_entry id entry (course id before))) (ended_id entry)

-- what is known of a transaction when it is taken: the context that its row has then
abbrev pub course_of_row : Row → Course
course_of_row row = record no_course { context = pairs_in row.context }

-- by the event of an entry, and the row that it changes; only a take has one
abbrev pub taken_by : ℕ → Event → Option (ℕ × Option Row) → Option Record
taken_by retries (Taken s) (Some (id, Some row)) = Some (record_of id retries row.tries (course_of_row row))
taken_by retries _ _ = None

-- the record of the transaction that an entry takes, as far as it is known then
abbrev pub record_taken : ℕ → Entry → Option Record
record_taken retries entry = taken_by retries entry.event entry.change.row
