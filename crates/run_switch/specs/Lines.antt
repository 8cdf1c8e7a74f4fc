-- The lines of a history, in each form.
use Rattle.std.specs.Prelude.{ℕ, ◌+◌, ◌-◌, List, [], ◌∷◌, ◌++◌, codes, length, take, Option, Some, None, option_map}
use Rattle.std.specs.List.{flat_map}
use Rattle.flow_model.specs.declared.flow.Flow.{Flow}
use Rattle.tx_history.specs.declared.event.Entry.{Entry}
use Rattle.tx_history.specs.declared.event.Event.{Event}
use Rattle.tx_history.specs.History.{Start}
use Rattle.tx_history.specs.Journal.{change, entries}
use Rattle.tx_engine.specs.World.{World}
use Rattle.tx_trace.specs.Lines.{json_text, line_text}
use Rattle.sw_log.specs.Line.{record_object, taken_object}
use Rattle.sw_log.specs.declared.line.Times.{Times}
use Rattle.sw_record.specs.Records.{record_after, record_taken}
use Rattle.sw_record.specs.declared.record.Record.{Record}
use Rattle.run_switch.specs.declared.reporter.LineForm.{LineForm}
use Rattle.run_switch.specs.declared.reporter.LineForm.TheVariants.{Text, Json, JsonWithRecords}

-- the entry that an event is after those before it
abbrev pub entry_at : Flow → Start → List Event → Event → Entry
entry_at f v past e = record { number = length past + 1; event = e; change = change f v (e ∷ past) }

-- the record of the transaction that ends with an entry, if one does that was taken since the history began
unfoldable pub record_at : Flow → Start → List Event → Event → Option Record
record_at f v past e = record_after f.retries (entries f v past) (entry_at f v past e)

-- what is known of the transaction that an entry takes, if it takes one
unfoldable pub taken_at : Flow → Start → List Event → Event → Option Record
taken_at f v past e = record_taken f.retries (entry_at f v past e)

-- the line of an entry, as text and as an object of JSON, and the record of the transaction that it ends, or takes
pub record Line : Type 0 where
  pub text : List ℕ
  pub json : List ℕ
  pub recorded : Option Record
  pub taken : Option Record

-- the line of an event after those before it
abbrev pub line_at : Flow → Start → List Event → Event → Line
line_at f v past e = record { text = line_text f v past e; json = json_text f v past e; recorded = record_at f v past e; taken = taken_at f v past e }

-- the line of each event, the oldest first
abbrev pub lines_of : Flow → Start → List Event → List Line
lines_of f v [] = []
lines_of f v (e ∷ past) = lines_of f v past ++ line_at f v past e ∷ []

abbrev pub lines_in : World → List Line
lines_in w = lines_of w.flow w.start w.past

-- no time is known
abbrev pub no_times : Times
no_times = record { time = None; milliseconds = None }

-- the object of the record of the transaction that ends, or is taken
abbrev pub object_of : Option Record → Option Record → Option (List ℕ)
object_of (Some r) taken = Some (record_object r no_times)
object_of None taken = option_map taken_object taken

-- a line that is an object, with that object as its last member
abbrev pub with_record : List ℕ → Option (List ℕ) → List ℕ
with_record line None = line
with_record line (Some object) = take (length line - 1) line ++ (codes ",\"record\":" ++ (object ++ codes "}"))

-- a line in this form
abbrev pub in_form : LineForm → Line → List ℕ
in_form Text l = l.text
in_form Json l = l.json
in_form JsonWithRecords l = with_record l.json (object_of l.recorded l.taken)

-- lines in this form, each with its line feed
abbrev pub written_as : LineForm → List Line → List ℕ
written_as form lines = flat_map (λ l. in_form form l ++ 10 ∷ []) lines
