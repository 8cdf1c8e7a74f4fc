-- The trace as JSON: an object for each entry, by what it shows.
use Rattle.std.specs.Prelude.{ℕ, Bool, not, List, [], ◌∷◌, ◌++◌, codes, length, is_some, Option, Some, None, if◌then◌else◌}
use Rattle.std.specs.Option.{option_map_or}
use Rattle.sw_participant.specs.Answers.{has, is_bad, is_readonly, stays_out}
use Rattle.sw_json.specs.Contexts.{noted}
use Rattle.sw_json.specs.Json as json
use Rattle.flow_model.specs.declared.flow.Flow.{Flow}
use Rattle.tx_machine.specs.declared.values.Due.{Due}
use Rattle.tx_machine.specs.declared.values.Due.TheVariants as due
use Rattle.tx_machine.specs.declared.values.Spot.{Spot}
use Rattle.tx_history.specs.declared.event.Event.{Event}
use Rattle.tx_history.specs.declared.event.Event.TheVariants.{Offered, Answered, Chose, Told, Recovered, Released, Acked, Broke, Cleared, LetGo, Closed}
use Rattle.tx_trace.specs.declared.shown.Move.{Move}
use Rattle.tx_trace.specs.declared.shown.Shown.{Shown}
use Rattle.tx_trace.specs.declared.shown.Shown.TheVariants.{Moved, Begun, Plain}
use Rattle.tx_trace.specs.declared.shown.Standing.{Standing}
use Rattle.tx_trace.specs.Trace.{Text, group_name, hex_text, known, part_name, phase_text}

-- `{"event":"WORD"`
unfoldable pub event_opening : Text → Text
event_opening word = codes "{\"event\":\"" ++ (word ++ codes "\"")

-- `"call":"WORD"`
unfoldable pub call_member : Text → Text
call_member word = codes "\"call\":\"" ++ (word ++ codes "\"")

-- `,"participant":"NAME"`
abbrev pub participant_member : Flow → ℕ → Text
participant_member f p = json.text (codes "participant") (part_name f p)

-- an entry of the flow: its participant, its group, and its index there
abbrev pub spot_members : Flow → Spot → Text
spot_members f s =
    participant_member f s.participant ++ (json.text (codes "group") (group_name f s.group) ++ json.number (codes "index") s.index)

-- the call that is due, or the end
abbrev pub due_members : Flow → Due → Text
due_members f (due.Prepare s) = call_member (codes "prepare") ++ spot_members f s
due_members f (due.PrepareForAbort s) = call_member (codes "prepare_for_abort") ++ spot_members f s
due_members f (due.Select s) = call_member (codes "select") ++ spot_members f s
due_members f (due.Commit p) = call_member (codes "commit") ++ participant_member f p
due_members f (due.Abort p) = call_member (codes "abort") ++ participant_member f p
due_members f due.Shelve = call_member (codes "shelve")
due_members f due.Done = call_member (codes "done")

-- the same; instead of an outcome, the `recover` call that comes before it
abbrev pub call_members : Flow → Option (ℕ × Bool) → Due → Text
call_members f None d = due_members f d
call_members f (Some call) d = call_member (codes "recover") ++ participant_member f call.0

-- the same, by where a transaction stands
abbrev pub standing_members : Flow → Standing → Text
standing_members f s = call_members f s.restores s.due

-- `,"next":{..}}`: what is due next, and the end of the object
unfoldable pub next_members : Text → Text
next_members members = codes ",\"next\":{" ++ (members ++ codes "}}")

abbrev pub name_if : Bool → Text → List Text
name_if b name = if b then name ∷ [] else []

-- the names of the bits that an answer's byte has
abbrev pub bit_names : ℕ → List Text
bit_names b =
    name_if (has b 0x01) (codes "PREPARED") ++ name_if (has b 0x02) (codes "RETRY")
    ++ name_if (has b 0x40) (codes "NO_JOIN") ++ name_if (has b 0x80) (codes "READONLY")

-- what is noted under the name `rc`: the response code
abbrev pub rc_member : Option Text → Text
rc_member rc = option_map_or (λ code. json.text (codes "rc") code) rc []

-- an answer's byte, in hexadecimal digits and by its bits
unfoldable pub byte_members : ℕ → Text
byte_members b =
    json.text (codes "byte") (hex_text b) ++ (json.texts (codes "answer") (bit_names b) ++ json.flag (codes "bad") (is_bad b))

-- whether its participant joined, and whether its context is saved
unfoldable pub reading_members : ℕ → Text
reading_members b =
    json.flag (codes "joined") (not (stays_out b)) ++ json.flag (codes "saved") (not (is_readonly b))

-- an answer: its byte, what that leads to, and the response code that is noted in its context
abbrev pub answer_members : ℕ → List ℕ → Text
answer_members b context = byte_members b ++ (reading_members b ++ rc_member (noted (codes "rc") context))

-- the place of the advice that a member gave
abbrev pub advice_member : Bool → ℕ → Text
advice_member advised place = if advised then json.number (codes "advice") place else []

-- the names of groups that a selection names
abbrev pub choice_members : Flow → Text → Bool → Text
choice_members f text bound = json.texts (codes "names") (known f.groups text) ++ json.flag (codes "bound") bound

-- what an event on a transaction adds after its call
abbrev pub event_members : Flow → Event → ℕ → Bool → Text
event_members f (Answered s b context) place bound = answer_members b context ++ json.flag (codes "bound") bound
event_members f (Chose s text) place bound = choice_members f text bound
event_members f (Told s advice) place bound = advice_member (is_some advice) place
event_members f _ place bound = []

abbrev pub event_word : Event → Text
event_word (Answered s b context) = codes "answer"
event_word (Chose s text) = codes "choice"
event_word (Told s advice) = codes "outcome"
event_word _ = codes "recover"

-- the transaction, its phase before the event, and the call that was due
unfoldable pub before_members : Flow → ℕ → Standing → Text
before_members f id s =
    json.number (codes "id") id ++ (json.text (codes "phase") (phase_text s.phase) ++ (codes "," ++ standing_members f s))

-- an event that leads a transaction from where it stood to where it stands
abbrev pub moved_json : Flow → Move → Event → Text
moved_json f m event =
    event_opening (event_word event) ++ (before_members f m.id m.before
    ++ (event_members f event m.before.told m.after.bound
    ++ (json.flag (codes "recovering") m.recovering ++ next_members (standing_members f m.after))))

-- a session took a transaction
abbrev pub begun_json : Flow → ℕ → ℕ → Due → Text
begun_json f id s d =
    event_opening (codes "take") ++ (json.number (codes "id") id ++ (json.number (codes "session") s ++ next_members (due_members f d)))

-- an event of the debugger
abbrev pub debug_json : Flow → Event → Text
debug_json f (Broke p) = event_opening (codes "break") ++ (participant_member f p ++ codes "}")
debug_json f (Cleared p) = event_opening (codes "clear") ++ (participant_member f p ++ codes "}")
debug_json f (LetGo s) = event_opening (codes "go") ++ (json.number (codes "session") s ++ codes "}")
debug_json f _ = []

-- an event that is of no transaction under way; `count` is how many contexts are on the shelf
abbrev pub plain_json : Flow → ℕ → Event → Text
plain_json f count (Offered context) = event_opening (codes "offer") ++ (json.number (codes "bytes") (length context) ++ codes "}")
plain_json f count Released = event_opening (codes "release") ++ (json.number (codes "count") count ++ codes "}")
plain_json f count (Acked id place) =
    event_opening (codes "ack") ++ (json.number (codes "id") id ++ (json.number (codes "advice") place ++ codes "}"))
plain_json f count (Closed id) = event_opening (codes "closed") ++ (json.number (codes "id") id ++ codes "}")
plain_json f count e = debug_json f e

-- the line of an entry
abbrev pub shown_json : Flow → Shown → Event → Text
shown_json f (Moved m) event = moved_json f m event
shown_json f (Begun id s d) event = begun_json f id s d
shown_json f (Plain count) event = plain_json f count event
