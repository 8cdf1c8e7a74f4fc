-- The text of the trace: the line of an entry, by what it shows.
--
-- The trace.
--
-- `step_text` is the line of an event that leads from one state to the next:
-- [TRACE](../use/TRACE.md) has it in words.
use Rattle.std.specs.Prelude.{ℕ, Bool, List, [], ◌∷◌, ◌++◌, codes, if◌then◌else◌, ◌/◌, ◌%◌, ◌+◌, nat_lt, slice_get, take, map, filter, is_some, length, Option}
use Rattle.std.specs.Prelude.{Some, None, false}
use Rattle.std.specs.Borrow.{Bor}
use Rattle.std.specs.List.{flat_map}
use Rattle.std.specs.Option.{option_map_or}
use Rattle.std.specs.Fmt.{decimal}
use Rattle.sw_participant.specs.Answers.{is_bad, stays_out, is_readonly}
use Rattle.flow_model.specs.declared.flow.Flow.{Flow}
use Rattle.flow_model.specs.declared.flow.Group.{Group}
use Rattle.flow_model.specs.declared.numbering.Part.{Part}
use Rattle.flow_model.specs.Check.{is_named}
use Rattle.flow_model.specs.Places.{parts_of}
use Rattle.tx_machine.specs.declared.values.Phase.{Phase}
use Rattle.tx_machine.specs.declared.values.Phase.TheVariants.{Aborting, Committing, Preparing, Undoing}
use Rattle.tx_machine.specs.declared.values.Spot.{Spot}
use Rattle.tx_machine.specs.declared.values.Due.{Due}
use Rattle.tx_machine.specs.declared.values.Due.TheVariants as due
use Rattle.tx_machine.specs.Names.{names_of}
use Rattle.tx_machine.specs.Table.{TxState}
use Rattle.tx_machine.specs.Due.{due_of}
use Rattle.tx_machine.specs.declared.machine.Machine.{Machine}
use Rattle.tx_machine.specs.Contract.{tx_state}
use Rattle.tx_history.specs.declared.event.Event.{Event}
use Rattle.tx_history.specs.declared.event.Event.TheVariants.{Offered, Answered, Chose, Told, Released, Acked, Broke, Cleared, LetGo, Closed}
use Rattle.tx_trace.specs.declared.shown.Move.{Move}
use Rattle.tx_trace.specs.declared.shown.Shown.{Shown}
use Rattle.tx_trace.specs.declared.shown.Shown.TheVariants.{Moved, Begun, Plain}
use Rattle.tx_trace.specs.declared.shown.Standing.{Standing}

-- a text as its bytes
abbrev pub Text : Type 0
Text = List ℕ

-- what texts say
abbrev pub texts_of : List (Bor Text) → List Text
texts_of = map (λ t. t.now)

-- the name of the group of this index
abbrev pub group_name : Flow → ℕ → Text
group_name f g = option_map_or (λ (x : Group). x.name) (slice_get f.groups g) []

-- the name of the participant of this number
abbrev pub part_name : Flow → ℕ → Text
part_name f p = option_map_or (λ (x : Part). x.name) (slice_get (parts_of f) p) []

-- `NAME GROUP/INDEX`
abbrev pub spot_text : Flow → Spot → Text
spot_text f s = part_name f s.participant ++ codes " " ++ group_name f s.group ++ codes "/" ++ decimal s.index

-- the call that is due, or the end, as in `prepare NAME GROUP/INDEX`, `commit NAME` and `done`
abbrev pub due_text : Flow → Due → Text
due_text f (due.Prepare s) = codes "prepare " ++ spot_text f s
due_text f (due.PrepareForAbort s) = codes "prepare_for_abort " ++ spot_text f s
due_text f (due.Select s) = codes "select " ++ spot_text f s
due_text f (due.Commit p) = codes "commit " ++ part_name f p
due_text f (due.Abort p) = codes "abort " ++ part_name f p
due_text f due.Shelve = codes "shelve"
due_text f due.Done = codes "done"

abbrev pub phase_text : Phase → Text
phase_text Preparing = codes "P"
phase_text Aborting = codes "A"
phase_text Committing = codes "C"
phase_text Undoing = codes "U"

-- the byte of a lower case hexadecimal digit
abbrev pub hex_digit : ℕ → ℕ
hex_digit d = if nat_lt d 10 then 48 + d else 87 + d

-- two lower case hexadecimal digits
abbrev pub hex_text : ℕ → Text
hex_text b = hex_digit (b / 16) ∷ hex_digit (b % 16) ∷ []

abbrev pub word_if : Bool → Text → Text
word_if b word = if b then word else []

-- an answer: `HH [bad ]JOIN CTX `
abbrev pub answer_text : ℕ → Text
answer_text b = hex_text b ++ codes " " ++ word_if (is_bad b) (codes "bad ")
    ++ (if stays_out b then codes "nojoin " else codes "join ")
    ++ (if is_readonly b then codes "noctx " else codes "ctx ")

-- the names of groups of the flow among the first 16 names of a selection
abbrev pub known : List Group → Text → List Text
known groups text = filter (λ n. is_named n groups) (take 16 (names_of text))

abbrev pub with_comma : Text → Text
with_comma name = codes "," ++ name

abbrev pub comma_list : List Text → Text
comma_list [] = []
comma_list (n ∷ ns) = n ++ flat_map with_comma ns

-- `[NAMES] `
abbrev pub list_text : List Text → Text
list_text names = codes "[" ++ comma_list names ++ codes "] "

-- a choice
abbrev pub choice_text : Flow → Text → Text
choice_text f text = list_text (known f.groups text)

-- a told (the event): `[advice PLACE ]`, PLACE being the member's number from 0
abbrev pub told_text : Bool → ℕ → Text
told_text advised place = word_if advised (codes "advice " ++ decimal place ++ codes " ")

-- `bound `, where the bound has dropped the rest
abbrev pub bound_text : Bool → Text
bound_text bound = word_if bound (codes "bound ")

-- what an answer, a choice or a told adds after its call
abbrev pub event_text : Flow → Event → ℕ → Bool → Text
event_text f (Answered s b c) place bound = answer_text b ++ bound_text bound
event_text f (Chose s text) place bound = choice_text f text ++ bound_text bound
event_text f (Told s advice) place bound = told_text (is_some advice) place
event_text f _ place bound = []

-- the call that is due, or the end; instead of an outcome, the `recover` call that comes before it
abbrev pub call_text : Flow → Option (ℕ × Bool) → Due → Text
call_text f None d = due_text f d
call_text f (Some call) d = codes "recover " ++ part_name f call.0

-- where a transaction stands, with the `recover` call that comes before its outcome: its participant, and whether to
-- commit
pub record Point : Type 0 where
  pub state : TxState
  pub restores : Option (ℕ × Bool)

-- that of a transaction's machine
abbrev pub point_of : Flow → Machine → Option (ℕ × Bool) → Point
point_of f m call = record { state = tx_state f m; restores = call }

-- the same, as far as a line shows it
abbrev pub standing_of : Flow → Point → Standing
standing_of f p = record {
  phase = p.state.phase;
  due = due_of f p.state;
  restores = p.restores;
  told = p.state.told;
  bound = p.state.bound;
}

-- what an event shows that leads a transaction from where it stood to where it stands; `recovering` says that the transaction
-- comes from the journal
abbrev pub moved_of : Flow → ℕ → Bool → Point → Point → Move
moved_of f id recovering before after =
    record { id = id; recovering = recovering; before = standing_of f before; after = standing_of f after }

-- the call that is due where a transaction stands, or the end
abbrev pub standing_text : Flow → Standing → Text
standing_text f s = call_text f s.restores s.due

-- `ID PHASE CALL `
abbrev pub head_text : ℕ → Phase → Text → Text
head_text id phase call = decimal id ++ codes " " ++ phase_text phase ++ codes " " ++ call ++ codes " "

-- what an event on a transaction adds after its call
abbrev pub detail_text : Flow → Bool → Event → ℕ → Bool → Text
detail_text f recovering event place bound = word_if recovering (codes "recovering ") ++ event_text f event place bound

-- `ID PHASE CALL .. -> NEXT`
abbrev pub moved_text : Flow → Move → Event → Text
moved_text f m event =
    head_text m.id m.before.phase (standing_text f m.before)
    ++ (detail_text f m.recovering event m.before.told m.after.bound ++ codes "-> " ++ standing_text f m.after)

-- `ID take S -> NEXT`
abbrev pub begun_text : Flow → ℕ → ℕ → Due → Text
begun_text f id s d = decimal id ++ codes " take " ++ decimal s ++ codes " -> " ++ due_text f d

-- an event of the debugger
abbrev pub debug_text : Flow → Event → Text
debug_text f (Broke p) = codes "break " ++ part_name f p
debug_text f (Cleared p) = codes "clear " ++ part_name f p
debug_text f (LetGo s) = codes "go " ++ decimal s
debug_text f _ = []

-- an event that is of no transaction under way; `count` is how many contexts are on the shelf
abbrev pub plain_text : Flow → ℕ → Event → Text
plain_text f count (Offered context) = codes "offer " ++ decimal (length context)
plain_text f count Released = codes "release " ++ decimal count
plain_text f count (Acked id place) = codes "ack " ++ decimal id ++ codes " " ++ decimal place
plain_text f count (Closed id) = decimal id ++ codes " closed"
plain_text f count e = debug_text f e

-- the line of an entry, by what it shows
abbrev pub shown_text : Flow → Shown → Event → Text
shown_text f (Moved m) event = moved_text f m event
shown_text f (Begun id s d) event = begun_text f id s d
shown_text f (Plain count) event = plain_text f count event

-- where a transaction stands, with no `recover` call before its outcome
abbrev pub plain_point : TxState → Point
plain_point s = record { state = s; restores = None }

-- the line of an event on a transaction that does not come from the journal
abbrev pub step_text : ℕ → Flow → TxState → Event → TxState → Text
step_text id f before event after = moved_text f (moved_of f id false (plain_point before) (plain_point after)) event
