-- What the entries of a history say of one transaction.
use Rattle.std.specs.Prelude.{ℕ, Bool, ◌==◌, ◌||◌, not, List, [], ◌∷◌, Option, Some, None, codes, if◌then◌else◌, is_some, option_and_then, option_map, unwrap_or}
use Rattle.std.specs.Option.{option_or}
use Rattle.sw_context.specs.Pairs.{Pairs, find}
use Rattle.sw_json.specs.Contexts.{context_at}
use Rattle.sw_participant.specs.Answers.{is_prepared}
use Rattle.tx_history.specs.declared.event.Entry.{Entry}
use Rattle.tx_history.specs.declared.event.Event.{Event}
use Rattle.tx_history.specs.declared.event.Event.TheVariants.{Taken, Answered, Chose}
use Rattle.tx_history.specs.declared.journal.Row.{Row}
use Rattle.sw_record.specs.declared.course.Course.{Course}

-- before the first entry
abbrev pub no_course : Course
no_course = record { doing = None; tries = None; group = None; decided = None; asked = None; context = [] }

-- the context that bytes spell, and one without entries where they spell none
abbrev pub pairs_in : List ℕ → Pairs
pairs_in bytes = unwrap_or (context_at bytes) []

-- the participant whose preparation is due, and the tries that are left, of a transaction with this row
abbrev pub doing_in : Option Row → Option (List ℕ)
doing_in row = option_and_then (λ (r : Row). r.doing) row

abbrev pub tries_in : Option Row → Option ℕ
tries_in row = option_map (λ (r : Row). r.tries) row

-- An answer decides if it lacks PREPARED, or if it left a response code or a response.
abbrev pub decides : ℕ → Pairs → Bool
decides byte x = not (is_prepared byte) || is_some (find (codes "rc") x) || is_some (find (codes "response") x)

-- an issuer was asked
abbrev pub was_asked : Pairs → Bool
was_asked x = is_some (find (codes "sent") x)

-- the first of the two: whom there was before, or the participant that answered if it is the one
abbrev pub first_of : Option (List ℕ) → Bool → Option (List ℕ) → Option (List ℕ)
first_of before is_it doing = option_or before (if is_it then doing else None)

-- the answer of the participant whose preparation was due
abbrev pub with_answer : ℕ → Pairs → Course → Course
with_answer byte x t = record t {
  decided = first_of t.decided (decides byte x) t.doing;
  asked = first_of t.asked (was_asked x) t.doing;
  context = x;
}

-- the text of a selection, unless it names no group
abbrev pub chosen : List ℕ → Option (List ℕ) → Option (List ℕ)
chosen [] before = before
chosen (c ∷ text) before = Some (c ∷ text)

-- an event of the transaction, after which it has this row
abbrev pub with_event : Event → Option Row → Course → Course
with_event (Taken s) row t = record t { tries = tries_in row }
with_event (Answered s byte bytes) row t = with_answer byte (pairs_in bytes) t
with_event (Chose s text) row t = record t { group = chosen text t.group }
with_event _ row t = t

-- an entry is of the transaction whose row it changes
abbrev pub with_row : ℕ → Event → Option (ℕ × Option Row) → Course → Course
with_row id e None t = t
with_row id e (Some r) t = if r.0 == id then record (with_event e r.1 t) { doing = doing_in r.1 } else t

-- with one more entry, which may be of another transaction
abbrev pub with_entry : ℕ → Entry → Course → Course
with_entry id entry t = with_row id entry.event entry.change.row t

-- entries one after the other
abbrev pub course_from : Course → ℕ → List Entry → Course
course_from t id [] = t
course_from t id (e ∷ es) = course_from (with_entry id e t) id es

abbrev pub course : ℕ → List Entry → Course
course id es = course_from no_course id es
