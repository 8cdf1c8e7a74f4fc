-- The lines of JSON: one object for each item, and one for each entry of its context.
use Rattle.std.specs.Prelude.{ℕ, Bool, true, false, List, ◌++◌, length, Option, Some, None, codes, if◌then◌else◌}
use Rattle.std.specs.List.{flat_map, list_all}
use Rattle.iso_codec.specs.Spelling.{hex}
use Rattle.tx_history.specs.declared.journal.Row.{Row}
use Rattle.tx_history.specs.declared.journal.WaitingContext.{WaitingContext}
use Rattle.tx_history.specs.History.{is_committing}
use Rattle.cli_forms.specs.declared.masking.Masking.{Masking}
use Rattle.cli_decode.specs.Decoded.{frame_text}
use Rattle.sw_json.specs.Json.{is_printable, number, opening, strings, text}
use Rattle.cli_journal.specs.declared.owner.Owner.{Owner}
use Rattle.cli_journal.specs.Entries.{Text, is_masked, is_message}
use Rattle.cli_journal.specs.Items.{age_of, phase_name, verdict_name}
use Rattle.cli_journal.specs.Owners.{id_of, word_of}

-- ---- an entry of a context

-- `{"WORD":ID`
abbrev pub owner_opening : Owner → Text
owner_opening o = opening (word_of o) (id_of o)

-- of a message: its length, and what it reads as
abbrev pub message_members : Masking → ℕ → Text → Text
message_members k id value = number (codes "bytes") (length value) ++ text (codes "message") (frame_text k id value)

-- of any other value: text where all bytes are printable, otherwise hexadecimal digits
abbrev pub value_members : Text → Text
value_members value = if list_all is_printable value then text (codes "text") value else text (codes "hex") (flat_map hex value)

-- of a value that is masked only its length
abbrev pub note_members : Bool → Text → Text
note_members true value = number (codes "bytes") (length value)
note_members false value = value_members value

-- the members after the name of an entry, by name and value
abbrev pub entry_members : Masking → ℕ → Text → Text → Text
entry_members k id name value = if is_message name then message_members k id value else note_members (is_masked k name) value

-- the line of an entry
abbrev pub entry_json : Masking → Owner → Text × Text → Text
entry_json k o e = owner_opening o ++ (text (codes "entry") e.0 ++ (entry_members k (id_of o) e.0 e.1 ++ codes "}\n"))

-- the line of a context that is refused
abbrev pub refused_json : Owner → Text
refused_json o = owner_opening o ++ codes ",\"context\":\"refused\"}\n"

-- ---- the items

-- the participant that was being prepared, or null
abbrev pub doing_member : Option Text → Text
doing_member (Some name) = text (codes "doing") name
doing_member None = codes ",\"doing\":null"

unfoldable pub joined_member : List Text → Text
joined_member names = codes ",\"joined\":[" ++ (strings names ++ codes "]")

-- the members, how many of them were notified, and the participant that was being prepared
abbrev pub told_members : Row → Text
told_members r = joined_member r.joined ++ (number (codes "told") r.told ++ doing_member r.doing)

-- all but its id and its context
abbrev pub row_members : Row → Text
row_members r =
    text (codes "phase") (phase_name r.phase) ++ (told_members r
    ++ (number (codes "tries") r.tries ++ text (codes "recovery") (verdict_name (is_committing r.phase))))

-- all but its context
abbrev pub row_json : ℕ → Row → Text
row_json id r = opening (codes "transaction") id ++ (row_members r ++ codes "}\n")

-- all but the context
abbrev pub waiting_json : ℕ → WaitingContext → Text
waiting_json id w = opening (codes "shelf") id ++ (number (codes "tries") w.tries ++ codes "}\n")

-- the line of an advice before its message, with its age by the next id
abbrev pub place_members : ℕ → ℕ × ℕ → Text
place_members next_id place =
    opening (codes "advice") place.0 ++ (number (codes "place") place.1 ++ number (codes "age") (age_of next_id place.0))

-- the message of an advice, and the end of its line
abbrev pub advised_json : Text → Text
advised_json message = text (codes "message") message ++ codes "}\n"

-- ---- the head

-- by the layout and the next id
abbrev pub head_json : ℕ → ℕ → Text
head_json layout next_id = opening (codes "layout") layout ++ (number (codes "next_id") next_id ++ codes "}\n")
