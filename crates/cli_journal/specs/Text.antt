-- The text of a journal: one fact a line.
use Rattle.std.specs.Prelude.{ℕ, Bool, true, false, List, [], ◌∷◌, ◌++◌, length, Option, Some, None, drop, codes, if◌then◌else◌}
use Rattle.std.specs.Fmt.{decimal}
use Rattle.std.specs.List.{flat_map, list_all}
use Rattle.iso_codec.specs.Spelling.{hex}
use Rattle.tx_machine.specs.declared.values.Phase.{Phase}
use Rattle.tx_history.specs.declared.journal.Row.{Row}
use Rattle.tx_history.specs.declared.journal.WaitingContext.{WaitingContext}
use Rattle.tx_history.specs.History.{is_committing, to_tell}
use Rattle.cli_forms.specs.declared.masking.Masking.{Masking}
use Rattle.cli_decode.specs.Decoded.{frame_text}
use Rattle.sw_json.specs.Json.{is_printable}
use Rattle.cli_journal.specs.Entries.{Text, is_masked, is_message}
use Rattle.cli_journal.specs.Items.{age_of, phase_name, verdict_name}

-- ---- an entry of a context

-- printable text between quotation marks, and any other value as hexadecimal digits
abbrev pub value_text : Text → Text
value_text value =
    if list_all is_printable value then codes "\"" ++ (value ++ codes "\"")
    else codes "x'" ++ (flat_map hex value ++ codes "'")

-- `K bytes`
abbrev pub size_text : Text → Text
size_text value = decimal (length value) ++ codes " bytes\n"

-- an asterisk after the name shows that the value is masked
abbrev pub note_rest : Bool → Text → Text
note_rest true value = codes "* " ++ size_text value
note_rest false value = codes " " ++ (value_text value ++ codes "\n")

-- of a message: its length, and the lines of what it reads as
abbrev pub message_rest : Masking → ℕ → Text → Text
message_rest k id value = codes " " ++ (size_text value ++ frame_text k id value)

-- what follows the name of an entry
abbrev pub entry_rest : Masking → ℕ → Text → Text → Text
entry_rest k id name value = if is_message name then message_rest k id value else note_rest (is_masked k name) value

-- the lines of an entry of a context, whose transaction or item of the shelf has this id, which is also the number of its messages
abbrev pub entry_text : Masking → ℕ → Text × Text → Text
entry_text k id e = codes "entry " ++ (e.0 ++ entry_rest k id e.0 e.1)

-- the line of a context that is refused
abbrev pub refused_text : Text
refused_text = codes "context refused\n"

-- ---- lines of a word with numbers or names

-- `WORD N`
abbrev pub number_line : Text → ℕ → Text
number_line word n = word ++ (codes " " ++ (decimal n ++ codes "\n"))

abbrev pub spaced : Text → Text
spaced name = codes " " ++ name

-- `WORD NAME NAME ..`
abbrev pub names_line : Text → List Text → Text
names_line word names = word ++ (flat_map spaced names ++ codes "\n")

-- ---- a transaction that is not finished

-- `transaction ID PHASE`
abbrev pub title_line : ℕ → Phase → Text
title_line id phase = codes "transaction " ++ (decimal id ++ (codes " " ++ (phase_name phase ++ codes "\n")))

-- the participant that was being prepared, if one was
abbrev pub doing_line : Option Text → Text
doing_line (Some name) = names_line (codes "doing") (name ∷ [])
doing_line None = []

-- those whom a recovery notifies: the members that were not notified yet, and the participant that was being prepared
abbrev pub to_notify : Row → List Text
to_notify r = drop r.told (to_tell r r.doing)

-- `recovery VERDICT NAME ..`
abbrev pub recovery_line : Row → Text
recovery_line r = names_line (codes "recovery " ++ verdict_name (is_committing r.phase)) (to_notify r)

-- the lines after that of id and phase
abbrev pub facts_text : Row → Text
facts_text r =
    names_line (codes "joined") r.joined ++ (number_line (codes "told") r.told
    ++ (doing_line r.doing ++ (number_line (codes "tries") r.tries ++ recovery_line r)))

-- all but its context
abbrev pub row_text : ℕ → Row → Text
row_text id r = title_line id r.phase ++ facts_text r

-- ---- a context that waits to be tried again, and an advice

-- all but the context
abbrev pub waiting_text : ℕ → WaitingContext → Text
waiting_text id w = number_line (codes "shelf") id ++ number_line (codes "tries") w.tries

-- `advice ID PLACE`
abbrev pub advice_line : ℕ × ℕ → Text
advice_line place = codes "advice " ++ (decimal place.0 ++ (codes " " ++ (decimal place.1 ++ codes "\n")))

-- the lines of an advice before its message
abbrev pub place_text : ℕ → ℕ × ℕ → Text
place_text next_id place = advice_line place ++ number_line (codes "age") (age_of next_id place.0)

-- ---- the head

-- by the layout and the next id
abbrev pub head_text : ℕ → ℕ → Text
head_text layout next_id = number_line (codes "layout") layout ++ number_line (codes "next id") next_id
