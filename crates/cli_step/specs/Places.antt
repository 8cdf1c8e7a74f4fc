-- Where a transaction stands, as a script's lines show it.
use Rattle.std.specs.Prelude.{ℕ, ◌==◌, Bool, not, ◌&&◌, List, [], ◌++◌, codes, Option, Some, None, if◌then◌else◌}
use Rattle.std.specs.List.{flat_map, list_all}
use Rattle.std.specs.Fmt.{decimal}
use Rattle.sw_context.specs.Pairs.{Pairs}
use Rattle.sw_json.specs.Json.{is_printable}
use Rattle.flow_model.specs.declared.flow.Flow.{Flow}
use Rattle.tx_trace.specs.declared.places.Place.{Place}
use Rattle.tx_trace.specs.Acts.{act_word}
use Rattle.tx_trace.specs.Trace.{Text, group_name, hex_text, part_name, phase_text}
use Rattle.cli_step.specs.declared.shown.Values.{Values}
use Rattle.cli_step.specs.declared.shown.Values.TheVariants.{Hexadecimal, Readable}

-- `CALL NAME`
abbrev pub call_text : Flow → Place → Text
call_text f p = act_word p.call.act ++ codes " " ++ part_name f p.call.participant

-- ` GROUP/INDEX`
abbrev pub entry_text : Flow → ℕ → ℕ → Text
entry_text f g i = codes " " ++ group_name f g ++ codes "/" ++ decimal i

-- the same where an entry is called; nothing while members are notified
abbrev pub called_entry : Flow → Option ℕ → Option ℕ → Text
called_entry f (Some g) (Some i) = entry_text f g i
called_entry f _ _ = []

-- ` step N`
abbrev pub step_text : Option ℕ → Text
step_text None = []
step_text (Some n) = codes " step " ++ decimal n

-- `held S CALL NAME[ GROUP/INDEX]`
abbrev pub held_text : Flow → ℕ → Place → Text
held_text f s p = codes "held " ++ decimal s ++ codes " " ++ call_text f p ++ called_entry f p.group p.index

-- `where ID PHASE CALL NAME[ step N GROUP/INDEX]`
abbrev pub where_text : Flow → Place → Text
where_text f p = codes "where " ++ decimal p.id ++ codes " " ++ phase_text p.phase ++ codes " " ++ call_text f p
    ++ step_text p.step ++ called_entry f p.group p.index

-- `rest[ GROUP/INDEX ..]`
abbrev pub rest_text : Flow → List (ℕ × ℕ) → Text
rest_text f places = codes "rest" ++ flat_map (λ (p : ℕ × ℕ). entry_text f p.0 p.1) places

-- ` N=HEX`
abbrev pub put_text : List ℕ × List ℕ → Text
put_text e = codes " " ++ e.0 ++ codes "=" ++ flat_map hex_text e.1

-- a value that is shown as text: printable, and without a quotation mark
abbrev pub is_readable : ℕ → Bool
is_readable b = is_printable b && not (b == 34)

-- ` N="TEXT"`, or ` N=HEX` of a value that is not shown as text
abbrev pub readable_put : List ℕ × List ℕ → Text
readable_put e = if list_all is_readable e.1 then codes " " ++ e.0 ++ codes "=\"" ++ e.1 ++ codes "\"" else put_text e

-- an entry whose value is shown in this way
abbrev pub put_in : Values → List ℕ × List ℕ → Text
put_in Hexadecimal = put_text
put_in Readable = readable_put

-- `saved ID[ N=HEX ..]`, each entry shown in this way
abbrev pub saved_text : (List ℕ × List ℕ → Text) → ℕ → Pairs → Text
saved_text put id context = codes "saved " ++ decimal id ++ flat_map put context

-- `calls NAME COUNT`
abbrev pub calls_text : Text → ℕ → Text
calls_text name count = codes "calls " ++ name ++ codes " " ++ decimal count
