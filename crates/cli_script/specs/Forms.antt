-- The form of each line: what the text after its first word means, or why it is refused.
use Rattle.std.specs.Prelude.{ℕ, List, [], ◌∷◌, Option, Some, None, Result, Ok, Err, if◌then◌else◌}
use Rattle.sw_context.specs.Names.{is_name}
use Rattle.sw_scripted.specs.declared.puts.Put.{Put}
use Rattle.flow_model.specs.declared.flow.Entry.{Entry}
use Rattle.cli_script.specs.Bytes.{byte_spelled, hex_spelled}
use Rattle.cli_script.specs.Groups.{entries_spelled}
use Rattle.cli_script.specs.Puts.{puts_spelled}
use Rattle.cli_script.specs.Words.{first_word, further_words, rest_of}
use Rattle.sw_base.specs.Spelling.{number_spelled}
use Rattle.cli_script.specs.declared.error.LineError.{LineError}
use Rattle.cli_script.specs.declared.error.LineError.TheVariants as refusal
use Rattle.cli_script.specs.declared.line.Action.{Action}
use Rattle.cli_script.specs.declared.line.Action.TheVariants as action
use Rattle.cli_script.specs.declared.line.ScriptLine.{ScriptLine}
use Rattle.cli_script.specs.declared.line.ScriptLine.TheVariants as line
use Rattle.cli_script.specs.declared.line.Setting.TheVariants as setting

-- what a line means, or why it is refused
abbrev pub Meaning : Type 0
Meaning = Result ScriptLine LineError

-- what is there, or the refusal
abbrev pub or_refuse : {A : Type 0} → LineError → Option A → Result A LineError
or_refuse e None = Err e
or_refuse e (Some x) = Ok x

-- a name
abbrev pub name_or : LineError → List ℕ → Result (List ℕ) LineError
name_or e word = if is_name word then Ok word else Err e

-- a number
abbrev pub number_or : LineError → List ℕ → Result ℕ LineError
number_or e word = or_refuse e (number_spelled word)

-- what is made of it
abbrev pub meant : {A : Type 0} → (A → ScriptLine) → Result A LineError → Meaning
meant make (Ok x) = Ok (make x)
meant make (Err e) = Err e

-- a line of one number, of one name, and of nothing
abbrev pub number_line : (ℕ → Action) → LineError → List ℕ → Meaning
number_line make e rest = meant (λ n. line.Action (make n)) (number_or e rest)

abbrev pub name_line : (List ℕ → Action) → LineError → List ℕ → Meaning
name_line make e rest = meant (λ name. line.Action (make name)) (name_or e rest)

abbrev pub bare_line : Action → LineError → List ℕ → Meaning
bare_line act e [] = Ok (line.Action act)
bare_line act e (b ∷ bs) = Err e

-- `flow GROUP ENTRY ..`
abbrev pub group_line : List ℕ → Option (List Entry) → Meaning
group_line name es =
    meant (λ es. line.Setting (setting.Flow (record { name = name; entries = es }))) (or_refuse refusal.Marks es)

abbrev pub flow_line : List ℕ → Meaning
flow_line [] = Err refusal.Flow
flow_line (b ∷ bs) = group_line (first_word (b ∷ bs)) (entries_spelled (further_words (rest_of (b ∷ bs))))

-- `answer NAME HH [N=HEX ..]`
abbrev pub answer_puts : List ℕ → ℕ → Option (List Put) → Meaning
answer_puts name b ps =
    meant (λ ps. line.Setting (setting.Answer name (record { byte = b; puts = ps }))) (or_refuse refusal.Entry ps)

abbrev pub answer_byte : List ℕ → Option ℕ → Option (List Put) → Meaning
answer_byte name None ps = Err refusal.Answer
answer_byte name (Some b) ps = answer_puts name b ps

abbrev pub answer_line : Option (List ℕ × List ℕ) → Meaning
answer_line None = Err refusal.Answer
answer_line (Some p) = if is_name p.0
    then answer_byte p.0 (byte_spelled (first_word p.1)) (puts_spelled (further_words (rest_of p.1)))
    else Err refusal.Answer

-- `choose NAME TEXT`, the text being all that follows one space, spaces included
abbrev pub choose_line : Option (List ℕ × List ℕ) → Meaning
choose_line None = Err refusal.Choose
choose_line (Some p) = if is_name p.0
    then Ok (line.Setting (setting.Choose p.0 p.1)) else Err refusal.Choose

-- `advice NAME HEX`
abbrev pub advice_body : List ℕ → Option (List ℕ) → Meaning
advice_body name body = meant (λ b. line.Setting (setting.Advice name b)) (or_refuse refusal.Advice body)

abbrev pub advice_line : Option (List ℕ × List ℕ) → Meaning
advice_line None = Err refusal.Advice
advice_line (Some p) = if is_name p.0 then advice_body p.0 (hex_spelled p.1) else Err refusal.Advice

-- `restore NAME [N=HEX ..]`
abbrev pub restore_puts : List ℕ → Option (List Put) → Meaning
restore_puts name ps = meant (λ ps. line.Setting (setting.Restore name ps)) (or_refuse refusal.Entry ps)

abbrev pub restore_line : List ℕ → Meaning
restore_line rest = if is_name (first_word rest)
    then restore_puts (first_word rest) (puts_spelled (further_words (rest_of rest)))
    else Err refusal.Restore

-- `offer [N=HEX ..]`
abbrev pub offer_line : List ℕ → Meaning
offer_line rest = meant (λ ps. line.Action (action.Offer ps)) (or_refuse refusal.Entry (puts_spelled (further_words rest)))

-- `ack ID PLACE`
abbrev pub ack_numbers : Option ℕ → Option ℕ → Meaning
ack_numbers (Some id) (Some place) = Ok (line.Action (action.Ack id place))
ack_numbers _ _ = Err refusal.Ack

abbrev pub ack_line : Option (List ℕ × List ℕ) → Meaning
ack_line None = Err refusal.Ack
ack_line (Some p) = ack_numbers (number_spelled p.0) (number_spelled p.1)

-- `write [K]`
abbrev pub write_line : List ℕ → Meaning
write_line [] = Ok (line.Action (action.Write None))
write_line (b ∷ bs) = number_line (λ n. action.Write (Some n)) refusal.Write (b ∷ bs)
