-- The entries of a context, each a word `N=HEX`.
use Rattle.std.specs.Prelude.{ℕ, List, nat_lt, length, Option, Some, None, option_map, if◌then◌else◌}
use Rattle.sw_context.specs.Names.{is_name}
use Rattle.sw_scripted.specs.declared.puts.Put.{Put}
use Rattle.cli_script.specs.Bytes.{hex_spelled}
use Rattle.cli_script.specs.Words.{all_spelled, cut_at}

abbrev pub put : List ℕ → List ℕ → Put
put name value = record { name = name; value = value }

-- a value has at most 65,535 bytes, of two digits each
abbrev pub put_valued : List ℕ → List ℕ → Option Put
put_valued name digits = if nat_lt 131070 (length digits) then None else option_map (put name) (hex_spelled digits)

-- by the parts of the word at its =, which are the name and the digits of the value
abbrev pub put_cut : Option (List ℕ × List ℕ) → Option Put
put_cut None = None
put_cut (Some p) = if is_name p.0 then put_valued p.0 p.1 else None

abbrev pub put_spelled : List ℕ → Option Put
put_spelled word = put_cut (cut_at 61 word)

-- the entries that words spell, where each of them spells one
abbrev pub puts_spelled : List (List ℕ) → Option (List Put)
puts_spelled = all_spelled put_spelled
