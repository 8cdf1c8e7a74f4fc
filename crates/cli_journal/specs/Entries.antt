-- What both forms show of the entries of a context.
use Rattle.std.specs.Prelude.{ℕ, ◌||◌, Bool, true, false, List, codes, if◌then◌else◌}
use Rattle.std.specs.Str.{bytes_eq}
use Rattle.cli_forms.specs.declared.masking.Masking.{Masking}
use Rattle.cli_forms.specs.declared.masking.Masking.TheVariants.{Off, On}

-- text as bytes
abbrev pub Text : Type 0
Text = List ℕ

-- the entries that are bytes of messages
abbrev pub is_message : Text → Bool
is_message name = bytes_eq name (codes "request") || bytes_eq name (codes "response")

-- the switch's own notes, which hold no card data
abbrev pub is_note : Text → Bool
is_note name =
    bytes_eq name (codes "rc") || bytes_eq name (codes "auth") || bytes_eq name (codes "sent")
    || bytes_eq name (codes "late") || bytes_eq name (codes "standin")

-- whether the value of an entry that is not a message is masked
abbrev pub is_masked : Masking → Text → Bool
is_masked Off name = false
is_masked On name = if is_note name then false else true
