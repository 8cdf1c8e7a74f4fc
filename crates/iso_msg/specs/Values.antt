-- The values that a field takes.
use Rattle.std.specs.Prelude.{◌≡◌, ℕ, Bool, ◌&&◌, ◌==◌, nat_le, nat_lt, List, length, Option, Some, None, if◌then◌else◌}
use Rattle.std.specs.List.{list_all}
use Rattle.iso_msg.specs.declared.table.FieldForm.{FieldForm}
use Rattle.iso_msg.specs.declared.table.FieldForm.TheVariants.{Fixed, Variable, Binary}
use Rattle.iso_msg.specs.declared.table.Content.{Content}
use Rattle.iso_msg.specs.declared.table.Content.TheVariants.{Numeric, Printable}
use Rattle.iso_msg.specs.declared.error.MessageError.{MessageError}
use Rattle.iso_msg.specs.declared.error.MessageError.TheVariants.{FieldNotInProfile, BadLength, BadContent, BadMti, OutOfMemory}
use Rattle.iso_msg.specs.Table.{form_of}
use Rattle.sw_base.specs.Digits.{is_digit}

-- printable ASCII, 0x20 to 0x7E
abbrev pub is_text : ℕ → Bool
is_text b = nat_le 32 b && nat_le b 126

abbrev pub is_byte : ℕ → Bool
is_byte b = nat_lt b 256

abbrev pub takes : Content → List ℕ → Bool
takes Numeric value = list_all is_digit value
takes Printable value = list_all is_text value

-- a value of this form may have this many bytes
abbrev pub has_length : FieldForm → ℕ → Bool
has_length (Fixed content exact) len = len == exact
has_length (Variable content length_digits most) len = nat_le len most
has_length Binary len = len == 8

-- the bytes of a value are of the form's content, whatever its length
abbrev pub has_content : FieldForm → List ℕ → Bool
has_content (Fixed content exact) value = takes content value
has_content (Variable content length_digits most) value = takes content value
has_content Binary value = list_all is_byte value

-- why a field of this form doesn't take a value, or None where it does
abbrev pub refusal_by : Option FieldForm → ℕ → List ℕ → Option MessageError
refusal_by None n value = Some (FieldNotInProfile n)
refusal_by (Some form) n value =
    if has_length form (length value)
    then (if has_content form value then None else Some (BadContent n))
    else Some (BadLength n)

abbrev pub refusal : ℕ → List ℕ → Option MessageError
refusal n value = refusal_by (form_of n) n value

-- The error that setting a field may give: the table's refusal, and out of memory only where the
-- table has none. A value never gives BadMti.
abbrev pub IsRefusal : MessageError → ℕ → List ℕ → Type 0
IsRefusal OutOfMemory n value = refusal n value ≡ None
IsRefusal (FieldNotInProfile k) n value = refusal n value ≡ Some (FieldNotInProfile k)
IsRefusal (BadLength k) n value = refusal n value ≡ Some (BadLength k)
IsRefusal (BadContent k) n value = refusal n value ≡ Some (BadContent k)
IsRefusal BadMti n value = ⊥
