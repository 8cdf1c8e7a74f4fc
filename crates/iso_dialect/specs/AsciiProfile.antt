-- The profile by which today's bytes are written.
use Rattle.std.specs.Prelude.{◌≡◌, ℕ, zero, suc, true, List, [], ◌∷◌, option_map}
use Rattle.iso_msg.specs.declared.table.FieldForm.{FieldForm}
use Rattle.iso_msg.specs.declared.table.FieldForm.TheVariants.{Fixed, Variable, Binary}
use Rattle.iso_msg.specs.Table.{form_of}
use Rattle.iso_msg.specs.Messages.{PlainMessage}
use Rattle.iso_codec.specs.Grammar.{Spells}
use Rattle.iso_codec.specs.Reads.{read}
use Rattle.iso_dialect.specs.declared.coding.Coding.TheVariants.{Ascii}
use Rattle.iso_dialect.specs.declared.row.Count.TheVariants.{Digits}
use Rattle.iso_dialect.specs.declared.row.Size.TheVariants.{Exact, Counted}
use Rattle.iso_dialect.specs.declared.row.Row.{Row}
use Rattle.iso_dialect.specs.declared.profile.Draft.{Draft}
use Rattle.iso_dialect.specs.Profiles.{Rows}
use Rattle.iso_dialect.specs.Messages.{SpellsAs}
use Rattle.iso_dialect.specs.Readings.{read_as}

-- how the switch writes a field of this form
abbrev pub ascii_row : FieldForm → Row
ascii_row (Fixed content exact) = record { size = Exact exact; coding = Ascii; is_kept = true }
ascii_row (Variable content length_digits most) = record { size = Counted (Digits Ascii length_digits) most; coding = Ascii; is_kept = true }
ascii_row Binary = record { size = Exact 16; coding = Ascii; is_kept = true }

-- the rows of this many numbers from n on
abbrev pub rows_from : ℕ → ℕ → Rows
rows_from n zero = []
rows_from n (suc count) = option_map ascii_row (form_of n) ∷ rows_from (suc n) count

unfoldable pub ascii_rows : Rows
ascii_rows = rows_from 0 129

-- each part in ASCII, and each field of the table as its form says
abbrev pub ascii : Draft
ascii = record { mti = Ascii; bitmap = Ascii; rows = ascii_rows }

-- By this profile bytes are read as the switch reads them, with the same first fault.
abbrev pub ReadsAsToday : Type 0
ReadsAsToday = (bytes : List ℕ) → read_as ascii bytes ≡ read bytes

-- What is a message by this profile is one by the grammar.
abbrev pub SpellsToday : Type 0
SpellsToday = (bytes : List ℕ) (m : PlainMessage) → SpellsAs ascii bytes m → Spells bytes m

-- What is a message by the grammar is one by this profile.
abbrev pub TodaySpells : Type 0
TodaySpells = (bytes : List ℕ) (m : PlainMessage) → Spells bytes m → SpellsAs ascii bytes m
