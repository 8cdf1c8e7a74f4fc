-- Which drafts are profiles: what is refused first.
use Rattle.std.specs.Prelude.{ℕ, ◌*◌, ◌/◌, ◌^◌, ◌==◌, nat_lt, nat_le, Bool, true, false, ◌&&◌, not, List, [], ◌∷◌, map, get_or, Option, Some, None}
use Rattle.sw_base.specs.Refusals.{first_at, first_of, or_else, refused_if}
use Rattle.iso_msg.specs.declared.table.FieldForm.{FieldForm}
use Rattle.iso_msg.specs.declared.table.FieldForm.TheVariants.{Fixed, Variable, Binary}
use Rattle.iso_msg.specs.Table.{form_of}
use Rattle.iso_dialect.specs.declared.coding.Coding.{Coding}
use Rattle.iso_dialect.specs.declared.coding.Coding.TheVariants.{Ascii, Ebcdic, Packed, Octets}
use Rattle.iso_dialect.specs.declared.row.Count.TheVariants.{Digits, Byte, TwoBytes}
use Rattle.iso_dialect.specs.declared.row.Size.{Size}
use Rattle.iso_dialect.specs.declared.row.Size.TheVariants.{Exact, Counted}
use Rattle.iso_dialect.specs.declared.row.Row.{Row}
use Rattle.iso_dialect.specs.declared.profile.Draft.{Draft}
use Rattle.iso_dialect.specs.declared.profile.Peer.{Peer}
use Rattle.iso_dialect.specs.declared.profile.Peer.TheVariants.{Acquirer, Host}
use Rattle.iso_dialect.specs.declared.error.ProfileError.{ProfileError}
use Rattle.iso_dialect.specs.declared.error.ProfileError.TheVariants.{BadMtiCoding, BadBitmapCoding, NoField, NotInTable, NeverFits, BadCount, CountTooSmall}
use Rattle.iso_dialect.specs.declared.error.ProfileError.TheVariants.{BadPad, NotKept}

-- the rows of a profile, by number
abbrev pub Rows : Type 0
Rows = List (Option Row)

abbrev pub row_of : Rows → ℕ → Option Row
row_of rows n = get_or rows n None

-- how many characters stand for one that is counted
abbrev pub scale : Coding → ℕ
scale Ascii = 1
scale (Ebcdic page) = 1
scale (Packed on_right pad) = 1
scale Octets = 2

-- digits that are counted or added up, one at a time
abbrev pub takes_digits : Coding → Bool
takes_digits Octets = false
takes_digits coding = true

-- the digits of a bitmap
abbrev pub takes_hex : Coding → Bool
takes_hex (Packed on_right pad) = false
takes_hex coding = true

abbrev pub is_pad : Coding → Bool
is_pad (Packed on_right pad) = nat_lt pad 16
is_pad coding = true

-- the text of a field's value in the switch has this many characters: the value itself, or its sixteen digits
abbrev pub has_text_length : FieldForm → ℕ → Bool
has_text_length (Fixed content exact) k = k == exact
has_text_length (Variable content length_digits most) k = nat_le k most
has_text_length Binary k = k == 16

abbrev pub least_length : FieldForm → ℕ
least_length (Fixed content exact) = exact
least_length (Variable content length_digits most) = 0
least_length Binary = 16

-- some text has a length that both have
abbrev pub some_fits : Size → ℕ → FieldForm → Bool
some_fits (Exact exact) each form = has_text_length form (each * exact)
some_fits (Counted count most) each form = each * (least_length form / each) == least_length form && nat_le (least_length form / each) most

abbrev pub fits_table : Row → Option FieldForm → Bool
fits_table row None = false
fits_table row (Some form) = some_fits row.size (scale row.coding) form

abbrev pub is_defined : Option FieldForm → Bool
is_defined None = false
is_defined (Some form) = true

abbrev pub is_count : Size → Bool
is_count (Exact exact) = true
is_count (Counted (Digits coding digits) most) = takes_digits coding && (nat_le 1 digits && nat_le digits 4)
is_count (Counted Byte most) = true
is_count (Counted TwoBytes most) = true

abbrev pub has_room : Size → Bool
has_room (Exact exact) = true
has_room (Counted (Digits coding digits) most) = nat_lt most (10 ^ digits)
has_room (Counted Byte most) = nat_lt most 256
has_room (Counted TwoBytes most) = nat_lt most 65536

abbrev pub is_count_pad : Size → Bool
is_count_pad (Exact exact) = true
is_count_pad (Counted (Digits coding digits) most) = is_pad coding
is_count_pad (Counted Byte most) = true
is_count_pad (Counted TwoBytes most) = true

-- 0 and 1 are no numbers of fields, nor is 65, which would tell of a third bitmap
abbrev pub is_field : ℕ → Bool
is_field n = nat_le 2 n && not (n == 65)

abbrev pub row_refusal : ℕ → Row → Option ProfileError
row_refusal n row = first_of (
    refused_if (not (is_field n)) (NoField n) ∷
    refused_if (row.is_kept && not (is_defined (form_of n))) (NotInTable n) ∷
    refused_if (row.is_kept && not (fits_table row (form_of n))) (NeverFits n) ∷
    refused_if (not (is_count row.size)) (BadCount n) ∷
    refused_if (not (has_room row.size)) (CountTooSmall n) ∷
    refused_if (not (is_count_pad row.size && is_pad row.coding)) (BadPad n) ∷ [])

abbrev pub refusal_at : ℕ → Option Row → Option ProfileError
refusal_at n None = None
refusal_at n (Some row) = row_refusal n row

-- what is refused whoever writes so
unfoldable pub refusal_in : Draft → Option ProfileError
refusal_in draft = first_of (
    refused_if (not (takes_digits draft.mti && is_pad draft.mti)) BadMtiCoding ∷
    refused_if (not (takes_hex draft.bitmap)) BadBitmapCoding ∷
    first_at refusal_at 0 draft.rows ∷ [])

-- the fields that the switch cannot do without
abbrev pub needed : Peer → List ℕ
needed Acquirer = 2 ∷ 3 ∷ 4 ∷ 7 ∷ 11 ∷ 39 ∷ 41 ∷ []
needed Host = 2 ∷ 4 ∷ 7 ∷ 11 ∷ 39 ∷ 41 ∷ 70 ∷ 90 ∷ []

abbrev pub is_kept_in : Option Row → Bool
is_kept_in None = false
is_kept_in (Some row) = row.is_kept

abbrev pub is_kept_at : Rows → ℕ → Bool
is_kept_at rows n = is_kept_in (row_of rows n)

abbrev pub missing_at : Rows → ℕ → Option ProfileError
missing_at rows n = refused_if (not (is_kept_at rows n)) (NotKept n)

-- the first of these numbers that has no row that is kept
abbrev pub missing_in : Rows → List ℕ → Option ProfileError
missing_in rows ns = first_of (map (missing_at rows) ns)

abbrev pub first_refusal : Peer → Draft → Option ProfileError
first_refusal peer draft = or_else (refusal_in draft) (missing_in draft.rows (needed peer))

-- how many are counted can be read
abbrev pub counts : Option Row → Bool
counts None = true
counts (Some row) = is_count row.size
