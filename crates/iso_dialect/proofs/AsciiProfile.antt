-- The profile of ASCII is today's grammar.
-- for: laws::ascii_is_the_grammar
use Rattle.std.proofs.Common.{◌≡◌, ◌∙◌, inl, inr, ℕ, zero, suc, ◌+◌, ◌*◌, ◌<◌, ◌≤◌, Bool, true, false, cond, eqb, leb, ltb, List, [], ◌∷◌, ◌++◌}
use Rattle.std.proofs.Common.{Option, Some, None, Result, Ok, Err, refl, sym, ap, arith, zero-add}
use Rattle.std.specs.Prelude.{option_map}
use Rattle.std.specs.List.{list_all}
use Rattle.std.proofs.lemmas.Bool.{cases_lt, ltb-false, le-leb}
use Rattle.sw_base.specs.Digits.{is_digit, number_of}
use Rattle.iso_msg.proofs.Bools.{equal-eqb}
use Rattle.iso_msg.proofs.FieldTable.{form_number}
use Rattle.iso_msg.specs.declared.table.FieldForm.{FieldForm}
use Rattle.iso_msg.specs.declared.table.FieldForm.TheVariants.{Fixed, Variable, Binary}
use Rattle.iso_msg.specs.declared.table.Content.{Content}
use Rattle.iso_msg.specs.Table.{form_of, definition_of, rows}
use Rattle.iso_msg.specs.Values.{takes, is_byte}
use Rattle.iso_msg.specs.Messages.{Fields}
use Rattle.iso_codec.specs.declared.error.DecodeError.{DecodeError}
use Rattle.iso_codec.specs.declared.error.DecodeError.TheVariants.{BadMti, BadBitmap, FieldNotInProfile, BadLength, BadContent}
use Rattle.iso_codec.specs.Digits.{bits_at, octets}
use Rattle.iso_codec.specs.Reads.{◌>>=◌, or_fault, part, mti_is, bitmap_at, bitmaps_at, starts_with_1, field_numbers, known, front_at, after_length}
use Rattle.iso_codec.specs.Reads.{octets_at, field_at, fields_at}
use Rattle.iso_codec.proofs.FrontReads as fronts
use Rattle.iso_codec.proofs.MessageReads as today
use Rattle.iso_dialect.specs.declared.coding.Coding.TheVariants.{Ascii}
use Rattle.iso_dialect.specs.declared.row.Row.{Row}
use Rattle.iso_dialect.specs.Profiles.{Rows, refusal_in, row_of}
use Rattle.iso_dialect.specs.Fields.{coded_at, digits_at, counted_at, field_text_at, value_as, field_as}
use Rattle.iso_dialect.specs.Readings.{bitmap_as, bitmaps_as, known_as, front_as, fields_as, read_as}
use Rattle.iso_dialect.specs.AsciiProfile.{ascii, ascii_row, ascii_rows, rows_from, ReadsAsToday, SpellsToday, TodaySpells}
use Rattle.iso_dialect.proofs.OctetBytes.{octets_bytes}
use Rattle.iso_dialect.proofs.MessageReads as dialect

-- ---- rows

row_at : (k n i : ℕ) → i < k → row_of (rows_from n k) i ≡ option_map ascii_row (form_of (n + i))
row_at zero n i h = absurd (omega arith)
row_at (suc k) n zero h = ap (λ (m : ℕ). option_map ascii_row (form_of m)) (omega arith)
row_at (suc k) n (suc i) h = row_at k (suc n) i (omega arith) ∙ ap (λ (m : ℕ). option_map ascii_row (form_of m)) (omega arith)

row_past : (k n i : ℕ) → k ≤ i → row_of (rows_from n k) i ≡ None
row_past zero n i h = refl
row_past (suc k) n zero h = absurd (omega arith)
row_past (suc k) n (suc i) h = row_past k (suc n) i (omega arith)

form_past : (n : ℕ) → 129 ≤ n → form_of n ≡ None
form_past n h = by (form_of n) refl
  where
    by : (o : Option FieldForm) → form_of n ≡ o → o ≡ None
    by None e = refl
    by (Some f) e = absurd (let p = form_number n f e in omega arith)

row_is : (n : ℕ) → row_of ascii_rows n ≡ option_map ascii_row (form_of n)
unfolding ascii_rows
row_is n =
    elim (cases_lt n 129) [
      | inl w ↦ row_at 129 0 n w ∙ ap (λ (m : ℕ). option_map ascii_row (form_of m)) (zero-add n)
      | inr w ↦ row_past 129 0 n w ∙ sym (ap (option_map ascii_row) (form_past n w))
    ]

pub is_checked : refusal_in ascii ≡ None
unfolding refusal_in ascii_rows form_of definition_of rows
is_checked = refl

-- ---- steps

abbrev Part : Type 0
Part = List ℕ × List ℕ

abbrev got : List ℕ → List ℕ → Result Part DecodeError
got x rest = Ok (x, rest)

bind_same : {A B : Type 0} (r : Result A DecodeError) (f g : A → Result B DecodeError) → ((x : A) → f x ≡ g x) → (r >>= f) ≡ (r >>= g)
bind_same (Ok x) f g h = h x
bind_same (Err e) f g h = refl

same_part : (r : Result Part DecodeError) → (r >>= λ body. got body.0 body.1) ≡ r
same_part (Ok x) = refl
same_part (Err e) = refl

coded_is : (k : ℕ) (fault : DecodeError) (bytes : List ℕ) → coded_at Ascii k fault bytes ≡ part k bytes
coded_is k fault bytes = same_part (part k bytes)

-- ---- the front

bitmap_is : (n : ℕ) (bytes : List ℕ) → bitmap_as Ascii n bytes ≡ bitmap_at n bytes
unfolding bitmap_as bitmap_at
bitmap_is n bytes =
    ap (λ (r : Result Part DecodeError). r >>= λ text. or_fault (bits_at n text.0) BadBitmap >>= λ ns. got ns text.1) (coded_is 16 BadBitmap bytes)

abbrev joined : Part → Result Part DecodeError → Result Part DecodeError
joined first r = cond (starts_with_1 first.0) (r >>= λ second. got (first.0 ++ second.0) second.1) (Ok first)

bitmaps_are : (bytes : List ℕ) → bitmaps_as Ascii bytes ≡ bitmaps_at bytes
unfolding bitmaps_as bitmaps_at
bitmaps_are bytes =
    ap (λ (r : Result Part DecodeError). r >>= λ first. joined first (bitmap_as Ascii 65 first.1)) (bitmap_is 1 bytes)
    ∙ bind_same (bitmap_at 1 bytes) (λ first. joined first (bitmap_as Ascii 65 first.1)) (λ first. joined first (bitmap_at 65 first.1))
    (λ first. ap (joined first) (bitmap_is 65 first.1))

abbrev Known : Type 0
Known = Result (Unit {0}) DecodeError

known_one : (o : Option FieldForm) (e : DecodeError) (r s : Known) → r ≡ s → (or_fault (option_map ascii_row o) e >>= λ row. r) ≡ (or_fault o e >>= λ f. s)
known_one None e r s h = refl
known_one (Some f) e r s h = h

known_is : (ns : List ℕ) → known_as ascii_rows ns ≡ known ns
unfolding known_as known
known_is [] = refl
known_is (n ∷ ns) =
    ap (λ (o : Option Row). or_fault o (FieldNotInProfile n) >>= λ row. known_as ascii_rows ns) (row_is n)
    ∙ known_one (form_of n) (FieldNotInProfile n) (known_as ascii_rows ns) (known ns) (known_is ns)

abbrev front : List ℕ → List ℕ → List ℕ → Result fronts.Front DecodeError
front digits ns rest = Ok (digits, ns, rest)

abbrev then_numbers : List ℕ → Part → Known → Result fronts.Front DecodeError
then_numbers digits ns r = r >>= λ ok. front digits (field_numbers ns.0) ns.1

numbers_are : (digits rest : List ℕ) → (bitmaps_as Ascii rest >>= λ ns. then_numbers digits ns (known_as ascii_rows (field_numbers ns.0)))
    ≡ (bitmaps_at rest >>= λ ns. then_numbers digits ns (known (field_numbers ns.0)))
numbers_are digits rest =
    ap (λ (r : Result Part DecodeError). r >>= λ ns. then_numbers digits ns (known_as ascii_rows (field_numbers ns.0))) (bitmaps_are rest)
    ∙ bind_same (bitmaps_at rest) (λ ns. then_numbers digits ns (known_as ascii_rows (field_numbers ns.0)))
    (λ ns. then_numbers digits ns (known (field_numbers ns.0))) (λ ns. ap (then_numbers digits ns) (known_is (field_numbers ns.0)))

after_type : (b : Bool) (digits : List ℕ) (f : List ℕ → Result fronts.Front DecodeError) (s : Result fronts.Front DecodeError) → f digits ≡ s
    → (cond b (Ok digits) (Err BadMti) >>= f) ≡ (cond b (Ok digits) (Err BadMti) >>= λ mti. s)
after_type true digits f s h = h
after_type false digits f s h = refl

abbrev as_now : List ℕ → List ℕ → Result fronts.Front DecodeError
as_now digits rest = bitmaps_as Ascii rest >>= λ ns. then_numbers digits ns (known_as ascii_rows (field_numbers ns.0))

abbrev as_today : List ℕ → List ℕ → Result fronts.Front DecodeError
as_today digits rest = bitmaps_at rest >>= λ ns. then_numbers digits ns (known (field_numbers ns.0))

front_is : (bytes : List ℕ) → front_as ascii bytes ≡ front_at bytes
unfolding front_as front_at
front_is bytes =
    ap (λ (r : Result Part DecodeError). r >>= λ p. mti_is p.0 >>= λ mti. as_now mti p.1) (coded_is 4 BadMti bytes)
    ∙ bind_same (part 4 bytes) (λ p. mti_is p.0 >>= λ mti. as_now mti p.1) (λ p. mti_is p.0 >>= λ mti. as_today p.0 p.1)
    (λ p. after_type (list_all is_digit p.0) p.0 (λ mti. as_now mti p.1) (as_today p.0 p.1) (numbers_are p.0 p.1))

-- ---- a field

content_is : (b : Bool) (n : ℕ) (text : Part) → (cond b (Ok text.0) (Err (BadContent n)) >>= λ v. got v text.1) ≡ cond b (Ok text) (Err (BadContent n))
content_is true n text = refl
content_is false n text = refl

takes_is : (c : Content) (n : ℕ) (r : Result Part DecodeError) → (r >>= λ text. cond (takes c text.0) (Ok text.0) (Err (BadContent n)) >>= λ v. got v text.1)
    ≡ (r >>= λ text. cond (takes c text.0) (Ok text) (Err (BadContent n)))
takes_is c n (Ok text) = content_is (takes c text.0) n text
takes_is c n (Err e) = refl

abbrev if_so : Bool → Result Part DecodeError → ℕ → Result Part DecodeError
if_so b r n = cond b r (Err (BadLength n))

fixed_is : (c : Content) (e n : ℕ) (bytes : List ℕ) → field_text_at (ascii_row (Fixed c e)) (Fixed c e) n bytes ≡ part e bytes
unfolding field_text_at
fixed_is c e n bytes =
    let one : 1 * e ≡ e = omega arith in
    ap (λ (k : ℕ). if_so (eqb k e) (coded_at Ascii k (BadContent n) bytes) n) one
    ∙ ap (λ (b : Bool). if_so b (coded_at Ascii e (BadContent n) bytes) n) (equal-eqb e e refl)
    ∙ coded_is e (BadContent n) bytes

abbrev sized : ℕ → ℕ → ℕ × List ℕ → Result Part DecodeError
sized most n k = if_so (leb (1 * k.0) most) (coded_at Ascii (1 * k.0) (BadContent n) k.1) n

sized_is : (most n len : ℕ) (rest : List ℕ) → ltb most len ≡ false → sized most n (len, rest) ≡ part len rest
sized_is most n len rest h =
    let one : 1 * len ≡ len = omega arith in
    let below : len ≤ most = ltb-false most len h in
    ap (λ (k : ℕ). if_so (leb k most) (coded_at Ascii k (BadContent n) rest) n) one
    ∙ ap (λ (b : Bool). if_so b (coded_at Ascii len (BadContent n) rest) n) (le-leb len most below)
    ∙ coded_is len (BadContent n) rest

abbrev number : ℕ → List ℕ → Result (ℕ × List ℕ) DecodeError
number k rest = Ok (k, rest)

counted_is : (most n len : ℕ) (rest : List ℕ) → (cond (ltb most len) (Err (BadLength n)) (number len rest) >>= sized most n)
    ≡ cond (ltb most len) (Err (BadLength n)) (part len rest)
counted_is most n len rest = by (ltb most len) refl
  where
    by : (b : Bool) → ltb most len ≡ b → (cond b (Err (BadLength n)) (number len rest) >>= sized most n) ≡ cond b (Err (BadLength n)) (part len rest)
    by true e = refl
    by false e = sized_is most n len rest e

abbrev digits_then : ℕ → ℕ → Option ℕ → List ℕ → Result Part DecodeError
digits_then most n o rest = ((or_fault o (BadLength n) >>= λ k. number k rest) >>= λ k. cond (ltb most k.0) (Err (BadLength n)) (Ok k)) >>= sized most n

length_is : (most n : ℕ) (o : Option ℕ) (rest : List ℕ) → digits_then most n o rest
    ≡ (or_fault o (BadLength n) >>= λ len. cond (ltb most len) (Err (BadLength n)) (part len rest))
length_is most n None rest = refl
length_is most n (Some len) rest = counted_is most n len rest

variable_by : (most n : ℕ) (r : Result Part DecodeError) →
    (((r >>= λ text. or_fault (number_of text.0) (BadLength n) >>= λ k. number k text.1) >>= λ k. cond (ltb most k.0) (Err (BadLength n)) (Ok k))
    >>= sized most n)
    ≡ (r >>= λ digits. or_fault (number_of digits.0) (BadLength n) >>= λ len. cond (ltb most len) (Err (BadLength n)) (part len digits.1))
variable_by most n (Ok text) = length_is most n (number_of text.0) text.1
variable_by most n (Err e) = refl

variable_is : (c : Content) (d most n : ℕ) (bytes : List ℕ)
    → field_text_at (ascii_row (Variable c d most)) (Variable c d most) n bytes ≡ after_length d most n bytes
unfolding field_text_at counted_at digits_at after_length
variable_is c d most n bytes =
    ap (λ (r : Result Part DecodeError). ((r >>= λ text. or_fault (number_of text.0) (BadLength n) >>= λ k. number k text.1) >>= λ k.
    cond (ltb most k.0) (Err (BadLength n)) (Ok k)) >>= sized most n) (coded_is d (BadLength n) bytes)
    ∙ variable_by most n (part d bytes)

abbrev checked : ℕ → Part → Result Part DecodeError
checked n value = cond (list_all is_byte value.0) (Ok value) (Err (BadContent n))

bytes_are : (text : List ℕ) (n : ℕ) (rest : List ℕ) → (or_fault (octets text) (BadContent n) >>= λ v. got v rest)
    ≡ ((or_fault (octets text) (BadContent n) >>= λ v. got v rest) >>= checked n)
bytes_are text n rest = by (octets text) refl
  where
    by : (o : Option (List ℕ)) → octets text ≡ o
        → (or_fault o (BadContent n) >>= λ v. got v rest) ≡ ((or_fault o (BadContent n) >>= λ v. got v rest) >>= checked n)
    by None e = refl
    by (Some v) e = sym (ap (λ (b : Bool). cond b (got v rest) (Err (BadContent n))) (octets_bytes text v e))

binary_by : (n : ℕ) (r : Result Part DecodeError) → (r >>= λ text. or_fault (octets text.0) (BadContent n) >>= λ v. got v text.1)
    ≡ ((r >>= λ text. or_fault (octets text.0) (BadContent n) >>= λ v. got v text.1) >>= checked n)
binary_by n (Ok text) = bytes_are text.0 n text.1
binary_by n (Err e) = refl

binary_is : (n : ℕ) (bytes : List ℕ) → value_as (ascii_row Binary) (Some Binary) n bytes ≡ field_at (Some Binary) n bytes
unfolding field_text_at octets_at
binary_is n bytes =
    ap (λ (r : Result Part DecodeError). r >>= λ text. or_fault (octets text.0) (BadContent n) >>= λ v. got v text.1) (coded_is 16 (BadContent n) bytes)
    ∙ binary_by n (part 16 bytes)

abbrev alone : ℕ → Result Part DecodeError → Result (Fields × List ℕ) DecodeError
alone n r = r >>= λ v. Ok ((n, v.0) ∷ [], v.1)

field_by_form : (o : Option FieldForm) (n : ℕ) (bytes : List ℕ) → form_of n ≡ o → field_as (option_map ascii_row o) n bytes ≡ alone n (field_at o n bytes)
field_by_form None n bytes e = refl
field_by_form (Some (Fixed c k)) n bytes e =
    ap (λ (o : Option FieldForm). alone n (value_as (ascii_row (Fixed c k)) o n bytes)) e
    ∙ ap (alone n) (ap (λ (r : Result Part DecodeError). r >>= λ text. cond (takes c text.0) (Ok text.0) (Err (BadContent n)) >>= λ v. got v text.1)
    (fixed_is c k n bytes) ∙ takes_is c n (part k bytes))
field_by_form (Some (Variable c d most)) n bytes e =
    ap (λ (o : Option FieldForm). alone n (value_as (ascii_row (Variable c d most)) o n bytes)) e
    ∙ ap (alone n) (ap (λ (r : Result Part DecodeError). r >>= λ text. cond (takes c text.0) (Ok text.0) (Err (BadContent n)) >>= λ v. got v text.1)
    (variable_is c d most n bytes) ∙ takes_is c n (after_length d most n bytes))
field_by_form (Some Binary) n bytes e =
    ap (λ (o : Option FieldForm). alone n (value_as (ascii_row Binary) o n bytes)) e ∙ ap (alone n) (binary_is n bytes)

-- ---- the message

abbrev and_fields : Rows → List ℕ → Result (Fields × List ℕ) DecodeError → Result (Fields × List ℕ) DecodeError
and_fields rows ns r = r >>= λ f. fields_as rows ns f.1 >>= λ fs. Ok (f.0 ++ fs.0, fs.1)

abbrev with_first : ℕ → List ℕ → Result (Fields × List ℕ) DecodeError → Result (Fields × List ℕ) DecodeError
with_first n v r = r >>= λ fields. Ok ((n, v) ∷ fields.0, fields.1)

fields_step : (n : ℕ) (ns : List ℕ) (r : Result Part DecodeError) → ((bytes : List ℕ) → fields_as ascii_rows ns bytes ≡ fields_at ns bytes)
    → and_fields ascii_rows ns (alone n r) ≡ (r >>= λ value. with_first n value.0 (fields_at ns value.1))
fields_step n ns (Ok v) h = ap (with_first n v.0) (h v.1)
fields_step n ns (Err e) h = refl

fields_are : (ns bytes : List ℕ) → fields_as ascii_rows ns bytes ≡ fields_at ns bytes
unfolding fields_as fields_at
fields_are [] bytes = refl
fields_are (n ∷ ns) bytes =
    ap (λ (o : Option Row). and_fields ascii_rows ns (field_as o n bytes)) (row_is n)
    ∙ ap (and_fields ascii_rows ns) (field_by_form (form_of n) n bytes refl)
    ∙ fields_step n ns (field_at (form_of n) n bytes) (λ more. fields_are ns more)

pub reads_as_today : ReadsAsToday
unfolding read_as
reads_as_today bytes =
    ap (λ (r : Result fronts.Front DecodeError). r >>= λ f. fields_as ascii_rows f.1 f.2 >>= λ fields. fronts.ended f.0 fields) (front_is bytes)
    ∙ bind_same (front_at bytes) (λ f. fields_as ascii_rows f.1 f.2 >>= λ fields. fronts.ended f.0 fields) fronts.then_fields
    (λ f. ap (λ (r : Result (Fields × List ℕ) DecodeError). r >>= λ fields. fronts.ended f.0 fields) (fields_are f.1 f.2))
    ∙ fronts.front_read bytes

pub spells_today : SpellsToday
spells_today bytes m s = today.read_found bytes m (sym (reads_as_today bytes) ∙ dialect.read_again ascii bytes m is_checked s)

pub today_spells : TodaySpells
today_spells bytes m s = dialect.read_found ascii bytes m is_checked (reads_as_today bytes ∙ today.read_again bytes m s)
