-- Looking a text over is reading it, with the first field that cannot be written in place of the message.
-- for: recode::look_again
use Rattle.std.proofs.Common.{◌≡◌, ◌∙◌, ℕ, Bool, true, false, cond, eqb, List, [], ◌∷◌, length, Option, Some, None, Result, Ok, Err, refl, sym, ap}
use Rattle.std.specs.Prelude.{map, not}
use Rattle.sw_base.specs.Refusals.{first_of, or_else, refused_if}
use Rattle.iso_msg.specs.declared.table.FieldForm.{FieldForm}
use Rattle.iso_msg.specs.Table.{form_of}
use Rattle.iso_msg.specs.Values.{has_content}
use Rattle.iso_msg.specs.Messages.{Fields, PlainMessage}
use Rattle.iso_codec.specs.declared.error.DecodeError.{DecodeError}
use Rattle.iso_codec.specs.declared.error.DecodeError.TheVariants.{BadContent, Trailing}
use Rattle.iso_codec.specs.Reads.{◌>>=◌, content_is, field_at, fields_at, front_at, read, text_at}
use Rattle.iso_codec.proofs.FrontReads.{Front, ended, front_read, then_fields}
use Rattle.iso_dialect.specs.declared.row.Row.{Row}
use Rattle.iso_dialect.specs.Profiles.{Rows, row_of}
use Rattle.iso_dialect.specs.Writings.{can_write, unwritable_at, unwritable_in}
use Rattle.iso_dialect.specs.Lookings.{looked_field, looked_fields, looked_over}

abbrev Value : Type 0
Value = List ℕ × List ℕ

abbrev Looked : Type 0
Looked = Bool × List ℕ

abbrev with_test : Option Row → Option FieldForm → Result Value DecodeError → Result Looked DecodeError
with_test row form r = r >>= λ v. Ok (can_write row form v.0, v.1)

abbrev looked_ok : Bool → List ℕ → Result Looked DecodeError
looked_ok can rest = Ok (can, rest)

abbrev content_by : Bool → ℕ → Result (Unit {0}) DecodeError
content_by b n = cond b (Ok tt) (Err (BadContent n))

abbrev value_by : Bool → ℕ → Value → Result Value DecodeError
value_by b n v = cond b (Ok v) (Err (BadContent n))

form_by : (b : Bool) (row : Option Row) (f : FieldForm) (n : ℕ) (v : Value)
    → (content_by b n >>= λ ok. looked_ok (can_write row (Some f) v.0) v.1) ≡ with_test row (Some f) (value_by b n v)
form_by true row f n v = refl
form_by false row f n v = refl

form_is : (row : Option Row) (f : FieldForm) (n : ℕ) (r : Result Value DecodeError)
    → (r >>= λ v. content_is f n v.0 >>= λ ok. looked_ok (can_write row (Some f) v.0) v.1)
    ≡ with_test row (Some f) (r >>= λ v. value_by (has_content f v.0) n v)
form_is row f n (Ok v) = form_by (has_content f v.0) row f n v
form_is row f n (Err e) = refl

field_is : (row : Option Row) (o : Option FieldForm) (n : ℕ) (bytes : List ℕ) → looked_field row o n bytes ≡ with_test row o (field_at o n bytes)
field_is row None n bytes = refl
field_is row (Some f) n bytes = form_is row f n (text_at f n bytes)

-- ---- the first of several

or_none : (o : Option ℕ) → or_else o None ≡ o
or_none None = refl
or_none (Some n) = refl

or_assoc : (a b c : Option ℕ) → or_else (or_else a b) c ≡ or_else a (or_else b c)
or_assoc None b c = refl
or_assoc (Some n) b c = refl

abbrev Read : Type 0
Read = Fields × List ℕ

abbrev Unwritten : Type 0
Unwritten = Option ℕ × List ℕ

abbrev told : Rows → Option ℕ → Result Read DecodeError → Result Unwritten DecodeError
told rows first r = r >>= λ x. Ok (or_else first (unwritable_in rows x.0), x.1)

abbrev one_more : ℕ → List ℕ → Result Read DecodeError → Result Read DecodeError
one_more n v r = r >>= λ x. Ok ((n, v) ∷ x.0, x.1)

abbrev tells : Option ℕ → List ℕ → Result Unwritten DecodeError
tells o rest = Ok (o, rest)

told_more : (rows : Rows) (first : Option ℕ) (n : ℕ) (v : List ℕ) (r : Result Read DecodeError)
    → told rows (or_else first (unwritable_at rows (n, v))) r ≡ told rows first (one_more n v r)
unfolding unwritable_in
told_more rows first n v (Ok x) =
    ap (λ (o : Option ℕ). tells o x.1) (or_assoc first (unwritable_at rows (n, v)) (first_of (map (unwritable_at rows) x.0)))
told_more rows first n v (Err e) = refl

abbrev then_looked : Rows → Option ℕ → ℕ → List ℕ → Result Looked DecodeError → Result Unwritten DecodeError
then_looked rows first n ns r = r >>= λ x. looked_fields rows (or_else first (refused_if (not x.0) n)) ns x.1

abbrev then_read : ℕ → List ℕ → Result Value DecodeError → Result Read DecodeError
then_read n ns r = r >>= λ v. one_more n v.0 (fields_at ns v.1)

step : (rows : Rows) (first : Option ℕ) (n : ℕ) (ns : List ℕ) (r : Result Value DecodeError)
    → ((o : Option ℕ) (rest : List ℕ) → looked_fields rows o ns rest ≡ told rows o (fields_at ns rest))
    → then_looked rows first n ns (with_test (row_of rows n) (form_of n) r) ≡ told rows first (then_read n ns r)
step rows first n ns (Ok v) next = next (or_else first (unwritable_at rows (n, v.0))) v.1 ∙ told_more rows first n v.0 (fields_at ns v.1)
step rows first n ns (Err e) next = refl

fields_are : (rows : Rows) (first : Option ℕ) (ns bytes : List ℕ) → looked_fields rows first ns bytes ≡ told rows first (fields_at ns bytes)
unfolding looked_fields fields_at unwritable_in
fields_are rows first [] bytes = ap (λ (o : Option ℕ). tells o bytes) (sym (or_none first))
fields_are rows first (n ∷ ns) bytes =
    ap (then_looked rows first n ns) (field_is (row_of rows n) (form_of n) n bytes)
    ∙ step rows first n ns (field_at (form_of n) n bytes) (λ o rest. fields_are rows o ns rest)

-- ---- the message

abbrev of_message : Rows → Result PlainMessage DecodeError → Result (Option ℕ) DecodeError
of_message rows r = r >>= λ m. Ok (unwritable_in rows m.fields)

abbrev at_end : Unwritten → Result (Option ℕ) DecodeError
at_end x = cond (eqb (length x.1) 0) (Ok x.0) (Err Trailing)

abbrev finds : Option ℕ → Result (Option ℕ) DecodeError
finds o = Ok o

end_by : (rows : Rows) (b : Bool) (mti : List ℕ) (fs : Fields) → cond b (finds (unwritable_in rows fs)) (Err Trailing)
    ≡ of_message rows (cond b (Ok (record { mti = mti; fields = fs })) (Err Trailing))
end_by rows true mti fs = refl
end_by rows false mti fs = refl

end_is : (rows : Rows) (mti : List ℕ) (r : Result Read DecodeError) → (told rows None r >>= at_end) ≡ of_message rows (r >>= λ fields. ended mti fields)
end_is rows mti (Ok x) = end_by rows (eqb (length x.1) 0) mti x.0
end_is rows mti (Err e) = refl

after_front : (rows : Rows) (r : Result Front DecodeError)
    → (r >>= λ f. looked_fields rows None f.1 f.2 >>= at_end) ≡ of_message rows (r >>= then_fields)
after_front rows (Ok f) =
    ap (λ (x : Result Unwritten DecodeError). x >>= at_end) (fields_are rows None f.1 f.2) ∙ end_is rows f.0 (fields_at f.1 f.2)
after_front rows (Err e) = refl

pub looked_is : (rows : Rows) (bytes : List ℕ) → looked_over rows bytes ≡ of_message rows (read bytes)
unfolding looked_over
looked_is rows bytes = after_front rows (front_at bytes) ∙ ap (of_message rows) (front_read bytes)

-- ---- what is known of a text that was looked over

pub record LookedWell (rows : Rows) (bytes : List ℕ) (o : Option ℕ) : Type 0 where
  pub m : PlainMessage
  pub reads : read bytes ≡ Ok m
  pub first : unwritable_in rows m.fields ≡ o

well_by : (rows : Rows) (bytes : List ℕ) (r : Result PlainMessage DecodeError) (o : Option ℕ) → read bytes ≡ r → of_message rows r ≡ Ok o
    → LookedWell rows bytes o
well_by rows bytes (Ok m) o e h = record { m = m; reads = e; first = cc }
well_by rows bytes (Err d) o e h = absurd cc

pub looked_well : (rows : Rows) (bytes : List ℕ) (o : Option ℕ) → looked_over rows bytes ≡ Ok o → LookedWell rows bytes o
looked_well rows bytes o h = well_by rows bytes (read bytes) o refl (sym (looked_is rows bytes) ∙ h)

fault_by : (rows : Rows) (r : Result PlainMessage DecodeError) (d : DecodeError) → of_message rows r ≡ Err d → r ≡ Err d
fault_by rows (Ok m) d h = absurd cc
fault_by rows (Err e) d h = let same : e ≡ d = cc in ap (λ (x : DecodeError). fails x) same
  where
    fails : DecodeError → Result PlainMessage DecodeError
    fails x = Err x

pub looked_fault : (rows : Rows) (bytes : List ℕ) (d : DecodeError) → looked_over rows bytes ≡ Err d → read bytes ≡ Err d
looked_fault rows bytes d h = fault_by rows (read bytes) d (sym (looked_is rows bytes) ∙ h)
