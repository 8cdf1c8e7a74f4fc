-- What is printed while a message is read is the text of the message that is read.
-- for: text::write_paragraph
use Rattle.std.proofs.Common.{◌≡◌, ℕ, Bool, true, false, cond, eqb, List, [], ◌∷◌, ◌++◌, length, Option, Some, None, Result, Ok, Err, refl}
use Rattle.std.proofs.Common.{sym, ap, subst, ◌∙◌}
use Rattle.std.proofs.Common.{append-nil, append_assoc}
use Rattle.std.specs.Prelude.{codes}
use Rattle.std.specs.Fmt.{decimal}
use Rattle.std.specs.List.{flat_map}
use Rattle.iso_msg.specs.declared.table.FieldForm.{FieldForm}
use Rattle.iso_msg.specs.Table.{form_of}
use Rattle.iso_msg.specs.Values.{has_content}
use Rattle.iso_msg.specs.Messages.{Fields, PlainMessage}
use Rattle.iso_codec.specs.declared.error.DecodeError.{DecodeError}
use Rattle.iso_codec.specs.declared.error.DecodeError.TheVariants.{BadContent, Trailing}
use Rattle.iso_codec.specs.Reads.{◌>>=◌, GivesMessage, text_at, content_is, field_at, fields_at, front_at, read}
use Rattle.iso_codec.proofs.FrontReads.{Front, ended, then_fields, front_read}
use Rattle.cli_decode.specs.Decoded.{header_line, line_by, shown_line, view_text}
use Rattle.cli_decode.specs.Printing.{opening_of, paragraph_of, with_field, with_fields, with_message}
use Rattle.cli_forms.specs.declared.masking.Masking.{Masking}

module _ (k : Masking) where
  abbrev Part : Type 0
  Part = List ℕ × List ℕ

  abbrev lined : Option FieldForm → List ℕ → ℕ → Part → Result Part DecodeError
  lined form text n value = Ok (text ++ line_by k form n value.0, value.1)

  abbrev fine : Result (Unit {0}) DecodeError
  fine = Ok tt

  checked : (b : Bool) (form : FieldForm) (text : List ℕ) (n : ℕ) (value : Part) → (cond b fine (Err (BadContent n)) >>= λ ok. lined (Some form) text n value)
      ≡ (cond b (Ok value) (Err (BadContent n)) >>= lined (Some form) text n)
  checked true form text n value = refl
  checked false form text n value = refl

  field_by : (form : FieldForm) (text : List ℕ) (n : ℕ) (r : Result Part DecodeError) →
      (r >>= λ value. content_is form n value.0 >>= λ ok. lined (Some form) text n value)
      ≡ ((r >>= λ value. cond (has_content form value.0) (Ok value) (Err (BadContent n))) >>= lined (Some form) text n)
  field_by form text n (Ok value) = checked (has_content form value.0) form text n value
  field_by form text n (Err e) = refl

  -- one field
  with_field_is : (o : Option FieldForm) (text : List ℕ) (n : ℕ) (bytes : List ℕ) → with_field k o text n bytes ≡ (field_at o n bytes >>= lined o text n)
  with_field_is None text n bytes = refl
  with_field_is (Some form) text n bytes = field_by form text n (text_at form n bytes)

  abbrev all_lined : List ℕ → Fields × List ℕ → Result Part DecodeError
  all_lined text x = Ok (text ++ flat_map (shown_line k) x.0, x.1)

  regroup : (text : List ℕ) (n : ℕ) (v : List ℕ) (r : Result (Fields × List ℕ) DecodeError)
      → (r >>= all_lined (text ++ (shown_line k) (n, v))) ≡ ((r >>= λ fields. Ok ((n, v) ∷ fields.0, fields.1)) >>= all_lined text)
  regroup text n v (Ok x) = ap (λ (y : List ℕ). all_after y x.1) (append_assoc text ((shown_line k) (n, v)) (flat_map (shown_line k) x.0))
    where
      all_after : List ℕ → List ℕ → Result Part DecodeError
      all_after y rest = Ok (y, rest)
  regroup text n v (Err e) = refl

  step : (text : List ℕ) (n : ℕ) (ns : List ℕ) (r : Result Part DecodeError) →
      ((more bytes : List ℕ) → with_fields k more ns bytes ≡ (fields_at ns bytes >>= all_lined more))
      → ((r >>= lined (form_of n) text n) >>= λ x. with_fields k x.0 ns x.1)
      ≡ ((r >>= λ value. fields_at ns value.1 >>= λ fields. Ok ((n, value.0) ∷ fields.0, fields.1)) >>= all_lined text)
  step text n ns (Ok value) h = h (text ++ (shown_line k) (n, value.0)) value.1 ∙ regroup text n value.0 (fields_at ns value.1)
  step text n ns (Err e) h = refl

  -- all fields
  with_fields_is : (ns text bytes : List ℕ) → with_fields k text ns bytes ≡ (fields_at ns bytes >>= all_lined text)
  unfolding with_fields fields_at
  with_fields_is [] text bytes = ap (λ (y : List ℕ). ok_with y bytes) (sym (append-nil text))
    where
      ok_with : List ℕ → List ℕ → Result Part DecodeError
      ok_with y rest = Ok (y, rest)
  with_fields_is (n ∷ ns) text bytes =
      ap (λ (r : Result Part DecodeError). r >>= λ x. with_fields k x.0 ns x.1) (with_field_is (form_of n) text n bytes)
      ∙ step text n ns (field_at (form_of n) n bytes) (λ more rest. with_fields_is ns more rest)

  abbrev whole : List ℕ → Result (List ℕ) DecodeError
  whole text = Ok text

  abbrev messaged : List ℕ → PlainMessage → Result (List ℕ) DecodeError
  messaged text m = Ok (text ++ (m.mti ++ (codes "\n" ++ flat_map (shown_line k) m.fields)))

  end_is : (b : Bool) (text mti : List ℕ) (x : Fields × List ℕ) → cond b (Ok (((text ++ mti) ++ codes "\n") ++ flat_map (shown_line k) x.0)) (Err Trailing)
      ≡ (cond b (Ok (record { mti = mti; fields = x.0 })) (Err Trailing) >>= messaged text)
  end_is true text mti x = ap ok_with (append_assoc (text ++ mti) (codes "\n") (flat_map (shown_line k) x.0) ∙ append_assoc text mti
      (codes "\n" ++ flat_map (shown_line k) x.0))
    where
      ok_with : List ℕ → Result (List ℕ) DecodeError
      ok_with y = Ok y
  end_is false text mti x = refl

  abbrev at_end : Part → Result (List ℕ) DecodeError
  at_end x = cond (eqb (length x.1) 0) (Ok x.0) (Err Trailing)

  ends_are : (text mti : List ℕ) (r : Result (Fields × List ℕ) DecodeError) → ((r >>= all_lined ((text ++ mti) ++ codes "\n")) >>= at_end)
      ≡ ((r >>= λ fields. ended mti fields) >>= messaged text)
  ends_are text mti (Ok x) = end_is (eqb (length x.1) 0) text mti x
  ends_are text mti (Err e) = refl

  front_is : (text : List ℕ) (r : Result Front DecodeError) → (r >>= λ f. with_fields k ((text ++ f.0) ++ codes "\n") f.1 f.2 >>= at_end)
      ≡ ((r >>= then_fields) >>= messaged text)
  front_is text (Ok f) = ap (λ (r : Result Part DecodeError). r >>= at_end) (with_fields_is f.1 ((text ++ f.0) ++ codes "\n") f.2)
      ∙ ends_are text f.0 (fields_at f.1 f.2)
  front_is text (Err e) = refl

  pub with_message_is : (text bytes : List ℕ) → with_message k text bytes ≡ (read bytes >>= messaged text)
  unfolding with_message
  with_message_is text bytes = front_is text (front_at bytes) ∙ ap (λ (r : Result PlainMessage DecodeError). r >>= messaged text) (front_read bytes)

  abbrev opening : ℕ → List ℕ → List ℕ
  opening n header = opening_of n header ++ codes "mti "

  text_is : (n : ℕ) (header : List ℕ) (r : Result PlainMessage DecodeError)
      → (r >>= messaged (opening n header)) ≡ (r >>= λ m. whole (view_text k n header m))
  text_is n header (Ok m) =
      let rest = codes "mti " ++ (m.mti ++ (codes "\n" ++ flat_map (shown_line k) m.fields)) in
      ap whole (
      append_assoc (opening_of n header) (codes "mti ") (m.mti ++ (codes "\n" ++ flat_map (shown_line k) m.fields))
      ∙ append_assoc (codes "message ") (decimal n ++ (codes "\n" ++ header_line header)) rest
      ∙ ap (λ (t : List ℕ). codes "message " ++ t) (append_assoc (decimal n) (codes "\n" ++ header_line header) rest
      ∙ ap (λ (t : List ℕ). decimal n ++ t) (append_assoc (codes "\n") (header_line header) rest))
      )
  text_is n header (Err e) = refl

  pub paragraph_by : (text new header bytes : List ℕ) (n : ℕ) (r : Result (Unit {0}) DecodeError) → text ≡ opening n header →
      GivesMessage (λ x. new) r (with_message k text bytes) → GivesMessage (λ x. new) r (paragraph_of k n header bytes)
  paragraph_by text new header bytes n r is g =
      subst (λ (s : Result (List ℕ) DecodeError). GivesMessage (λ x. new) r s)
      (ap (λ (t : List ℕ). with_message k t bytes) is ∙ with_message_is (opening n header) bytes ∙ text_is n header (read bytes)) g
