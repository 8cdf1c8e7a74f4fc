-- What decoding answers: looking bytes over gives the fault of reading, which is never out of memory.
-- for: read::decode, check::type_in
use Rattle.std.proofs.Common.{◌≡◌, ℕ, Bool, true, false, cond, eqb, ltb, List, [], ◌∷◌, ◌++◌, length, take, drop, Option, Some, None, Result, Ok, Err, refl}
use Rattle.std.proofs.Common.{sym, ap, subst, ◌∙◌}
use Rattle.std.specs.List.{list_all}
use Rattle.std.specs.Prelude.{IfOk, IsOk, MatchResult}
use Rattle.iso_msg.specs.declared.table.FieldForm.{FieldForm}
use Rattle.iso_msg.specs.declared.table.FieldForm.TheVariants.{Fixed, Variable, Binary}
use Rattle.iso_msg.specs.Table.{form_of}
use Rattle.iso_msg.specs.Values.{has_content}
use Rattle.iso_msg.specs.Messages.{Fields, PlainMessage}
use Rattle.iso_codec.specs.declared.error.DecodeError.{DecodeError}
use Rattle.iso_codec.specs.declared.error.DecodeError.TheVariants.{Short, BadMti, BadBitmap, FieldNotInProfile, BadLength, BadContent, Trailing, OutOfMemory}
use Rattle.iso_codec.specs.Digits.{bits_at, octets}
use Rattle.sw_base.specs.Digits.{is_digit, number_of}
use Rattle.iso_codec.specs.Grammar.{Spells}
use Rattle.iso_codec.specs.Reads.{◌>>=◌, or_fault, part, mti_is, bitmap_at, bitmaps_at, starts_with_1, field_numbers, front_at, known, after_length}
use Rattle.iso_codec.specs.Reads.{octets_at, text_at}
use Rattle.iso_codec.specs.Reads.{field_at, fields_at, read, Answers, Fails, content_is, field_over, fields_over, read_over, type_of}
use Rattle.iso_codec.proofs.FrontReads as fronts
use Rattle.iso_codec.proofs.MessageReads.{read_found, read_again}

-- ---- reading never tells of memory

abbrev pub NotMemory : DecodeError → Type 0
NotMemory OutOfMemory = ⊥
NotMemory e = Unit {0}

abbrev pub Clean : {A : Type 0} → Result A DecodeError → Type 0
Clean (Ok x) = Unit {0}
Clean (Err e) = NotMemory e

clean_bind : {A B : Type 0} (r : Result A DecodeError) (f : A → Result B DecodeError) → Clean r → ((x : A) → Clean (f x)) → Clean (r >>= f)
clean_bind (Ok x) f p h = h x
clean_bind (Err e) f p h = p

clean_or : {A : Type 0} (o : Option A) (e : DecodeError) → NotMemory e → Clean (or_fault o e)
clean_or None e p = p
clean_or (Some x) e p = tt

clean_if : {A : Type 0} (b : Bool) (r s : Result A DecodeError) → Clean r → Clean s → Clean (cond b r s)
clean_if true r s p q = p
clean_if false r s p q = q

abbrev Part : Type 0
Part = List ℕ × List ℕ

abbrev got : List ℕ → List ℕ → Result Part DecodeError
got x rest = Ok (x, rest)

clean_part : (count : ℕ) (bytes : List ℕ) → Clean (part count bytes)
clean_part count bytes = clean_if (ltb (length bytes) count) (Err Short) (got (take count bytes) (drop count bytes)) tt tt

clean_bitmap : (n : ℕ) (bytes : List ℕ) → Clean (bitmap_at n bytes)
unfolding bitmap_at
clean_bitmap n bytes =
    clean_bind (part 16 bytes) (λ text. or_fault (bits_at n text.0) BadBitmap >>= λ ns. got ns text.1) (clean_part 16 bytes)
    (λ text. clean_bind (or_fault (bits_at n text.0) BadBitmap) (λ ns. got ns text.1) (clean_or (bits_at n text.0) BadBitmap tt) (λ ns. tt))

clean_bitmaps : (bytes : List ℕ) → Clean (bitmaps_at bytes)
unfolding bitmaps_at
clean_bitmaps bytes =
    clean_bind (bitmap_at 1 bytes) (λ first. cond (starts_with_1 first.0) (bitmap_at 65 first.1 >>= λ second. got (first.0 ++ second.0) second.1)
    (Ok first)) (clean_bitmap 1 bytes)
    (λ first. clean_if (starts_with_1 first.0) (bitmap_at 65 first.1 >>= λ second. got (first.0 ++ second.0) second.1) (Ok first)
    (clean_bind (bitmap_at 65 first.1) (λ second. got (first.0 ++ second.0) second.1) (clean_bitmap 65 first.1) (λ second. tt)) tt)

clean_known : (ns : List ℕ) → Clean (known ns)
unfolding known
clean_known [] = tt
clean_known (n ∷ ns) = clean_bind (or_fault (form_of n) (FieldNotInProfile n)) (λ form. known ns) (clean_or (form_of n) (FieldNotInProfile n) tt)
    (λ form. clean_known ns)

clean_text : (form : FieldForm) (n : ℕ) (bytes : List ℕ) → Clean (text_at form n bytes)
unfolding after_length octets_at
clean_text (Fixed content exact) n bytes = clean_part exact bytes
clean_text (Variable content length_digits most) n bytes =
    clean_bind (part length_digits bytes) (λ digits. or_fault (number_of digits.0) (BadLength n) >>= λ len. cond (ltb most len) (Err (BadLength n))
    (part len digits.1)) (clean_part length_digits bytes)
    (λ digits. clean_bind (or_fault (number_of digits.0) (BadLength n)) (λ len. cond (ltb most len) (Err (BadLength n)) (part len digits.1))
    (clean_or (number_of digits.0) (BadLength n) tt)
    (λ len. clean_if (ltb most len) (Err (BadLength n)) (part len digits.1) tt (clean_part len digits.1)))
clean_text Binary n bytes =
    clean_bind (part 16 bytes) (λ text. or_fault (octets text.0) (BadContent n) >>= λ value. got value text.1) (clean_part 16 bytes)
    (λ text. clean_bind (or_fault (octets text.0) (BadContent n)) (λ value. got value text.1) (clean_or (octets text.0) (BadContent n) tt) (λ value. tt))

clean_field : (o : Option FieldForm) (n : ℕ) (bytes : List ℕ) → Clean (field_at o n bytes)
clean_field None n bytes = tt
clean_field (Some form) n bytes =
    clean_bind (text_at form n bytes) (λ value. cond (has_content form value.0) (Ok value) (Err (BadContent n))) (clean_text form n bytes)
    (λ value. clean_if (has_content form value.0) (Ok value) (Err (BadContent n)) tt tt)

abbrev AllFields : Type 0
AllFields = Fields × List ℕ

abbrev with_first : ℕ → List ℕ → AllFields → Result AllFields DecodeError
with_first n value fields = Ok ((n, value) ∷ fields.0, fields.1)

clean_fields : (ns bytes : List ℕ) → Clean (fields_at ns bytes)
unfolding fields_at
clean_fields [] bytes = tt
clean_fields (n ∷ ns) bytes =
    clean_bind (field_at (form_of n) n bytes) (λ value. fields_at ns value.1 >>= λ fields. with_first n value.0 fields) (clean_field (form_of n) n bytes)
    (λ value. clean_bind (fields_at ns value.1) (λ fields. with_first n value.0 fields) (clean_fields ns value.1) (λ fields. tt))

abbrev ended : List ℕ → AllFields → Result PlainMessage DecodeError
ended mti fields = cond (eqb (length fields.1) 0) (Ok (record { mti = mti; fields = fields.0 })) (Err Trailing)

abbrev then_fields : List ℕ → Part → Result PlainMessage DecodeError
then_fields mti ns = known (field_numbers ns.0) >>= λ ok. fields_at (field_numbers ns.0) ns.1 >>= λ fields. ended mti fields

clean_then : (mti : List ℕ) (ns : Part) → Clean (then_fields mti ns)
clean_then mti ns =
    clean_bind (known (field_numbers ns.0)) (λ ok. fields_at (field_numbers ns.0) ns.1 >>= λ fields. ended mti fields) (clean_known (field_numbers ns.0))
    (λ ok. clean_bind (fields_at (field_numbers ns.0) ns.1) (λ fields. ended mti fields) (clean_fields (field_numbers ns.0) ns.1)
    (λ fields. clean_if (eqb (length fields.1) 0) (Ok (record { mti = mti; fields = fields.0 })) (Err Trailing) tt tt))

pub read_clean : (bytes : List ℕ) → Clean (read bytes)
unfolding read
read_clean bytes =
    clean_bind (part 4 bytes) (λ front. mti_is front.0 >>= λ mti. bitmaps_at front.1 >>= λ ns. then_fields mti ns) (clean_part 4 bytes)
    (λ front. clean_bind (mti_is front.0) (λ mti. bitmaps_at front.1 >>= λ ns. then_fields mti ns)
    (clean_if (list_all is_digit front.0) (Ok front.0) (Err BadMti) tt tt)
    (λ mti. clean_bind (bitmaps_at front.1) (λ ns. then_fields mti ns) (clean_bitmaps front.1) (λ ns. clean_then mti ns)))

-- ---- looking over is reading without the values

abbrev over : Result PlainMessage DecodeError → Result (List ℕ) DecodeError
over r = r >>= λ m. Ok m.mti

abbrev rest_of : {A : Type 0} → Result (A × List ℕ) DecodeError → Result (List ℕ) DecodeError
rest_of r = r >>= λ x. Ok x.1

bind_over : {A : Type 0} (r : Result A DecodeError) (f : A → Result PlainMessage DecodeError) (g : A → Result (List ℕ) DecodeError) →
    ((x : A) → g x ≡ over (f x)) → (r >>= g) ≡ over (r >>= f)
bind_over (Ok x) f g h = h x
bind_over (Err e) f g h = refl

abbrev fine : Result (Unit {0}) DecodeError
fine = Ok tt

content_over : (b : Bool) (n : ℕ) (value : Part) → (cond b fine (Err (BadContent n)) >>= λ ok. Ok value.1) ≡ rest_of (cond b (Ok value) (Err (BadContent n)))
content_over true n value = refl
content_over false n value = refl

form_over_by : (form : FieldForm) (n : ℕ) (r : Result Part DecodeError) → (r >>= λ value. content_is form n value.0 >>= λ ok. Ok value.1)
    ≡ rest_of (r >>= λ value. cond (has_content form value.0) (Ok value) (Err (BadContent n)))
form_over_by form n (Ok value) = content_over (has_content form value.0) n value
form_over_by form n (Err e) = refl

field_over_is : (o : Option FieldForm) (n : ℕ) (bytes : List ℕ) → field_over o n bytes ≡ rest_of (field_at o n bytes)
field_over_is None n bytes = refl
field_over_is (Some form) n bytes = form_over_by form n (text_at form n bytes)

same_rest : (n : ℕ) (value : List ℕ) (r : Result AllFields DecodeError) → rest_of r ≡ rest_of (r >>= λ fields. with_first n value fields)
same_rest n value (Ok x) = refl
same_rest n value (Err e) = refl

fields_step : (n : ℕ) (ns : List ℕ) (r : Result Part DecodeError) → ((bytes : List ℕ) → fields_over ns bytes ≡ rest_of (fields_at ns bytes)) →
    (rest_of r >>= λ rest. fields_over ns rest) ≡ rest_of (r >>= λ value. fields_at ns value.1 >>= λ fields. with_first n value.0 fields)
fields_step n ns (Ok value) h = h value.1 ∙ same_rest n value.0 (fields_at ns value.1)
fields_step n ns (Err e) h = refl

fields_over_is : (ns bytes : List ℕ) → fields_over ns bytes ≡ rest_of (fields_at ns bytes)
unfolding fields_over fields_at
fields_over_is [] bytes = refl
fields_over_is (n ∷ ns) bytes =
    ap (λ (r : Result (List ℕ) DecodeError). r >>= λ rest. fields_over ns rest) (field_over_is (form_of n) n bytes)
    ∙ fields_step n ns (field_at (form_of n) n bytes) (λ more. fields_over_is ns more)

abbrev at_end : List ℕ → List ℕ → Result (List ℕ) DecodeError
at_end mti rest = cond (eqb (length rest) 0) (Ok mti) (Err Trailing)

typed : List ℕ → Result (List ℕ) DecodeError
typed mti = Ok mti

end_over : (b : Bool) (m : PlainMessage) → cond b (typed m.mti) (Err Trailing) ≡ over (cond b (Ok m) (Err Trailing))
unfolding typed
end_over true m = refl
end_over false m = refl

ended_over : (mti : List ℕ) (r : Result AllFields DecodeError) → (rest_of r >>= at_end mti) ≡ over (r >>= λ fields. ended mti fields)
unfolding typed
ended_over mti (Ok x) = end_over (eqb (length x.1) 0) (record { mti = mti; fields = x.0 })
ended_over mti (Err e) = refl

pub read_over_is : (bytes : List ℕ) → read_over bytes ≡ over (read bytes)
unfolding read_over
read_over_is bytes =
    bind_over (front_at bytes) fronts.then_fields (λ f. fields_over f.1 f.2 >>= at_end f.0) (λ f.
    ap (λ (r : Result (List ℕ) DecodeError). r >>= at_end f.0) (fields_over_is f.1 f.2) ∙ ended_over f.0 (fields_at f.1 f.2))
    ∙ ap over (fronts.front_read bytes)

-- ---- answers

-- a fault that was met in the one pass
pub kept : (e : DecodeError) (reading : Result PlainMessage DecodeError) → Fails e reading → (e ≡ OutOfMemory → ⊥) → Answers (Err e) reading
kept Short reading g h = g
kept BadMti reading g h = g
kept BadBitmap reading g h = g
kept (FieldNotInProfile n) reading g h = g
kept (BadLength n) reading g h = g
kept (BadContent n) reading g h = g
kept Trailing reading g h = g
kept OutOfMemory reading g h = absurd (h refl)

faulty : (e : DecodeError) (reading : Result PlainMessage DecodeError) → NotMemory e → reading ≡ Err e → Answers (Err e) reading
faulty Short reading p g = g
faulty BadMti reading p g = g
faulty BadBitmap reading p g = g
faulty (FieldNotInProfile n) reading p g = g
faulty (BadLength n) reading p g = g
faulty (BadContent n) reading p g = g
faulty Trailing reading p g = g
faulty OutOfMemory reading p g = absurd p

abbrev failed : {A : Type 0} → DecodeError → Result A DecodeError
failed e = Err e

over_fault : (r : Result PlainMessage DecodeError) (e : DecodeError) → over r ≡ Err e → r ≡ Err e
over_fault (Ok m) e h = absurd cc
over_fault (Err d) e h = let same : d ≡ e = cc in ap (λ (x : DecodeError). failed {A = PlainMessage} x) same

over_ok : (r : Result PlainMessage DecodeError) (mti : List ℕ) → over r ≡ Ok mti → IsOk r
over_ok (Ok m) mti h = refl
over_ok (Err d) mti h = absurd cc

over_type : (r : Result PlainMessage DecodeError) (mti : List ℕ) → over r ≡ Ok mti → Some mti ≡ type_of r
over_type (Ok m) mti h = let same : m.mti ≡ mti = cc in ap (λ t. Some t) (sym same)
over_type (Err d) mti h = absurd cc

-- a fault that is met by looking over
pub looked_fault : (bytes : List ℕ) (e : DecodeError) → read_over bytes ≡ Err e → Answers (Err e) (read bytes)
looked_fault bytes e h =
    let same = over_fault (read bytes) e (sym (read_over_is bytes) ∙ h) in
    faulty e (read bytes) (subst (λ (r : Result PlainMessage DecodeError). Clean r) same (read_clean bytes)) same

-- out of memory, where looking over meets none
pub looked_well : (bytes mti : List ℕ) → read_over bytes ≡ Ok mti → Answers (Err OutOfMemory) (read bytes)
looked_well bytes mti h = over_ok (read bytes) mti (sym (read_over_is bytes) ∙ h)

-- the type that looking over tells
pub looked_type : (bytes mti : List ℕ) → read_over bytes ≡ Ok mti → Some mti ≡ type_of (read bytes)
looked_type bytes mti h = over_type (read bytes) mti (sym (read_over_is bytes) ∙ h)

pub looked_none : (bytes : List ℕ) (e : DecodeError) → read_over bytes ≡ Err e → None ≡ type_of (read bytes)
looked_none bytes e h = let same = over_fault (read bytes) e (sym (read_over_is bytes) ∙ h) in ap type_of (sym same)

pub found_by : (bytes : List ℕ) (r : Result PlainMessage DecodeError) → Answers r (read bytes) → IfOk r (λ m. Spells bytes m)
found_by bytes (Ok m) a = read_found bytes m a
found_by bytes (Err e) a = tt

abbrev done : PlainMessage → Result PlainMessage DecodeError
done m = Ok m

one_message : (x m : PlainMessage) (reading : Result PlainMessage DecodeError) → reading ≡ Ok x → reading ≡ Ok m → x ≡ m
one_message x m reading e f = let g : done x ≡ done m = sym e ∙ f in cc

not_refused : (e : DecodeError) (m : PlainMessage) (reading : Result PlainMessage DecodeError) → reading ≡ Ok m → Answers (Err e) reading → e ≡ OutOfMemory
not_refused Short m reading f a = let g : done m ≡ Err Short = sym f ∙ a in absurd cc
not_refused BadMti m reading f a = let g : done m ≡ Err BadMti = sym f ∙ a in absurd cc
not_refused BadBitmap m reading f a = let g : done m ≡ Err BadBitmap = sym f ∙ a in absurd cc
not_refused (FieldNotInProfile n) m reading f a = let g : done m ≡ Err (FieldNotInProfile n) = sym f ∙ a in absurd cc
not_refused (BadLength n) m reading f a = let g : done m ≡ Err (BadLength n) = sym f ∙ a in absurd cc
not_refused (BadContent n) m reading f a = let g : done m ≡ Err (BadContent n) = sym f ∙ a in absurd cc
not_refused Trailing m reading f a = let g : done m ≡ Err Trailing = sym f ∙ a in absurd cc
not_refused OutOfMemory m reading f a = refl

pub only_by : (bytes : List ℕ) (r : Result PlainMessage DecodeError) (m : PlainMessage) → Answers r (read bytes) → Spells bytes m →
    MatchResult r (λ x. x ≡ m) (λ e. e ≡ OutOfMemory)
only_by bytes (Ok x) m a s = one_message x m (read bytes) a (read_again bytes m s)
only_by bytes (Err e) m a s = not_refused e m (read bytes) (read_again bytes m s) a

read_message : (bytes : List ℕ) (r : Result PlainMessage DecodeError) → read bytes ≡ r → IsOk r → (m : PlainMessage) × Spells bytes m
read_message bytes (Ok m) e h = (m, read_found bytes m e)
read_message bytes (Err d) e h = absurd cc

pub memory_by : (bytes : List ℕ) (r : Result PlainMessage DecodeError) → Answers r (read bytes) → r ≡ Err OutOfMemory → (m : PlainMessage) × Spells bytes m
memory_by bytes r a e = read_message bytes (read bytes) refl (subst (λ (x : Result PlainMessage DecodeError). Answers x (read bytes)) e a)
