-- What reading answers: looking bytes over gives the fault of reading, which is never out of memory.
-- for: decode::decode_as, ascii::to_ascii
use Rattle.std.proofs.Common.{◌≡◌, ℕ, ◌+◌, ◌*◌, ◌≤◌, Bool, true, false, cond, eqb, ltb, List, [], ◌∷◌, ◌++◌, length, take, drop, get_or, Option, Some, None}
use Rattle.std.proofs.Common.{Result, Ok}
use Rattle.std.proofs.Common.{Err, refl, sym, ap, subst, ◌∙◌}
use Rattle.std.specs.List.{list_all}
use Rattle.std.specs.Prelude.{IfOk, IfErr, IsOk, MatchResult}
use Rattle.sw_base.specs.Digits.{is_digit, number_of}
use Rattle.iso_msg.specs.declared.table.FieldForm.{FieldForm}
use Rattle.iso_msg.specs.declared.table.FieldForm.TheVariants.{Fixed, Variable, Binary}
use Rattle.iso_msg.specs.Table.{form_of}
use Rattle.iso_msg.specs.Values.{takes}
use Rattle.iso_msg.specs.Messages.{Fields, PlainMessage}
use Rattle.iso_codec.specs.declared.error.DecodeError.{DecodeError}
use Rattle.iso_codec.specs.declared.error.DecodeError.TheVariants.{Short, BadMti, BadBitmap, FieldNotInProfile, BadLength, BadContent, Trailing, OutOfMemory}
use Rattle.iso_codec.specs.Digits.{bits_at, octets}
use Rattle.iso_codec.specs.Spelling.{spelling}
use Rattle.iso_codec.specs.Reads.{◌>>=◌, or_fault, part, mti_is, starts_with_1, field_numbers, Answers, Fails, read}
use Rattle.iso_dialect.specs.declared.coding.Coding.{Coding}
use Rattle.iso_dialect.specs.declared.row.Count.{Count}
use Rattle.iso_dialect.specs.declared.row.Count.TheVariants.{Digits, Byte, TwoBytes}
use Rattle.iso_dialect.specs.declared.row.Size.{Size}
use Rattle.iso_dialect.specs.declared.row.Size.TheVariants.{Exact, Counted}
use Rattle.iso_dialect.specs.declared.row.Row.{Row}
use Rattle.iso_dialect.specs.declared.profile.Draft.{Draft}
use Rattle.iso_dialect.specs.Codings.{byte_count, text_of}
use Rattle.iso_dialect.specs.Profiles.{Rows, has_text_length, refusal_in, row_of, scale}
use Rattle.iso_dialect.specs.Fields.{coded_at, digits_at, byte_at, two_bytes_at, number_at, counted_at, size_at, field_text_at, value_in, value_as}
use Rattle.iso_dialect.specs.Fields.{passed_at, field_by, field_as}
use Rattle.iso_dialect.specs.Messages.{SpellsAs}
use Rattle.iso_dialect.specs.Readings.{bitmap_as, bitmaps_as, known_as, front_as, fields_as, read_as, value_over, over_by, field_over}
use Rattle.iso_dialect.specs.Readings.{fields_over, read_over}
use Rattle.iso_dialect.specs.Ascii.{GivesText, IsAsciiOf}
use Rattle.iso_dialect.proofs.MessageReads.{Front, ended, then_fields, read_found, read_again}

-- ---- reading never tells of memory

abbrev NotMemory : DecodeError → Type 0
NotMemory OutOfMemory = ⊥
NotMemory e = Unit {0}

abbrev Clean : {A : Type 0} → Result A DecodeError → Type 0
Clean (Ok x) = Unit {0}
Clean (Err e) = NotMemory e

clean_bind : {A B : Type 0} (r : Result A DecodeError) (f : A → Result B DecodeError) → Clean r → ((x : A) → Clean (f x)) → Clean (r >>= f)
clean_bind (Ok x) f p h = h x
clean_bind (Err e) f p h = p

clean_or : {A : Type 0} (o : Option A) (e : DecodeError) → NotMemory e → Clean (or_fault o e)
clean_or None e p = p
clean_or (Some x) e p = tt

clean_if : {A : Type 0} (b : Bool) (r s : Result A DecodeError) → Clean r → Clean s → Clean (cond b r s)
clean_if true r s p q = p
clean_if false r s p q = q

abbrev Part : Type 0
Part = List ℕ × List ℕ

abbrev got : List ℕ → List ℕ → Result Part DecodeError
got x rest = Ok (x, rest)

abbrev counted : ℕ → List ℕ → Result (ℕ × List ℕ) DecodeError
counted k rest = Ok (k, rest)

abbrev kept : Fields → List ℕ → Result (Fields × List ℕ) DecodeError
kept fs rest = Ok (fs, rest)

clean_part : (count : ℕ) (bytes : List ℕ) → Clean (part count bytes)
clean_part count bytes = clean_if (ltb (length bytes) count) (Err Short) (got (take count bytes) (drop count bytes)) tt tt

clean_coded : (c : Coding) (count : ℕ) (fault : DecodeError) (bytes : List ℕ) → NotMemory fault → Clean (coded_at c count fault bytes)
clean_coded c count fault bytes p =
    clean_bind (part (byte_count c count) bytes) (λ body. or_fault (text_of c count body.0) fault >>= λ text. got text body.1)
    (clean_part (byte_count c count) bytes)
    (λ body. clean_bind (or_fault (text_of c count body.0) fault) (λ text. got text body.1) (clean_or (text_of c count body.0) fault p) (λ text. tt))

clean_number : (c : Count) (n : ℕ) (bytes : List ℕ) → Clean (number_at c n bytes)
unfolding digits_at byte_at two_bytes_at
clean_number (Digits coding digits) n bytes =
    clean_bind (coded_at coding digits (BadLength n) bytes) (λ text. or_fault (number_of text.0) (BadLength n) >>= λ k. counted k text.1)
    (clean_coded coding digits (BadLength n) bytes tt)
    (λ text. clean_bind (or_fault (number_of text.0) (BadLength n)) (λ k. counted k text.1) (clean_or (number_of text.0) (BadLength n) tt) (λ k. tt))
clean_number Byte n bytes = clean_bind (part 1 bytes) (λ front. counted (get_or front.0 0 0) front.1) (clean_part 1 bytes) (λ front. tt)
clean_number TwoBytes n bytes =
    clean_bind (part 2 bytes) (λ front. counted (256 * get_or front.0 0 0 + get_or front.0 1 0) front.1) (clean_part 2 bytes) (λ front. tt)

clean_size : (s : Size) (n : ℕ) (bytes : List ℕ) → Clean (size_at s n bytes)
unfolding counted_at
clean_size (Exact exact) n bytes = tt
clean_size (Counted count most) n bytes =
    clean_bind (number_at count n bytes) (λ k. cond (ltb most k.0) (Err (BadLength n)) (Ok k)) (clean_number count n bytes)
    (λ k. clean_if (ltb most k.0) (Err (BadLength n)) (Ok k) tt tt)

clean_text : (row : Row) (f : FieldForm) (n : ℕ) (bytes : List ℕ) → Clean (field_text_at row f n bytes)
unfolding field_text_at
clean_text row f n bytes =
    clean_bind (size_at row.size n bytes) (λ k. cond (has_text_length f (scale row.coding * k.0)) (coded_at row.coding (scale row.coding * k.0)
    (BadContent n) k.1) (Err (BadLength n))) (clean_size row.size n bytes)
    (λ k. clean_if (has_text_length f (scale row.coding * k.0)) (coded_at row.coding (scale row.coding * k.0) (BadContent n) k.1) (Err (BadLength n))
    (clean_coded row.coding (scale row.coding * k.0) (BadContent n) k.1 tt) tt)

clean_in : (f : FieldForm) (n : ℕ) (text : List ℕ) → Clean (value_in f n text)
clean_in (Fixed c e) n text = clean_if (takes c text) (Ok text) (Err (BadContent n)) tt tt
clean_in (Variable c d most) n text = clean_if (takes c text) (Ok text) (Err (BadContent n)) tt tt
clean_in Binary n text = clean_or (octets text) (BadContent n) tt

clean_value : (row : Row) (o : Option FieldForm) (n : ℕ) (bytes : List ℕ) → Clean (value_as row o n bytes)
clean_value row None n bytes = tt
clean_value row (Some f) n bytes =
    clean_bind (field_text_at row f n bytes) (λ text. value_in f n text.0 >>= λ v. got v text.1) (clean_text row f n bytes)
    (λ text. clean_bind (value_in f n text.0) (λ v. got v text.1) (clean_in f n text.0) (λ v. tt))

clean_passed : (row : Row) (n : ℕ) (bytes : List ℕ) → Clean (passed_at row n bytes)
unfolding passed_at
clean_passed row n bytes =
    clean_bind (size_at row.size n bytes) (λ k. part (byte_count row.coding (scale row.coding * k.0)) k.1 >>= λ body. Ok body.1) (clean_size row.size n bytes)
    (λ k. clean_bind (part (byte_count row.coding (scale row.coding * k.0)) k.1) (λ body. Ok body.1)
    (clean_part (byte_count row.coding (scale row.coding * k.0)) k.1) (λ body. tt))

clean_by : (b : Bool) (row : Row) (n : ℕ) (bytes : List ℕ) → Clean (field_by b row n bytes)
clean_by true row n bytes =
    clean_bind (value_as row (form_of n) n bytes) (λ v. kept ((n, v.0) ∷ []) v.1) (clean_value row (form_of n) n bytes) (λ v. tt)
clean_by false row n bytes = clean_bind (passed_at row n bytes) (λ rest. kept [] rest) (clean_passed row n bytes) (λ rest. tt)

clean_field : (o : Option Row) (n : ℕ) (bytes : List ℕ) → Clean (field_as o n bytes)
clean_field None n bytes = tt
clean_field (Some row) n bytes = clean_by row.is_kept row n bytes

clean_fields : (rows : Rows) (ns bytes : List ℕ) → Clean (fields_as rows ns bytes)
unfolding fields_as
clean_fields rows [] bytes = tt
clean_fields rows (n ∷ ns) bytes =
    clean_bind (field_as (row_of rows n) n bytes) (λ f. fields_as rows ns f.1 >>= λ fs. kept (f.0 ++ fs.0) fs.1) (clean_field (row_of rows n) n bytes)
    (λ f. clean_bind (fields_as rows ns f.1) (λ fs. kept (f.0 ++ fs.0) fs.1) (clean_fields rows ns f.1) (λ fs. tt))

clean_bitmap : (c : Coding) (n : ℕ) (bytes : List ℕ) → Clean (bitmap_as c n bytes)
unfolding bitmap_as
clean_bitmap c n bytes =
    clean_bind (coded_at c 16 BadBitmap bytes) (λ text. or_fault (bits_at n text.0) BadBitmap >>= λ ns. got ns text.1) (clean_coded c 16 BadBitmap bytes tt)
    (λ text. clean_bind (or_fault (bits_at n text.0) BadBitmap) (λ ns. got ns text.1) (clean_or (bits_at n text.0) BadBitmap tt) (λ ns. tt))

clean_bitmaps : (c : Coding) (bytes : List ℕ) → Clean (bitmaps_as c bytes)
unfolding bitmaps_as
clean_bitmaps c bytes =
    clean_bind (bitmap_as c 1 bytes) (λ first. cond (starts_with_1 first.0) (bitmap_as c 65 first.1 >>= λ second. got (first.0 ++ second.0) second.1)
    (Ok first)) (clean_bitmap c 1 bytes)
    (λ first. clean_if (starts_with_1 first.0) (bitmap_as c 65 first.1 >>= λ second. got (first.0 ++ second.0) second.1) (Ok first)
    (clean_bind (bitmap_as c 65 first.1) (λ second. got (first.0 ++ second.0) second.1) (clean_bitmap c 65 first.1) (λ second. tt)) tt)

clean_known : (rows : Rows) (ns : List ℕ) → Clean (known_as rows ns)
unfolding known_as
clean_known rows [] = tt
clean_known rows (n ∷ ns) =
    clean_bind (or_fault (row_of rows n) (FieldNotInProfile n)) (λ row. known_as rows ns) (clean_or (row_of rows n) (FieldNotInProfile n) tt)
    (λ row. clean_known rows ns)

abbrev front : List ℕ → List ℕ → List ℕ → Result Front DecodeError
front digits ns rest = Ok (digits, ns, rest)

clean_front : (p : Draft) (bytes : List ℕ) → Clean (front_as p bytes)
unfolding front_as
clean_front p bytes =
    clean_bind (coded_at p.mti 4 BadMti bytes) (λ digits. mti_is digits.0 >>= λ mti. bitmaps_as p.bitmap digits.1 >>= λ ns.
    known_as p.rows (field_numbers ns.0) >>= λ ok. front mti (field_numbers ns.0) ns.1) (clean_coded p.mti 4 BadMti bytes tt)
    (λ digits. clean_bind (mti_is digits.0) (λ mti. bitmaps_as p.bitmap digits.1 >>= λ ns.
    known_as p.rows (field_numbers ns.0) >>= λ ok. front mti (field_numbers ns.0) ns.1)
    (clean_if (list_all is_digit digits.0) (Ok digits.0) (Err BadMti) tt tt)
    (λ mti. clean_bind (bitmaps_as p.bitmap digits.1) (λ ns. known_as p.rows (field_numbers ns.0) >>= λ ok. front mti (field_numbers ns.0) ns.1)
    (clean_bitmaps p.bitmap digits.1)
    (λ ns. clean_bind (known_as p.rows (field_numbers ns.0)) (λ ok. front mti (field_numbers ns.0) ns.1) (clean_known p.rows (field_numbers ns.0)) (λ ok. tt))))

read_clean : (p : Draft) (bytes : List ℕ) → Clean (read_as p bytes)
unfolding read_as
read_clean p bytes =
    clean_bind (front_as p bytes) (then_fields p) (clean_front p bytes)
    (λ f. clean_bind (fields_as p.rows f.1 f.2) (λ fields. ended f.0 fields) (clean_fields p.rows f.1 f.2)
    (λ fields. clean_if (eqb (length fields.1) 0) (Ok (record { mti = f.0; fields = fields.0 })) (Err Trailing) tt tt))

-- ---- looking over is reading without the values

abbrev over : Result PlainMessage DecodeError → Result (Unit {0}) DecodeError
over r = r >>= λ m. Ok tt

abbrev rest_of : {A : Type 0} → Result (A × List ℕ) DecodeError → Result (List ℕ) DecodeError
rest_of r = r >>= λ x. Ok x.1

bind_over : {A : Type 0} (r : Result A DecodeError) (f : A → Result PlainMessage DecodeError) (g : A → Result (Unit {0}) DecodeError) →
    ((x : A) → g x ≡ over (f x)) → (r >>= g) ≡ over (r >>= f)
bind_over (Ok x) f g h = h x
bind_over (Err e) f g h = refl

abbrev fits : Result (List ℕ) DecodeError → Result (Unit {0}) DecodeError
fits s = s >>= λ v. Ok tt

abbrev looked : Result (List ℕ) DecodeError → List ℕ → Result (List ℕ) DecodeError
looked s rest = fits s >>= λ ok. Ok rest

content_over : (s : Result (List ℕ) DecodeError) (rest : List ℕ) → looked s rest ≡ rest_of (s >>= λ v. got v rest)
content_over (Ok v) rest = refl
content_over (Err e) rest = refl

text_over : (f : FieldForm) (n : ℕ) (r : Result Part DecodeError) → (r >>= λ text. looked (value_in f n text.0) text.1)
    ≡ rest_of (r >>= λ text. value_in f n text.0 >>= λ v. got v text.1)
text_over f n (Ok text) = content_over (value_in f n text.0) text.1
text_over f n (Err e) = refl

value_over_is : (row : Row) (o : Option FieldForm) (n : ℕ) (bytes : List ℕ) → value_over row o n bytes ≡ rest_of (value_as row o n bytes)
value_over_is row None n bytes = refl
value_over_is row (Some f) n bytes = text_over f n (field_text_at row f n bytes)

same_value : (n : ℕ) (r : Result Part DecodeError) → rest_of r ≡ rest_of (r >>= λ v. kept ((n, v.0) ∷ []) v.1)
same_value n (Ok v) = refl
same_value n (Err e) = refl

same_passed : (r : Result (List ℕ) DecodeError) → r ≡ rest_of (r >>= λ rest. kept [] rest)
same_passed (Ok rest) = refl
same_passed (Err e) = refl

by_over_is : (b : Bool) (row : Row) (n : ℕ) (bytes : List ℕ) → over_by b row n bytes ≡ rest_of (field_by b row n bytes)
by_over_is true row n bytes = value_over_is row (form_of n) n bytes ∙ same_value n (value_as row (form_of n) n bytes)
by_over_is false row n bytes = same_passed (passed_at row n bytes)

field_over_is : (o : Option Row) (n : ℕ) (bytes : List ℕ) → field_over o n bytes ≡ rest_of (field_as o n bytes)
field_over_is None n bytes = refl
field_over_is (Some row) n bytes = by_over_is row.is_kept row n bytes

same_rest : (front : Fields) (r : Result (Fields × List ℕ) DecodeError) → rest_of r ≡ rest_of (r >>= λ fs. kept (front ++ fs.0) fs.1)
same_rest front (Ok x) = refl
same_rest front (Err e) = refl

fields_step : (rows : Rows) (ns : List ℕ) (r : Result (Fields × List ℕ) DecodeError) → ((bytes : List ℕ)
    → fields_over rows ns bytes ≡ rest_of (fields_as rows ns bytes))
    → (rest_of r >>= λ rest. fields_over rows ns rest) ≡ rest_of (r >>= λ f. fields_as rows ns f.1 >>= λ fs. kept (f.0 ++ fs.0) fs.1)
fields_step rows ns (Ok f) h = h f.1 ∙ same_rest f.0 (fields_as rows ns f.1)
fields_step rows ns (Err e) h = refl

fields_over_is : (rows : Rows) (ns bytes : List ℕ) → fields_over rows ns bytes ≡ rest_of (fields_as rows ns bytes)
unfolding fields_over fields_as
fields_over_is rows [] bytes = refl
fields_over_is rows (n ∷ ns) bytes =
    ap (λ (r : Result (List ℕ) DecodeError). r >>= λ rest. fields_over rows ns rest) (field_over_is (row_of rows n) n bytes)
    ∙ fields_step rows ns (field_as (row_of rows n) n bytes) (λ more. fields_over_is rows ns more)

abbrev at_end : List ℕ → Result (Unit {0}) DecodeError
at_end rest = cond (eqb (length rest) 0) (Ok tt) (Err Trailing)

fine : Result (Unit {0}) DecodeError
fine = Ok tt

end_over : (b : Bool) (m : PlainMessage) → cond b fine (Err Trailing) ≡ over (cond b (Ok m) (Err Trailing))
unfolding fine
end_over true m = refl
end_over false m = refl

ended_over : (mti : List ℕ) (r : Result (Fields × List ℕ) DecodeError) → (rest_of r >>= at_end) ≡ over (r >>= λ fields. ended mti fields)
unfolding fine
ended_over mti (Ok x) = end_over (eqb (length x.1) 0) (record { mti = mti; fields = x.0 })
ended_over mti (Err e) = refl

read_over_is : (p : Draft) (bytes : List ℕ) → read_over p bytes ≡ over (read_as p bytes)
unfolding read_over read_as
read_over_is p bytes =
    bind_over (front_as p bytes) (then_fields p) (λ f. fields_over p.rows f.1 f.2 >>= at_end) (λ f.
    ap (λ (r : Result (List ℕ) DecodeError). r >>= at_end) (fields_over_is p.rows f.1 f.2) ∙ ended_over f.0 (fields_as p.rows f.1 f.2))

-- ---- answers

-- a fault that was met in the one pass
pub kept_fault : (e : DecodeError) (reading : Result PlainMessage DecodeError) → Fails e reading → (e ≡ OutOfMemory → ⊥) → Answers (Err e) reading
kept_fault Short reading g h = g
kept_fault BadMti reading g h = g
kept_fault BadBitmap reading g h = g
kept_fault (FieldNotInProfile n) reading g h = g
kept_fault (BadLength n) reading g h = g
kept_fault (BadContent n) reading g h = g
kept_fault Trailing reading g h = g
kept_fault OutOfMemory reading g h = absurd (h refl)

faulty : (e : DecodeError) (reading : Result PlainMessage DecodeError) → NotMemory e → reading ≡ Err e → Answers (Err e) reading
faulty Short reading p g = g
faulty BadMti reading p g = g
faulty BadBitmap reading p g = g
faulty (FieldNotInProfile n) reading p g = g
faulty (BadLength n) reading p g = g
faulty (BadContent n) reading p g = g
faulty Trailing reading p g = g
faulty OutOfMemory reading p g = absurd p

abbrev failed : {A : Type 0} → DecodeError → Result A DecodeError
failed e = Err e

over_fault : (r : Result PlainMessage DecodeError) (e : DecodeError) → over r ≡ Err e → r ≡ Err e
over_fault (Ok m) e h = absurd cc
over_fault (Err d) e h = let same : d ≡ e = cc in ap (λ (x : DecodeError). failed {A = PlainMessage} x) same

over_ok : (r : Result PlainMessage DecodeError) → over r ≡ Ok tt → IsOk r
over_ok (Ok m) h = refl
over_ok (Err d) h = absurd cc

-- a fault that is met by looking over
pub looked_fault : (p : Draft) (bytes : List ℕ) (e : DecodeError) → read_over p bytes ≡ Err e → Answers (Err e) (read_as p bytes)
looked_fault p bytes e h =
    let same = over_fault (read_as p bytes) e (sym (read_over_is p bytes) ∙ h) in
    faulty e (read_as p bytes) (subst (λ (r : Result PlainMessage DecodeError). Clean r) same (read_clean p bytes)) same

-- out of memory, where looking over meets none
pub looked_well : (p : Draft) (bytes : List ℕ) → read_over p bytes ≡ Ok tt → Answers (Err OutOfMemory) (read_as p bytes)
looked_well p bytes h = over_ok (read_as p bytes) (sym (read_over_is p bytes) ∙ h)

abbrev done : PlainMessage → Result PlainMessage DecodeError
done m = Ok m

one_message : (x m : PlainMessage) (reading : Result PlainMessage DecodeError) → reading ≡ Ok x → reading ≡ Ok m → x ≡ m
one_message x m reading e f = let g : done x ≡ done m = sym e ∙ f in cc

not_refused : (e : DecodeError) (m : PlainMessage) (reading : Result PlainMessage DecodeError) → reading ≡ Ok m → Answers (Err e) reading → e ≡ OutOfMemory
not_refused Short m reading f a = let g : done m ≡ Err Short = sym f ∙ a in absurd cc
not_refused BadMti m reading f a = let g : done m ≡ Err BadMti = sym f ∙ a in absurd cc
not_refused BadBitmap m reading f a = let g : done m ≡ Err BadBitmap = sym f ∙ a in absurd cc
not_refused (FieldNotInProfile n) m reading f a = let g : done m ≡ Err (FieldNotInProfile n) = sym f ∙ a in absurd cc
not_refused (BadLength n) m reading f a = let g : done m ≡ Err (BadLength n) = sym f ∙ a in absurd cc
not_refused (BadContent n) m reading f a = let g : done m ≡ Err (BadContent n) = sym f ∙ a in absurd cc
not_refused Trailing m reading f a = let g : done m ≡ Err Trailing = sym f ∙ a in absurd cc
not_refused OutOfMemory m reading f a = refl

read_message : (p : Draft) (bytes : List ℕ) (r : Result PlainMessage DecodeError) → refusal_in p ≡ None → read_as p bytes ≡ r → IsOk r
    → (m : PlainMessage) × SpellsAs p bytes m
read_message p bytes (Ok m) c e h = (m, read_found p bytes m c e)
read_message p bytes (Err d) c e h = absurd cc

-- ---- the text

pub found_by : {X : Type 0} (view : X → List ℕ) (p : Draft) (bytes : List ℕ) (r : Result X DecodeError) → refusal_in p ≡ None
    → GivesText view r (read_as p bytes) → IfOk r (λ x. IsAsciiOf p bytes (view x))
found_by view p bytes (Ok x) c a = (a.0, read_found p bytes a.0 c a.1, a.2)
found_by view p bytes (Err e) c a = tt

pub only_by : {X : Type 0} (view : X → List ℕ) (p : Draft) (bytes : List ℕ) (r : Result X DecodeError) (m : PlainMessage) → refusal_in p ≡ None
    → GivesText view r (read_as p bytes) → SpellsAs p bytes m → MatchResult r (λ x. view x ≡ spelling m) (λ e. e ≡ OutOfMemory)
only_by view p bytes (Ok x) m c a s = a.2 ∙ ap spelling (one_message a.0 m (read_as p bytes) a.1 (read_again p bytes m c s))
only_by view p bytes (Err e) m c a s = not_refused e m (read_as p bytes) (read_again p bytes m c s) a

pub back_by : {X : Type 0} (view : X → List ℕ) (reading : Result PlainMessage DecodeError) (r : Result X DecodeError)
    → GivesText view r reading → IfOk r (λ x. read (view x) ≡ reading)
back_by view reading (Ok x) a = a.3 ∙ sym a.1
back_by view reading (Err e) a = tt

pub short_by : {X : Type 0} (view : X → List ℕ) (reading : Result PlainMessage DecodeError) (r : Result X DecodeError)
    → GivesText view r reading → IfOk r (λ x. length (view x) ≤ 9999)
short_by view reading (Ok x) a = a.4
short_by view reading (Err e) a = tt

pub fault_by : {X : Type 0} (view : X → List ℕ) (reading : Result PlainMessage DecodeError) (r : Result X DecodeError)
    → GivesText view r reading → IfErr r (λ e. Answers (Err e) reading)
fault_by view reading (Ok x) a = tt
fault_by view reading (Err e) a = a

pub memory_by : {X : Type 0} (view : X → List ℕ) (p : Draft) (bytes : List ℕ) (r : Result X DecodeError) → refusal_in p ≡ None
    → GivesText view r (read_as p bytes) → r ≡ Err OutOfMemory → (m : PlainMessage) × SpellsAs p bytes m
memory_by {X} view p bytes r c a e =
    read_message p bytes (read_as p bytes) c refl (subst (λ (x : Result X DecodeError). GivesText view x (read_as p bytes)) e a)
