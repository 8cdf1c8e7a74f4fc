-- Reading the front of what is read gives the same, or is Short.
-- for: laws::cut_messages_are_short
use Rattle.std.proofs.Common.{◌≡◌, ◌∙◌, ◌⊎◌, inl, inr, ℕ, ◌+◌, ◌*◌, ◌<◌, Bool, true, false, cond, eqb, ltb, List, [], ◌∷◌, ◌++◌, length, take, drop, get_or}
use Rattle.std.proofs.Common.{Option, Some, None, Result, Ok, Err, refl, sym, ap, subst, arith}
use Rattle.std.proofs.lemmas.Bool.{cases_lt, eqb-true, lt-ltb, le-ltb}
use Rattle.std.proofs.lemmas.List.{length-append, nil_from_length, take-append-le, drop-append-le}
use Rattle.sw_base.specs.Digits.{number_of}
use Rattle.iso_msg.specs.declared.table.FieldForm.{FieldForm}
use Rattle.iso_msg.specs.Table.{form_of}
use Rattle.iso_msg.specs.Messages.{Fields, PlainMessage}
use Rattle.iso_codec.specs.declared.error.DecodeError.{DecodeError}
use Rattle.iso_codec.specs.declared.error.DecodeError.TheVariants.{Short, BadMti, BadBitmap, BadLength, BadContent, Trailing}
use Rattle.iso_codec.specs.Digits.{bits_at}
use Rattle.iso_codec.specs.Reads.{◌>>=◌, or_fault, part, mti_is, starts_with_1, field_numbers}
use Rattle.iso_dialect.specs.declared.coding.Coding.{Coding}
use Rattle.iso_dialect.specs.declared.row.Count.{Count}
use Rattle.iso_dialect.specs.declared.row.Count.TheVariants.{Digits, Byte, TwoBytes}
use Rattle.iso_dialect.specs.declared.row.Size.{Size}
use Rattle.iso_dialect.specs.declared.row.Size.TheVariants.{Exact, Counted}
use Rattle.iso_dialect.specs.declared.row.Row.{Row}
use Rattle.iso_dialect.specs.declared.profile.Draft.{Draft}
use Rattle.iso_dialect.specs.Codings.{byte_count, text_of}
use Rattle.iso_dialect.specs.Profiles.{Rows, has_text_length, row_of, scale}
use Rattle.iso_dialect.specs.Fields.{coded_at, digits_at, byte_at, two_bytes_at, number_at, counted_at, size_at, field_text_at, value_in, value_as}
use Rattle.iso_dialect.specs.Fields.{passed_at, field_by, field_as}
use Rattle.iso_dialect.specs.Readings.{bitmap_as, bitmaps_as, known_as, front_as, fields_as, read_as}
use Rattle.iso_dialect.specs.Cuts.{CutIsShort}
use Rattle.iso_dialect.proofs.Steps.{done, ok_is, bind_ok, guard_if}
use Rattle.iso_dialect.proofs.MessageReads.{Front, ended, then_fields, read_again}

-- what reading a front gives, where reading it with the rest gives x
abbrev Cut : {A : Type 0} → Result (A × List ℕ) DecodeError → List ℕ → A × List ℕ → Type 0
Cut r rest x = ((left : List ℕ) × (x.1 ≡ left ++ rest) × (r ≡ done (x.0, left))) ⊎ (r ≡ Err Short)

cut_done : {A : Type 0} (a : A) (left rest whole : List ℕ) (x : A × List ℕ) → whole ≡ left ++ rest → done (a, whole) ≡ done x → Cut (done (a, left)) rest x
cut_done {A} a left rest whole x w e =
    let made : A × List ℕ = (a, whole) in
    subst (λ (y : A × List ℕ). Cut (done (a, left)) rest y) (ok_is made x e) (inl (left, w, refl))

cut_then : {A B : Type 0} (r : Result (A × List ℕ) DecodeError) (f : A × List ℕ → Result (B × List ℕ) DecodeError) (rest : List ℕ) (x : A × List ℕ)
    (y : B × List ℕ) → Cut r rest x → ((left : List ℕ) → x.1 ≡ left ++ rest → Cut (f (x.0, left)) rest y) → Cut (r >>= f) rest y
cut_then {A} {B} r f rest x y (inl w) next = subst (λ (s : Result (A × List ℕ) DecodeError). Cut (s >>= f) rest y) (sym w.2) (next w.0 w.1)
cut_then {A} {B} r f rest x y (inr w) next = inr (ap (λ (s : Result (A × List ℕ) DecodeError). s >>= f) w)

-- a step that takes no bytes
cut_pure : {A B : Type 0} (s : Result A DecodeError) (g : A → B) (left rest whole : List ℕ) (x : B × List ℕ) → whole ≡ left ++ rest
    → (s >>= λ t. done (g t, whole)) ≡ done x → Cut (s >>= λ t. done (g t, left)) rest x
cut_pure (Ok t) g left rest whole x w e = cut_done (g t) left rest whole x w e
cut_pure (Err d) g left rest whole x w e = absurd cc

cut_part : (k : ℕ) (front rest : List ℕ) (x : List ℕ × List ℕ) → part k (front ++ rest) ≡ done x → Cut (part k front) rest x
cut_part k front rest x e =
    elim (cases_lt (length front) k) [
      | inl w ↦ inr (rw (lt-ltb (length front) k w) refl)
      | inr w ↦
          let long : ltb (length (front ++ rest)) k ≡ false = le-ltb _ _ (omega (arith, length-append front rest)) in
          let here : ltb (length front) k ≡ false = le-ltb _ _ w in
          let all : part k (front ++ rest) ≡ done (take k front, drop k front ++ rest) =
          rw (long, take-append-le k front rest w, drop-append-le k front rest w) refl in
          let made : List ℕ × List ℕ = (take k front, drop k front ++ rest) in
          subst (λ (y : List ℕ × List ℕ). Cut (part k front) rest y) (ok_is made x (sym all ∙ e)) (inl (drop k front, refl, rw here refl))
    ]

cut_coded : (c : Coding) (k : ℕ) (fault : DecodeError) (front rest : List ℕ) (x : List ℕ × List ℕ) → coded_at c k fault (front ++ rest) ≡ done x
    → Cut (coded_at c k fault front) rest x
cut_coded c k fault front rest x e =
    let a = bind_ok (part (byte_count c k) (front ++ rest)) (λ body. or_fault (text_of c k body.0) fault >>= λ text. done (text, body.1)) x e in
    cut_then (part (byte_count c k) front) (λ body. or_fault (text_of c k body.0) fault >>= λ text. done (text, body.1)) rest a.0 x
    (cut_part (byte_count c k) front rest a.0 a.1)
    (λ left w. cut_pure (or_fault (text_of c k a.0.0) fault) (λ (t : List ℕ). t) left rest a.0.1 x w a.2)

-- the same at bytes that are a front and a rest
coded_here : (c : Coding) (k : ℕ) (fault : DecodeError) (bytes front rest : List ℕ) (x : List ℕ × List ℕ) → bytes ≡ front ++ rest
    → coded_at c k fault bytes ≡ done x → Cut (coded_at c k fault front) rest x
coded_here c k fault bytes front rest x w e = cut_coded c k fault front rest x (sym (ap (coded_at c k fault) w) ∙ e)

cut_number : (c : Count) (n : ℕ) (front rest : List ℕ) (x : ℕ × List ℕ) → number_at c n (front ++ rest) ≡ done x → Cut (number_at c n front) rest x
unfolding digits_at byte_at two_bytes_at
cut_number (Digits coding digits) n front rest x e =
    let a = bind_ok (coded_at coding digits (BadLength n) (front ++ rest)) (λ text. or_fault (number_of text.0) (BadLength n) >>= λ k. done (k, text.1)) x e in
    cut_then (coded_at coding digits (BadLength n) front) (λ text. or_fault (number_of text.0) (BadLength n) >>= λ k. done (k, text.1)) rest a.0 x
    (cut_coded coding digits (BadLength n) front rest a.0 a.1)
    (λ left w. cut_pure (or_fault (number_of a.0.0) (BadLength n)) (λ (t : ℕ). t) left rest a.0.1 x w a.2)
cut_number Byte n front rest x e =
    let a = bind_ok (part 1 (front ++ rest)) (λ (b : List ℕ × List ℕ). done (get_or b.0 0 0, b.1)) x e in
    cut_then (part 1 front) (λ (b : List ℕ × List ℕ). done (get_or b.0 0 0, b.1)) rest a.0 x (cut_part 1 front rest a.0 a.1)
    (λ left w. cut_done (get_or a.0.0 0 0) left rest a.0.1 x w a.2)
cut_number TwoBytes n front rest x e =
    let a = bind_ok (part 2 (front ++ rest)) (λ (b : List ℕ × List ℕ). done (256 * get_or b.0 0 0 + get_or b.0 1 0, b.1)) x e in
    cut_then (part 2 front) (λ (b : List ℕ × List ℕ). done (256 * get_or b.0 0 0 + get_or b.0 1 0, b.1)) rest a.0 x (cut_part 2 front rest a.0 a.1)
    (λ left w. cut_done (256 * get_or a.0.0 0 0 + get_or a.0.0 1 0) left rest a.0.1 x w a.2)

abbrev within : ℕ → ℕ → ℕ × List ℕ → Result (ℕ × List ℕ) DecodeError
within most n k = cond (ltb most k.0) (Err (BadLength n)) (Ok k)

cut_within : (b : Bool) (n k : ℕ) (left rest whole : List ℕ) (x : ℕ × List ℕ) → whole ≡ left ++ rest
    → cond b (Err (BadLength n)) (done (k, whole)) ≡ done x → Cut (cond b (Err (BadLength n)) (done (k, left))) rest x
cut_within true n k left rest whole x w e = absurd cc
cut_within false n k left rest whole x w e = cut_done k left rest whole x w e

cut_size : (s : Size) (n : ℕ) (front rest : List ℕ) (x : ℕ × List ℕ) → size_at s n (front ++ rest) ≡ done x → Cut (size_at s n front) rest x
unfolding counted_at
cut_size (Exact exact) n front rest x e = cut_done exact front rest (front ++ rest) x refl e
cut_size (Counted count most) n front rest x e =
    let a = bind_ok (number_at count n (front ++ rest)) (within most n) x e in
    cut_then (number_at count n front) (within most n) rest a.0 x (cut_number count n front rest a.0 a.1)
    (λ left w. cut_within (ltb most a.0.0) n a.0.0 left rest a.0.1 x w a.2)

abbrev if_long : Bool → ℕ → Result (List ℕ × List ℕ) DecodeError → Result (List ℕ × List ℕ) DecodeError
if_long b n r = cond b r (Err (BadLength n))

cut_long : (b : Bool) (c : Coding) (k n : ℕ) (bytes left rest : List ℕ) (x : List ℕ × List ℕ) → bytes ≡ left ++ rest
    → if_long b n (coded_at c k (BadContent n) bytes) ≡ done x → Cut (if_long b n (coded_at c k (BadContent n) left)) rest x
cut_long true c k n bytes left rest x w e = coded_here c k (BadContent n) bytes left rest x w e
cut_long false c k n bytes left rest x w e = absurd cc

abbrev then_text : Row → FieldForm → ℕ → ℕ × List ℕ → Result (List ℕ × List ℕ) DecodeError
then_text row f n k = if_long (has_text_length f (scale row.coding * k.0)) n (coded_at row.coding (scale row.coding * k.0) (BadContent n) k.1)

cut_text : (row : Row) (f : FieldForm) (n : ℕ) (front rest : List ℕ) (x : List ℕ × List ℕ) → field_text_at row f n (front ++ rest) ≡ done x
    → Cut (field_text_at row f n front) rest x
unfolding field_text_at
cut_text row f n front rest x e =
    let a = bind_ok (size_at row.size n (front ++ rest)) (then_text row f n) x e in
    cut_then (size_at row.size n front) (then_text row f n) rest a.0 x (cut_size row.size n front rest a.0 a.1)
    (λ left w. cut_long (has_text_length f (scale row.coding * a.0.0)) row.coding (scale row.coding * a.0.0) n a.0.1 left rest x w a.2)

cut_value : (row : Row) (o : Option FieldForm) (n : ℕ) (front rest : List ℕ) (x : List ℕ × List ℕ) → value_as row o n (front ++ rest) ≡ done x
    → Cut (value_as row o n front) rest x
cut_value row None n front rest x e = absurd cc
cut_value row (Some f) n front rest x e =
    let a = bind_ok (field_text_at row f n (front ++ rest)) (λ text. value_in f n text.0 >>= λ v. done (v, text.1)) x e in
    cut_then (field_text_at row f n front) (λ text. value_in f n text.0 >>= λ v. done (v, text.1)) rest a.0 x (cut_text row f n front rest a.0 a.1)
    (λ left w. cut_pure (value_in f n a.0.0) (λ (t : List ℕ). t) left rest a.0.1 x w a.2)

-- ---- a field that is not kept

abbrev kept : Fields → List ℕ → Result (Fields × List ℕ) DecodeError
kept fs rest = Ok (fs, rest)

abbrev skipped : List ℕ × List ℕ → Result (Fields × List ℕ) DecodeError
skipped body = kept [] body.1

abbrev then_skipped : Row → ℕ × List ℕ → Result (Fields × List ℕ) DecodeError
then_skipped row k = part (byte_count row.coding (scale row.coding * k.0)) k.1 >>= skipped

abbrev body_rest : Result (List ℕ × List ℕ) DecodeError → Result (List ℕ) DecodeError
body_rest r = r >>= λ body. Ok body.1

abbrev alone : Result (List ℕ) DecodeError → Result (Fields × List ℕ) DecodeError
alone r = r >>= λ rest. kept [] rest

body_is : (r : Result (List ℕ × List ℕ) DecodeError) → alone (body_rest r) ≡ (r >>= skipped)
body_is (Ok body) = refl
body_is (Err d) = refl

size_is : (row : Row) (r : Result (ℕ × List ℕ) DecodeError) →
    alone (r >>= λ k. body_rest (part (byte_count row.coding (scale row.coding * k.0)) k.1)) ≡ (r >>= then_skipped row)
size_is row (Ok k) = body_is (part (byte_count row.coding (scale row.coding * k.0)) k.1)
size_is row (Err d) = refl

passed_is : (row : Row) (n : ℕ) (bytes : List ℕ) → alone (passed_at row n bytes) ≡ (size_at row.size n bytes >>= then_skipped row)
unfolding passed_at
passed_is row n bytes = size_is row (size_at row.size n bytes)

cut_skipped : (row : Row) (k : ℕ) (bytes left rest : List ℕ) (x : Fields × List ℕ) → bytes ≡ left ++ rest → then_skipped row (k, bytes) ≡ done x
    → Cut (then_skipped row (k, left)) rest x
cut_skipped row k bytes left rest x w e =
    let count : ℕ = byte_count row.coding (scale row.coding * k) in
    let here : (part count (left ++ rest) >>= skipped) ≡ done x = sym (ap (λ (b : List ℕ). part count b >>= skipped) w) ∙ e in
    let a = bind_ok (part count (left ++ rest)) skipped x here in
    cut_then (part count left) skipped rest a.0 x (cut_part count left rest a.0 a.1) (λ more v. cut_done [] more rest a.0.1 x v a.2)

cut_passed : (row : Row) (n : ℕ) (front rest : List ℕ) (x : Fields × List ℕ) → alone (passed_at row n (front ++ rest)) ≡ done x
    → Cut (alone (passed_at row n front)) rest x
cut_passed row n front rest x e =
    let a = bind_ok (size_at row.size n (front ++ rest)) (then_skipped row) x (sym (passed_is row n (front ++ rest)) ∙ e) in
    let all = cut_then (size_at row.size n front) (then_skipped row) rest a.0 x (cut_size row.size n front rest a.0 a.1)
    (λ left w. cut_skipped row a.0.0 a.0.1 left rest x w a.2) in
    subst (λ (r : Result (Fields × List ℕ) DecodeError). Cut r rest x) (sym (passed_is row n front)) all

-- ---- fields

cut_by : (b : Bool) (row : Row) (n : ℕ) (front rest : List ℕ) (x : Fields × List ℕ) → field_by b row n (front ++ rest) ≡ done x
    → Cut (field_by b row n front) rest x
cut_by true row n front rest x e =
    let a = bind_ok (value_as row (form_of n) n (front ++ rest)) (λ v. kept ((n, v.0) ∷ []) v.1) x e in
    cut_then (value_as row (form_of n) n front) (λ v. kept ((n, v.0) ∷ []) v.1) rest a.0 x (cut_value row (form_of n) n front rest a.0 a.1)
    (λ left w. cut_done ((n, a.0.0) ∷ []) left rest a.0.1 x w a.2)
cut_by false row n front rest x e = cut_passed row n front rest x e

cut_field : (o : Option Row) (n : ℕ) (front rest : List ℕ) (x : Fields × List ℕ) → field_as o n (front ++ rest) ≡ done x → Cut (field_as o n front) rest x
cut_field None n front rest x e = absurd cc
cut_field (Some row) n front rest x e = cut_by row.is_kept row n front rest x e

cut_fields : (rows : Rows) (ns front rest : List ℕ) (x : Fields × List ℕ) → fields_as rows ns (front ++ rest) ≡ done x → Cut (fields_as rows ns front) rest x
unfolding fields_as
cut_fields rows [] front rest x e = cut_done [] front rest (front ++ rest) x refl e
cut_fields rows (n ∷ ns) front rest x e =
    let a = bind_ok (field_as (row_of rows n) n (front ++ rest)) (λ f. fields_as rows ns f.1 >>= λ fs. kept (f.0 ++ fs.0) fs.1) x e in
    let b = bind_ok (fields_as rows ns a.0.1) (λ fs. kept (a.0.0 ++ fs.0) fs.1) x a.2 in
    cut_then (field_as (row_of rows n) n front) (λ f. fields_as rows ns f.1 >>= λ fs. kept (f.0 ++ fs.0) fs.1) rest a.0 x
    (cut_field (row_of rows n) n front rest a.0 a.1)
    (λ left w. cut_then (fields_as rows ns left) (λ fs. kept (a.0.0 ++ fs.0) fs.1) rest b.0 x
    (cut_fields rows ns left rest b.0 (sym (ap (fields_as rows ns) w) ∙ b.1))
    (λ more v. cut_done (a.0.0 ++ b.0.0) more rest b.0.1 x v b.2))

-- ---- bitmaps

cut_bitmap : (c : Coding) (n : ℕ) (front rest : List ℕ) (x : List ℕ × List ℕ) → bitmap_as c n (front ++ rest) ≡ done x → Cut (bitmap_as c n front) rest x
unfolding bitmap_as
cut_bitmap c n front rest x e =
    let a = bind_ok (coded_at c 16 BadBitmap (front ++ rest)) (λ text. or_fault (bits_at n text.0) BadBitmap >>= λ ns. done (ns, text.1)) x e in
    cut_then (coded_at c 16 BadBitmap front) (λ text. or_fault (bits_at n text.0) BadBitmap >>= λ ns. done (ns, text.1)) rest a.0 x
    (cut_coded c 16 BadBitmap front rest a.0 a.1)
    (λ left w. cut_pure (or_fault (bits_at n a.0.0) BadBitmap) (λ (t : List ℕ). t) left rest a.0.1 x w a.2)

abbrev joined : Bool → List ℕ → List ℕ → Result (List ℕ × List ℕ) DecodeError → Result (List ℕ × List ℕ) DecodeError
joined b ns bytes r = cond b (r >>= λ second. done (ns ++ second.0, second.1)) (done (ns, bytes))

cut_joined : (b : Bool) (c : Coding) (ns bytes left rest : List ℕ) (x : List ℕ × List ℕ) → bytes ≡ left ++ rest
    → joined b ns bytes (bitmap_as c 65 bytes) ≡ done x → Cut (joined b ns left (bitmap_as c 65 left)) rest x
cut_joined true c ns bytes left rest x w e =
    let a = bind_ok (bitmap_as c 65 bytes) (λ second. done (ns ++ second.0, second.1)) x e in
    cut_then (bitmap_as c 65 left) (λ second. done (ns ++ second.0, second.1)) rest a.0 x
    (cut_bitmap c 65 left rest a.0 (sym (ap (bitmap_as c 65) w) ∙ a.1))
    (λ more v. cut_done (ns ++ a.0.0) more rest a.0.1 x v a.2)
cut_joined false c ns bytes left rest x w e = cut_done ns left rest bytes x w e

abbrev then_second : Coding → List ℕ × List ℕ → Result (List ℕ × List ℕ) DecodeError
then_second c first = joined (starts_with_1 first.0) first.0 first.1 (bitmap_as c 65 first.1)

cut_bitmaps : (c : Coding) (front rest : List ℕ) (x : List ℕ × List ℕ) → bitmaps_as c (front ++ rest) ≡ done x → Cut (bitmaps_as c front) rest x
unfolding bitmaps_as
cut_bitmaps c front rest x e =
    let a = bind_ok (bitmap_as c 1 (front ++ rest)) (then_second c) x e in
    cut_then (bitmap_as c 1 front) (then_second c) rest a.0 x (cut_bitmap c 1 front rest a.0 a.1)
    (λ left w. cut_joined (starts_with_1 a.0.0) c a.0.0 a.0.1 left rest x w a.2)

-- ---- the message

-- what reading the front of a message gives: its type and numbers, or Short
abbrev CutFront : Result Front DecodeError → List ℕ → Front → Type 0
CutFront r rest f = ((left : List ℕ) × (f.2 ≡ left ++ rest) × (r ≡ done (f.0, f.1, left))) ⊎ (r ≡ Err Short)

abbrev then_known : Draft → List ℕ → List ℕ × List ℕ → Result Front DecodeError
then_known p mti ns = known_as p.rows (field_numbers ns.0) >>= λ ok. done (mti, field_numbers ns.0, ns.1)

cut_known : (r : Result (Unit {0}) DecodeError) (mti ns left rest whole : List ℕ) (f : Front) → whole ≡ left ++ rest
    → (r >>= λ ok. done (mti, ns, whole)) ≡ done f → CutFront (r >>= λ ok. done (mti, ns, left)) rest f
cut_known (Ok u) mti ns left rest whole f w e =
    let made : Front = (mti, ns, whole) in
    let cut : Front = (mti, ns, left) in
    subst (λ (y : Front). CutFront (done cut) rest y) (ok_is made f e) (inl (left, w, refl))
cut_known (Err d) mti ns left rest whole f w e = absurd cc

front_then : {A : Type 0} (r : Result (A × List ℕ) DecodeError) (g : A × List ℕ → Result Front DecodeError) (rest : List ℕ) (x : A × List ℕ) (f : Front)
    → Cut r rest x → ((left : List ℕ) → x.1 ≡ left ++ rest → CutFront (g (x.0, left)) rest f) → CutFront (r >>= g) rest f
front_then {A} r g rest x f (inl w) next = subst (λ (s : Result (A × List ℕ) DecodeError). CutFront (s >>= g) rest f) (sym w.2) (next w.0 w.1)
front_then {A} r g rest x f (inr w) next = inr (ap (λ (s : Result (A × List ℕ) DecodeError). s >>= g) w)

abbrev after_mti : Draft → List ℕ → List ℕ → Result Front DecodeError
after_mti p bytes mti = bitmaps_as p.bitmap bytes >>= then_known p mti

cut_after : (p : Draft) (mti bytes left rest : List ℕ) (f : Front) → bytes ≡ left ++ rest → after_mti p bytes mti ≡ done f
    → CutFront (after_mti p left mti) rest f
cut_after p mti bytes left rest f w e =
    let a = bind_ok (bitmaps_as p.bitmap bytes) (then_known p mti) f e in
    front_then (bitmaps_as p.bitmap left) (then_known p mti) rest a.0 f
    (cut_bitmaps p.bitmap left rest a.0 (sym (ap (bitmaps_as p.bitmap) w) ∙ a.1))
    (λ more v. cut_known (known_as p.rows (field_numbers a.0.0)) mti (field_numbers a.0.0) more rest a.0.1 f v a.2)

cut_mti : (r : Result (List ℕ) DecodeError) (p : Draft) (bytes left rest : List ℕ) (f : Front) → bytes ≡ left ++ rest → (r >>= after_mti p bytes) ≡ done f
    → CutFront (r >>= after_mti p left) rest f
cut_mti (Ok mti) p bytes left rest f w e = cut_after p mti bytes left rest f w e
cut_mti (Err d) p bytes left rest f w e = absurd cc

abbrev then_mti : Draft → List ℕ × List ℕ → Result Front DecodeError
then_mti p digits = mti_is digits.0 >>= after_mti p digits.1

cut_front : (p : Draft) (front rest : List ℕ) (f : Front) → front_as p (front ++ rest) ≡ done f → CutFront (front_as p front) rest f
unfolding front_as
cut_front p front rest f e =
    let a = bind_ok (coded_at p.mti 4 BadMti (front ++ rest)) (then_mti p) f e in
    front_then (coded_at p.mti 4 BadMti front) (then_mti p) rest a.0 f (cut_coded p.mti 4 BadMti front rest a.0 a.1)
    (λ left w. cut_mti (mti_is a.0.0) p a.0.1 left rest f w a.2)

no_rest : (left rest : List ℕ) → 0 < length rest → [] ≡ left ++ rest → ⊥
no_rest left rest h e = omega (arith, length-append left rest, ap length e)

cut_fields_end : (r : Result (Fields × List ℕ) DecodeError) (mti rest : List ℕ) (x : Fields × List ℕ) → 0 < length rest → x.1 ≡ [] → Cut r rest x
    → (r >>= ended mti) ≡ Err Short
cut_fields_end r mti rest x h none (inl w) = absurd (no_rest w.0 rest h (sym none ∙ w.1))
cut_fields_end r mti rest x h none (inr w) = ap (λ (s : Result (Fields × List ℕ) DecodeError). s >>= ended mti) w

cut_end : (p : Draft) (r : Result Front DecodeError) (rest : List ℕ) (f : Front) (m : PlainMessage) → 0 < length rest → then_fields p f ≡ done m
    → CutFront r rest f → (r >>= then_fields p) ≡ Err Short
cut_end p r rest f m h e (inr w) = ap (λ (s : Result Front DecodeError). s >>= then_fields p) w
cut_end p r rest f m h e (inl w) =
    let b = bind_ok (fields_as p.rows f.1 f.2) (ended f.0) m e in
    let made : PlainMessage = record { mti = f.0; fields = b.0.0 } in
    let g = guard_if (eqb (length b.0.1) 0) Trailing made m b.2 in
    let none : b.0.1 ≡ [] = nil_from_length b.0.1 (eqb-true (length b.0.1) 0 g.0) in
    let c = cut_fields p.rows f.1 w.0 rest b.0 (sym (ap (fields_as p.rows f.1) w.1) ∙ b.1) in
    ap (λ (s : Result Front DecodeError). s >>= then_fields p) w.2 ∙ cut_fields_end (fields_as p.rows f.1 w.0) f.0 rest b.0 h none c

pub cut_is_short : CutIsShort
unfolding read_as
cut_is_short p front rest m c h s =
    let a = bind_ok (front_as p (front ++ rest)) (then_fields p) m (read_again p (front ++ rest) m c s) in
    cut_end p (front_as p front) rest a.0 m h a.2 (cut_front p front rest a.0 a.1)
