-- A field that is written is read, and what is read is written so.
-- for: field::read_digits, field::read_field_text, field::octets_of, decode::read_value, MessageReads
use Rattle.std.proofs.Common.{◌≡◌, ◌∙◌, ℕ, zero, suc, ◌+◌, ◌*◌, ◌/◌, ◌%◌, ◌≤◌, ◌&&◌, Bool, true, false, cond, eqb, ltb, leb, List, [], ◌∷◌, ◌++◌, length}
use Rattle.std.proofs.Common.{take, drop, Option, Some, None, Result, Ok, Err, get_or, refl, sym, ap, subst, append_assoc, arith}
use Rattle.std.specs.Prelude.{option_and_then}
use Rattle.std.specs.List.{flat_map}
use Rattle.std.proofs.lemmas.Bool.{eqb-true, leb-true, ltb-false, le-ltb, le-leb}
use Rattle.std.proofs.lemmas.List.{append-nil, length-take, length-drop}
use Rattle.iso_msg.proofs.Bools.{and_both, some_is, equal-eqb}
use Rattle.iso_msg.specs.declared.table.FieldForm.{FieldForm}
use Rattle.iso_msg.specs.declared.table.FieldForm.TheVariants.{Fixed, Variable, Binary}
use Rattle.iso_msg.specs.Table.{form_of}
use Rattle.iso_msg.specs.Values.{takes}
use Rattle.iso_msg.specs.Messages.{Fields}
use Rattle.sw_base.specs.Digits.{number_of}
use Rattle.iso_codec.specs.declared.error.DecodeError.{DecodeError}
use Rattle.iso_codec.specs.declared.error.DecodeError.TheVariants.{BadLength, BadContent}
use Rattle.iso_codec.specs.Digits.{both, octets}
use Rattle.iso_codec.specs.Spelling.{hex}
use Rattle.iso_codec.specs.Reads.{◌>>=◌, octets_at, or_fault, part}
use Rattle.iso_codec.proofs.Encoding.{hex_length}
use Rattle.iso_dialect.proofs.Steps.{done, bind_ok, guard_if, guard_then, if_then, or_ok, ok_is, part_ok, part_again}
use Rattle.iso_dialect.proofs.Texts.{halves_length}
use Rattle.iso_dialect.specs.declared.coding.Coding.{Coding}
use Rattle.iso_dialect.specs.declared.coding.Coding.TheVariants.{Ascii, Ebcdic, Packed, Octets}
use Rattle.iso_dialect.specs.declared.row.Count.{Count}
use Rattle.iso_dialect.specs.declared.row.Count.TheVariants.{Digits, Byte, TwoBytes}
use Rattle.iso_dialect.specs.declared.row.Size.{Size}
use Rattle.iso_dialect.specs.declared.row.Size.TheVariants.{Exact, Counted}
use Rattle.iso_dialect.specs.declared.row.Row.{Row}
use Rattle.iso_dialect.specs.Pages.{char_in}
use Rattle.iso_dialect.specs.Codings.{each, halves, char_of, unpadded, byte_count, text_of, IsCoded}
use Rattle.iso_dialect.specs.Profiles.{counts, has_text_length, is_count, scale, takes_digits}
use Rattle.iso_dialect.specs.Fields.{IsNumber, IsSize, IsTextOf, IsValue, IsPassed, IsFieldBy, IsField}
use Rattle.iso_dialect.specs.Fields.{coded_at, digits_at, byte_at, two_bytes_at, number_at, counted_at, size_at, field_text_at, value_in, value_as}
use Rattle.iso_dialect.specs.Fields.{passed_at, field_by, field_as}

-- ---- what is written is read

pub coded_again : (c : Coding) (count : ℕ) (fault : DecodeError) (body rest text : List ℕ) → length text ≡ count → IsCoded c body text
    → coded_at c count fault (body ++ rest) ≡ Ok (text, rest)
coded_again c count fault body rest text len h =
    subst (λ (k : ℕ). coded_at c k fault (body ++ rest) ≡ Ok (text, rest)) len
    (rw (part_again (byte_count c (length text)) body rest h.0, h.1) refl)

number_again : (c : Count) (n : ℕ) (front rest : List ℕ) (k : ℕ) → IsNumber c front k → number_at c n (front ++ rest) ≡ Ok (k, rest)
unfolding digits_at byte_at two_bytes_at
number_again (Digits coding digits) n front rest k h =
    rw (coded_again coding digits (BadLength n) front rest h.0 h.1 h.2, h.3) refl
number_again Byte n front rest k h = rw (h, part_again 1 (k ∷ []) rest refl) refl
number_again TwoBytes n front rest k h = rw (h.2, h.3, part_again 2 (h.0 ∷ h.1 ∷ []) rest refl) refl

size_again : (s : Size) (n : ℕ) (front rest : List ℕ) (k : ℕ) → IsSize s front k → size_at s n (front ++ rest) ≡ Ok (k, rest)
unfolding counted_at
size_again (Exact e) n front rest k h = rw (h.0, h.1) refl
size_again (Counted count most) n front rest k h = rw (number_again count n front rest k h.0, le-ltb most k h.1) refl

text_again : (f : FieldForm) (n : ℕ) (text v : List ℕ) → IsTextOf f text v → (has_text_length f (length text) ≡ true) × (value_in f n text ≡ Ok v)
text_again (Fixed c e) n text v t =
    let same : takes c text ≡ true = ap (takes c) t.0 ∙ t.2 in
    (equal-eqb (length text) e (ap length t.0 ∙ t.1), rw same (ap (λ (x : List ℕ). done x) t.0))
text_again (Variable c d most) n text v t =
    let same : takes c text ≡ true = ap (takes c) t.0 ∙ t.2 in
    (le-leb (length text) most (omega (arith, ap length t.0, t.1)), rw same (ap (λ (x : List ℕ). done x) t.0))
text_again Binary n text v t = (equal-eqb (length text) 16 t.0, rw t.1 refl)

value_again : (row : Row) (o : Option FieldForm) (n : ℕ) (bytes rest v : List ℕ) → IsValue row o bytes v → value_as row o n (bytes ++ rest) ≡ Ok (v, rest)
unfolding field_text_at
value_again row None n bytes rest v w = absurd w
value_again row (Some f) n bytes rest v w =
    let t = text_again f n w.2 v w.8 in
    let fits : has_text_length f (scale row.coding * w.3) ≡ true = ap (has_text_length f) (sym w.6) ∙ t.0 in
    rw (
      w.4,
      append_assoc w.0 w.1 rest,
      size_again row.size n w.0 (w.1 ++ rest) w.3 w.5,
      fits,
      coded_again row.coding (scale row.coding * w.3) (BadContent n) w.1 rest w.2 w.6 w.7,
      t.1,
    ) refl

passed_again : (row : Row) (n : ℕ) (bytes rest : List ℕ) → IsPassed row bytes → passed_at row n (bytes ++ rest) ≡ Ok rest
unfolding passed_at
passed_again row n bytes rest w =
    rw (
      w.3,
      append_assoc w.0 w.1 rest,
      size_again row.size n w.0 (w.1 ++ rest) w.2 w.4,
      part_again (byte_count row.coding (scale row.coding * w.2)) w.1 rest w.5,
    ) refl

by_again : (b : Bool) (row : Row) (n : ℕ) (bytes rest : List ℕ) (fs : Fields) → IsFieldBy b row n bytes fs → field_by b row n (bytes ++ rest) ≡ Ok (fs, rest)
by_again true row n bytes rest fs w = rw (w.2, value_again row (form_of n) n bytes rest w.0 w.1) refl
by_again false row n bytes rest fs w = rw (w.1, passed_again row n bytes rest w.0) refl

pub field_again : (o : Option Row) (n : ℕ) (bytes rest : List ℕ) (fs : Fields) → IsField o n bytes fs → field_as o n (bytes ++ rest) ≡ Ok (fs, rest)
field_again None n bytes rest fs w = absurd w
field_again (Some row) n bytes rest fs w = by_again row.is_kept row n bytes rest fs w

-- ---- what is read is written

both_some : (o : Option ℕ) (r : Option (List ℕ)) (v : List ℕ) → both (λ c cs. c ∷ cs) o r ≡ Some v → (c : ℕ) × (cs : List ℕ) × (r ≡ Some cs) × (v ≡ c ∷ cs)
both_some None r v e = absurd cc
both_some (Some c) None v e = absurd cc
both_some (Some c) (Some cs) v e = (c, cs, refl, sym (some_is (c ∷ cs) v e))

each_length : (f : ℕ → Option ℕ) (xs text : List ℕ) → each f xs ≡ Some text → length text ≡ length xs
each_length f [] text e = ap length (sym (some_is [] text e))
each_length f (x ∷ xs) text e =
    let p = both_some (f x) (each f xs) text e in
    ap length p.3 ∙ ap suc (each_length f xs p.1 p.2)

pub then_some : (f : List ℕ → Option (List ℕ)) (o : Option (List ℕ)) (v : List ℕ) → option_and_then f o ≡ Some v → (x : List ℕ) × (o ≡ Some x) × (f x ≡ Some v)
then_some f None v e = absurd cc
then_some f (Some x) v e = (x, refl, e)

picked : (b : Bool) (x y : List ℕ) → cond b (Some x) None ≡ Some y → x ≡ y
picked true x y e = some_is x y e
picked false x y e = absurd cc

odd_size : (count : ℕ) → eqb (count % 2) 0 ≡ false → 2 * ((count + 1) / 2) ≡ count + 1
odd_size count e = by (count % 2) refl
  where
    by : (r : ℕ) → count % 2 ≡ r → 2 * ((count + 1) / 2) ≡ count + 1
    by zero h = absurd (grind arith)
    by (suc r) h = omega (arith, h)

unpadded_length : (r : Bool) (pad count : ℕ) (ds v : List ℕ) → length ds ≡ 2 * ((count + 1) / 2) → unpadded r pad count ds ≡ Some v → length v ≡ count
unpadded_length r pad count ds v len e = by r (eqb (count % 2) 0) refl e
  where
    by : (s b : Bool) → eqb (count % 2) 0 ≡ b
        → cond b (Some ds) (cond s (cond (eqb (get_or ds count 0) pad) (Some (take count ds)) None)
        (cond (eqb (get_or ds 0 0) pad) (Some (drop 1 ds)) None)) ≡ Some v
        → length v ≡ count
    by s true h e =
        let even : count % 2 ≡ 0 = eqb-true (count % 2) 0 h in
        ap length (sym (some_is ds v e)) ∙ omega (arith, len, even)
    by true false h e =
        let odd = odd_size count h in
        ap length (sym (picked (eqb (get_or ds count 0) pad) (take count ds) v e)) ∙ omega (arith, length-take count ds, len, odd)
    by false false h e =
        let odd = odd_size count h in
        ap length (sym (picked (eqb (get_or ds 0 0) pad) (drop 1 ds) v e)) ∙ omega (arith, length-drop 1 ds, len, odd)

-- an even number in octets
abbrev pub IsWhole : Coding → ℕ → Type 0
IsWhole Octets count = count % 2 ≡ 0
IsWhole c count = Unit {0}

text_length : (c : Coding) (count : ℕ) (bytes text : List ℕ) → IsWhole c count → length bytes ≡ byte_count c count
    → text_of c count bytes ≡ Some text → length text ≡ count
text_length Ascii count bytes text w len e = ap length (sym (some_is bytes text e)) ∙ len
text_length (Ebcdic p) count bytes text w len e = each_length (char_in p) bytes text e ∙ len
text_length (Packed r pad) count bytes text w len e =
    let p = then_some (each char_of) (unpadded r pad count (flat_map halves bytes)) text e in
    each_length char_of p.0 text p.2 ∙ unpadded_length r pad count (flat_map halves bytes) p.0 (omega (arith, halves_length bytes, len)) p.1
text_length Octets count bytes text w len e =
    ap length (sym (some_is (flat_map hex bytes) text e)) ∙ omega (arith, hex_length bytes, len, w)

-- a text at the front
pub record Front (c : Coding) (count : ℕ) (bytes text rest : List ℕ) : Type 0 where
  pub body : List ℕ
  pub whole : bytes ≡ body ++ rest
  pub len : length text ≡ count
  pub coded : IsCoded c body text

pub coded_found : (c : Coding) (count : ℕ) (fault : DecodeError) (bytes : List ℕ) (x : List ℕ × List ℕ) → IsWhole c count
    → coded_at c count fault bytes ≡ Ok x → Front c count bytes x.0 x.1
coded_found c count fault bytes x w e =
    let a = bind_ok (part (byte_count c count) bytes) (λ body. or_fault (text_of c count body.0) fault >>= λ text. Ok (text, body.1)) x e in
    let b = bind_ok (or_fault (text_of c count a.0.0) fault) (λ text. Ok (text, a.0.1)) x a.2 in
    let p = part_ok (byte_count c count) bytes a.0 a.1 in
    let t : text_of c count a.0.0 ≡ Some b.0 = or_ok (text_of c count a.0.0) fault b.0 b.1 in
    let len : length b.0 ≡ count = text_length c count a.0.0 b.0 w p.len t in
    let made : List ℕ × List ℕ = (b.0, a.0.1) in
    let all : Front c count bytes b.0 a.0.1 = record {
      body = a.0.0;
      whole = p.whole;
      len = len;
      coded = (p.len ∙ ap (byte_count c) (sym len), ap (λ (k : ℕ). text_of c k a.0.0) len ∙ t);
    } in
    subst (λ (y : List ℕ × List ℕ). Front c count bytes y.0 y.1) (ok_is made x b.2) all

-- a number at the front
record CountedFront (c : Count) (bytes : List ℕ) (k : ℕ) (rest : List ℕ) : Type 0 where
  pub front : List ℕ
  pub whole : bytes ≡ front ++ rest
  pub is : IsNumber c front k

whole_digits : (c : Coding) (digits most : ℕ) → is_count (Counted (Digits c digits) most) ≡ true → IsWhole c digits
whole_digits Ascii digits most h = tt
whole_digits (Ebcdic p) digits most h = tt
whole_digits (Packed r pad) digits most h = tt
whole_digits Octets digits most h = absurd cc

few_digits : (c : Coding) (digits most : ℕ) → is_count (Counted (Digits c digits) most) ≡ true → digits ≤ 4
few_digits c digits most h =
    leb-true digits 4 (and_both (leb 1 digits) (leb digits 4) (and_both (takes_digits c) (leb 1 digits && leb digits 4) h).1).1

one_is : (bytes : List ℕ) → length bytes ≡ 1 → bytes ≡ get_or bytes 0 0 ∷ []
one_is [] h = absurd cc
one_is (b ∷ []) h = refl
one_is (b ∷ c ∷ bytes) h = absurd (omega (arith, h))

two_are : (bytes : List ℕ) → length bytes ≡ 2 → bytes ≡ get_or bytes 0 0 ∷ get_or bytes 1 0 ∷ []
two_are [] h = absurd cc
two_are (b ∷ []) h = absurd cc
two_are (b ∷ c ∷ []) h = refl
two_are (b ∷ c ∷ d ∷ bytes) h = absurd (omega (arith, h))

number_found : (c : Count) (n most : ℕ) (bytes : List ℕ) (x : ℕ × List ℕ) → is_count (Counted c most) ≡ true → number_at c n bytes ≡ Ok x
    → CountedFront c bytes x.0 x.1
unfolding digits_at byte_at two_bytes_at
number_found (Digits coding digits) n most bytes x h e =
    let a = bind_ok (coded_at coding digits (BadLength n) bytes) (λ text. or_fault (number_of text.0) (BadLength n) >>= λ k. Ok (k, text.1)) x e in
    let b = bind_ok (or_fault (number_of a.0.0) (BadLength n)) (λ k. Ok (k, a.0.1)) x a.2 in
    let f = coded_found coding digits (BadLength n) bytes a.0 (whole_digits coding digits most h) a.1 in
    let made : ℕ × List ℕ = (b.0, a.0.1) in
    let all : CountedFront (Digits coding digits) bytes b.0 a.0.1 = record {
      front = f.body;
      whole = f.whole;
      is = (a.0.0, f.len, f.coded, or_ok (number_of a.0.0) (BadLength n) b.0 b.1);
    } in
    subst (λ (y : ℕ × List ℕ). CountedFront (Digits coding digits) bytes y.0 y.1) (ok_is made x b.2) all
number_found Byte n most bytes x h e =
    let a = bind_ok (part 1 bytes) (λ front. Ok (get_or front.0 0 0, front.1)) x e in
    let p = part_ok 1 bytes a.0 a.1 in
    let made : ℕ × List ℕ = (get_or a.0.0 0 0, a.0.1) in
    let all : CountedFront Byte bytes made.0 made.1 = record { front = a.0.0; whole = p.whole; is = one_is a.0.0 p.len } in
    subst (λ (y : ℕ × List ℕ). CountedFront Byte bytes y.0 y.1) (ok_is made x a.2) all
number_found TwoBytes n most bytes x h e =
    let a = bind_ok (part 2 bytes) (λ front. Ok (256 * get_or front.0 0 0 + get_or front.0 1 0, front.1)) x e in
    let p = part_ok 2 bytes a.0 a.1 in
    let made : ℕ × List ℕ = (256 * get_or a.0.0 0 0 + get_or a.0.0 1 0, a.0.1) in
    let all : CountedFront TwoBytes bytes made.0 made.1 = record {
      front = a.0.0;
      whole = p.whole;
      is = (get_or a.0.0 0 0, get_or a.0.0 1 0, two_are a.0.0 p.len, refl);
    } in
    subst (λ (y : ℕ × List ℕ). CountedFront TwoBytes bytes y.0 y.1) (ok_is made x a.2) all

-- a size at the front
record SizedFront (s : Size) (bytes : List ℕ) (k : ℕ) (rest : List ℕ) : Type 0 where
  pub front : List ℕ
  pub whole : bytes ≡ front ++ rest
  pub is : IsSize s front k

size_found : (s : Size) (n : ℕ) (bytes : List ℕ) (x : ℕ × List ℕ) → is_count s ≡ true → size_at s n bytes ≡ Ok x → SizedFront s bytes x.0 x.1
unfolding counted_at
size_found (Exact k) n bytes x h e =
    let made : ℕ × List ℕ = (k, bytes) in
    let all : SizedFront (Exact k) bytes k bytes = record { front = []; whole = refl; is = (refl, refl) } in
    subst (λ (y : ℕ × List ℕ). SizedFront (Exact k) bytes y.0 y.1) (ok_is made x e) all
size_found (Counted count most) n bytes x h e =
    let a = bind_ok (number_at count n bytes) (λ k. cond (ltb most k.0) (Err (BadLength n)) (Ok k)) x e in
    let g = guard_then (ltb most a.0.0) (BadLength n) (Ok a.0) x a.2 in
    let f = number_found count n most bytes a.0 h a.1 in
    let all : SizedFront (Counted count most) bytes a.0.0 a.0.1 =
    record { front = f.front; whole = f.whole; is = (f.is, ltb-false most a.0.0 g.0) } in
    subst (λ (y : ℕ × List ℕ). SizedFront (Counted count most) bytes y.0 y.1) (ok_is a.0 x g.1) all

whole_scale : (c : Coding) (k : ℕ) → IsWhole c (scale c * k)
whole_scale Ascii k = tt
whole_scale (Ebcdic p) k = tt
whole_scale (Packed r pad) k = tt
whole_scale Octets k = omega arith

text_found : (f : FieldForm) (n : ℕ) (text v : List ℕ) → has_text_length f (length text) ≡ true → value_in f n text ≡ Ok v → IsTextOf f text v
text_found (Fixed c e) n text v h k =
    let g = guard_if (takes c text) (BadContent n) text v k in
    (g.1, sym (ap length g.1) ∙ eqb-true (length text) e h, sym (ap (takes c) g.1) ∙ g.0)
text_found (Variable c d most) n text v h k =
    let g = guard_if (takes c text) (BadContent n) text v k in
    (g.1, omega (arith, ap length g.1, leb-true (length text) most h), sym (ap (takes c) g.1) ∙ g.0)
text_found Binary n text v h k = (eqb-true (length text) 16 h, or_ok (octets text) (BadContent n) v k)

-- a field at the front
pub record Valued (row : Row) (o : Option FieldForm) (bytes v rest : List ℕ) : Type 0 where
  pub one : List ℕ
  pub whole : bytes ≡ one ++ rest
  pub is : IsValue row o one v

value_found : (row : Row) (o : Option FieldForm) (n : ℕ) (bytes : List ℕ) (x : List ℕ × List ℕ) → is_count row.size ≡ true → value_as row o n bytes ≡ Ok x
    → Valued row o bytes x.0 x.1
unfolding field_text_at
value_found row None n bytes x h e = absurd cc
value_found row (Some f) n bytes x h e =
    let t = bind_ok (field_text_at row f n bytes) (λ text. value_in f n text.0 >>= λ v. Ok (v, text.1)) x e in
    let v = bind_ok (value_in f n t.0.0) (λ v. Ok (v, t.0.1)) x t.2 in
    let a = bind_ok (size_at row.size n bytes) (λ k. cond (has_text_length f (scale row.coding * k.0)) (coded_at row.coding (scale row.coding * k.0)
    (BadContent n) k.1) (Err (BadLength n))) t.0 t.1 in
    let g = if_then (has_text_length f (scale row.coding * a.0.0)) (BadLength n)
    (coded_at row.coding (scale row.coding * a.0.0) (BadContent n) a.0.1) t.0 a.2 in
    let s = size_found row.size n bytes a.0 h a.1 in
    let c = coded_found row.coding (scale row.coding * a.0.0) (BadContent n) a.0.1 t.0 (whole_scale row.coding a.0.0) g.1 in
    let made : List ℕ × List ℕ = (v.0, t.0.1) in
    let all : Valued row (Some f) bytes v.0 t.0.1 = record {
      one = s.front ++ c.body;
      whole = s.whole ∙ ap (λ (r : List ℕ). s.front ++ r) c.whole ∙ sym (append_assoc s.front c.body t.0.1);
      is = (
        s.front,
        c.body,
        t.0.0,
        a.0.0,
        refl,
        s.is,
        c.len,
        c.coded,
        text_found f n t.0.0 v.0 (ap (has_text_length f) c.len ∙ g.0) v.1,
      );
    } in
    subst (λ (y : List ℕ × List ℕ). Valued row (Some f) bytes y.0 y.1) (ok_is made x v.2) all

pub record Passed (row : Row) (bytes rest : List ℕ) : Type 0 where
  pub one : List ℕ
  pub whole : bytes ≡ one ++ rest
  pub is : IsPassed row one

passed_found : (row : Row) (n : ℕ) (bytes rest : List ℕ) → is_count row.size ≡ true → passed_at row n bytes ≡ Ok rest → Passed row bytes rest
unfolding passed_at
passed_found row n bytes rest h e =
    let a = bind_ok (size_at row.size n bytes) (λ k. part (byte_count row.coding (scale row.coding * k.0)) k.1 >>= λ body. Ok body.1) rest e in
    let b = bind_ok (part (byte_count row.coding (scale row.coding * a.0.0)) a.0.1) (λ body. Ok body.1) rest a.2 in
    let s = size_found row.size n bytes a.0 h a.1 in
    let p = part_ok (byte_count row.coding (scale row.coding * a.0.0)) a.0.1 b.0 b.1 in
    let all : Passed row bytes b.0.1 = record {
      one = s.front ++ b.0.0;
      whole = s.whole ∙ ap (λ (r : List ℕ). s.front ++ r) p.whole ∙ sym (append_assoc s.front b.0.0 b.0.1);
      is = (s.front, b.0.0, a.0.0, refl, s.is, p.len);
    } in
    subst (λ (y : List ℕ). Passed row bytes y) (ok_is b.0.1 rest b.2) all

-- the fields of the message at the front
pub record FoundField (o : Option Row) (n : ℕ) (bytes : List ℕ) (fs : Fields) (rest : List ℕ) : Type 0 where
  pub one : List ℕ
  pub whole : bytes ≡ one ++ rest
  pub is : IsField o n one fs

record FoundBy (b : Bool) (row : Row) (n : ℕ) (bytes : List ℕ) (fs : Fields) (rest : List ℕ) : Type 0 where
  pub one : List ℕ
  pub whole : bytes ≡ one ++ rest
  pub is : IsFieldBy b row n one fs

by_found : (b : Bool) (row : Row) (n : ℕ) (bytes : List ℕ) (x : Fields × List ℕ) → is_count row.size ≡ true → field_by b row n bytes ≡ Ok x
    → FoundBy b row n bytes x.0 x.1
by_found true row n bytes x h e =
    let a = bind_ok (value_as row (form_of n) n bytes) (λ v. Ok ((n, v.0) ∷ [], v.1)) x e in
    let f = value_found row (form_of n) n bytes a.0 h a.1 in
    let made : Fields × List ℕ = ((n, a.0.0) ∷ [], a.0.1) in
    let all : FoundBy true row n bytes made.0 made.1 = record { one = f.one; whole = f.whole; is = (a.0.0, f.is, refl) } in
    subst (λ (y : Fields × List ℕ). FoundBy true row n bytes y.0 y.1) (ok_is made x a.2) all
by_found false row n bytes x h e =
    let a = bind_ok (passed_at row n bytes) (λ rest. Ok ([], rest)) x e in
    let f = passed_found row n bytes a.0 h a.1 in
    let made : Fields × List ℕ = ([], a.0) in
    let all : FoundBy false row n bytes made.0 made.1 = record { one = f.one; whole = f.whole; is = (f.is, refl) } in
    subst (λ (y : Fields × List ℕ). FoundBy false row n bytes y.0 y.1) (ok_is made x a.2) all

pub field_found : (o : Option Row) (n : ℕ) (bytes : List ℕ) (x : Fields × List ℕ) → counts o ≡ true → field_as o n bytes ≡ Ok x → FoundField o n bytes x.0 x.1
field_found None n bytes x h e = absurd cc
field_found (Some row) n bytes x h e =
    let f = by_found row.is_kept row n bytes x h e in
    record { one = f.one; whole = f.whole; is = f.is }

-- ---- the digits of a number

-- a number has at most four digits
pub few : (c : Coding) (digits : ℕ) (fault : DecodeError) (bytes : List ℕ) (x : List ℕ × List ℕ) → is_count (Counted (Digits c digits) 0) ≡ true
    → coded_at c digits fault bytes ≡ Ok x → length x.0 ≤ 4
few c digits fault bytes x h e =
    let f = coded_found c digits fault bytes x (whole_digits c digits 0 h) e in
    omega (arith, f.len, few_digits c digits 0 h)

pub whole_even : (c : Coding) (count : ℕ) → count % 2 ≡ 0 → IsWhole c count
whole_even Ascii count h = tt
whole_even (Ebcdic p) count h = tt
whole_even (Packed r pad) count h = tt
whole_even Octets count h = h

pub sixteen : (c : Coding) (fault : DecodeError) (bytes : List ℕ) (x : List ℕ × List ℕ) → coded_at c 16 fault bytes ≡ Ok x → length x.0 ≡ 16
sixteen c fault bytes x e = (coded_found c 16 fault bytes x (whole_even c 16 refl) e).len

pub four : (c : Coding) (fault : DecodeError) (bytes : List ℕ) (x : List ℕ × List ℕ) → coded_at c 4 fault bytes ≡ Ok x → length x.0 ≡ 4
four c fault bytes x e = (coded_found c 4 fault bytes x (whole_even c 4 refl) e).len

-- the text of a field has a length that the form has
pub text_fits : (row : Row) (f : FieldForm) (n : ℕ) (bytes : List ℕ) (x : List ℕ × List ℕ) → field_text_at row f n bytes ≡ Ok x
    → has_text_length f (length x.0) ≡ true
unfolding field_text_at
text_fits row f n bytes x e =
    let a = bind_ok (size_at row.size n bytes) (λ k. cond (has_text_length f (scale row.coding * k.0)) (coded_at row.coding (scale row.coding * k.0)
    (BadContent n) k.1) (Err (BadLength n))) x e in
    let g = if_then (has_text_length f (scale row.coding * a.0.0)) (BadLength n) (coded_at row.coding (scale row.coding * a.0.0) (BadContent n) a.0.1) x a.2 in
    let c = coded_found row.coding (scale row.coding * a.0.0) (BadContent n) a.0.1 x (whole_scale row.coding a.0.0) g.1 in
    ap (has_text_length f) c.len ∙ g.0

abbrev failed : DecodeError → Result (List ℕ) DecodeError
failed e = Err e

abbrev with_rest : Option (List ℕ) → ℕ → Result (List ℕ × List ℕ) DecodeError
with_rest o n = or_fault o (BadContent n) >>= λ v. Ok (v, [])

-- sixteen digits are the text of a binary field
octets_are : (n : ℕ) (text : List ℕ) → length text ≡ 16 → octets_at n text ≡ with_rest (octets text) n
unfolding octets_at
octets_are n text h =
    ap (octets_at n) (sym (append-nil text)) ∙ rw (part_again 16 text [] h) refl

octets_ok : (o : Option (List ℕ)) (n : ℕ) (x : List ℕ × List ℕ) → with_rest o n ≡ Ok x → or_fault o (BadContent n) ≡ Ok x.0
octets_ok None n x e = absurd cc
octets_ok (Some v) n x e =
    let made : List ℕ × List ℕ = (v, []) in
    ap (λ (y : List ℕ × List ℕ). done y.0) (ok_is made x e)

octets_err : (o : Option (List ℕ)) (n : ℕ) (d : DecodeError) → with_rest o n ≡ Err d → or_fault o (BadContent n) ≡ Err d
octets_err None n d e = let same : BadContent n ≡ d = cc in ap (λ (x : DecodeError). failed x) same
octets_err (Some v) n d e = absurd cc

pub octets_found : (n : ℕ) (text : List ℕ) (x : List ℕ × List ℕ) → length text ≡ 16 → octets_at n text ≡ Ok x → value_in Binary n text ≡ Ok x.0
octets_found n text x h e = octets_ok (octets text) n x (sym (octets_are n text h) ∙ e)

pub octets_refused : (n : ℕ) (text : List ℕ) (d : DecodeError) → length text ≡ 16 → octets_at n text ≡ Err d → value_in Binary n text ≡ Err d
octets_refused n text d h e = octets_err (octets text) n d (sym (octets_are n text h) ∙ e)
