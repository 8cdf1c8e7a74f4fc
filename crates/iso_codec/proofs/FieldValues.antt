-- A value that is read is spelled so, and what is spelled so is read.
-- for: read::decode, write::encode
use Rattle.std.proofs.Common.{◌≡◌, ◌-◌, ◌&&◌, leb, inl, inr, ℕ, ◌<◌, ◌+◌, ◌*◌, true, false, cond, ltb, List, [], ◌∷◌, ◌++◌, length, Option, Some, None, Result}
use Rattle.std.proofs.Common.{Ok, Err, refl, sym, ap, subst, ◌∙◌, append_assoc, arith}
use Rattle.std.proofs.lemmas.Bool.{ltb-false, le-ltb, lt-ltb, leb-true}
use Rattle.std.specs.List.{list_all}
use Rattle.iso_msg.proofs.Bools.{chosen, and_both, some_is}
use Rattle.iso_msg.specs.declared.table.FieldForm.{FieldForm}
use Rattle.iso_msg.specs.declared.table.FieldForm.TheVariants.{Fixed, Variable, Binary}
use Rattle.iso_msg.specs.declared.table.Content.{Content}
use Rattle.iso_msg.specs.Table.{form_of}
use Rattle.iso_codec.specs.declared.error.DecodeError.{DecodeError}
use Rattle.iso_codec.specs.declared.error.DecodeError.TheVariants.{BadLength, BadContent, FieldNotInProfile}
use Rattle.iso_codec.specs.Digits.{octets, both, hex_value}
use Rattle.sw_base.specs.Digits.{number_of}
use Rattle.iso_codec.proofs.ResultSteps.{ok_is, bind_ok, guard_if, guard_then, or_ok, part_ok, part_again}
use Rattle.iso_msg.specs.Messages.{Fields, numbers_of}
use Rattle.iso_msg.specs.Values.{takes, has_content, is_byte}
use Rattle.iso_codec.specs.Grammar.{SpellsValue, SpellsFields}
use Rattle.iso_codec.specs.Reads.{◌>>=◌, or_fault, part, after_length, octets_at, text_at, field_at, fields_at, known}

-- a text at the front
pub record Front (o : Option FieldForm) (bytes v rest : List ℕ) : Type 0 where
  pub text : List ℕ
  pub whole : bytes ≡ text ++ rest
  pub spells : SpellsValue o text v

fixed_found : (c : Content) (k n : ℕ) (bytes : List ℕ) (x : List ℕ × List ℕ) → text_at (Fixed c k) n bytes ≡ Ok x → takes c x.0 ≡ true →
    Front (Some (Fixed c k)) bytes x.0 x.1
fixed_found c k n bytes x e t =
    let p = part_ok k bytes x e in
    record { text = x.0; whole = p.whole; spells = (refl, p.len, t) }

variable_found : (c : Content) (length_digits most n : ℕ) (bytes : List ℕ) (x : List ℕ × List ℕ) → text_at (Variable c length_digits most) n bytes ≡ Ok x →
    takes c x.0 ≡ true → Front (Some (Variable c length_digits most)) bytes x.0 x.1
unfolding after_length
variable_found c length_digits most n bytes x e t =
    let a = bind_ok (part length_digits bytes) (λ digits. or_fault (number_of digits.0) (BadLength n) >>= λ len. cond (ltb most len) (Err (BadLength n))
    (part len digits.1)) x e in
    let b = bind_ok (or_fault (number_of a.0.0) (BadLength n)) (λ len. cond (ltb most len) (Err (BadLength n)) (part len a.0.1)) x a.2 in
    let g = guard_then (ltb most b.0) (BadLength n) (part b.0 a.0.1) x b.2 in
    let p = part_ok length_digits bytes a.0 a.1 in
    let q = part_ok b.0 a.0.1 x g.1 in
    record {
      text = a.0.0 ++ x.0;
      whole = p.whole ∙ ap (λ (r : List ℕ). a.0.0 ++ r) q.whole ∙ sym (append_assoc a.0.0 x.0 x.1);
      spells = (a.0.0, refl, p.len, or_ok (number_of a.0.0) (BadLength n) b.0 b.1 ∙ ap Some (sym q.len), omega (arith, ltb-false _ _ g.0, q.len), t);
    }

binary_found : (n : ℕ) (bytes : List ℕ) (x : List ℕ × List ℕ) → text_at Binary n bytes ≡ Ok x → Front (Some Binary) bytes x.0 x.1
unfolding octets_at
binary_found n bytes x e =
    let a = bind_ok (part 16 bytes) (λ text. or_fault (octets text.0) (BadContent n) >>= λ v. Ok (v, text.1)) x e in
    let b = bind_ok (or_fault (octets a.0.0) (BadContent n)) (λ v. Ok (v, a.0.1)) x a.2 in
    let p = part_ok 16 bytes a.0 a.1 in
    let made : List ℕ × List ℕ = (b.0, a.0.1) in
    let all : Front (Some Binary) bytes b.0 a.0.1 = record { text = a.0.0; whole = p.whole; spells = (p.len, or_ok (octets a.0.0) (BadContent n) b.0 b.1) } in
    subst (λ (y : List ℕ × List ℕ). Front (Some Binary) bytes y.0 y.1) (ok_is made x b.2) all

text_found : (f : FieldForm) (n : ℕ) (bytes : List ℕ) (x : List ℕ × List ℕ) → text_at f n bytes ≡ Ok x → has_content f x.0 ≡ true → Front (Some f) bytes x.0 x.1
text_found (Fixed c k) n bytes x e t = fixed_found c k n bytes x e t
text_found (Variable c length_digits most) n bytes x e t = variable_found c length_digits most n bytes x e t
text_found Binary n bytes x e t = binary_found n bytes x e

pub value_found : (o : Option FieldForm) (n : ℕ) (bytes : List ℕ) (x : List ℕ × List ℕ) → field_at o n bytes ≡ Ok x → Front o bytes x.0 x.1
value_found None n bytes x e = absurd cc
value_found (Some f) n bytes x e =
    let a = bind_ok (text_at f n bytes) (λ v. cond (has_content f v.0) (Ok v) (Err (BadContent n))) x e in
    let g = guard_if (has_content f a.0.0) (BadContent n) a.0 x a.2 in
    subst (λ (y : List ℕ × List ℕ). Front (Some f) bytes y.0 y.1) g.1 (text_found f n bytes a.0 a.1 g.0)

octets_by : (o : Option ℕ) (r : Option (List ℕ)) (v : List ℕ) → both (λ b bs. b ∷ bs) o r ≡ Some v → (b : ℕ) × (bs : List ℕ) × (o ≡ Some b) × (r ≡ Some bs)
    × (v ≡ b ∷ bs)
octets_by None r v e = absurd cc
octets_by (Some b) None v e = absurd cc
octets_by (Some b) (Some bs) v e = (b, bs, refl, refl, sym (some_is (b ∷ bs) v e))

hex_by : (c d : ℕ) → hex_value c ≡ Some d → d < 16
hex_by c d e =
    elim (chosen (leb 48 c && leb c 57) (Some (c - 48)) (cond (leb 65 c && leb c 70) (Some (c - 55)) (cond (leb 97 c && leb c 102) (Some (c - 87)) None))
    (Some d) e) [
      | inl w ↦ let p = and_both (leb 48 c) (leb c 57) w.0 in let h : c - 48 ≡ d = some_is (c - 48) d w.1 in omega (arith, h, leb-true _ _ p.1)
      | inr w ↦ elim (chosen (leb 65 c && leb c 70) (Some (c - 55)) (cond (leb 97 c && leb c 102) (Some (c - 87)) None) (Some d) w.1) [
        | inl u ↦ let p = and_both (leb 65 c) (leb c 70) u.0 in let h : c - 55 ≡ d = some_is (c - 55) d u.1 in omega (arith, h, leb-true _ _ p.1)
        | inr u ↦ elim (chosen (leb 97 c && leb c 102) (Some (c - 87)) None (Some d) u.1) [
          | inl x ↦ let p = and_both (leb 97 c) (leb c 102) x.0 in let h : c - 87 ≡ d = some_is (c - 87) d x.1 in omega (arith, h, leb-true _ _ p.1)
          | inr x ↦ none_some d x.1
        ]
      ]
    ]
  where
    none_some : (d : ℕ) → None ≡ Some d → d < 16
    none_some d e = absurd cc

octet_by : (c e b : ℕ) (o p : Option ℕ) → hex_value c ≡ o → hex_value e ≡ p → both (λ h l. 16 * h + l) o p ≡ Some b → b < 256
octet_by c e b None p h k x = absurd cc
octet_by c e b (Some m) None h k x = absurd cc
octet_by c e b (Some m) (Some n) h k x = let y : 16 * m + n ≡ b = some_is (16 * m + n) b x in omega (arith, y, hex_by c m h, hex_by e n k)

pub octets_bytes : (text v : List ℕ) → octets text ≡ Some v → list_all is_byte v ≡ true
unfolding octets
octets_bytes [] v e = subst (λ (x : List ℕ). list_all is_byte x ≡ true) (some_is [] v e) refl
octets_bytes (c ∷ []) v e = absurd cc
octets_bytes (c ∷ d ∷ cs) v e =
    let s = octets_by (both (λ h l. 16 * h + l) (hex_value c) (hex_value d)) (octets cs) v e in
    let b : s.0 < 256 = octet_by c d s.0 (hex_value c) (hex_value d) refl refl s.2 in
    subst (λ (x : List ℕ). list_all is_byte x ≡ true) (sym s.4) (rw (lt-ltb s.0 256 b) (octets_bytes cs s.1 s.3))

pub value_again : (o : Option FieldForm) (n : ℕ) (text v rest : List ℕ) → SpellsValue o text v → field_at o n (text ++ rest) ≡ Ok (v, rest)
unfolding after_length octets_at
value_again None n text v rest s = absurd s
value_again (Some (Fixed c k)) n text v rest s = rw (s.0, part_again k v rest s.1, s.2) refl
value_again (Some (Variable c length_digits most)) n text v rest s =
    let short : ltb most (length v) ≡ false = le-ltb _ _ s.4 in
    rw (s.1, append_assoc s.0 v rest, part_again length_digits s.0 (v ++ rest) s.2, s.3, short, part_again (length v) v rest refl, s.5) refl
value_again (Some Binary) n text v rest s = rw (part_again 16 text rest s.0, s.1, octets_bytes text v s.1) refl

-- fields at the front
pub record Fronts (bytes : List ℕ) (fs : Fields) (rest : List ℕ) : Type 0 where
  pub text : List ℕ
  pub whole : bytes ≡ text ++ rest
  pub spells : SpellsFields text fs

pub fields_found : (ns bytes : List ℕ) (x : Fields × List ℕ) → fields_at ns bytes ≡ Ok x → Fronts bytes x.0 x.1 × (numbers_of x.0 ≡ ns)
unfolding fields_at
fields_found [] bytes x e =
    let none : Fields × List ℕ = ([], bytes) in
    subst (λ (y : Fields × List ℕ). Fronts bytes y.0 y.1 × (numbers_of y.0 ≡ [])) (ok_is none x e) (record { text = []; whole = refl; spells = refl }, refl)
fields_found (n ∷ ns) bytes x e =
    let a = bind_ok (field_at (form_of n) n bytes) (λ v. fields_at ns v.1 >>= λ fs. Ok ((n, v.0) ∷ fs.0, fs.1)) x e in
    let b = bind_ok (fields_at ns a.0.1) (λ fs. Ok ((n, a.0.0) ∷ fs.0, fs.1)) x a.2 in
    let p = value_found (form_of n) n bytes a.0 a.1 in
    let q = fields_found ns a.0.1 b.0 b.1 in
    let made : Fields × List ℕ = ((n, a.0.0) ∷ b.0.0, b.0.1) in
    subst (λ (y : Fields × List ℕ). Fronts bytes y.0 y.1 × (numbers_of y.0 ≡ n ∷ ns)) (ok_is made x b.2) (
      record {
        text = p.text ++ q.0.text;
        whole = p.whole ∙ ap (λ (r : List ℕ). p.text ++ r) q.0.whole ∙ sym (append_assoc p.text q.0.text b.0.1);
        spells = (p.text, q.0.text, refl, p.spells, q.0.spells);
      },
      ap (λ (r : List ℕ). n ∷ r) q.1,
    )

pub fields_again : (fs : Fields) (text rest : List ℕ) → SpellsFields text fs → fields_at (numbers_of fs) (text ++ rest) ≡ Ok (fs, rest)
unfolding fields_at
fields_again [] text rest s = rw s refl
fields_again (f ∷ fs) text rest s =
    rw (s.2, append_assoc s.0 s.1 rest, value_again (form_of f.0) f.0 s.0 f.1 (s.1 ++ rest) s.3, fields_again fs s.1 rest s.4) refl

known_one : (o : Option FieldForm) (n : ℕ) (text v : List ℕ) (r : Result (Unit {0}) DecodeError) → SpellsValue o text v →
    (or_fault o (FieldNotInProfile n) >>= λ f. r) ≡ r
known_one None n text v r s = absurd s
known_one (Some f) n text v r s = refl

pub known_again : (fs : Fields) (text : List ℕ) → SpellsFields text fs → known (numbers_of fs) ≡ Ok tt
unfolding known
known_again [] text s = refl
known_again (f ∷ fs) text s = known_one (form_of f.0) f.0 s.0 f.1 (known (numbers_of fs)) s.3 ∙ known_again fs s.1 s.4
