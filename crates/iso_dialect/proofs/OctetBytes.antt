-- Sixteen digits stand for eight bytes.
-- for: decode::put_binary, AsciiProfile (the first part is a copy of what iso_codec keeps to itself)
use Rattle.std.proofs.Common.{◌≡◌, ◌-◌, ◌&&◌, leb, inl, inr, ℕ, ◌<◌, ◌+◌, ◌*◌, Bool, true, cond, List, [], ◌∷◌, Option, Some, None, Result, Ok, Err, refl}
use Rattle.std.proofs.Common.{sym, ap, subst}
use Rattle.std.proofs.Common.{◌∙◌, arith}
use Rattle.std.specs.List.{list_all}
use Rattle.std.proofs.lemmas.Bool.{lt-ltb, leb-true}
use Rattle.iso_msg.proofs.Bools.{chosen, and_both, some_is}
use Rattle.iso_msg.specs.declared.table.FieldForm.TheVariants.{Binary}
use Rattle.iso_msg.specs.Messages.{PlainMessage}
use Rattle.iso_msg.specs.Values.{is_byte}
use Rattle.iso_codec.specs.declared.error.DecodeError.{DecodeError}
use Rattle.iso_codec.specs.declared.error.DecodeError.TheVariants.{BadContent}
use Rattle.iso_codec.specs.Digits.{octets, both, hex_value}
use Rattle.iso_codec.specs.GrowingMessage.{placed, with_field}
use Rattle.iso_codec.specs.Reads.{◌>>=◌, GivesMessage}
use Rattle.iso_dialect.specs.Fields.{value_in}
use Rattle.iso_dialect.specs.Readings.{placed_as}
use Rattle.iso_dialect.proofs.Steps.{or_ok}

pub octets_by : (o : Option ℕ) (r : Option (List ℕ)) (v : List ℕ) → both (λ b bs. b ∷ bs) o r ≡ Some v → (b : ℕ) × (bs : List ℕ) × (o ≡ Some b) × (r ≡ Some bs)
    × (v ≡ b ∷ bs)
octets_by None r v e = absurd cc
octets_by (Some b) None v e = absurd cc
octets_by (Some b) (Some bs) v e = (b, bs, refl, refl, sym (some_is (b ∷ bs) v e))

pub hex_by : (c d : ℕ) → hex_value c ≡ Some d → d < 16
hex_by c d e =
    elim (chosen (leb 48 c && leb c 57) (Some (c - 48)) (cond (leb 65 c && leb c 70) (Some (c - 55)) (cond (leb 97 c && leb c 102) (Some (c - 87)) None))
    (Some d) e) [
      | inl w ↦ let p = and_both (leb 48 c) (leb c 57) w.0 in let h : c - 48 ≡ d = some_is (c - 48) d w.1 in omega (arith, h, leb-true _ _ p.1)
      | inr w ↦ elim (chosen (leb 65 c && leb c 70) (Some (c - 55)) (cond (leb 97 c && leb c 102) (Some (c - 87)) None) (Some d) w.1) [
        | inl u ↦ let p = and_both (leb 65 c) (leb c 70) u.0 in let h : c - 55 ≡ d = some_is (c - 55) d u.1 in omega (arith, h, leb-true _ _ p.1)
        | inr u ↦ elim (chosen (leb 97 c && leb c 102) (Some (c - 87)) None (Some d) u.1) [
          | inl x ↦ let p = and_both (leb 97 c) (leb c 102) x.0 in let h : c - 87 ≡ d = some_is (c - 87) d x.1 in omega (arith, h, leb-true _ _ p.1)
          | inr x ↦ none_some d x.1
        ]
      ]
    ]
  where
    none_some : (d : ℕ) → None ≡ Some d → d < 16
    none_some d e = absurd cc

octet_by : (c e b : ℕ) (o p : Option ℕ) → hex_value c ≡ o → hex_value e ≡ p → both (λ h l. 16 * h + l) o p ≡ Some b → b < 256
octet_by c e b None p h k x = absurd cc
octet_by c e b (Some m) None h k x = absurd cc
octet_by c e b (Some m) (Some n) h k x = let y : 16 * m + n ≡ b = some_is (16 * m + n) b x in omega (arith, y, hex_by c m h, hex_by e n k)

pub octets_bytes : (text v : List ℕ) → octets text ≡ Some v → list_all is_byte v ≡ true
unfolding octets
octets_bytes [] v e = subst (λ (x : List ℕ). list_all is_byte x ≡ true) (some_is [] v e) refl
octets_bytes (c ∷ []) v e = absurd cc
octets_bytes (c ∷ d ∷ cs) v e =
    let s = octets_by (both (λ h l. 16 * h + l) (hex_value c) (hex_value d)) (octets cs) v e in
    let b : s.0 < 256 = octet_by c d s.0 (hex_value c) (hex_value d) refl refl s.2 in
    subst (λ (x : List ℕ). list_all is_byte x ≡ true) (sym s.4) (rw (lt-ltb s.0 256 b) (octets_bytes cs s.1 s.3))

abbrev gives : PlainMessage → Result PlainMessage DecodeError
gives m = Ok m

-- eight bytes are put as what sixteen digits stand for
pub placed_octets : (m : PlainMessage) (n : ℕ) (text v : List ℕ) → value_in Binary n text ≡ Ok v → placed Binary m n v ≡ placed_as Binary m n text
placed_octets m n text v e =
    ap (λ (b : Bool). cond b (gives (with_field m n v)) (Err (BadContent n))) (octets_bytes text v (or_ok (octets text) (BadContent n) v e))
    ∙ sym (ap (λ (r : Result (List ℕ) DecodeError). r >>= λ x. gives (with_field m n x)) e)

pub gives_same : {X Y : Type 0} (view : X → Y) (r : Result X DecodeError) (a b : Result Y DecodeError) → a ≡ b → GivesMessage view r a → GivesMessage view r b
gives_same view r a b e h = subst (λ x. GivesMessage view r x) e h
