-- A line says only one thing.
-- for: line, text
use Rattle.std.proofs.Common.{◌≡◌, ◌∙◌, ◌<◌, ℕ, true, false, List, [], ◌∷◌, ◌++◌, Option, Some, None, refl, sym, ap, subst, arith, leb, ◌||◌, ◌≤◌}
use Rattle.std.specs.Prelude.{codes}
use Rattle.std.specs.Fmt.{decimal}
use Rattle.std.specs.List.{list_all}
use Rattle.iso_msg.specs.declared.table.FieldForm.{FieldForm}
use Rattle.iso_msg.specs.declared.table.FieldForm.TheVariants.{Fixed, Variable, Binary}
use Rattle.iso_msg.specs.Table.{form_of}
use Rattle.iso_msg.specs.Messages.{IsMti}
use Rattle.sw_base.specs.Digits.{is_digit}
use Rattle.cli_decode.specs.Decoded.{shown}
use Rattle.cli_encode.specs.Lines.{PlainLine, Heading, Header, MessageType, Field, has_byte, IsOnLine, IsLine, line_bytes, SaysNoField, SaysNothing, IsNoValueOf}
use Rattle.cli_encode.specs.Lines.{IsNoNumber, IsNotBefore}
use Rattle.std.proofs.lemmas.Bool.{leb-true}
use Rattle.iso_msg.proofs.Bools.{and_both, eqb-false_from}
use Rattle.cli_encode.proofs.Cuts.{cut_once, front_cancels, head_is, mark_within, none_in_both, none_in_parts, tail_is}
use Rattle.cli_encode.proofs.Numbers.{no_letter, none_in_number, number_once, few}
use Rattle.cli_encode.proofs.Octets.{hex_once, none_in_hex}

space_free : (n : ℕ) → n < 256 → has_byte 32 (decimal n) ≡ false
space_free n h = none_in_number 32 n (omega arith) (few n h)

-- ---- a field's line

pub no_space : (line : List ℕ) → has_byte 32 line ≡ false → SaysNoField line
no_space line none n v h e = mark_within 32 (decimal n) (shown (form_of n) v) (subst (λ (l : List ℕ). has_byte 32 l ≡ false) (sym e) none)

module _ (line word text : List ℕ) (whole : word ++ 32 ∷ text ≡ line) (clean : has_byte 32 word ≡ false) where
  parts_of : (n : ℕ) (v : List ℕ) → n < 256 → line_bytes (Field n v) ≡ line → (decimal n ≡ word) × (shown (form_of n) v ≡ text)
  parts_of n v h e = cut_once 32 (decimal n) word (shown (form_of n) v) text (space_free n h) clean (e ∙ sym whole)

  pub no_number : IsNoNumber word → SaysNoField line
  no_number none n v h e = none n h.0 (parts_of n v h.0 e).0

  pub no_value : (k : ℕ) → k < 256 → decimal k ≡ word → IsNoValueOf (form_of k) text → SaysNoField line
  no_value k small is none n v h e =
      let p = parts_of n v h.0 e in
      let same : n ≡ k = number_once n k h.0 small (p.0 ∙ sym is) in
      none v (subst (λ (j : ℕ). IsOnLine (form_of j) v) same h.1) (ap (λ (j : ℕ). shown (form_of j) v) (sym same) ∙ p.1)

  pub says_field : (k : ℕ) (v : List ℕ) → k < 256 → decimal k ≡ word → shown (form_of k) v ≡ text → IsOnLine (form_of k) v
      → (line_bytes (Field k v) ≡ line) × IsLine (Field k v)
  says_field k v small is shows fits = (
    ap (λ (w : List ℕ). w ++ 32 ∷ shown (form_of k) v) is ∙ ap (λ (t : List ℕ). word ++ 32 ∷ t) shows ∙ whole,
    (small, fits),
  )

-- ---- a value that is not a binary one

pub plain_value : (form : Option FieldForm) (text : List ℕ) → (form ≡ Some Binary → ⊥) → has_byte 10 text ≡ false → (shown form text ≡ text) × IsOnLine form text
plain_value None text other none = (refl, none)
plain_value (Some Binary) text other none = absurd (other refl)
plain_value (Some (Fixed content exact)) text other none = (refl, none)
plain_value (Some (Variable content length_digits most)) text other none = (refl, none)

-- ---- each line

-- a number does not begin with m
no_m : (n : ℕ) (v ys : List ℕ) → n < 256 → line_bytes (Field n v) ≡ 109 ∷ ys → ⊥
no_m n v ys h e = no_letter n 109 (32 ∷ shown (form_of n) v) ys h (omega arith) e

-- nor with h
no_h : (n : ℕ) (v ys : List ℕ) → n < 256 → line_bytes (Field n v) ≡ 104 ∷ ys → ⊥
no_h n v ys h e = no_letter n 104 (32 ∷ shown (form_of n) v) ys h (omega arith) e

no_header : (d ys : List ℕ) → codes "header " ++ d ≡ 109 ∷ ys → ⊥
no_header d ys e = absurd (omega (arith, head_is 104 109 _ ys e))

other_words : (w d : List ℕ) → codes "message " ++ w ≡ codes "mti " ++ d → ⊥
other_words w d e = absurd (omega (arith, head_is 101 116 _ _ (tail_is 109 109 _ _ e)))

pub no_type : (line digits : List ℕ) → codes "mti " ++ digits ≡ line → (IsMti digits → ⊥) → SaysNothing line
no_type line digits whole none (Heading w) h e = other_words w digits (e ∙ sym whole)
no_type line digits whole none (Header d) h e = no_header d _ (e ∙ sym whole)
no_type line digits whole none (MessageType d) h e = none (subst IsMti (front_cancels (codes "mti ") d digits (e ∙ sym whole)) h)
no_type line digits whole none (Field n v) h e = no_m n v _ h.0 (e ∙ sym whole)

pub only_field : (line : List ℕ) → IsNotBefore (codes "message ") line → IsNotBefore (codes "header ") line → IsNotBefore (codes "mti ") line
    → SaysNoField line → SaysNothing line
only_field line heading header type none (Heading w) h e = heading w e
only_field line heading header type none (Header d) h e = header d e
only_field line heading header type none (MessageType d) h e = type d e
only_field line heading header type none (Field n v) h e = none n v h e

pub says_heading : (line word : List ℕ) → codes "message " ++ word ≡ line → has_byte 10 line ≡ false →
    (line_bytes (Heading word) ≡ line) × IsLine (Heading word)
says_heading line word whole none = (whole, (none_in_parts 10 (codes "message ") word (subst (λ (l : List ℕ). has_byte 10 l ≡ false) (sym whole) none)).1)

pub says_header : (line digits : List ℕ) → codes "header " ++ digits ≡ line → has_byte 10 line ≡ false →
    (line_bytes (Header digits) ≡ line) × IsLine (Header digits)
says_header line digits whole none =
    (whole, (none_in_parts 10 (codes "header ") digits (subst (λ (l : List ℕ). has_byte 10 l ≡ false) (sym whole) none)).1)

-- ---- a line says one thing

value_once : (form : Option FieldForm) (v w : List ℕ) → IsOnLine form v → IsOnLine form w → shown form v ≡ shown form w → v ≡ w
value_once None v w h k e = e
value_once (Some Binary) v w h k e = hex_once v w h.1 k.1 e
value_once (Some (Fixed content exact)) v w h k e = e
value_once (Some (Variable content length_digits most)) v w h k e = e

fields_once : (n k : ℕ) (v w : List ℕ) → n ≡ k → v ≡ w → Field n v ≡ Field k w
fields_once n k v w p q = ap (λ j. Field j v) p ∙ ap (λ (x : List ℕ). Field k x) q

pub line_once : (l k : PlainLine) → IsLine l → IsLine k → line_bytes l ≡ line_bytes k → l ≡ k
line_once (Heading w) (Heading x) h i e = ap Heading (front_cancels (codes "message ") w x e)
line_once (Heading w) (Header d) h i e = absurd (no_header d _ (sym e))
line_once (Heading w) (MessageType d) h i e = absurd (other_words w d e)
line_once (Heading w) (Field n v) h i e = absurd (no_m n v _ i.0 (sym e))
line_once (Header d) (Heading w) h i e = absurd (no_header d _ e)
line_once (Header d) (Header c) h i e = ap Header (front_cancels (codes "header ") d c e)
line_once (Header d) (MessageType c) h i e = absurd (no_header d _ e)
line_once (Header d) (Field n v) h i e = absurd (no_h n v _ i.0 (sym e))
line_once (MessageType d) (Header c) h i e = absurd (no_header c _ (sym e))
line_once (Field n v) (Header d) h i e = absurd (no_h n v _ h.0 e)
line_once (MessageType d) (Heading w) h i e = absurd (other_words w d (sym e))
line_once (MessageType d) (MessageType c) h i e = ap MessageType (front_cancels (codes "mti ") d c e)
line_once (MessageType d) (Field n v) h i e = absurd (no_m n v _ i.0 (sym e))
line_once (Field n v) (Heading w) h i e = absurd (no_m n v _ h.0 e)
line_once (Field n v) (MessageType d) h i e = absurd (no_m n v _ h.0 e)
line_once (Field n v) (Field k w) h i e =
    let p = parts_of (line_bytes (Field k w)) (decimal k) (shown (form_of k) w) refl (space_free k i.0) n v h.0 e in
    let same : n ≡ k = number_once n k h.0 i.0 p.0 in
    let there : IsOnLine (form_of k) v = subst (λ (j : ℕ). IsOnLine (form_of j) v) same h.1 in
    let shows : shown (form_of k) v ≡ shown (form_of k) w = ap (λ (j : ℕ). shown (form_of j) v) (sym same) ∙ p.1 in
    fields_once n k v w same (value_once (form_of k) v w there i.1 shows)

-- ---- a line has no line feed

value_free : (form : Option FieldForm) (v : List ℕ) → IsOnLine form v → has_byte 10 (shown form v) ≡ false
value_free None v h = h
value_free (Some Binary) v h = none_in_hex v h.1
value_free (Some (Fixed content exact)) v h = h
value_free (Some (Variable content length_digits most)) v h = h

pub digits_free : (ds : List ℕ) → list_all is_digit ds ≡ true → has_byte 10 ds ≡ false
digits_free [] h = refl
digits_free (d ∷ ds) h =
    let p = and_both (is_digit d) (list_all is_digit ds) h in
    let r = and_both (leb 48 d) (leb d 57) p.0 in
    let a : 48 ≤ d = leb-true 48 d r.0 in
    ap (λ b. b || has_byte 10 ds) (eqb-false_from d 10 (λ e. omega (arith, e, a))) ∙ digits_free ds p.1

pub no_feed : (l : PlainLine) → IsLine l → has_byte 10 (line_bytes l) ≡ false
no_feed (Heading w) h = none_in_both 10 (codes "message ") w refl h
no_feed (Header d) h = none_in_both 10 (codes "header ") d refl h
no_feed (MessageType d) h = none_in_both 10 (codes "mti ") d refl (digits_free d h.1)
no_feed (Field n v) h = none_in_both 10 (decimal n) (32 ∷ shown (form_of n) v) (none_in_number 10 n (omega arith) (few n h.0)) (value_free (form_of n) v h.1)
