-- What is written in a coding is read again.
-- for: laws::codings_are_exact
use Rattle.std.proofs.Common.{◌≡◌, ◌∙◌, ℕ, ◌%◌, ◌<◌, true, ltb, eqb, Bool, List, length, Some, refl, sym, ap, arith}
use Rattle.std.specs.Prelude.{map, option_and_then}
use Rattle.std.specs.List.{flat_map, list_all}
use Rattle.std.proofs.lemmas.List.{length-map}
use Rattle.std.proofs.lemmas.Bool.{eqb-true, ltb-true}
use Rattle.iso_msg.proofs.Bools.{and_both, some_is}
use Rattle.iso_dialect.specs.declared.coding.Coding.TheVariants.{Ascii, Ebcdic, Packed, Octets}
use Rattle.iso_dialect.specs.Pages.{code_in}
use Rattle.iso_dialect.specs.Codings.{each, halves, char_of, half_of, hex_half, is_packed, is_upper_hex, unpadded, padded, packed, text_of, coded, HasOneText}
use Rattle.iso_dialect.specs.Codings.{IsCoded, is_writable, ReadsBack}
use Rattle.iso_dialect.proofs.PageChars.{page_back}
use Rattle.iso_dialect.proofs.Packing.{halves_packed, packed_length, padded_is, unpadded_padded, digits_back, octets_back}

packed_back : (r : Bool) (pad : ℕ) (text : List ℕ) → is_writable (Packed r pad) text ≡ true → IsCoded (Packed r pad) (coded (Packed r pad) text) text
packed_back r pad text b =
    let w = and_both (ltb pad 16) (list_all is_packed text) b in
    let fits : pad < 16 = ltb-true pad 16 w.0 in
    let ds : List ℕ = map half_of text in
    let len : length ds ≡ length text = length-map text half_of in
    let d = digits_back text w.1 in
    let p = padded_is r pad ds in
    let out : flat_map halves (packed (padded r pad ds)) ≡ padded r pad ds = halves_packed (padded r pad ds) p.0 (p.1 d.0 fits) in
    let back : unpadded r pad (length text) (padded r pad ds) ≡ Some ds =
    ap (λ (n : ℕ). unpadded r pad n (padded r pad ds)) (sym len) ∙ unpadded_padded r pad ds in (
      omega (arith, packed_length (padded r pad ds) p.0, p.2, len),
      ap (λ (x : List ℕ). option_and_then (each char_of) (unpadded r pad (length text) x)) out
          ∙ ap (option_and_then (each char_of)) back ∙ d.1,
    )

octets_written : (text : List ℕ) → is_writable Octets text ≡ true → IsCoded Octets (coded Octets text) text
octets_written text b =
    let w = and_both (eqb (length text % 2) 0) (list_all is_upper_hex text) b in
    let whole : length text % 2 ≡ 0 = eqb-true (length text % 2) 0 w.0 in
    let len : length (map hex_half text) ≡ length text = length-map text hex_half in
    let even : length (map hex_half text) % 2 ≡ 0 = ap (λ (n : ℕ). n % 2) len ∙ whole in
    (omega (arith, packed_length (map hex_half text) even, len, whole), ap Some (octets_back text whole w.1))

pub reads_back : ReadsBack
reads_back Ascii text w = (refl, refl)
reads_back (Ebcdic p) text w = (length-map text (code_in p), page_back p text w)
reads_back (Packed r pad) text w = packed_back r pad text w
reads_back Octets text w = octets_written text w

pub one_text : HasOneText
one_text coding bytes one other len h k =
    some_is one other (sym h.1 ∙ ap (λ (n : ℕ). text_of coding n bytes) len ∙ k.1)
