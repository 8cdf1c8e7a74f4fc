-- Numbers of fields in decimal digits.
-- for: line::number_in
use Rattle.std.proofs.Common.{◌≡◌, ◌∙◌, ◌≤◌, ◌<◌, ◌+◌, ◌-◌, ◌*◌, ◌^◌, ◌&&◌, ◌||◌, ℕ, Bool, true, false, cond, leb, List, [], ◌∷◌, ◌++◌, length, Some, None}
use Rattle.std.proofs.Common.{refl, sym, ap, arith}
use Rattle.std.proofs.lemmas.Bool.{le-leb}
use Rattle.std.proofs.lemmas.Fmt.{decimal_is_IsNumeral, length-decimal-le}
use Rattle.std.proofs.lemmas.Str.Parse.{digit_from_value}
use Rattle.std.proofs.lemmas.Str.{digit_value_digit}
use Rattle.std.specs.Char.{digit_value}
use Rattle.std.specs.Fmt.{decimal}
use Rattle.std.specs.Str.Parse.{AllDigits, digits_value_after}
use Rattle.sw_base.specs.Digits.{number_after, number_of}
use Rattle.iso_msg.proofs.Bools.{eqb-false_from}
use Rattle.std.specs.Str.{bytes_eq}
use Rattle.std.proofs.lemmas.Slice.Eq.{bytes_eq-Decides}
use Rattle.cli_encode.specs.Lines.{has_byte, IsNoNumber}
use Rattle.cli_encode.proofs.Cuts.{head_is, no_byte_head}

read_on : (n : ℕ) (ds : List ℕ) → AllDigits 10 ds → number_after n ds ≡ Some (digits_value_after 10 n ds)
read_on n [] h = refl
read_on n (d ∷ ds) h =
    let range = digit_from_value d h.0 in
    let value : digit_value d + 48 ≡ d = digit_value_digit d range in
    let same : 10 * n + (d - 48) ≡ n * 10 + digit_value d = omega (arith, value) in
    ap (λ b. cond b (number_after (10 * n + (d - 48)) ds) None) (ap (λ b. b && leb d 57) (le-leb 48 d range.0) ∙ le-leb d 57 range.1)
    ∙ ap (λ k. number_after k ds) same ∙ read_on (n * 10 + digit_value d) ds h.1

pub few : (n : ℕ) → n < 256 → n < 2 ^ 64
few n h = omega (arith, h)

pub number_read : (n : ℕ) → n < 256 → number_of (decimal n) ≡ Some n
number_read n h =
    let numeral = decimal_is_IsNumeral n (few n h) in
    read_on 0 (decimal n) numeral.0.1 ∙ ap Some numeral.1

pub number_short : (n : ℕ) → n < 256 → length (decimal n) ≤ 3
number_short n h = length-decimal-le 3 n (omega arith) (omega (arith, h)) (few n h)

only_digits : (c : ℕ) (ds : List ℕ) → c < 48 → AllDigits 10 ds → has_byte c ds ≡ false
only_digits c [] small h = refl
only_digits c (d ∷ ds) small h =
    let range = digit_from_value d h.0 in
    ap (λ b. b || has_byte c ds) (eqb-false_from d c (λ e. omega (arith, e, range.0, small))) ∙ only_digits c ds small h.1

pub none_in_number : (c n : ℕ) → c < 48 → n < 2 ^ 64 → has_byte c (decimal n) ≡ false
none_in_number c n small h = only_digits c (decimal n) small (decimal_is_IsNumeral n h).0.1

some_is : (a b : ℕ) → Some a ≡ Some b → a ≡ b
some_is a b e = cc

pub number_once : (n k : ℕ) → n < 256 → k < 256 → decimal n ≡ decimal k → n ≡ k
number_once n k h l e = some_is n k (sym (number_read n h) ∙ ap number_of e ∙ number_read k l)

-- ---- words that are not a number

pub too_long : (word : List ℕ) → 3 < length word → IsNoNumber word
too_long word long n h e = absurd (let k = number_short n h in let l : length (decimal n) ≡ length word = ap length e in omega (arith, k, l, long))

pub unread : (word : List ℕ) → number_of word ≡ None → IsNoNumber word
unread word none n h e = absurd (let k : Some n ≡ None = sym (number_read n h) ∙ ap number_of e ∙ none in cc)

pub too_big : (word : List ℕ) (k : ℕ) → number_of word ≡ Some k → 255 < k → IsNoNumber word
too_big word k read big n h e = absurd (let same : n ≡ k = some_is n k (sym (number_read n h) ∙ ap number_of e ∙ read) in omega (arith, same, big, h))

pub spelled_otherwise : (word : List ℕ) (k : ℕ) → number_of word ≡ Some k → (decimal k ≡ word → ⊥) → IsNoNumber word
spelled_otherwise word k read differs n h e =
    let same : n ≡ k = some_is n k (sym (number_read n h) ∙ ap number_of e ∙ read) in differs (ap decimal (sym same) ∙ e)

pub not_same : (d t w : List ℕ) (b : Bool) → b ≡ false → b ≡ bytes_eq d w → d ≡ t → t ≡ w → ⊥
not_same d t w b h e k same = absurd (let yes : bytes_eq d w ≡ true = (bytes_eq-Decides d w).1 (k ∙ same) in let no_ : bytes_eq d w ≡ false = sym e ∙ h in cc)

-- ---- a number begins with a digit

no_letters : (c : ℕ) (ds : List ℕ) → 57 < c → AllDigits 10 ds → has_byte c ds ≡ false
no_letters c [] big h = refl
no_letters c (d ∷ ds) big h =
    let range = digit_from_value d h.0 in
    ap (λ b. b || has_byte c ds) (eqb-false_from d c (λ e. omega (arith, e, range.1, big))) ∙ no_letters c ds big h.1

first_not : (c : ℕ) (ds xs ys : List ℕ) → 0 < length ds → has_byte c ds ≡ false → ds ++ xs ≡ c ∷ ys → ⊥
first_not c [] xs ys h k e = absurd (omega (arith, h))
first_not c (d ∷ ds) xs ys h k e = (no_byte_head c d ds k).0 (head_is d c (ds ++ xs) ys e)

pub no_letter : (n c : ℕ) (xs ys : List ℕ) → n < 256 → 57 < c → decimal n ++ xs ≡ c ∷ ys → ⊥
no_letter n c xs ys h big e =
    let numeral = decimal_is_IsNumeral n (few n h) in first_not c (decimal n) xs ys numeral.0.0 (no_letters c (decimal n) big numeral.0.1) e
