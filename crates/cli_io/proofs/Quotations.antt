-- What is printed of some bytes is printable and short.
-- for: quoted::Quoted::of, quoted::QuotedDisplay::fmt, quoted::quotations_are_short
use Rattle.std.specs.List.{All}
use Rattle.std.specs.Prelude.{◌&&◌, codes, nat_le, nat_lt, min}
use Rattle.std.specs.Str.{IsAscii, IsUtf8}
use Rattle.std.proofs.Common.{◌≡◌, ℕ, ◌+◌, ◌<◌, ◌≤◌, Bool, true, false, List, [], ◌∷◌, ◌++◌, length, map, take, get_or, ⊎_elim, refl, sym, ap, ◌∙◌, arith}
use Rattle.std.proofs.Common.{length-append, if◌then◌else◌}
use Rattle.std.proofs.lemmas.Bool.{cases_lt}
use Rattle.std.proofs.lemmas.Bool.Decides.{nat_tests}
use Rattle.std.proofs.lemmas.List.{get_or_past, length-map, length-take, map-append, take_min, take_more, take_more_set}
use Rattle.std.proofs.lemmas.List.Elements.{All-append, All-cons, All-map, All-nil}
use Rattle.std.proofs.lemmas.Str.{IsUtf8-from_ascii}
use Rattle.std.specs.Prelude.{slice_set}
use Rattle.cli_io.specs.Quoting.{IsPrintable, quoted, shown}

shown_printable : (c : ℕ) → IsPrintable (shown c)
shown_printable c = by (nat_le 32 c) (nat_le c 126) refl refl
  where
    by : (a b : Bool) → nat_le 32 c ≡ a → nat_le c 126 ≡ b → IsPrintable (if a && b then c else 46)
    by true true p q = (grind (arith, nat_tests), grind (arith, nat_tests))
    by true false p q = (omega arith, omega arith)
    by false b p q = (omega arith, omega arith)

pub all_shown : (xs : List ℕ) → All IsPrintable (map shown xs)
all_shown xs = All-map IsPrintable shown xs (λ k d h. shown_printable (get_or xs k d))

end_printable : (b : Bool) → All IsPrintable (if b then codes " .." else [])
end_printable true =
    All-cons IsPrintable 32 (46 ∷ 46 ∷ []) (omega arith, omega arith)
    (All-cons IsPrintable 46 (46 ∷ []) (omega arith, omega arith) (All-cons IsPrintable 46 [] (omega arith, omega arith) (All-nil IsPrintable)))
end_printable false = All-nil IsPrintable

end_short : (b : Bool) → length (if b then codes " .." else []) ≤ 3
end_short true = omega arith
end_short false = omega arith

pub quoted_printable : (bytes : List ℕ) → All IsPrintable (quoted bytes)
quoted_printable bytes =
    let end : List ℕ = if nat_lt 40 (length bytes) then codes " .." else [] in
    let text : List ℕ = map shown (take 40 bytes) in
    let marked : All IsPrintable (34 ∷ end) = All-cons IsPrintable 34 end (omega arith, omega arith) (end_printable (nat_lt 40 (length bytes))) in
    All-cons IsPrintable 34 (text ++ 34 ∷ end) (omega arith, omega arith) (All-append IsPrintable text (34 ∷ end) (all_shown (take 40 bytes)) marked)

pub quoted_short : (bytes : List ℕ) → length (quoted bytes) ≤ 45
quoted_short bytes =
    let end : List ℕ = if nat_lt 40 (length bytes) then codes " .." else [] in
    omega (
      arith,
      length-append (map shown (take 40 bytes)) (34 ∷ end),
      length-map (take 40 bytes) shown,
      length-take 40 bytes,
      end_short (nat_lt 40 (length bytes)),
    )

-- printable ASCII is ASCII
ascii : (bytes : List ℕ) → All IsPrintable bytes → IsAscii bytes
ascii bytes h i = ⊎_elim (λ (l : i < length bytes). omega (arith, (h i 0 l).1)) (λ (l : length bytes ≤ i). omega (arith, get_or_past bytes i 0 l))
    (cases_lt i (length bytes))

pub printable_text : (bytes : List ℕ) → All IsPrintable bytes → IsUtf8 bytes
printable_text bytes h = IsUtf8-from_ascii bytes (ascii bytes h)

-- one more byte is kept
pub kept_more : (kept bytes : List ℕ) (i : ℕ) (d v : ℕ) → i < length kept → i < length bytes → v ≡ shown (get_or bytes i d) →
    take i kept ≡ map shown (take i bytes) → take (i + 1) (slice_set kept i v) ≡ map shown (take (i + 1) bytes)
kept_more kept bytes i d v a b e h =
    take_more_set kept i v a ∙ ap (λ xs. xs ++ v ∷ []) h ∙ ap (λ w. map shown (take i bytes) ++ w ∷ []) e
    ∙ sym (ap (map shown) (take_more bytes i d b) ∙ map-append shown (take i bytes) (get_or bytes i d ∷ []))

-- all that is kept
pub kept_all : (kept bytes : List ℕ) (i n : ℕ) → n ≡ min (length bytes) 40 → n ≤ i → i ≤ n → take i kept ≡ map shown (take i bytes) →
    take n kept ≡ map shown (take 40 bytes)
kept_all kept bytes i n e a b h =
    let same : i ≡ n = omega (arith, a, b) in
    let turned : min (length bytes) 40 ≡ min 40 (length bytes) = omega arith in
    ap (λ m. take m kept) (sym same) ∙ h ∙ ap (λ m. map shown (take m bytes)) (same ∙ e ∙ turned) ∙ ap (map shown) (take_min 40 bytes)
