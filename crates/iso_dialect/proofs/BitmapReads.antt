-- Bitmaps that are read are written so, and what is written so is read.
-- for: MessageReads
use Rattle.std.proofs.Common.{◌≡◌, ℕ, ◌+◌, ◌*◌, true, false, cond, List, [], ◌∷◌, ◌++◌, length, Some, Ok, refl, sym, ap, subst, ◌∙◌, inl, inr}
use Rattle.std.proofs.Common.{append_assoc, arith}
use Rattle.std.proofs.lemmas.Bool.{eqb-true, eq-eqb}
use Rattle.iso_msg.proofs.Bools.{chosen}
use Rattle.iso_codec.specs.declared.error.DecodeError.TheVariants.{BadBitmap}
use Rattle.iso_codec.specs.Digits.{bits_at}
use Rattle.iso_codec.specs.Reads.{◌>>=◌, or_fault, starts_with_1, field_numbers}
use Rattle.iso_dialect.specs.declared.coding.Coding.{Coding}
use Rattle.iso_dialect.specs.Codings.{IsCoded}
use Rattle.iso_dialect.specs.Fields.{coded_at}
use Rattle.iso_dialect.specs.Messages.{AreNumbers}
use Rattle.iso_dialect.specs.Readings.{bitmap_as, bitmaps_as}
use Rattle.iso_dialect.proofs.Steps.{ok_is, bind_ok, or_ok}
use Rattle.iso_dialect.proofs.FieldReads.{coded_found, coded_again, whole_even}
use Rattle.iso_dialect.proofs.BitNumbers.{Between, Between-append, wider, bits_between, bits_append, bits_split}

-- one bitmap
record BitmapTaken (c : Coding) (n : ℕ) (bytes ns rest : List ℕ) : Type 0 where
  pub body : List ℕ
  pub text : List ℕ
  pub whole : bytes ≡ body ++ rest
  pub len : length text ≡ 16
  pub coded : IsCoded c body text
  pub bits : bits_at n text ≡ Some ns

bitmap_found : (c : Coding) (n : ℕ) (bytes : List ℕ) (x : List ℕ × List ℕ) → bitmap_as c n bytes ≡ Ok x → BitmapTaken c n bytes x.0 x.1
unfolding bitmap_as
bitmap_found c n bytes x e =
    let a = bind_ok (coded_at c 16 BadBitmap bytes) (λ text. or_fault (bits_at n text.0) BadBitmap >>= λ ns. Ok (ns, text.1)) x e in
    let b = bind_ok (or_fault (bits_at n a.0.0) BadBitmap) (λ ns. Ok (ns, a.0.1)) x a.2 in
    let f = coded_found c 16 BadBitmap bytes a.0 (whole_even c 16 refl) a.1 in
    let made : List ℕ × List ℕ = (b.0, a.0.1) in
    let all : BitmapTaken c n bytes b.0 a.0.1 = record {
      body = f.body;
      text = a.0.0;
      whole = f.whole;
      len = f.len;
      coded = f.coded;
      bits = or_ok (bits_at n a.0.0) BadBitmap b.0 b.1;
    } in
    subst (λ (y : List ℕ × List ℕ). BitmapTaken c n bytes y.0 y.1) (ok_is made x b.2) all

bitmap_again : (c : Coding) (n : ℕ) (body text ns rest : List ℕ) → length text ≡ 16 → IsCoded c body text → bits_at n text ≡ Some ns
    → bitmap_as c n (body ++ rest) ≡ Ok (ns, rest)
unfolding bitmap_as
bitmap_again c n body text ns rest len h e = rw (coded_again c 16 BadBitmap body rest text len h, e) refl

pub record FrontBitmaps (c : Coding) (bytes ns rest : List ℕ) : Type 0 where
  pub map : List ℕ
  pub whole : bytes ≡ map ++ rest
  pub numbers : AreNumbers c map (field_numbers ns)
  pub rising : Between 1 129 ns

with_1 : (xs ys : List ℕ) → starts_with_1 xs ≡ true → 1 ∷ field_numbers (xs ++ ys) ≡ xs ++ ys
with_1 [] ys e = absurd cc
with_1 (x ∷ xs) ys e = rw e (ap (λ n. n ∷ xs ++ ys) (sym (eqb-true x 1 e)))

without_1 : (xs : List ℕ) → starts_with_1 xs ≡ false → field_numbers xs ≡ xs
without_1 xs e = rw e refl

abbrev second_of : List ℕ → List ℕ × List ℕ → List ℕ × List ℕ
second_of front second = (front ++ second.0, second.1)

pub bitmaps_found : (c : Coding) (bytes : List ℕ) (x : List ℕ × List ℕ) → bitmaps_as c bytes ≡ Ok x → FrontBitmaps c bytes x.0 x.1
unfolding bitmaps_as
bitmaps_found c bytes x e =
    let a = bind_ok (bitmap_as c 1 bytes) (λ first. cond (starts_with_1 first.0) (bitmap_as c 65 first.1 >>= λ second. Ok (first.0 ++ second.0, second.1))
    (Ok first)) x e in
    let m = bitmap_found c 1 bytes a.0 a.1 in
    let rise = bits_between m.text 1 a.0.0 m.bits in
    let to65 : 1 + 4 * length m.text ≡ 65 = omega (arith, m.len) in
    elim (chosen (starts_with_1 a.0.0) (bitmap_as c 65 a.0.1 >>= λ second. Ok (a.0.0 ++ second.0, second.1)) (Ok a.0) (Ok x) a.2) [
      | inl w ↦
          let b = bind_ok (bitmap_as c 65 a.0.1) (λ second. Ok (a.0.0 ++ second.0, second.1)) x w.1 in
          let k = bitmap_found c 65 a.0.1 b.0 b.1 in
          let made : List ℕ × List ℕ = second_of a.0.0 b.0 in
          let to129 : 65 + 4 * length k.text ≡ 129 = omega (arith, k.len) in
          let all : FrontBitmaps c bytes (a.0.0 ++ b.0.0) b.0.1 = record {
            map = m.body ++ k.body;
            whole = m.whole ∙ ap (λ (r : List ℕ). m.body ++ r) k.whole ∙ sym (append_assoc m.body k.body b.0.1);
            numbers = inr (
              m.body,
              k.body,
              m.text,
              k.text,
              refl,
              m.len,
              m.coded,
              k.len,
              k.coded,
              bits_append m.text k.text 1 a.0.0 b.0.0 m.bits (subst (λ n. bits_at n k.text ≡ Some b.0.0) (sym to65) k.bits)
                  ∙ ap Some (sym (with_1 a.0.0 b.0.0 w.0)),
            );
            rising = Between-append 1 65 129 a.0.0 b.0.0 (subst (λ h. Between 1 h a.0.0) to65 rise)
                (subst (λ h. Between 65 h b.0.0) to129 (bits_between k.text 65 b.0.0 k.bits));
          } in
          subst (λ (y : List ℕ × List ℕ). FrontBitmaps c bytes y.0 y.1) (ok_is made x b.2) all
      | inr w ↦
          let all : FrontBitmaps c bytes a.0.0 a.0.1 = record {
            map = m.body;
            whole = m.whole;
            numbers = inl (m.text, m.len, m.coded, m.bits ∙ ap Some (sym (without_1 a.0.0 w.0)));
            rising = wider 1 65 129 a.0.0 (subst (λ h. Between 1 h a.0.0) to65 rise) (omega arith);
          } in
          subst (λ (y : List ℕ × List ℕ). FrontBitmaps c bytes y.0 y.1) (ok_is a.0 x w.1) all
    ]

first_1 : (xs ys ns : List ℕ) → Between 65 129 ys → xs ++ ys ≡ 1 ∷ ns → starts_with_1 xs ≡ true
first_1 [] [] ns b e = absurd cc
first_1 [] (y ∷ ys) ns b e = let h : y ≡ 1 = cc in absurd (omega (arith, b.0, h))
first_1 (x ∷ xs) ys ns b e = let h : x ≡ 1 = cc in eq-eqb x 1 h

pub record Again (c : Coding) (bytes ns rest : List ℕ) : Type 0 where
  pub numbers : List ℕ
  pub reads : bitmaps_as c bytes ≡ Ok (numbers, rest)
  pub fields : field_numbers numbers ≡ ns

one_bitmap : (c : Coding) (body text ns rest : List ℕ) → length text ≡ 16 → IsCoded c body text → bits_at 1 text ≡ Some ns → starts_with_1 ns ≡ false
    → Again c (body ++ rest) ns rest
unfolding bitmaps_as
one_bitmap c body text ns rest len h e s =
    record { numbers = ns; reads = rw (bitmap_again c 1 body text ns rest len h e, s) refl; fields = without_1 ns s }

two_bitmaps : (c : Coding) (p q a b xs ys ns rest : List ℕ) → length a ≡ 16 → IsCoded c p a → length b ≡ 16 → IsCoded c q b → bits_at 1 a ≡ Some xs
    → bits_at 65 b ≡ Some ys → xs ++ ys ≡ 1 ∷ ns → Again c (p ++ (q ++ rest)) ns rest
unfolding bitmaps_as
two_bitmaps c p q a b xs ys ns rest la ca lb cb ea eb e =
    let to129 : 65 + 4 * length b ≡ 129 = omega arith in
    let s = first_1 xs ys ns (subst (λ h. Between 65 h ys) to129 (bits_between b 65 ys eb)) e in
    record {
      numbers = xs ++ ys;
      reads = rw (bitmap_again c 1 p a xs (q ++ rest) la ca ea, s, bitmap_again c 65 q b ys rest lb cb eb) refl;
      fields = rw e refl;
    }

pub bitmaps_again : (c : Coding) (map ns rest : List ℕ) → starts_with_1 ns ≡ false → AreNumbers c map ns → Again c (map ++ rest) ns rest
bitmaps_again c map ns rest s (inl w) = one_bitmap c map w.0 ns rest w.1 w.2 w.3 s
bitmaps_again c map ns rest s (inr w) =
    let p = bits_split w.2 w.3 1 (1 ∷ ns) w.9 in
    let to65 : 1 + 4 * length w.2 ≡ 65 = omega (arith, w.5) in
    let all = two_bitmaps c w.0 w.1 w.2 w.3 p.first p.second ns rest w.5 w.6 w.7 w.8 p.front
    (subst (λ n. bits_at n w.3 ≡ Some p.second) to65 p.back) p.whole in
    let regroup : w.0 ++ (w.1 ++ rest) ≡ map ++ rest = sym (append_assoc w.0 w.1 rest) ∙ ap (λ (x : List ℕ). x ++ rest) (sym w.4) in
    subst (λ x. Again c x ns rest) regroup all
