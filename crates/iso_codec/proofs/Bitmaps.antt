-- Bitmaps that are read are spelled so, and what is spelled so is read.
-- for: read::decode, write::encode
use Rattle.std.proofs.Common.{◌≡◌, ℕ, suc, ◌≤◌, ◌+◌, ◌*◌, ◌%◌, Bool, true, false, cond, eqb, leb, List, [], ◌∷◌, ◌++◌, length, take, drop, Option, Some, None}
use Rattle.std.proofs.Common.{Ok, refl, sym, ap, subst, ◌∙◌, inl, inr, append_assoc, arith}
use Rattle.std.proofs.lemmas.Bool.{eqb-true, eq-eqb}
use Rattle.std.proofs.lemmas.List.{take-append-drop, length-take, length-drop, length-append}
use Rattle.iso_msg.specs.declared.table.FieldForm.{FieldForm}
use Rattle.iso_msg.specs.Table.{form_of}
use Rattle.iso_msg.proofs.FieldTable.{form_number}
use Rattle.iso_codec.specs.declared.error.DecodeError.TheVariants.{BadBitmap}
use Rattle.iso_codec.specs.Digits.{hex_value, both, bit, nibble, bits_at}
use Rattle.iso_codec.proofs.ResultSteps.{ok_is, bind_ok, or_ok, Taken, part_ok, part_again}
use Rattle.iso_msg.specs.Messages.{Fields, numbers_of}
use Rattle.iso_codec.specs.Grammar.{SpellsValue, SpellsFields, SpellsNumbers}
use Rattle.iso_codec.specs.Reads.{◌>>=◌, or_fault, part, bitmap_at, bitmaps_at, starts_with_1, field_numbers}
use Rattle.iso_msg.proofs.Bools.{chosen, some_is}

-- rising numbers from low on and below high
abbrev pub Between : ℕ → ℕ → List ℕ → Type 0
Between low high [] = low ≤ high
Between low high (n ∷ ns) = (low ≤ n) × Between (suc n) high ns

pub Between-append : (low mid high : ℕ) (xs ys : List ℕ) → Between low mid xs → Between mid high ys → Between low high (xs ++ ys)
Between-append low mid high [] ys p q = lower low mid high ys p q
  where
    lower : (low mid high : ℕ) (ys : List ℕ) → low ≤ mid → Between mid high ys → Between low high ys
    lower low mid high [] p q = omega arith
    lower low mid high (y ∷ ys) p q = (omega (arith, q.0), q.1)
Between-append low mid high (x ∷ xs) ys p q = (p.0, Between-append (suc x) mid high xs ys p.1 q)

bit_between : (n : ℕ) (b : Bool) → Between n (n + 1) (bit n b)
bit_between n true = (omega arith, omega arith)
bit_between n false = omega arith

nibble_between : (n d : ℕ) → Between n (n + 4) (nibble n d)
nibble_between n d =
    let a : n + 3 + 1 ≡ n + 4 = omega arith in
    let b : n + 2 + 1 ≡ n + 3 = omega arith in
    let c : n + 1 + 1 ≡ n + 2 = omega arith in
    let p = subst (λ h. Between (n + 3) h (bit (n + 3) (leb 1 (d % 2)))) a (bit_between (n + 3) (leb 1 (d % 2))) in
    let q = subst (λ h. Between (n + 2) h (bit (n + 2) (leb 2 (d % 4)))) b (bit_between (n + 2) (leb 2 (d % 4))) in
    let r = subst (λ h. Between (n + 1) h (bit (n + 1) (leb 4 (d % 8)))) c (bit_between (n + 1) (leb 4 (d % 8))) in
    let two = Between-append n (n + 1) (n + 2) (bit n (leb 8 d)) (bit (n + 1) (leb 4 (d % 8))) (bit_between n (leb 8 d)) r in
    let three = Between-append n (n + 2) (n + 3) (bit n (leb 8 d) ++ bit (n + 1) (leb 4 (d % 8))) (bit (n + 2) (leb 2 (d % 4))) two q in
    Between-append n (n + 3) (n + 4) (bit n (leb 8 d) ++ bit (n + 1) (leb 4 (d % 8)) ++ bit (n + 2) (leb 2 (d % 4))) (bit (n + 3) (leb 1 (d % 2))) three p

wider : (low a b : ℕ) (xs : List ℕ) → Between low a xs → a ≤ b → Between low b xs
wider low a b [] p h = omega arith
wider low a b (x ∷ xs) p h = (p.0, wider (suc x) a b xs p.1 h)

both_some : (d : ℕ → List ℕ) (o : Option ℕ) (r : Option (List ℕ)) (ns : List ℕ) → both (λ x xs. d x ++ xs) o r ≡ Some ns →
    (x : ℕ) × (xs : List ℕ) × (o ≡ Some x) × (r ≡ Some xs) × (d x ++ xs ≡ ns)
both_some d None r ns e = absurd cc
both_some d (Some x) None ns e = absurd cc
both_some d (Some x) (Some xs) ns e = (x, xs, refl, refl, some_is (d x ++ xs) ns e)

pub bits_between : (text : List ℕ) (n : ℕ) (ns : List ℕ) → bits_at n text ≡ Some ns → Between n (n + 4 * length text) ns
unfolding bits_at
bits_between [] n ns e = subst (λ xs. Between n (n + 0) xs) (some_is [] ns e) (omega arith)
bits_between (c ∷ cs) n ns e =
    let b = both_some (nibble n) (hex_value c) (bits_at (n + 4) cs) ns e in
    let h : n + 4 + 4 * length cs ≡ n + 4 * suc (length cs) = omega arith in
    let rest = subst (λ m. Between (n + 4) m b.1) h (bits_between cs (n + 4) b.1 b.3) in
    subst (λ xs. Between n (n + 4 * suc (length cs)) xs) b.4 (Between-append n (n + 4) (n + 4 * suc (length cs))
    (nibble n b.0) b.1 (nibble_between n b.0) rest)

bits_cons : (c d n : ℕ) (cs xs : List ℕ) → hex_value c ≡ Some d → bits_at (n + 4) cs ≡ Some xs → bits_at n (c ∷ cs) ≡ Some (nibble n d ++ xs)
unfolding bits_at
bits_cons c d n cs xs p q = rw (p, q) refl

pub bits_append : (a b : List ℕ) (n : ℕ) (xs ys : List ℕ) → bits_at n a ≡ Some xs → bits_at (n + 4 * length a) b ≡ Some ys →
    bits_at n (a ++ b) ≡ Some (xs ++ ys)
unfolding bits_at
bits_append [] b n xs ys p q = subst (λ zs. bits_at n b ≡ Some (zs ++ ys)) (some_is [] xs p) (ap (λ m. bits_at m b) (omega arith) ∙ q)
bits_append (c ∷ cs) b n xs ys p q =
    let s = both_some (nibble n) (hex_value c) (bits_at (n + 4) cs) xs p in
    let h : n + 4 * suc (length cs) ≡ n + 4 + 4 * length cs = omega arith in
    let r = bits_append cs b (n + 4) s.1 ys s.3 (subst (λ m. bits_at m b ≡ Some ys) h q) in
    bits_cons c s.0 n (cs ++ b) (s.1 ++ ys) s.2 r ∙ ap Some (sym (append_assoc (nibble n s.0) s.1 ys) ∙ ap (λ (zs : List ℕ). zs ++ ys) s.4)

pub record Split (a b : List ℕ) (n : ℕ) (ns : List ℕ) : Type 0 where
  pub first : List ℕ
  pub second : List ℕ
  pub front : bits_at n a ≡ Some first
  pub back : bits_at (n + 4 * length a) b ≡ Some second
  pub whole : first ++ second ≡ ns

pub bits_split : (a b : List ℕ) (n : ℕ) (ns : List ℕ) → bits_at n (a ++ b) ≡ Some ns → Split a b n ns
unfolding bits_at
bits_split [] b n ns e = record { first = []; second = ns; front = refl; back = ap (λ m. bits_at m b) (omega arith) ∙ e; whole = refl }
bits_split (c ∷ cs) b n ns e =
    let s = both_some (nibble n) (hex_value c) (bits_at (n + 4) (cs ++ b)) ns e in
    let h : n + 4 + 4 * length cs ≡ n + 4 * suc (length cs) = omega arith in
    let r = bits_split cs b (n + 4) s.1 s.3 in
    record {
      first = nibble n s.0 ++ r.first;
      second = r.second;
      front = bits_cons c s.0 n cs r.first s.2 r.front;
      back = subst (λ m. bits_at m b ≡ Some r.second) h r.back;
      whole = append_assoc (nibble n s.0) r.first r.second ∙ ap (λ (zs : List ℕ). nibble n s.0 ++ zs) r.whole ∙ s.4;
    }

-- one bitmap
pub record BitmapTaken (n : ℕ) (bytes ns rest : List ℕ) : Type 0 where
  pub text : List ℕ
  pub taken : Taken 16 bytes text rest
  pub bits : bits_at n text ≡ Some ns

pub bitmap_found : (n : ℕ) (bytes : List ℕ) (x : List ℕ × List ℕ) → bitmap_at n bytes ≡ Ok x → BitmapTaken n bytes x.0 x.1
unfolding bitmap_at
bitmap_found n bytes x e =
    let a = bind_ok (part 16 bytes) (λ text. or_fault (bits_at n text.0) BadBitmap >>= λ ns. Ok (ns, text.1)) x e in
    let b = bind_ok (or_fault (bits_at n a.0.0) BadBitmap) (λ ns. Ok (ns, a.0.1)) x a.2 in
    let made : List ℕ × List ℕ = (b.0, a.0.1) in
    let all : BitmapTaken n bytes b.0 a.0.1 = record { text = a.0.0; taken = part_ok 16 bytes a.0 a.1; bits = or_ok (bits_at n a.0.0) BadBitmap b.0 b.1 } in
    subst (λ (y : List ℕ × List ℕ). BitmapTaken n bytes y.0 y.1) (ok_is made x b.2) all

pub bitmap_again : (n : ℕ) (text ns rest : List ℕ) → length text ≡ 16 → bits_at n text ≡ Some ns → bitmap_at n (text ++ rest) ≡ Ok (ns, rest)
unfolding bitmap_at
bitmap_again n text ns rest len e = rw (part_again 16 text rest len, e) refl

pub record FrontBitmaps (bytes ns rest : List ℕ) : Type 0 where
  pub text : List ℕ
  pub whole : bytes ≡ text ++ rest
  pub spells : SpellsNumbers text (field_numbers ns)
  pub rising : Between 1 129 ns

with_1 : (xs ys : List ℕ) → starts_with_1 xs ≡ true → 1 ∷ field_numbers (xs ++ ys) ≡ xs ++ ys
with_1 [] ys e = absurd cc
with_1 (x ∷ xs) ys e = rw e (ap (λ n. n ∷ xs ++ ys) (sym (eqb-true x 1 e)))

without_1 : (xs : List ℕ) → starts_with_1 xs ≡ false → field_numbers xs ≡ xs
without_1 xs e = rw e refl

pub bitmaps_found : (bytes : List ℕ) (x : List ℕ × List ℕ) → bitmaps_at bytes ≡ Ok x → FrontBitmaps bytes x.0 x.1
unfolding bitmaps_at
bitmaps_found bytes x e =
    let a = bind_ok (bitmap_at 1 bytes) (λ first. cond (starts_with_1 first.0) (bitmap_at 65 first.1 >>= λ second. Ok (first.0 ++ second.0, second.1))
    (Ok first)) x e in
    let m = bitmap_found 1 bytes a.0 a.1 in
    let rise = bits_between m.text 1 a.0.0 m.bits in
    let to65 : 1 + 4 * length m.text ≡ 65 = omega (arith, m.taken.len) in
    elim (chosen (starts_with_1 a.0.0) (bitmap_at 65 a.0.1 >>= λ second. Ok (a.0.0 ++ second.0, second.1)) (Ok a.0) (Ok x) a.2) [
      | inl w ↦
          let b = bind_ok (bitmap_at 65 a.0.1) (λ second. Ok (a.0.0 ++ second.0, second.1)) x w.1 in
          let k = bitmap_found 65 a.0.1 b.0 b.1 in
          let made : List ℕ × List ℕ = (a.0.0 ++ b.0.0, b.0.1) in
          let to129 : 65 + 4 * length k.text ≡ 129 = omega (arith, k.taken.len) in
          let all : FrontBitmaps bytes (a.0.0 ++ b.0.0) b.0.1 = record {
            text = m.text ++ k.text;
            whole = m.taken.whole ∙ ap (λ (r : List ℕ). m.text ++ r) k.taken.whole ∙ sym (append_assoc m.text k.text b.0.1);
            spells = inr (
              omega (arith, length-append m.text k.text, m.taken.len, k.taken.len),
              bits_append m.text k.text 1 a.0.0 b.0.0 m.bits (subst (λ n. bits_at n k.text ≡ Some b.0.0) (sym to65) k.bits)
                  ∙ ap Some (sym (with_1 a.0.0 b.0.0 w.0)),
            );
            rising = Between-append 1 65 129 a.0.0 b.0.0 (subst (λ h. Between 1 h a.0.0) to65 rise)
                (subst (λ h. Between 65 h b.0.0) to129 (bits_between k.text 65 b.0.0 k.bits));
          } in
          subst (λ (y : List ℕ × List ℕ). FrontBitmaps bytes y.0 y.1) (ok_is made x b.2) all
      | inr w ↦
          let all : FrontBitmaps bytes a.0.0 a.0.1 = record {
            text = m.text;
            whole = m.taken.whole;
            spells = inl (m.taken.len, m.bits ∙ ap Some (sym (without_1 a.0.0 w.0)));
            rising = wider 1 65 129 a.0.0 (subst (λ h. Between 1 h a.0.0) to65 rise) (omega arith);
          } in
          subst (λ (y : List ℕ × List ℕ). FrontBitmaps bytes y.0 y.1) (ok_is a.0 x w.1) all
    ]

-- a number of a field isn't 1
not_1_by : (o : Option FieldForm) → form_of 1 ≡ o → (text v : List ℕ) → SpellsValue o text v → ⊥
not_1_by None e text v s = s
not_1_by (Some f) e text v s = let p = form_number 1 f e in omega arith

fields_start : (fs : Fields) (text : List ℕ) → SpellsFields text fs → starts_with_1 (numbers_of fs) ≡ false
fields_start [] text s = refl
fields_start (f ∷ fs) text s = eqb-not (λ e. not_1_by (form_of 1) refl s.0 f.1 (subst (λ n. SpellsValue (form_of n) s.0 f.1) e s.3))
  where
    false_or : (b : Bool) (P : Type 0) → (b ≡ true → P) → (P → ⊥) → b ≡ false
    false_or true P g h = absurd (h (g refl))
    false_or false P g h = refl

    eqb-not : {n : ℕ} → (n ≡ 1 → ⊥) → eqb n 1 ≡ false
    eqb-not {n} h = false_or (eqb n 1) (n ≡ 1) (eqb-true n 1) h

first_1 : (xs ys ns : List ℕ) → Between 65 129 ys → xs ++ ys ≡ 1 ∷ ns → starts_with_1 xs ≡ true
first_1 [] [] ns b e = absurd cc
first_1 [] (y ∷ ys) ns b e = let h : y ≡ 1 = cc in absurd (omega (arith, b.0, h))
first_1 (x ∷ xs) ys ns b e = let h : x ≡ 1 = cc in eq-eqb x 1 h

pub record Again (bytes ns rest : List ℕ) : Type 0 where
  pub numbers : List ℕ
  pub reads : bitmaps_at bytes ≡ Ok (numbers, rest)
  pub fields : field_numbers numbers ≡ ns

one_bitmap : (text ns rest : List ℕ) → length text ≡ 16 → bits_at 1 text ≡ Some ns → starts_with_1 ns ≡ false → Again (text ++ rest) ns rest
unfolding bitmaps_at
one_bitmap text ns rest len e s = record { numbers = ns; reads = rw (bitmap_again 1 text ns rest len e, s) refl; fields = without_1 ns s }

two_bitmaps : (a b xs ys ns rest : List ℕ) → length a ≡ 16 → length b ≡ 16 → bits_at 1 a ≡ Some xs → bits_at 65 b ≡ Some ys → xs ++ ys ≡ 1 ∷ ns →
    Again (a ++ (b ++ rest)) ns rest
unfolding bitmaps_at
two_bitmaps a b xs ys ns rest la lb ea eb e =
    let to129 : 65 + 4 * length b ≡ 129 = omega arith in
    let s = first_1 xs ys ns (subst (λ h. Between 65 h ys) to129 (bits_between b 65 ys eb)) e in
    record {
      numbers = xs ++ ys;
      reads = rw (bitmap_again 1 a xs (b ++ rest) la ea, s, bitmap_again 65 b ys rest lb eb) refl;
      fields = rw e refl;
    }

pub bitmaps_again : (fs : Fields) (text bitmaps rest : List ℕ) → SpellsFields text fs → SpellsNumbers bitmaps (numbers_of fs) →
    Again (bitmaps ++ rest) (numbers_of fs) rest
bitmaps_again fs text bitmaps rest s (inl w) = one_bitmap bitmaps (numbers_of fs) rest w.0 w.1 (fields_start fs text s)
bitmaps_again fs text bitmaps rest s (inr w) =
    let a = take 16 bitmaps in
    let b = drop 16 bitmaps in
    let la : length a ≡ 16 = omega (arith, length-take 16 bitmaps, w.0) in
    let lb : length b ≡ 16 = omega (arith, length-drop 16 bitmaps, w.0) in
    let whole : a ++ b ≡ bitmaps = take-append-drop 16 bitmaps in
    let p = bits_split a b 1 (1 ∷ numbers_of fs) (ap (bits_at 1) whole ∙ w.1) in
    let to65 : 1 + 4 * length a ≡ 65 = omega (arith, la) in
    let all = two_bitmaps a b p.first p.second (numbers_of fs) rest la lb p.front (subst (λ n. bits_at n b ≡ Some p.second) to65 p.back) p.whole in
    let regroup : a ++ (b ++ rest) ≡ bitmaps ++ rest = sym (append_assoc a b rest) ∙ ap (λ (x : List ℕ). x ++ rest) whole in
    subst (λ x. Again x (numbers_of fs) rest) regroup all
