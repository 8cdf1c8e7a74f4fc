-- The numbers of the bits that are set rise.
-- for: BitmapReads (a copy of what iso_codec keeps to itself)
use Rattle.std.proofs.Common.{◌≡◌, ℕ, suc, ◌≤◌, ◌+◌, ◌*◌, ◌%◌, Bool, true, false, leb, List, [], ◌∷◌, ◌++◌, length, Option, Some, None, refl, sym, ap, subst}
use Rattle.std.proofs.Common.{◌∙◌, append_assoc, arith}
use Rattle.iso_codec.specs.Digits.{hex_value, both, bit, nibble, bits_at}
use Rattle.iso_msg.proofs.Bools.{some_is}

-- rising numbers from low on and below high
abbrev pub Between : ℕ → ℕ → List ℕ → Type 0
Between low high [] = low ≤ high
Between low high (n ∷ ns) = (low ≤ n) × Between (suc n) high ns

pub Between-append : (low mid high : ℕ) (xs ys : List ℕ) → Between low mid xs → Between mid high ys → Between low high (xs ++ ys)
Between-append low mid high [] ys p q = lower low mid high ys p q
  where
    lower : (low mid high : ℕ) (ys : List ℕ) → low ≤ mid → Between mid high ys → Between low high ys
    lower low mid high [] p q = omega arith
    lower low mid high (y ∷ ys) p q = (omega (arith, q.0), q.1)
Between-append low mid high (x ∷ xs) ys p q = (p.0, Between-append (suc x) mid high xs ys p.1 q)

bit_between : (n : ℕ) (b : Bool) → Between n (n + 1) (bit n b)
bit_between n true = (omega arith, omega arith)
bit_between n false = omega arith

nibble_between : (n d : ℕ) → Between n (n + 4) (nibble n d)
nibble_between n d =
    let a : n + 3 + 1 ≡ n + 4 = omega arith in
    let b : n + 2 + 1 ≡ n + 3 = omega arith in
    let c : n + 1 + 1 ≡ n + 2 = omega arith in
    let p = subst (λ h. Between (n + 3) h (bit (n + 3) (leb 1 (d % 2)))) a (bit_between (n + 3) (leb 1 (d % 2))) in
    let q = subst (λ h. Between (n + 2) h (bit (n + 2) (leb 2 (d % 4)))) b (bit_between (n + 2) (leb 2 (d % 4))) in
    let r = subst (λ h. Between (n + 1) h (bit (n + 1) (leb 4 (d % 8)))) c (bit_between (n + 1) (leb 4 (d % 8))) in
    let two = Between-append n (n + 1) (n + 2) (bit n (leb 8 d)) (bit (n + 1) (leb 4 (d % 8))) (bit_between n (leb 8 d)) r in
    let three = Between-append n (n + 2) (n + 3) (bit n (leb 8 d) ++ bit (n + 1) (leb 4 (d % 8))) (bit (n + 2) (leb 2 (d % 4))) two q in
    Between-append n (n + 3) (n + 4) (bit n (leb 8 d) ++ bit (n + 1) (leb 4 (d % 8)) ++ bit (n + 2) (leb 2 (d % 4))) (bit (n + 3) (leb 1 (d % 2))) three p

pub wider : (low a b : ℕ) (xs : List ℕ) → Between low a xs → a ≤ b → Between low b xs
wider low a b [] p h = omega arith
wider low a b (x ∷ xs) p h = (p.0, wider (suc x) a b xs p.1 h)

both_some : (d : ℕ → List ℕ) (o : Option ℕ) (r : Option (List ℕ)) (ns : List ℕ) → both (λ x xs. d x ++ xs) o r ≡ Some ns →
    (x : ℕ) × (xs : List ℕ) × (o ≡ Some x) × (r ≡ Some xs) × (d x ++ xs ≡ ns)
both_some d None r ns e = absurd cc
both_some d (Some x) None ns e = absurd cc
both_some d (Some x) (Some xs) ns e = (x, xs, refl, refl, some_is (d x ++ xs) ns e)

pub bits_between : (text : List ℕ) (n : ℕ) (ns : List ℕ) → bits_at n text ≡ Some ns → Between n (n + 4 * length text) ns
unfolding bits_at
bits_between [] n ns e = subst (λ xs. Between n (n + 0) xs) (some_is [] ns e) (omega arith)
bits_between (c ∷ cs) n ns e =
    let b = both_some (nibble n) (hex_value c) (bits_at (n + 4) cs) ns e in
    let h : n + 4 + 4 * length cs ≡ n + 4 * suc (length cs) = omega arith in
    let rest = subst (λ m. Between (n + 4) m b.1) h (bits_between cs (n + 4) b.1 b.3) in
    subst (λ xs. Between n (n + 4 * suc (length cs)) xs) b.4 (Between-append n (n + 4) (n + 4 * suc (length cs))
    (nibble n b.0) b.1 (nibble_between n b.0) rest)

bits_cons : (c d n : ℕ) (cs xs : List ℕ) → hex_value c ≡ Some d → bits_at (n + 4) cs ≡ Some xs → bits_at n (c ∷ cs) ≡ Some (nibble n d ++ xs)
unfolding bits_at
bits_cons c d n cs xs p q = rw (p, q) refl

pub bits_append : (a b : List ℕ) (n : ℕ) (xs ys : List ℕ) → bits_at n a ≡ Some xs → bits_at (n + 4 * length a) b ≡ Some ys →
    bits_at n (a ++ b) ≡ Some (xs ++ ys)
unfolding bits_at
bits_append [] b n xs ys p q = subst (λ zs. bits_at n b ≡ Some (zs ++ ys)) (some_is [] xs p) (ap (λ m. bits_at m b) (omega arith) ∙ q)
bits_append (c ∷ cs) b n xs ys p q =
    let s = both_some (nibble n) (hex_value c) (bits_at (n + 4) cs) xs p in
    let h : n + 4 * suc (length cs) ≡ n + 4 + 4 * length cs = omega arith in
    let r = bits_append cs b (n + 4) s.1 ys s.3 (subst (λ m. bits_at m b ≡ Some ys) h q) in
    bits_cons c s.0 n (cs ++ b) (s.1 ++ ys) s.2 r ∙ ap Some (sym (append_assoc (nibble n s.0) s.1 ys) ∙ ap (λ (zs : List ℕ). zs ++ ys) s.4)

pub record Split (a b : List ℕ) (n : ℕ) (ns : List ℕ) : Type 0 where
  pub first : List ℕ
  pub second : List ℕ
  pub front : bits_at n a ≡ Some first
  pub back : bits_at (n + 4 * length a) b ≡ Some second
  pub whole : first ++ second ≡ ns

pub bits_split : (a b : List ℕ) (n : ℕ) (ns : List ℕ) → bits_at n (a ++ b) ≡ Some ns → Split a b n ns
unfolding bits_at
bits_split [] b n ns e = record { first = []; second = ns; front = refl; back = ap (λ m. bits_at m b) (omega arith) ∙ e; whole = refl }
bits_split (c ∷ cs) b n ns e =
    let s = both_some (nibble n) (hex_value c) (bits_at (n + 4) (cs ++ b)) ns e in
    let h : n + 4 + 4 * length cs ≡ n + 4 * suc (length cs) = omega arith in
    let r = bits_split cs b (n + 4) s.1 s.3 in
    record {
      first = nibble n s.0 ++ r.first;
      second = r.second;
      front = bits_cons c s.0 n cs r.first s.2 r.front;
      back = subst (λ m. bits_at m b ≡ Some r.second) h r.back;
      whole = append_assoc (nibble n s.0) r.first r.second ∙ ap (λ (zs : List ℕ). nibble n s.0 ++ zs) r.whole ∙ s.4;
    }
