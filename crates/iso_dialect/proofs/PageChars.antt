-- What the pages say of each code, and of each character.
-- for: page::char_at, laws::codings_are_exact
use Rattle.std.proofs.Common.{◌≡◌, ◌∙◌, inl, inr, ℕ, zero, suc, ◌+◌, ◌<◌, ◌≤◌, Bool, true, false, ◌&&◌, cond, eqb, leb, List, [], ◌∷◌, Option, Some, None}
use Rattle.std.proofs.Common.{get_or, refl, ap, subst, arith, zero-add}
use Rattle.std.specs.Prelude.{map}
use Rattle.std.specs.List.{list_all}
use Rattle.std.proofs.lemmas.Bool.{cases_lt, eqb-true, leb-true}
use Rattle.iso_msg.specs.Values.{is_text}
use Rattle.iso_msg.proofs.Bools.{and_both, some_is}
use Rattle.iso_dialect.specs.declared.coding.Page.{Page}
use Rattle.iso_dialect.specs.declared.coding.Page.TheVariants.{Cp037, Cp1047}
use Rattle.iso_dialect.specs.Pages.{codes, codes_037, codes_1047, char_from, char_in, code_in, chars_from, or_zero}
use Rattle.iso_dialect.specs.Codings.{each}

chars_at : (p : Page) (k n i : ℕ) → i < k → get_or (map or_zero (chars_from p n k)) i 0 ≡ or_zero (char_in p (n + i))
chars_at p zero n i h = absurd (omega arith)
chars_at p (suc k) n zero h = ap (λ (b : ℕ). or_zero (char_in p b)) (omega arith)
chars_at p (suc k) n (suc i) h = chars_at p k (suc n) i (omega arith) ∙ ap (λ (b : ℕ). or_zero (char_in p b)) (omega arith)

-- a row of the table of characters
pub char_row : (p : Page) (table : List ℕ) (b : ℕ) → b < 256 → table ≡ map or_zero (chars_from p 0 256) → get_or table b 0 ≡ or_zero (char_in p b)
char_row p table b h e =
    ap (λ (t : List ℕ). get_or t b 0) e ∙ chars_at p 256 0 b h ∙ ap (λ (x : ℕ). or_zero (char_in p x)) (zero-add b)

-- a character is not below the first
low_char : (b c : ℕ) (xs : List ℕ) (d : ℕ) → char_from b c xs ≡ Some d → c ≤ d
low_char b c [] d e = absurd cc
low_char b c (x ∷ xs) d e = by (eqb x b) (low_char b (suc c) xs d) e
  where
    by : (t : Bool) → (char_from b (suc c) xs ≡ Some d → suc c ≤ d) → cond t (Some c) (char_from b (suc c) xs) ≡ Some d → c ≤ d
    by true next e = let same : c ≡ d = some_is c d e in omega arith
    by false next e = let low : suc c ≤ d = next e in omega arith

pub no_zero : (p : Page) (b : ℕ) → char_in p b ≡ Some 0 → ⊥
unfolding char_in
no_zero p b e = let low : 32 ≤ 0 = low_char b 32 (codes p) 0 e in absurd (omega arith)

pub none_by : (p : Page) (b : ℕ) (o : Option ℕ) → char_in p b ≡ o → or_zero o ≡ 0 → None ≡ o
none_by p b None e h = refl
none_by p b (Some c) e h = absurd (no_zero p b (e ∙ ap Some h))

pub some_by : (c : ℕ) (o : Option ℕ) → c ≡ or_zero o → ¬ (c ≡ 0) → Some c ≡ o
some_by c None e h = absurd (h e)
some_by c (Some d) e h = ap Some e

abbrev is_same : Option ℕ → ℕ → Bool
is_same None c = false
is_same (Some d) c = eqb d c

-- this many characters from c on come back
abbrev are_back : Page → ℕ → ℕ → Bool
are_back p c zero = true
are_back p c (suc k) = is_same (char_in p (code_in p c)) c && are_back p (suc c) k

all_back : (p : Page) → are_back p 32 95 ≡ true
unfolding char_in code_in codes codes_037 codes_1047
all_back Cp037 = refl
all_back Cp1047 = refl

same_is : (o : Option ℕ) (c : ℕ) → is_same o c ≡ true → o ≡ Some c
same_is None c h = absurd cc
same_is (Some d) c h = ap Some (eqb-true d c h)

back_at : (p : Page) (k c x : ℕ) → are_back p c k ≡ true → c ≤ x → x < c + k → char_in p (code_in p x) ≡ Some x
back_at p zero c x h a b = absurd (omega (arith, a, b))
back_at p (suc k) c x h a b =
    let q = and_both (is_same (char_in p (code_in p c)) c) (are_back p (suc c) k) h in
    elim (cases_lt c x) [
      | inl w ↦ back_at p k (suc c) x q.1 (omega (arith, w)) (omega (arith, b))
      | inr w ↦ let e : c ≡ x = omega (arith, w, a) in
          subst (λ (y : ℕ). char_in p (code_in p y) ≡ Some y) e (same_is (char_in p (code_in p c)) c q.0)
    ]

pub page_back : (p : Page) (text : List ℕ) → list_all is_text text ≡ true → each (char_in p) (map (code_in p) text) ≡ Some text
page_back p [] h = refl
page_back p (c ∷ text) h =
    let q = and_both (is_text c) (list_all is_text text) h in
    let r = and_both (leb 32 c) (leb c 126) q.0 in
    rw (back_at p 95 32 c (all_back p) (leb-true 32 c r.0) (omega (arith, leb-true c 126 r.1)), page_back p text q.1) refl
