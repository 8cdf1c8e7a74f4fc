-- The first line of bytes that stand one after the other.
-- for: piece::Piece::give, lines::Lines::next
use Rattle.std.proofs.Common.{◌≡◌, ◌≢◌, ◌∙◌, ◌⊎◌, ◌++◌, ◌∷◌, [], ◌+◌, ℕ, suc, Bool, true, false, List, length, take, drop, refl, ap, sym, arith, cond}
use Rattle.std.proofs.Common.{inl, inr, nat_lt, not, subst, take-append-drop}
use Rattle.std.proofs.lemmas.Bool.Decides.{nat_tests}
use Rattle.std.specs.List.{after_first, before_first, position_or_len}
use Rattle.cli_lines.specs.Feeds.{first_line, has_line_feed, is_line_feed}

after_step : {A : Type 0} (b : Bool) (n : ℕ) (x : A) (xs : List A)
    → drop (cond (not b) (1 + n) 0 + 1) (x ∷ xs) ≡ cond b xs (drop (n + 1) xs)
after_step true n x xs = let one : 0 + 1 ≡ suc 0 = omega arith in ap (λ k. drop k (x ∷ xs)) one
after_step false n x xs = let one : (1 + n) + 1 ≡ suc (n + 1) = omega arith in ap (λ k. drop k (x ∷ xs)) one

first_step : (b : Bool) (n : ℕ) (x : ℕ) (xs : List ℕ)
    → take (cond (not b) (1 + n) 0 + 1) (x ∷ xs) ≡ cond b (x ∷ []) (x ∷ take (n + 1) xs)
first_step true n x xs = let one : 0 + 1 ≡ suc 0 = omega arith in ap (λ k. take k (x ∷ xs)) one
first_step false n x xs = let one : (1 + n) + 1 ≡ suc (n + 1) = omega arith in ap (λ k. take k (x ∷ xs)) one

before_step : {A : Type 0} (b : Bool) (n : ℕ) (x : A) (xs : List A)
    → take (cond (not b) (1 + n) 0) (x ∷ xs) ≡ cond b [] (x ∷ take n xs)
before_step true n x xs = refl
before_step false n x xs = let one : 1 + n ≡ suc n = omega arith in ap (λ k. take k (x ∷ xs)) one

has_step : (b : Bool) (n len : ℕ) → nat_lt (cond (not b) (1 + n) 0) (suc len) ≡ cond b true (nat_lt n len)
has_step true n len = grind (arith, nat_tests)
has_step false n len = grind (arith, nat_tests)

after-cons : {A : Type 0} (p : A → Bool) (x : A) (xs : List A) → after_first p (x ∷ xs) ≡ cond (p x) xs (after_first p xs)
after-cons p x xs = after_step (p x) (position_or_len p xs) x xs

first-cons : (x : ℕ) (xs : List ℕ) → first_line (x ∷ xs) ≡ cond (is_line_feed x) (x ∷ []) (x ∷ first_line xs)
first-cons x xs = first_step (is_line_feed x) (position_or_len is_line_feed xs) x xs

before-cons : {A : Type 0} (p : A → Bool) (x : A) (xs : List A) → before_first p (x ∷ xs) ≡ cond (p x) [] (x ∷ before_first p xs)
before-cons p x xs = before_step (p x) (position_or_len p xs) x xs

has-cons : (x : ℕ) (xs : List ℕ) → has_line_feed (x ∷ xs) ≡ cond (is_line_feed x) true (has_line_feed xs)
has-cons x xs = has_step (is_line_feed x) (position_or_len is_line_feed xs) (length xs)

by_first : (b : Bool) (x : ℕ) (l : List ℕ) → cond b (x ∷ []) (x ∷ l) ≡ [] → ⊥
by_first true x l none = cc
by_first false x l none = cc

pub first_some : (xs : List ℕ) → xs ≢ [] → first_line xs ≢ []
first_some [] some = absurd (some refl)
first_some (x ∷ xs) some = λ none. by_first (is_line_feed x) x (first_line xs) (sym (first-cons x xs) ∙ none)

-- bytes without a line feed, and then others

plain_by : (b rest : Bool) → cond b true rest ≡ false → (b ≡ false) × (rest ≡ false)
plain_by true rest h = cc
plain_by false rest h = (refl, h)

pub first_plain : (line ys : List ℕ) → has_line_feed line ≡ false → first_line (line ++ ys) ≡ line ++ first_line ys
first_plain [] ys plain = refl
first_plain (x ∷ xs) ys plain =
    let parts = plain_by (is_line_feed x) (has_line_feed xs) (sym (has-cons x xs) ∙ plain) in
    first-cons x (xs ++ ys) ∙ ap (λ b. cond b (x ∷ []) (x ∷ first_line (xs ++ ys))) parts.0 ∙ ap (λ l. x ∷ l) (first_plain xs ys parts.1)

pub after_plain : (line ys : List ℕ) → has_line_feed line ≡ false → after_first is_line_feed (line ++ ys) ≡ after_first is_line_feed ys
after_plain [] ys plain = refl
after_plain (x ∷ xs) ys plain =
    let parts = plain_by (is_line_feed x) (has_line_feed xs) (sym (has-cons x xs) ∙ plain) in
    after-cons is_line_feed x (xs ++ ys) ∙ ap (λ b. cond b (xs ++ ys) (after_first is_line_feed (xs ++ ys))) parts.0 ∙ after_plain xs ys parts.1

pub has_plain : (line ys : List ℕ) → has_line_feed line ≡ false → has_line_feed (line ++ ys) ≡ has_line_feed ys
has_plain [] ys plain = refl
has_plain (x ∷ xs) ys plain =
    let parts = plain_by (is_line_feed x) (has_line_feed xs) (sym (has-cons x xs) ∙ plain) in
    has-cons x (xs ++ ys) ∙ ap (λ b. cond b true (has_line_feed (xs ++ ys))) parts.0 ∙ has_plain xs ys parts.1

-- alone they are a line, which nothing follows
pub first_alone : (line : List ℕ) → has_line_feed line ≡ false → first_line line ≡ line
first_alone [] plain = refl
first_alone (x ∷ xs) plain =
    let parts = plain_by (is_line_feed x) (has_line_feed xs) (sym (has-cons x xs) ∙ plain) in
    first-cons x xs ∙ ap (λ b. cond b (x ∷ []) (x ∷ first_line xs)) parts.0 ∙ ap (λ l. x ∷ l) (first_alone xs parts.1)

pub after_alone : (line : List ℕ) → has_line_feed line ≡ false → after_first is_line_feed line ≡ []
after_alone [] plain = refl
after_alone (x ∷ xs) plain =
    let parts = plain_by (is_line_feed x) (has_line_feed xs) (sym (has-cons x xs) ∙ plain) in
    after-cons is_line_feed x xs ∙ ap (λ b. cond b xs (after_first is_line_feed xs)) parts.0 ∙ after_alone xs parts.1

-- bytes with a line feed, and then others

first_by : (b : Bool) (x : ℕ) (xs ys first rest : List ℕ) → cond b true (has_line_feed xs) ≡ true
    → (has_line_feed xs ≡ true → first ≡ rest) → cond b (x ∷ []) (x ∷ first) ≡ cond b (x ∷ []) (x ∷ rest)
first_by true x xs ys first rest has same = refl
first_by false x xs ys first rest has same = ap (λ l. x ∷ l) (same has)

pub first_whole : (xs ys : List ℕ) → has_line_feed xs ≡ true → first_line (xs ++ ys) ≡ first_line xs
first_whole [] ys has = cc
first_whole (x ∷ xs) ys has =
    first-cons x (xs ++ ys)
    ∙ first_by (is_line_feed x) x xs ys (first_line (xs ++ ys)) (first_line xs) (sym (has-cons x xs) ∙ has) (first_whole xs ys)
    ∙ sym (first-cons x xs)

after_by : (b : Bool) (xs ys rest : List ℕ) → cond b true (has_line_feed xs) ≡ true
    → (has_line_feed xs ≡ true → after_first is_line_feed (xs ++ ys) ≡ rest ++ ys)
    → cond b (xs ++ ys) (after_first is_line_feed (xs ++ ys)) ≡ cond b xs rest ++ ys
after_by true xs ys rest has same = refl
after_by false xs ys rest has same = same has

pub after_whole : (xs ys : List ℕ) → has_line_feed xs ≡ true
    → after_first is_line_feed (xs ++ ys) ≡ after_first is_line_feed xs ++ ys
after_whole [] ys has = cc
after_whole (x ∷ xs) ys has =
    after-cons is_line_feed x (xs ++ ys)
    ∙ after_by (is_line_feed x) xs ys (after_first is_line_feed xs) (sym (has-cons x xs) ∙ has) (after_whole xs ys)
    ∙ ap (λ l. l ++ ys) (sym (after-cons is_line_feed x xs))

before_by : (b : Bool) (x : ℕ) (xs first rest : List ℕ) → cond b true (has_line_feed xs) ≡ true
    → (has_line_feed xs ≡ true → first ≡ rest) → cond b [] (x ∷ first) ≡ cond b [] (x ∷ rest)
before_by true x xs first rest has same = refl
before_by false x xs first rest has same = ap (λ l. x ∷ l) (same has)

pub before_whole : (xs ys : List ℕ) → has_line_feed xs ≡ true → before_first is_line_feed (xs ++ ys) ≡ before_first is_line_feed xs
before_whole [] ys has = cc
before_whole (x ∷ xs) ys has =
    before-cons is_line_feed x (xs ++ ys)
    ∙ before_by (is_line_feed x) x xs (before_first is_line_feed (xs ++ ys)) (before_first is_line_feed xs) (sym (has-cons x xs) ∙ has) (before_whole xs ys)
    ∙ sym (before-cons is_line_feed x xs)

-- a line feed at their end

has_by : (b : Bool) → cond b true true ≡ true
has_by true = refl
has_by false = refl

pub has_ended : (text : List ℕ) → has_line_feed (text ++ 10 ∷ []) ≡ true
has_ended [] = refl
has_ended (x ∷ xs) =
    has-cons x (xs ++ 10 ∷ []) ∙ ap (λ b. cond (is_line_feed x) true b) (has_ended xs) ∙ has_by (is_line_feed x)

is_feed : (x : ℕ) → is_line_feed x ≡ true → x ≡ 10
is_feed x feed = grind (arith, nat_tests)

ended_by : (b : Bool) (x : ℕ) (xs : List ℕ) → (b ≡ true → x ≡ 10) → cond b true (has_line_feed xs) ≡ true
    → (has_line_feed xs ≡ true → (text : List ℕ) × (first_line xs ≡ text ++ 10 ∷ []))
    → (text : List ℕ) × (cond b (x ∷ []) (x ∷ first_line xs) ≡ text ++ 10 ∷ [])
ended_by true x xs feed has rest = ([], ap (λ n. n ∷ []) (feed refl))
ended_by false x xs feed has rest = let more = rest has in (x ∷ more.0, ap (λ l. x ∷ l) more.1)

-- the first line of bytes with a line feed ends in it
pub first_ended : (xs : List ℕ) → has_line_feed xs ≡ true → (text : List ℕ) × (first_line xs ≡ text ++ 10 ∷ [])
first_ended [] has = cc
first_ended (x ∷ xs) has =
    let by = ended_by (is_line_feed x) x xs (is_feed x) (sym (has-cons x xs) ∙ has) (first_ended xs) in
    (by.0, first-cons x xs ∙ by.1)

none_by : (b : Bool) (x : ℕ) (xs : List ℕ) → (b ≡ is_line_feed x) → after_first is_line_feed (first_line xs) ≡ []
    → after_first is_line_feed (cond b (x ∷ []) (x ∷ first_line xs)) ≡ []
none_by true x xs feed rest = after-cons is_line_feed x [] ∙ ap (λ c. cond c [] (after_first is_line_feed [])) (sym feed)
none_by false x xs feed rest =
    after-cons is_line_feed x (first_line xs) ∙ ap (λ c. cond c (first_line xs) (after_first is_line_feed (first_line xs))) (sym feed) ∙ rest

-- nothing follows a first line
pub first_last : (xs : List ℕ) → after_first is_line_feed (first_line xs) ≡ []
first_last [] = refl
first_last (x ∷ xs) = ap (after_first is_line_feed) (first-cons x xs) ∙ none_by (is_line_feed x) x xs refl (first_last xs)

after_ended_by : (b : Bool) (xs rest : List ℕ) → (rest ≡ []) ⊎ ((text : List ℕ) × (rest ≡ text ++ 10 ∷ []))
    → (cond b (xs ++ 10 ∷ []) rest ≡ []) ⊎ ((text : List ℕ) × (cond b (xs ++ 10 ∷ []) rest ≡ text ++ 10 ∷ []))
after_ended_by true xs rest ends = inr (xs, refl)
after_ended_by false xs rest ends = ends

-- what follows the first line of bytes that a line feed ends ends in it too
pub after_ended : (text : List ℕ) → (after_first is_line_feed (text ++ 10 ∷ []) ≡ [])
    ⊎ ((more : List ℕ) × (after_first is_line_feed (text ++ 10 ∷ []) ≡ more ++ 10 ∷ []))
after_ended [] = inl refl
after_ended (x ∷ xs) =
    subst (λ (r : List ℕ). (r ≡ []) ⊎ ((more : List ℕ) × (r ≡ more ++ 10 ∷ []))) (sym (after-cons is_line_feed x (xs ++ 10 ∷ [])))
    (after_ended_by (is_line_feed x) xs (after_first is_line_feed (xs ++ 10 ∷ [])) (after_ended xs))

-- the first line, and what follows it
pub first_parts : (xs : List ℕ) → first_line xs ++ after_first is_line_feed xs ≡ xs
first_parts xs = take-append-drop (position_or_len is_line_feed xs + 1) xs
