-- The lines that are in reach, after a change of the file.
-- for: book::LastingBook
use Rattle.std.proofs.Common.{◌≡◌, ◌≤◌, ◌<◌, ◌<ℤ◌, nat_le, ℕ, ℤ, pos, negsuc, List, [], ◌∷◌, ◌++◌, Bool, true, false, ◌||◌, ◌&&◌, not, cond, filter, if◌then◌else◌, int_eq, int_le, int_lt, Option, Some, None, refl, sym, ap, ◌∙◌, arith, true≢false}
use Rattle.std.specs.List.{list_any}
use Rattle.std.proofs.lemmas.Int.{ints}
use Rattle.book_store.specs.Lines.{Line, has_id, marked, with_line, without_lines}
use Rattle.book_store.specs.Changes.{forgotten, forgotten_of, without_if}
use Rattle.book_store.specs.Queries.{first_day, last_id}
use Rattle.std.proofs.lemmas.Bool.Decides.{nat_tests}
use Rattle.day_book.specs.declared.item.DayItem.{DayItem}
use Rattle.day_book.specs.Items.{Items, is_open}
use Rattle.lasting_book.specs.Tied.{in_reach, line_at, lines_in, reaches}

filter_append : {A : Type 0} (P : A → Bool) (xs ys : List A) → filter P (xs ++ ys) ≡ filter P xs ++ filter P ys
filter_append P [] ys = refl
filter_append {A} P (x ∷ xs) ys = by (P x) (filter_append P xs ys)
  where
    by : (b : Bool) → filter P (xs ++ ys) ≡ filter P xs ++ filter P ys
        → cond b (x ∷ filter P (xs ++ ys)) (filter P (xs ++ ys)) ≡ cond b (x ∷ filter P xs) (filter P xs) ++ filter P ys
    by true go = ap {B = List A} (λ z. x ∷ z) go
    by false go = go

filter_swap : {A : Type 0} (P Q : A → Bool) (xs : List A) → filter P (filter Q xs) ≡ filter Q (filter P xs)
filter_swap P Q [] = refl
filter_swap {A} P Q (x ∷ xs) = by (P x) refl (Q x) refl (filter_swap P Q xs)
  where
    by : (b : Bool) → P x ≡ b → (d : Bool) → Q x ≡ d → filter P (filter Q xs) ≡ filter Q (filter P xs)
        → filter P (cond d (x ∷ filter Q xs) (filter Q xs)) ≡ filter Q (cond b (x ∷ filter P xs) (filter P xs))
    by true p true q go =
        ap (λ z. cond z (x ∷ filter P (filter Q xs)) (filter P (filter Q xs))) p ∙ ap {B = List A} (λ z. x ∷ z) go
        ∙ sym (ap (λ z. cond z (x ∷ filter Q (filter P xs)) (filter Q (filter P xs))) q)
    by true p false q go = go ∙ sym (ap (λ z. cond z (x ∷ filter Q (filter P xs)) (filter Q (filter P xs))) q)
    by false p true q go = ap (λ z. cond z (x ∷ filter P (filter Q xs)) (filter P (filter Q xs))) p ∙ go
    by false p false q go = go

-- none passes among those that remain
any_filter : {A : Type 0} (P Q : A → Bool) (xs : List A) → list_any Q xs ≡ false → list_any Q (filter P xs) ≡ false
any_filter P Q [] h = refl
any_filter P Q (x ∷ xs) h = by (P x) (Q x) (any_filter P Q xs) h refl
  where
    by : (b d : Bool) → (list_any Q xs ≡ false → list_any Q (filter P xs) ≡ false) → d || list_any Q xs ≡ false → Q x ≡ d
        → list_any Q (cond b (x ∷ filter P xs) (filter P xs)) ≡ false
    by true true go h q = absurd (true≢false h)
    by true false go h q = ap (λ z. z || list_any Q (filter P xs)) q ∙ go h
    by false true go h q = absurd (true≢false h)
    by false false go h q = go h

module _ (reach : ℕ) where
  -- a line in reach is put
  pub reach_put : (new : Line) (ls : List Line) → list_any (has_id new.id) ls ≡ false → reaches reach new ≡ true
      → in_reach reach (with_line new ls) ≡ with_line new (in_reach reach ls)
  reach_put new ls free late =
      let P = reaches reach in
      let lows = λ (l : Line). int_lt l.id new.id in
      let highs = λ (l : Line). int_lt new.id l.id in
      ap (λ b. in_reach reach (if b then ls else filter lows ls ++ new ∷ filter highs ls)) free
      ∙ filter_append P (filter lows ls) (new ∷ filter highs ls)
      ∙ ap (λ b. filter P (filter lows ls) ++ cond b (new ∷ filter P (filter highs ls)) (filter P (filter highs ls))) late
      ∙ ap (λ z. z ++ new ∷ filter P (filter highs ls)) (filter_swap P lows ls)
      ∙ ap (λ z. filter lows (filter P ls) ++ new ∷ z) (filter_swap P highs ls)
      ∙ sym (ap (λ b. if b then filter P ls else filter lows (filter P ls) ++ new ∷ filter highs (filter P ls)) (any_filter P (has_id new.id) ls free))

  -- a line is marked
  pub reach_marked : (id : ℤ) (ls : List Line) → in_reach reach (marked id ls) ≡ marked id (in_reach reach ls)
  reach_marked id [] = refl
  reach_marked id (l ∷ ls) =
      ap (λ z. cond z (m ∷ in_reach reach (marked id ls)) (in_reach reach (marked id ls))) (day_kept (has_id id l))
      ∙ by (reaches reach l) (reach_marked id ls)
    where
      m : Line
      m = if has_id id l then record l { reversed = pos 1 } else l

      day_kept : (b : Bool) → reaches reach (if b then record l { reversed = pos 1 } else l) ≡ reaches reach l
      day_kept true = refl
      day_kept false = refl

      by : (d : Bool) → in_reach reach (marked id ls) ≡ marked id (in_reach reach ls)
          → cond d (m ∷ in_reach reach (marked id ls)) (in_reach reach (marked id ls)) ≡ marked id (cond d (l ∷ in_reach reach ls) (in_reach reach ls))
      by true go = ap {B = List Line} (λ z. m ∷ z) go
      by false go = go

  -- lines out of reach are forgotten
  early : (d e : ℤ) → d <ℤ pos reach → int_eq e d ≡ true → int_le (pos reach) e ≡ false
  early d e low at = grind (arith, ints, low, at)

  beyond : (l : Line) → int_le (pos reach) l.day ≡ false → reaches reach l ≡ false
  beyond l h = ap (λ b. int_lt (negsuc 0) l.id && b) h ∙ none (int_lt (negsuc 0) l.id)
    where
      none : (b : Bool) → (b && false) ≡ false
      none true = refl
      none false = refl

  reach_without : (d last : ℤ) (ls : List Line) → d <ℤ pos reach → in_reach reach (without_lines d last ls) ≡ in_reach reach ls
  reach_without d last [] low = refl
  reach_without d last (l ∷ ls) low = by (int_eq l.day d) refl (int_le l.id last) (reach_without d last ls low)
    where
      rest : List Line
      rest = in_reach reach (without_lines d last ls)

      by : (b : Bool) → int_eq l.day d ≡ b → (k : Bool) → rest ≡ in_reach reach ls
          → in_reach reach (cond (not (b && k)) (l ∷ without_lines d last ls) (without_lines d last ls)) ≡ in_reach reach (l ∷ ls)
      by true at true go = go ∙ sym (ap (λ z. cond z (l ∷ in_reach reach ls) (in_reach reach ls)) (beyond l (early d l.day low at)))
      by true at false go = ap (λ z. cond (reaches reach l) (l ∷ z) z) go
      by false at k go = ap (λ z. cond (reaches reach l) (l ∷ z) z) go

  lower : (before : ℕ) (d : ℤ) → before ≤ reach → int_lt d (pos before) ≡ true → d <ℤ pos reach
  lower before d low is = grind (arith, ints, low, is)

  pub reach_forgotten : (before : ℕ) (most : ℤ) (ls : List Line) → before ≤ reach → in_reach reach (forgotten (pos before) most ls) ≡ in_reach reach ls
  reach_forgotten before most ls low = go (first_day (pos 0) ls)
    where
      gone : (d : ℤ) (o : Option ℤ) → d <ℤ pos reach → in_reach reach (without_if d o ls) ≡ in_reach reach ls
      gone d None less = refl
      gone d (Some last) less = reach_without d last ls less

      go : (o : Option ℤ) → in_reach reach (forgotten_of (pos before) most o ls) ≡ in_reach reach ls
      go None = refl
      go (Some d) = by (int_lt d (pos before)) refl
        where
          by : (b : Bool) → int_lt d (pos before) ≡ b → in_reach reach (if b then without_if d (last_id d most ls) ls else ls) ≡ in_reach reach ls
          by true is = gone d (last_id d most ls) (lower before d low is)
          by false is = refl

-- fewer days are in reach
later : (a b : ℕ) (d : ℤ) → a ≤ b → int_le (pos b) d ≡ true → int_le (pos a) d ≡ true
later a b d h is = grind (arith, ints, h, is)

later_line : (a b : ℕ) (l : Line) → a ≤ b → reaches b l ≡ true → reaches a l ≡ true
later_line a b l h is = by (int_lt (negsuc 0) l.id) is
  where
    by : (n : Bool) → (n && int_le (pos b) l.day) ≡ true → (n && int_le (pos a) l.day) ≡ true
    by true is = later a b l.day h is
    by false is = absurd (true≢false (sym is))

pub reach_more : (a b : ℕ) (ls : List Line) → a ≤ b → in_reach b ls ≡ in_reach b (in_reach a ls)
reach_more a b [] h = refl
reach_more a b (l ∷ ls) h = by (reaches a l) refl (reaches b l) refl (reach_more a b ls h)
  where
    by : (p : Bool) → reaches a l ≡ p → (q : Bool) → reaches b l ≡ q → in_reach b ls ≡ in_reach b (in_reach a ls)
        → cond q (l ∷ in_reach b ls) (in_reach b ls) ≡ in_reach b (cond p (l ∷ in_reach a ls) (in_reach a ls))
    by true p true q go =
        ap {B = List Line} (λ z. l ∷ z) go ∙ sym (ap (λ z. cond z (l ∷ in_reach b (in_reach a ls)) (in_reach b (in_reach a ls))) q)
    by true p false q go = go ∙ sym (ap (λ z. cond z (l ∷ in_reach b (in_reach a ls)) (in_reach b (in_reach a ls))) q)
    by false p true q go = absurd (true≢false (sym (later_line a b l h q) ∙ p))
    by false p false q go = go

-- a line of an item is in reach with the item's day
from_0 : (n : ℕ) → int_lt (negsuc 0) (pos n) ≡ true
from_0 n = grind (arith, ints)

day_in : (b d : ℕ) (q : Bool) → nat_le b d ≡ q → int_le (pos b) (pos d) ≡ q
day_in b d true is = let n : b ≤ d = grind (arith, nat_tests, is) in grind (arith, ints, n)
day_in b d false is = let n : d < b = grind (arith, nat_tests, is) in grind (arith, ints, n)

pub line_reaches : (b : ℕ) (e : ℕ × DayItem) (q : Bool) → nat_le b e.1.day ≡ q → reaches b (line_at e) ≡ q
line_reaches b e q is = ap (λ n. n && int_le (pos b) (pos e.1.day)) (from_0 e.0) ∙ day_in b e.1.day q is

pub lines_more : (a b : ℕ) (es : Items) → a ≤ b → lines_in b es ≡ in_reach b (lines_in a es)
lines_more a b [] h = refl
lines_more a b (e ∷ es) h = by (not (is_open e.1.state)) (nat_le a e.1.day) refl (nat_le b e.1.day) refl (lines_more a b es h)
  where
    past : nat_le a e.1.day ≡ false → nat_le b e.1.day ≡ true → ⊥
    past is is' =
        let n : e.1.day < a = grind (arith, nat_tests, is) in
        let m : b ≤ e.1.day = grind (arith, nat_tests, is') in
        omega (arith, n, m, h)

    by : (o p : Bool) → nat_le a e.1.day ≡ p → (q : Bool) → nat_le b e.1.day ≡ q → lines_in b es ≡ in_reach b (lines_in a es)
        → cond (o && q) (line_at e ∷ lines_in b es) (lines_in b es) ≡ in_reach b (cond (o && p) (line_at e ∷ lines_in a es) (lines_in a es))
    by false p is q is' go = go
    by true true is true is' go =
        ap {B = List Line} (λ z. line_at e ∷ z) go
        ∙ sym (ap (λ z. cond z (line_at e ∷ in_reach b (lines_in a es)) (in_reach b (lines_in a es))) (line_reaches b e true is'))
    by true true is false is' go =
        go ∙ sym (ap (λ z. cond z (line_at e ∷ in_reach b (lines_in a es)) (in_reach b (lines_in a es))) (line_reaches b e false is'))
    by true false is true is' go = absurd (past is is')
    by true false is false is' go = go
