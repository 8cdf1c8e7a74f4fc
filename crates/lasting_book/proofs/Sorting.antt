-- A line put among lines that rise by id.
-- for: book::LastingBook::settle, restore
use Rattle.std.proofs.Common.{◌≡◌, ◌<ℤ◌, ℤ, pos, List, [], ◌∷◌, ◌++◌, Bool, true, false, ◌||◌, cond, filter, if◌then◌else◌, int_eq, int_lt, refl, ap, ◌∙◌, arith}
use Rattle.std.specs.List.{AllByRecursion, list_any}
use Rattle.std.proofs.lemmas.Int.{ints}
use Rattle.book_store.specs.Lines.{Line, has_id, marked, with_line}

abbrev pub Above : ℤ → List Line → Type 0
Above id = AllByRecursion (λ (l : Line). id <ℤ l.id)

not_at : (a b : ℤ) → a <ℤ b → int_eq b a ≡ false
not_at a b h = grind (arith, ints, h)

not_after : (a b : ℤ) → a <ℤ b → int_eq a b ≡ false
not_after a b h = grind (arith, ints, h)

lower : (a b : ℤ) → a <ℤ b → int_lt a b ≡ true
lower a b h = grind (arith, ints, h)

not_lower : (a b : ℤ) → a <ℤ b → int_lt b a ≡ false
not_lower a b h = grind (arith, ints, h)

own_id : (a : ℤ) → int_eq a a ≡ true
own_id a = grind (arith, ints)

pub none_above : (id : ℤ) (ls : List Line) → Above id ls → list_any (has_id id) ls ≡ false
none_above id [] h = refl
none_above id (l ∷ ls) h = ap (λ b. b || list_any (has_id id) ls) (not_at id l.id h.0) ∙ none_above id ls h.1

below_none : (id : ℤ) (ls : List Line) → Above id ls → filter (λ (l : Line). int_lt l.id id) ls ≡ []
below_none id [] h = refl
below_none id (l ∷ ls) h =
    ap (λ b. cond b (l ∷ filter (λ (m : Line). int_lt m.id id) ls) (filter (λ (m : Line). int_lt m.id id) ls)) (not_lower id l.id h.0) ∙ below_none id ls h.1

above_all : (id : ℤ) (ls : List Line) → Above id ls → filter (λ (l : Line). int_lt id l.id) ls ≡ ls
above_all id [] h = refl
above_all id (l ∷ ls) h =
    ap (λ b. cond b (l ∷ filter (λ (m : Line). int_lt id m.id) ls) (filter (λ (m : Line). int_lt id m.id) ls)) (lower id l.id h.0)
    ∙ ap {B = List Line} (λ ms. l ∷ ms) (above_all id ls h.1)

-- a line before all others
pub put_first : (new : Line) (ls : List Line) → Above new.id ls → with_line new ls ≡ new ∷ ls
put_first new ls h =
    ap (λ b. if b then ls else filter (λ (l : Line). int_lt l.id new.id) ls ++ new ∷ filter (λ (l : Line). int_lt new.id l.id) ls) (none_above new.id ls h)
    ∙ ap (λ ms. ms ++ new ∷ filter (λ (l : Line). int_lt new.id l.id) ls) (below_none new.id ls h) ∙ ap {B = List Line} (λ ms. new ∷ ms) (above_all new.id ls h)

-- a line after a lower one
pub put_behind : (new l : Line) (ls : List Line) → l.id <ℤ new.id → with_line new (l ∷ ls) ≡ l ∷ with_line new ls
put_behind new l ls h = here ∙ by (list_any (has_id new.id) ls)
  where
    lows : List Line
    lows = filter (λ (m : Line). int_lt m.id new.id) ls

    highs : List Line
    highs = filter (λ (m : Line). int_lt new.id m.id) ls

    by : (b : Bool) → (if b then l ∷ ls else (l ∷ lows) ++ new ∷ highs) ≡ l ∷ (if b then ls else lows ++ new ∷ highs)
    by true = refl
    by false = refl

    here : with_line new (l ∷ ls) ≡ (if list_any (has_id new.id) ls then l ∷ ls else (l ∷ lows) ++ new ∷ highs)
    here =
        ap (λ b. if b || list_any (has_id new.id) ls then l ∷ ls else cond (int_lt l.id new.id) (l ∷ lows) lows ++ new ∷ cond (int_lt new.id l.id) (l ∷ highs) highs)
        (not_after l.id new.id h)
        ∙ ap (λ b. if list_any (has_id new.id) ls then l ∷ ls else cond b (l ∷ lows) lows ++ new ∷ cond (int_lt new.id l.id) (l ∷ highs) highs) (lower l.id new.id h)
        ∙ ap (λ b. if list_any (has_id new.id) ls then l ∷ ls else (l ∷ lows) ++ new ∷ cond b (l ∷ highs) highs) (not_lower l.id new.id h)

-- no line above an id is marked under it
pub mark_none : (id : ℤ) (ls : List Line) → Above id ls → marked id ls ≡ ls
mark_none id [] h = refl
mark_none id (l ∷ ls) h =
    ap (λ b. (if b then record l { reversed = pos 1 } else l) ∷ marked id ls) (not_at id l.id h.0) ∙ ap {B = List Line} (λ ms. l ∷ ms) (mark_none id ls h.1)

pub mark_behind : (id : ℤ) (l : Line) (ls : List Line) → l.id <ℤ id → marked id (l ∷ ls) ≡ l ∷ marked id ls
mark_behind id l ls h = ap (λ b. (if b then record l { reversed = pos 1 } else l) ∷ marked id ls) (not_after l.id id h)

pub mark_here : (l : Line) (ls : List Line) → marked l.id (l ∷ ls) ≡ record l { reversed = pos 1 } ∷ marked l.id ls
mark_here l ls = ap (λ b. (if b then record l { reversed = pos 1 } else l) ∷ marked l.id ls) (own_id l.id)
