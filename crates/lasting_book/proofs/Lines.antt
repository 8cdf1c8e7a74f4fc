-- The lines of the items in memory, after an item was put, changed or taken out.
-- for: book::LastingBook
use Rattle.std.proofs.Common.{◌≡◌, ◌<ℤ◌, ℕ, ℤ, pos, ◌<◌, List, [], ◌∷◌, Bool, true, false, ◌&&◌, not, cond, Some, None, unwrap_or, refl, sym, ap, subst, ◌∙◌, arith}
use Rattle.std.proofs.Common.{nat_le}
use Rattle.std.specs.List.{AllByRecursion}
use Rattle.std.specs.List.Sorted.{IsStrictlySortedBy}
use Rattle.std.specs.Map.{keys_of}
use Rattle.std.specs.Ordering.{nat_cmp, is_eq, match_ordering}
use Rattle.std.specs.declared.cmp.Ordering.{Ordering}
use Rattle.std.specs.declared.cmp.Ordering.TheVariants.{Less, Equal, Greater}
use Rattle.std.specs.BTreeMap.{is_at}
use Rattle.std.proofs.lemmas.Bool.Decides.{nat_tests}
use Rattle.std.proofs.lemmas.Int.{ints}
use Rattle.day_book.specs.declared.item.DayItem.{DayItem}
use Rattle.day_book.specs.declared.item.State.TheVariants.{Reversed}
use Rattle.day_book.specs.Items.{Items, item_at, is_open}
use Rattle.day_book.specs.Changes.{with_item, in_its_place, without, in_state}
use Rattle.book_store.specs.Lines.{Line, marked, with_line}
use Rattle.lasting_book.specs.Tied.{lines_in, line_at, is_kept}
use Rattle.lasting_book.proofs.Sorting.{Above, put_first, put_behind, mark_none, mark_behind, mark_here}

-- ids in order, as numbers of lines
less : (a b : ℕ) → nat_cmp a b ≡ Less → pos a <ℤ pos b
less a b h = let n : a < b = grind (arith, nat_tests, h) in omega (arith, ints, n)

more : (a b : ℕ) → nat_cmp a b ≡ Greater → pos b <ℤ pos a
more a b h = let n : b < a = grind (arith, nat_tests, h) in omega (arith, ints, n)

through : (a b c : ℕ) → nat_cmp a b ≡ Less → nat_cmp b c ≡ Less → nat_cmp a c ≡ Less
through a b c h k = grind (arith, nat_tests, h, k)

all_through : (a b : ℕ) (ks : List ℕ) → nat_cmp a b ≡ Less → AllByRecursion (λ k. nat_cmp b k ≡ Less) ks → AllByRecursion (λ k. nat_cmp a k ≡ Less) ks
all_through a b [] h all = tt
all_through a b (k ∷ ks) h all = (through a b k h all.0, all_through a b ks h all.1)

same : (a b : ℕ) → is_at (nat_cmp a) b ≡ true → a ≡ b
same a b h = grind (arith, nat_tests, h)

-- the first of sorted ids is below the others, which are sorted
head_below : (k : ℕ) (ks : List ℕ) → IsStrictlySortedBy nat_cmp (k ∷ ks) → AllByRecursion (λ q. nat_cmp k q ≡ Less) ks
unfolding IsStrictlySortedBy
head_below k ks h = h.0

tail_sorted : (k : ℕ) (ks : List ℕ) → IsStrictlySortedBy nat_cmp (k ∷ ks) → IsStrictlySortedBy nat_cmp ks
unfolding IsStrictlySortedBy
tail_sorted k ks h = h.1

-- an item further on has a greater id
found_above : (k id : ℕ) (u : DayItem) (es : Items) → AllByRecursion (λ q. nat_cmp k q ≡ Less) (keys_of es) → item_at id es ≡ Some u → nat_cmp k id ≡ Less
found_above k id u [] all h = absurd (let e = h in cc)
found_above k id u (e ∷ es) all h = by (is_at (nat_cmp id) e.0) refl (found_above k id u es all.1) h
  where
    by : (b : Bool) → is_at (nat_cmp id) e.0 ≡ b → (item_at id es ≡ Some u → nat_cmp k id ≡ Less) → cond b (Some e.1) (item_at id es) ≡ Some u → nat_cmp k id ≡ Less
    by true at go h = subst (λ z. nat_cmp k z ≡ Less) (sym (same id e.0 at)) all.0
    by false at go h = go h

module _ (reach : ℕ) where
  -- lines of items above an id are above it
  lines_above : (id : ℕ) (es : Items) → AllByRecursion (λ k. nat_cmp id k ≡ Less) (keys_of es) → Above (pos id) (lines_in reach es)
  lines_above id [] all = tt
  lines_above id (e ∷ es) all = by (is_kept reach e.1) (lines_above id es all.1)
    where
      by : (b : Bool) → Above (pos id) (lines_in reach es) → Above (pos id) (cond b (line_at e ∷ lines_in reach es) (lines_in reach es))
      by true go = (less id e.0 all.0, go)
      by false go = go

  kept_as : (e : ℕ × DayItem) (es : Items) (b : Bool) → is_kept reach e.1 ≡ b → lines_in reach (e ∷ es) ≡ cond b (line_at e ∷ lines_in reach es) (lines_in reach es)
  kept_as e es b h = ap (λ z. cond z (line_at e ∷ lines_in reach es) (lines_in reach es)) h

  under : (e : ℕ × DayItem) (xs ys : List Line) → xs ≡ ys → cond (is_kept reach e.1) (line_at e ∷ xs) xs ≡ cond (is_kept reach e.1) (line_at e ∷ ys) ys
  under e xs ys h = ap (λ z. cond (is_kept reach e.1) (line_at e ∷ z) z) h

  -- an item that the file does not have comes and goes
  pub unkept_new : (id : ℕ) (v : DayItem) (es : Items) → is_kept reach v ≡ false → item_at id es ≡ None → lines_in reach (with_item id v es) ≡ lines_in reach es
  unkept_new id v [] out h = kept_as (id, v) [] false out
  unkept_new id v (e ∷ es) out h = by (nat_cmp id e.0) (unkept_new id v es out) h
    where
      by : (o : Ordering) → (item_at id es ≡ None → lines_in reach (with_item id v es) ≡ lines_in reach es) → cond (is_eq o) (Some e.1) (item_at id es) ≡ None
          → lines_in reach (match_ordering o ((id, v) ∷ e ∷ es) ((e.0, v) ∷ es) (e ∷ with_item id v es)) ≡ lines_in reach (e ∷ es)
      by Less go h = kept_as (id, v) (e ∷ es) false out
      by Equal go h = absurd (let f = h in cc)
      by Greater go h = under e (lines_in reach (with_item id v es)) (lines_in reach es) (go h)

  pub unkept_out : (id : ℕ) (u : DayItem) (es : Items) → is_kept reach u ≡ false → item_at id es ≡ Some u → lines_in reach (without id es) ≡ lines_in reach es
  unkept_out id u [] out h = absurd (let f = h in cc)
  unkept_out id u (e ∷ es) out h = by (is_at (nat_cmp id) e.0) (unkept_out id u es out) h
    where
      by : (b : Bool) → (item_at id es ≡ Some u → lines_in reach (without id es) ≡ lines_in reach es) → cond b (Some e.1) (item_at id es) ≡ Some u
          → lines_in reach (cond b es (e ∷ without id es)) ≡ lines_in reach (e ∷ es)
      by true go h = sym (kept_as e es false (ap (λ o. is_kept reach (unwrap_or o u)) h ∙ out))
      by false go h = under e (lines_in reach (without id es)) (lines_in reach es) (go h)

  pub unkept_set : (id : ℕ) (u v : DayItem) (es : Items) → is_kept reach u ≡ false → is_kept reach v ≡ false → item_at id es ≡ Some u
      → lines_in reach (in_its_place id v es) ≡ lines_in reach es
  unkept_set id u v [] out out_v h = absurd (let f = h in cc)
  unkept_set id u v (e ∷ es) out out_v h = by (is_at (nat_cmp id) e.0) (unkept_set id u v es out out_v) h
    where
      by : (b : Bool) → (item_at id es ≡ Some u → lines_in reach (in_its_place id v es) ≡ lines_in reach es) → cond b (Some e.1) (item_at id es) ≡ Some u
          → lines_in reach (cond b ((e.0, v) ∷ es) (e ∷ in_its_place id v es)) ≡ lines_in reach (e ∷ es)
      by true go h = kept_as (e.0, v) es false out_v ∙ sym (kept_as e es false (ap (λ o. is_kept reach (unwrap_or o u)) h ∙ out))
      by false go h = under e (lines_in reach (in_its_place id v es)) (lines_in reach es) (go h)

  -- a line behind that of a lower id, if that is kept
  behind : (e : ℕ × DayItem) (new : Line) (xs ls : List Line) → pos e.0 <ℤ new.id → xs ≡ with_line new ls
      → cond (is_kept reach e.1) (line_at e ∷ xs) xs ≡ with_line new (cond (is_kept reach e.1) (line_at e ∷ ls) ls)
  behind e new xs ls lower h = by (is_kept reach e.1)
    where
      by : (b : Bool) → cond b (line_at e ∷ xs) xs ≡ with_line new (cond b (line_at e ∷ ls) ls)
      by true = ap {B = List Line} (λ z. line_at e ∷ z) h ∙ sym (put_behind new (line_at e) ls lower)
      by false = h

  -- an open item becomes one that the file has
  pub kept_set : (id : ℕ) (u v : DayItem) (es : Items) → is_kept reach u ≡ false → is_kept reach v ≡ true → item_at id es ≡ Some u
      → IsStrictlySortedBy nat_cmp (keys_of es) → lines_in reach (in_its_place id v es) ≡ with_line (line_at (id, v)) (lines_in reach es)
  kept_set id u v [] out kept h sorted = absurd (let f = h in cc)
  kept_set id u v (e ∷ es) out kept h sorted =
      by (is_at (nat_cmp id) e.0) refl (λ z. kept_set id u v es out kept z (tail_sorted e.0 (keys_of es) sorted)) h
    where
      all : AllByRecursion (λ q. nat_cmp e.0 q ≡ Less) (keys_of es)
      all = head_below e.0 (keys_of es) sorted

      by : (b : Bool) → is_at (nat_cmp id) e.0 ≡ b → (item_at id es ≡ Some u → lines_in reach (in_its_place id v es) ≡ with_line (line_at (id, v)) (lines_in reach es))
          → cond b (Some e.1) (item_at id es) ≡ Some u
          → lines_in reach (cond b ((e.0, v) ∷ es) (e ∷ in_its_place id v es)) ≡ with_line (line_at (id, v)) (lines_in reach (e ∷ es))
      by true at go h =
          let gone : lines_in reach (e ∷ es) ≡ lines_in reach es = kept_as e es false (ap (λ o. is_kept reach (unwrap_or o u)) h ∙ out) in
          let is : id ≡ e.0 = same id e.0 at in
          let first : with_line (line_at (e.0, v)) (lines_in reach es) ≡ line_at (e.0, v) ∷ lines_in reach es =
          put_first (line_at (e.0, v)) (lines_in reach es) (lines_above e.0 es all) in
          kept_as (e.0, v) es true kept ∙ sym first ∙ ap (λ ls. with_line (line_at (e.0, v)) ls) (sym gone)
          ∙ ap (λ k. with_line (line_at (k, v)) (lines_in reach (e ∷ es))) (sym is)
      by false at go h =
          behind e (line_at (id, v)) (lines_in reach (in_its_place id v es)) (lines_in reach es) (less e.0 id (found_above e.0 id u es all h)) (go h)

  -- an item that the file has comes
  pub kept_new : (id : ℕ) (v : DayItem) (es : Items) → is_kept reach v ≡ true → item_at id es ≡ None → IsStrictlySortedBy nat_cmp (keys_of es)
      → lines_in reach (with_item id v es) ≡ with_line (line_at (id, v)) (lines_in reach es)
  kept_new id v [] kept h sorted = kept_as (id, v) [] true kept
  kept_new id v (e ∷ es) kept h sorted = by (nat_cmp id e.0) refl (λ z. kept_new id v es kept z (tail_sorted e.0 (keys_of es) sorted)) h
    where
      all : AllByRecursion (λ q. nat_cmp e.0 q ≡ Less) (keys_of es)
      all = head_below e.0 (keys_of es) sorted

      by : (o : Ordering) → nat_cmp id e.0 ≡ o → (item_at id es ≡ None → lines_in reach (with_item id v es) ≡ with_line (line_at (id, v)) (lines_in reach es))
          → cond (is_eq o) (Some e.1) (item_at id es) ≡ None
          → lines_in reach (match_ordering o ((id, v) ∷ e ∷ es) ((e.0, v) ∷ es) (e ∷ with_item id v es)) ≡ with_line (line_at (id, v)) (lines_in reach (e ∷ es))
      by Less at go h =
          kept_as (id, v) (e ∷ es) true kept
          ∙ sym (put_first (line_at (id, v)) (lines_in reach (e ∷ es)) (lines_above id (e ∷ es) (at, all_through id e.0 (keys_of es) at all)))
      by Equal at go h = absurd (let f = h in cc)
      by Greater at go h = behind e (line_at (id, v)) (lines_in reach (with_item id v es)) (lines_in reach es) (more id e.0 at) (go h)

  -- a marked line behind that of a lower id, if that is kept
  mark_after : (e : ℕ × DayItem) (id : ℤ) (xs ls : List Line) → pos e.0 <ℤ id → xs ≡ marked id ls
      → cond (is_kept reach e.1) (line_at e ∷ xs) xs ≡ marked id (cond (is_kept reach e.1) (line_at e ∷ ls) ls)
  mark_after e id xs ls lower h = by (is_kept reach e.1)
    where
      by : (b : Bool) → cond b (line_at e ∷ xs) xs ≡ marked id (cond b (line_at e ∷ ls) ls)
      by true = ap {B = List Line} (λ z. line_at e ∷ z) h ∙ sym (mark_behind id (line_at e) ls lower)
      by false = h

  -- an item that is not open is reversed
  pub marked_set : (id : ℕ) (u : DayItem) (es : Items) → is_open u.state ≡ false → item_at id es ≡ Some u
      → IsStrictlySortedBy nat_cmp (keys_of es) → lines_in reach (in_its_place id (in_state Reversed u) es) ≡ marked (pos id) (lines_in reach es)
  marked_set id u [] closed h sorted = absurd (let f = h in cc)
  marked_set id u (e ∷ es) closed h sorted =
      by (is_at (nat_cmp id) e.0) refl (λ z. marked_set id u es closed z (tail_sorted e.0 (keys_of es) sorted)) h
    where
      all : AllByRecursion (λ q. nat_cmp e.0 q ≡ Less) (keys_of es)
      all = head_below e.0 (keys_of es) sorted

      rest : List Line
      rest = lines_in reach es

      none : marked (pos e.0) rest ≡ rest
      none = mark_none (pos e.0) rest (lines_above e.0 es all)

      own : (b : Bool) → cond b (line_at (e.0, in_state Reversed u) ∷ rest) rest ≡ marked (pos e.0) (cond b (line_at (e.0, u) ∷ rest) rest)
      own true = ap {B = List Line} (λ z. line_at (e.0, in_state Reversed u) ∷ z) (sym none) ∙ sym (mark_here (line_at (e.0, u)) rest)
      own false = sym none

      both : is_kept reach (in_state Reversed u) ≡ is_kept reach u
      both = sym (ap (λ b. not b && nat_le reach u.day) closed)

      by : (b : Bool) → is_at (nat_cmp id) e.0 ≡ b
          → (item_at id es ≡ Some u → lines_in reach (in_its_place id (in_state Reversed u) es) ≡ marked (pos id) (lines_in reach es))
          → cond b (Some e.1) (item_at id es) ≡ Some u
          → lines_in reach (cond b ((e.0, in_state Reversed u) ∷ es) (e ∷ in_its_place id (in_state Reversed u) es)) ≡ marked (pos id) (lines_in reach (e ∷ es))
      by true at go h =
          let is : id ≡ e.0 = same id e.0 at in
          let there : e.1 ≡ u = ap (λ o. unwrap_or o u) h in
          kept_as (e.0, in_state Reversed u) es (is_kept reach u) both ∙ own (is_kept reach u)
          ∙ ap (λ z. marked (pos e.0) (lines_in reach ((e.0, z) ∷ es))) (sym there) ∙ ap (λ k. marked (pos k) (lines_in reach (e ∷ es))) (sym is)
      by false at go h =
          mark_after e (pos id) (lines_in reach (in_its_place id (in_state Reversed u) es)) rest (less e.0 id (found_above e.0 id u es all h)) (go h)

  -- the first item is out of reach
  pub past_out : (e : ℕ × DayItem) (es : Items) → is_kept reach e.1 ≡ false → lines_in reach es ≡ lines_in reach (e ∷ es)
  past_out e es out = sym (kept_as e es false out)
