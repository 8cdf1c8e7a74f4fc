-- Items that are taken in one after the other, ids rising.
-- for: opening
use Rattle.std.proofs.Common.{◌≡◌, ◌<◌, ◌≤◌, ◌+◌, ℕ, ℤ, pos, Bool, true, false, not, ◌&&◌, nat_le, if◌then◌else◌, cond, List, [], ◌∷◌, ◌++◌, Option, Some, None, refl, sym, ap, subst, ◌∙◌, arith}
use Rattle.std.proofs.Common.{get_or, length, map, suc, take, zero}
use Rattle.std.proofs.lemmas.List.{take_all, take_more}
use Rattle.std.specs.declared.cmp.Ordering.{Ordering}
use Rattle.std.specs.Ordering.{nat_cmp, match_ordering}
use Rattle.std.specs.declared.cmp.Ordering.TheVariants.{Less, Equal, Greater}
use Rattle.std.proofs.lemmas.Bool.Decides.{nat_tests}
use Rattle.sqlite_rules.specs.Edit.{id_in}
use Rattle.sqlite_value.specs.Order.{Row, bytes, column}
use Rattle.book_store.specs.declared.item.Item.{Item}
use Rattle.book_store.specs.Items.{IsShown}
use Rattle.book_store.specs.Lines.{Line}
use Rattle.book_store.specs.Queries.{shown_line}
use Rattle.day_book.specs.declared.item.DayItem.{DayItem}
use Rattle.day_book.specs.declared.item.State.TheVariants.{Reversed, Used}
use Rattle.day_book.specs.Items.{Items, is_open}
use Rattle.day_book.specs.Changes.{with_item}
use Rattle.lasting_book.specs.Tied.{AreBelow, AreKept, day_item, is_kept, line_at, lines_in, mark_of}

above : (a b : ℕ) → b < a → nat_cmp a b ≡ Greater
above a b h = grind (arith, nat_tests, h)

pub below_more : (a b : ℕ) (es : Items) → a ≤ b → AreBelow a es → AreBelow b es
below_more a b [] h all = tt
below_more a b (e ∷ es) h all = (omega (arith, h, all.0), below_more a b es h all.1)

-- an item with the greatest id goes last
pub below_last : (id n : ℕ) (v : DayItem) (es : Items) → id < n → AreBelow id es → AreBelow n (with_item id v es)
below_last id n v [] h all = (h, tt)
below_last id n v (e ∷ es) h all =
    subst (λ o. AreBelow n (match_ordering o ((id, v) ∷ e ∷ es) ((e.0, v) ∷ es) (e ∷ with_item id v es))) (sym (above id e.0 all.0))
    (omega (arith, h, all.0), below_last id n v es h all.1)

pub lines_last : (reach id : ℕ) (v : DayItem) (es : Items) → AreBelow id es → is_kept reach v ≡ true
    → lines_in reach (with_item id v es) ≡ lines_in reach es ++ line_at (id, v) ∷ []
lines_last reach id v [] all kept = ap (λ b. cond b (line_at (id, v) ∷ []) []) kept
lines_last reach id v (e ∷ es) all kept =
    ap (λ o. lines_in reach (match_ordering o ((id, v) ∷ e ∷ es) ((e.0, v) ∷ es) (e ∷ with_item id v es))) (above id e.0 all.0)
    ∙ by (is_kept reach e.1) (lines_last reach id v es all.1 kept)
  where
    by : (b : Bool) → lines_in reach (with_item id v es) ≡ lines_in reach es ++ line_at (id, v) ∷ []
        → cond b (line_at e ∷ lines_in reach (with_item id v es)) (lines_in reach (with_item id v es))
        ≡ cond b (line_at e ∷ lines_in reach es) (lines_in reach es) ++ line_at (id, v) ∷ []
    by true go = ap {B = List Line} (λ z. line_at e ∷ z) go
    by false go = go

-- an item that is kept is put among those that are
pub kept_more : (reach id : ℕ) (v : DayItem) (es : Items) → is_kept reach v ≡ true → AreKept reach es → AreKept reach (with_item id v es)
kept_more reach id v [] kept all = (kept, tt)
kept_more reach id v (e ∷ es) kept all = by (nat_cmp id e.0) (kept_more reach id v es kept all.1)
  where
    by : (o : Ordering) → AreKept reach (with_item id v es)
        → AreKept reach (match_ordering o ((id, v) ∷ e ∷ es) ((e.0, v) ∷ es) (e ∷ with_item id v es))
    by Less go = (kept, all)
    by Equal go = (kept, all.1)
    by Greater go = (all.0, go)

-- what a row shows is the line of the item that was read
mark_is : (b : Bool) → mark_of (if b then Reversed else Used) ≡ (if b then pos 1 else pos 0)
mark_is true = refl
mark_is false = refl

pub line_shown : (r : Row) (l : Line) (i : Item) → r ≡ shown_line l → IsShown r i → line_at (i.id, day_item i) ≡ l
line_shown r l i is shown =
    let id : pos i.id ≡ l.id = ap id_in (sym shown.id ∙ ap (λ (z : Row). column z 0) is) in
    let card : i.card.bytes ≡ l.card = ap bytes (sym shown.card ∙ ap (λ (z : Row). column z 1) is) in
    let request : i.request.bytes ≡ l.request = ap bytes (sym shown.request ∙ ap (λ (z : Row). column z 2) is) in
    let amount : pos i.amount ≡ l.amount = ap id_in (sym shown.amount ∙ ap (λ (z : Row). column z 3) is) in
    let day : pos i.day ≡ l.day = ap id_in (sym shown.day ∙ ap (λ (z : Row). column z 4) is) in
    let reversed : mark_of (day_item i).state ≡ l.reversed = mark_is i.reversed ∙ ap id_in (sym shown.reversed ∙ ap (λ (z : Row). column z 5) is) in
    λ k. record { id = id k; card = card k; request = request k; amount = amount k; day = day k; reversed = reversed k }

closed : (i : Item) → is_open (day_item i).state ≡ false
closed i = by i.reversed
  where
    by : (b : Bool) → is_open (if b then Reversed else Used) ≡ false
    by true = refl
    by false = refl

pub kept_shown : (reach : ℕ) (i : Item) → reach ≤ i.day → is_kept reach (day_item i) ≡ true
kept_shown reach i h =
    let late : nat_le reach i.day ≡ true = grind (arith, nat_tests, h) in
    ap (λ b. not b && nat_le reach i.day) (closed i) ∙ late

no_line : Line
no_line = record { id = pos 0; card = []; request = []; amount = pos 0; day = pos 0; reversed = pos 0 }

-- a row shows the line at its place
row_at : (rows : List Row) (ls : List Line) (i : ℕ) (r : Row) → rows ≡ map shown_line ls → i < length rows → r ≡ get_or rows i r
    → r ≡ shown_line (get_or ls i no_line)
row_at rows ls i r is inside at =
    at ∙ ap (λ z. get_or z i r) is ∙ mapped ls i (subst (λ n. i < n) (ap length is ∙ same_length ls) inside)
  where
    same_length : (ls : List Line) → length (map shown_line ls) ≡ length ls
    same_length [] = refl
    same_length (l ∷ ls) = ap Rattle.std.proofs.Common.suc (same_length ls)

    mapped : (ls : List Line) (i : ℕ) → i < length ls → get_or (map shown_line ls) i r ≡ shown_line (get_or ls i no_line)
    mapped [] i h = absurd (omega (arith, h))
    mapped (l ∷ ls) zero h = refl
    mapped (l ∷ ls) (suc i) h = mapped ls i (omega (arith, h))

line_count : (rows : List Row) (ls : List Line) → rows ≡ map shown_line ls → length rows ≡ length ls
line_count rows ls is = ap length is ∙ go ls
  where
    go : (ls : List Line) → length (map shown_line ls) ≡ length ls
    go [] = refl
    go (l ∷ ls) = ap Rattle.std.proofs.Common.suc (go ls)

-- one more row was taken in
pub taken_more : (reach : ℕ) (old new : Items) (rows : List Row) (i : ℕ) (r : Row) → i < length rows → r ≡ get_or rows i r
    → ((ls : List Line) → rows ≡ map shown_line ls → lines_in reach old ≡ take i ls)
    → ((l : Line) → r ≡ shown_line l → lines_in reach new ≡ lines_in reach old ++ l ∷ [])
    → (ls : List Line) → rows ≡ map shown_line ls → lines_in reach new ≡ take (i + 1) ls
taken_more reach old new rows i r inside at so_far step ls is =
    let l = get_or ls i no_line in
    let within : i < length ls = subst (λ n. i < n) (line_count rows ls is) inside in
    step l (row_at rows ls i r is inside at) ∙ ap (λ z. z ++ l ∷ []) (so_far ls is) ∙ sym (take_more ls i no_line within)

-- all rows were taken in
pub taken_all : (reach : ℕ) (es : Items) (rows : List Row) (i : ℕ) → length rows ≤ i → ((ls : List Line) → rows ≡ map shown_line ls → lines_in reach es ≡ take i ls)
    → (ls : List Line) → rows ≡ map shown_line ls → lines_in reach es ≡ ls
taken_all reach es rows i all so_far ls is = so_far ls is ∙ take_all i ls (subst (λ n. n ≤ i) (line_count rows ls is) all)
