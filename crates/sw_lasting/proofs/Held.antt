-- What was just held is noted, or freed again: a reservation.
-- for: hold::hold
use Rattle.std.proofs.Common.{◌≡◌, ℕ, ◌∷◌, [], nat_lt, None, Result, Ok, Err, IfOk, OnErr, inl, inr, sym, ap, subst, ◌∙◌}
use Rattle.sw_context.specs.Pairs.{Pairs}
use Rattle.day_book.specs.declared.error.DayBookError.TheVariants.{AmountTooLarge, Duplicate, OverLimit}
use Rattle.day_book.specs.declared.item.DayItem.{DayItem}
use Rattle.day_book.specs.declared.item.State.TheVariants.{Open}
use Rattle.day_book.specs.Items.{Items, PlainDays, item_at, with_items}
use Rattle.day_book.specs.Changes.{released, with_item}
use Rattle.day_book.specs.Most.{max_amount}
use Rattle.day_book.specs.Taking.{is_over, is_repeat, refusal}
use Rattle.book_store.specs.Kept.{Kept}
use Rattle.lasting_book.specs.Tied.{Lasting}
use Rattle.sw_base.specs.Refusals.{refused_if}
use Rattle.sw_lasting.specs.Holding.{HeldBy, NotedBy, with_days}
use Rattle.sw_lasting.specs.Keeping.{Keeping, keeping}
use Rattle.sw_lasting.proofs.Freed.{free_after, freed}

-- a book with other items keeps these items
pub keeping_with : {S : Type 0} (b : Lasting S) (c : Lasting S) (items : Items) (today : ℕ) → c.days ≡ with_items b.days items → c.file ≡ b.file → c.reach ≡ b.reach
    → keeping c today ≡ with_days items (keeping b today)
keeping_with {S} b c items today days file reach =
    let with_parts : PlainDays → Kept S → ℕ → Keeping = λ d f r. record { days = d; reach = r; today = today; salt = f.salt } in
    ap (λ d. with_parts d c.file c.reach) days ∙ ap (λ f. with_parts (with_items b.days items) f c.reach) file
    ∙ ap (λ r. with_parts (with_items b.days items) b.file r) reach

-- what is freed after it was held leaves what is kept as it was
freed_keeping : (id : ℕ) (item : DayItem) (k : Keeping) → item.state ≡ Open → refusal k.days id item ≡ None
    → with_days (released id (with_item id item k.days.items)) k ≡ k
freed_keeping id item k opened none =
    let free = free_after (nat_lt max_amount item.amount) (is_repeat item k.days.items) (item_at id k.days.items) AmountTooLarge Duplicate
    (refused_if (is_over k.days item) OverLimit ∷ []) none
    in ap (λ items. with_days items k) (freed id item k.days.items opened free)

held_after : (id : ℕ) (item : DayItem) (k : Keeping) (x : Pairs) (byte : ℕ) (after : Keeping) (y : Pairs) → item.state ≡ Open → refusal k.days id item ≡ None
    → NotedBy id item (with_days (with_item id item k.days.items) k) x byte after y → HeldBy None id item k x byte after y
held_after id item k x byte after y opened none noted =
    elim noted [ inl h ↦ inl h | inr h ↦ inr (h.0, h.1, h.2 ∙ freed_keeping id item k opened none, h.3) ]

pub held : {E : Type 0} (r : Result ℕ E) (id : ℕ) (item : DayItem) (k : Keeping) (l : Keeping) (x : Pairs) (after : Keeping) (y : Pairs)
    → item.state ≡ Open → refusal k.days id item ≡ None → l ≡ with_days (with_item id item k.days.items) k
    → IfOk r (λ byte. NotedBy id item l x byte after y) → IfOk r (λ byte. HeldBy (refusal k.days id item) id item k x byte after y)
held (Ok byte) id item k l x after y opened none same noted =
    subst (λ r. HeldBy r id item k x byte after y) (sym none)
    (held_after id item k x byte after y opened none (subst (λ z. NotedBy id item z x byte after y) same noted))
held (Err e) id item k l x after y opened none same noted = tt

pub unheld : {E : Type 0} (r : Result ℕ E) (id : ℕ) (item : DayItem) (k : Keeping) (l : Keeping) (after : Keeping) → item.state ≡ Open
    → refusal k.days id item ≡ None → l ≡ with_days (with_item id item k.days.items) k → OnErr r (after ≡ with_days (released id l.days.items) l)
    → OnErr r (after ≡ k)
unheld (Ok byte) id item k l after opened none same kept = tt
unheld (Err e) id item k l after opened none same kept =
    subst (λ z. after ≡ with_days (released id z.days.items) z) same kept ∙ freed_keeping id item k opened none
