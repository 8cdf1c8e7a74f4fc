use Rattle.std.proofs.Common.{◌≡◌, ◌-◌, ◌∷◌, false, Some, ap, subst, ◌∙◌, if◌then◌else◌, slice_get, arith}
use Rattle.std.specs.HashMap.{get}
use Rattle.day_book.specs.declared.item.Totals.{Totals}
use Rattle.day_book.specs.declared.item.CardDay.{CardDay}
use Rattle.day_book.specs.declared.item.RequestDay.{RequestDay}
use Rattle.day_book.specs.Items.{Items, card_day, card_eq, request_eq, item_at, is_open}
use Rattle.day_book.specs.Kept.{IsDayBook, totals_in, kept_totals, newest_left}
use Rattle.day_book.proofs.Alone.{found-out}
use Rattle.day_book.proofs.Books.{keeps_out, spent_there, closed_held, newest-forget, first_there, first_closed}
use Rattle.day_book.proofs.book.DayBook.forget.Goals as goal

pub invariant_of-self : goal.invariant_of-self
invariant_of-self c =
    let inside = c.self.inside in
    let u = c.in-Some-pop_first.item in
    let id = c.in-Some-pop_first.id in
    let es = inside.items.entries in
    let es' = c.pop_first.new.self.entries in
    let split : es ≡ (id, u) ∷ es' = c.in-Some-pop_first.ensures.removal in
    let first : slice_get es 0 ≡ Some (c.in-Some.field-0-0.now, c.in-Some.first.now) = c.in-Some.ensures.first in
    let closed : is_open u.state ≡ false = first_closed u _ es' first split c.if-is_open.ensures in
    let B : IsDayBook inside.limit ((id, u) ∷ es') (get request_eq inside.newest) (get card_eq inside.totals) =
    subst (λ (z : Items). IsDayBook inside.limit z (get request_eq inside.newest) (get card_eq inside.totals)) split c.self.invariant in
    let T : c.totals_of-totals.result ≡ totals_in (get card_eq inside.totals (card_day u)) =
    c.totals_of-totals.ensures ∙ ap (λ (z : CardDay). totals_in (get card_eq inside.totals z)) c.card_day-card.ensures in
    let used = ap (λ (z : Totals). z.used) T in
    let reserved = ap (λ (z : Totals). z.reserved) T in
    let s : Totals = record { used = c.totals_of-totals.result.used - c.spent_of.result; reserved = c.totals_of-totals.result.reserved } in
    let spent = spent_there inside.limit ((id, u) ∷ es') (get request_eq inside.newest) (get card_eq inside.totals) B id u (first_there id u es') in
    let at = λ (d : CardDay). c.set_totals.ensures d
    ∙ ap (λ (z : CardDay). if card_eq z d then kept_totals s else get card_eq inside.totals d) c.card_day-card.ensures in
    let left = λ (q : RequestDay). c.drop_newest.ensures q
    ∙ ap (λ (z : RequestDay). if request_eq z q then newest_left id (get request_eq inside.newest z) else get request_eq inside.newest q) c.request_day.ensures in
    keeps_out inside.limit ((id, u) ∷ es') (get request_eq inside.newest) (get card_eq inside.totals) B u es' s
    (get request_eq c.drop_newest.new.newest) (get card_eq c.set_totals.new.totals)
    (λ p w. omega arith)
    (λ i x h. subst (λ (z : Items). item_at i z ≡ Some x) split (found-out i x _ _ _ (c.in-Some-pop_first.ensures.updates.0 i) h))
    (λ q. left q ∙ newest-forget inside.limit id u es' (get request_eq inside.newest) (get card_eq inside.totals) B c.in-Some-pop_first.ensures.all_above q)
    (omega (arith, used, spent, c.spent_of.ensures)) (omega (arith, reserved, closed_held u closed)) at
