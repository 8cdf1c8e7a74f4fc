use Rattle.std.proofs.Common.{◌≡◌, ◌+◌, ◌-◌, cond, Some, None, sym, ap, subst, ◌∙◌, if◌then◌else◌, arith}
use Rattle.std.specs.HashMap.{get}
use Rattle.day_book.specs.declared.item.Totals.{Totals}
use Rattle.day_book.specs.declared.item.CardDay.{CardDay}
use Rattle.day_book.specs.declared.item.RequestDay.{RequestDay}
use Rattle.day_book.specs.Items.{Items, PlainDays, card_day, card_eq, request_day, request_eq, item_at, total, newest}
use Rattle.day_book.specs.Kept.{totals_in, kept_totals}
use Rattle.day_book.proofs.Sums.{share, total-out}
use Rattle.day_book.proofs.Alone.{found-out}
use Rattle.day_book.proofs.Books.{keeps_out, held_there, open_spent, newest-release}
use Rattle.day_book.proofs.book.DayBook.release.Goals as goal

pub overflow_sub-sums : goal.overflow_sub-sums
overflow_sub-sums c =
    let inside = c.self.inside in
    let u = c.in-Some.item in
    let is : item_at c.args.id inside.items.entries ≡ Some u = ap (λ (z : PlainDays). item_at c.args.id z.items) c.self.view_is ∙ sym c.in-Some.ensures in
    let T : c.totals_of-totals.result ≡ totals_in (get card_eq inside.totals (card_day u)) =
    c.totals_of-totals.ensures ∙ ap (λ (z : CardDay). totals_in (get card_eq inside.totals z)) c.card_day-card.ensures in
    omega (arith, held_there _ _ _ _ c.self.invariant _ _ is, c.held_of.ensures, ap (λ (z : Totals). z.reserved) T)

pub invariant_of-self : goal.invariant_of-self
invariant_of-self c =
    let inside = c.self.inside in
    let u = c.in-Some.item in
    let es = inside.items.entries in
    let is : item_at c.args.id es ≡ Some u = ap (λ (z : PlainDays). item_at c.args.id z.items) c.self.view_is ∙ sym c.in-Some.ensures in
    let T : c.totals_of-totals.result ≡ totals_in (get card_eq inside.totals (card_day u)) =
    c.totals_of-totals.ensures ∙ ap (λ (z : CardDay). totals_in (get card_eq inside.totals z)) c.card_day-card.ensures in
    let used = ap (λ (z : Totals). z.used) T in
    let reserved = ap (λ (z : Totals). z.reserved) T in
    let s : Totals = record { used = c.totals_of-totals.result.used; reserved = c.totals_of-totals.result.reserved - c.held_of.result } in
    let held = held_there _ _ _ _ c.self.invariant _ _ is in
    let at = λ (d : CardDay). c.set_totals.ensures d
    ∙ ap (λ (z : CardDay). if card_eq z d then kept_totals s else get card_eq inside.totals d) c.card_day-card.ensures in
    let left = λ (q : RequestDay). c.remove-2.ensures.updates.0 q
    ∙ ap (λ (z : RequestDay). if request_eq z q then None else get request_eq inside.newest q) c.request_day.ensures in
    let es' = c.remove.new.self.entries in
    keeps_out inside.limit es (get request_eq inside.newest) (get card_eq inside.totals) c.self.invariant u es' s
    (get request_eq c.remove-2.new.self) (get card_eq c.set_totals.new.totals)
    (λ p w. subst (λ (z : Items). total p w z + share p w u ≡ total p w es) (sym c.remove.ensures.entries) (total-out p w c.args.id u es is))
    (λ i x. found-out i x _ _ _ (c.remove.ensures.updates.0 i))
    (λ q. left q ∙ subst (λ (z : Items). cond (request_eq (request_day u) q) None (get request_eq inside.newest q) ≡ newest q z) (sym c.remove.ensures.entries)
    (newest-release inside.limit es (get request_eq inside.newest) (get card_eq inside.totals) c.self.invariant c.args.id u is c.in-Open.is q))
    (omega (arith, used, open_spent u c.in-Open.is)) (omega (arith, reserved, held, c.held_of.ensures)) at
