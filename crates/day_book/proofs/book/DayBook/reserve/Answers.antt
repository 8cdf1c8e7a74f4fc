use Rattle.std.proofs.Common.{◌≡◌, ◌+◌, ◌≤◌, sym, ap, subst, ◌∙◌, arith}
use Rattle.std.specs.HashMap.{get}
use Rattle.std.proofs.lemmas.Result.{on_ok_weaker}
use Rattle.sw_base.proofs.Options.{none_from}
use Rattle.day_book.specs.declared.item.Totals.{Totals}
use Rattle.day_book.specs.declared.item.CardDay.{CardDay}
use Rattle.day_book.specs.Items.{PlainDays, card_day, card_eq, used, reserved}
use Rattle.day_book.specs.Changes.{with_item}
use Rattle.day_book.specs.Kept.{totals_in}
use Rattle.day_book.proofs.Books.{sums_new, open_spent, open_held}
use Rattle.day_book.proofs.book.DayBook.reserve.Goals as goal

pub returns-clause-within : goal.returns-clause-within
returns-clause-within c =
    let inside = c.self.inside in
    let v = c.args.item in
    let a = card_day v in
    let es = inside.items.entries in
    let T : c.totals_of-totals.result ≡ totals_in (get card_eq inside.totals a) =
    c.totals_of-totals.ensures ∙ ap (λ (z : CardDay). totals_in (get card_eq inside.totals z)) c.card_day.ensures in
    let fits : used a (with_item c.args.id v es) + reserved a (with_item c.args.id v es) ≤ inside.limit =
    omega (
      arith,
      sums_new c.args.id v es (none_from _ c.if-contains_key.ensures),
      open_spent v c.requires.open,
      open_held v c.requires.open,
      c.self.invariant.spent a,
      c.self.invariant.held a,
      ap (λ (z : Totals). z.used) T,
      ap (λ (z : Totals). z.reserved) T,
      c.if-totals-item.false,
    ) in
    let fits_now = subst (λ (z : PlainDays). used a (with_item c.args.id v z.items) + reserved a (with_item c.args.id v z.items) ≤ z.limit) c.self.view_is fits in
    on_ok_weaker c.take.result
    (λ put. subst (λ (z : PlainDays). used a z.items + reserved a z.items ≤ z.limit) (sym put) fits_now) c.take.ensures.put
