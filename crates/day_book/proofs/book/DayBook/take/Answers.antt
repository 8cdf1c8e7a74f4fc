use Rattle.std.proofs.Common.{◌+◌, sym, subst, arith}
use Rattle.std.specs.HashMap.{get}
use Rattle.day_book.specs.declared.item.Totals.{Totals}
use Rattle.day_book.specs.Items.{Items, PlainDays, card_day, card_eq, request_eq}
use Rattle.day_book.specs.Kept.{IsDayBook, IsTotals, Takes}
use Rattle.day_book.proofs.Books.{keeps_new}
use Rattle.day_book.proofs.book.DayBook.take.Goals as goal

pub invariant_of-self-2 : goal.invariant_of-self-2
invariant_of-self-2 c =
    let inside = c.self.inside in
    let v = c.args.item in
    let T : Takes c.args.id v inside.items.entries = subst (λ (z : PlainDays). Takes c.args.id v z.items) (sym c.self.view_is) c.requires.takes in
    let t : IsTotals c.args.totals (card_day v) inside.items.entries =
    subst (λ (z : PlainDays). IsTotals c.args.totals (card_day v) z.items) (sym c.self.view_is) c.requires.sums in
    let s : Totals = record { used = c.args.totals.used + c.spent_of.result; reserved = c.args.totals.reserved + c.held_of.result } in
    subst (λ (z : Items). IsDayBook inside.limit z (get request_eq c.add-added.new.newest) (get card_eq c.add-added.new.totals)) (sym c.in-Ok.ensures.items)
    (keeps_new inside.limit inside.items.entries (get request_eq inside.newest) (get card_eq inside.totals) c.self.invariant c.args.id v T s
    (get request_eq c.add-added.new.newest) (get card_eq c.add-added.new.totals) (omega (arith, t.used, c.spent_of.ensures))
    (omega (arith, t.reserved, c.held_of.ensures)) c.in-Ok.ensures.newest c.in-Ok.ensures.totals)
