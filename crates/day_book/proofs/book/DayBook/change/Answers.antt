use Rattle.std.proofs.Common.{◌≡◌, ◌+◌, ◌-◌, Some, refl, sym, ap, subst, ◌∙◌, if◌then◌else◌, arith}
use Rattle.std.specs.HashMap.{get}
use Rattle.day_book.specs.declared.item.Totals.{Totals}
use Rattle.day_book.specs.declared.item.CardDay.{CardDay}
use Rattle.day_book.specs.Items.{Items, PlainDays, card_day, card_eq, request_eq, item_at}
use Rattle.day_book.specs.Changes.{in_state}
use Rattle.day_book.specs.Kept.{IsDayBook, totals_in, kept_totals}
use Rattle.day_book.proofs.Books.{keeps_set, spent_there, held_there, sums_small, no_totals, kept_none, closed_held}
use Rattle.day_book.proofs.book.DayBook.change.Goals as goal

pub overflow_sub-sums : goal.overflow_sub-sums
overflow_sub-sums c =
    let inside = c.self.inside in
    let u = c.args.item in
    let is : item_at c.args.id inside.items.entries ≡ Some u = ap (λ (z : PlainDays). item_at c.args.id z.items) c.self.view_is ∙ c.requires.there in
    let T : c.totals_of-totals.result ≡ totals_in (get card_eq inside.totals (card_day u)) =
    c.totals_of-totals.ensures ∙ ap (λ (z : CardDay). totals_in (get card_eq inside.totals z)) c.card_day-card.ensures in
    omega (arith, spent_there _ _ _ _ c.self.invariant _ _ is, c.spent_of.ensures, ap (λ (z : Totals). z.used) T)

pub overflow_add-sums : goal.overflow_add-sums
overflow_add-sums c =
    let inside = c.self.inside in
    let u = c.args.item in
    let is : item_at c.args.id inside.items.entries ≡ Some u = ap (λ (z : PlainDays). item_at c.args.id z.items) c.self.view_is ∙ c.requires.there in
    let T : c.totals_of-totals.result ≡ totals_in (get card_eq inside.totals (card_day u)) =
    c.totals_of-totals.ensures ∙ ap (λ (z : CardDay). totals_in (get card_eq inside.totals z)) c.card_day-card.ensures in
    omega (
      arith,
      spent_there _ _ _ _ c.self.invariant _ _ is,
      held_there _ _ _ _ c.self.invariant _ _ is,
      sums_small _ _ _ _ c.self.invariant _ _ is,
      c.spent_of.ensures,
      c.spent_of-2.ensures,
      c.requires.changes.less,
      ap (λ (z : Totals). z.used) T,
    )

pub overflow_sub-sums-2 : goal.overflow_sub-sums-2
overflow_sub-sums-2 c =
    let inside = c.self.inside in
    let u = c.args.item in
    let is : item_at c.args.id inside.items.entries ≡ Some u = ap (λ (z : PlainDays). item_at c.args.id z.items) c.self.view_is ∙ c.requires.there in
    let T : c.totals_of-totals.result ≡ totals_in (get card_eq inside.totals (card_day u)) =
    c.totals_of-totals.ensures ∙ ap (λ (z : CardDay). totals_in (get card_eq inside.totals z)) c.card_day-card.ensures in
    omega (arith, held_there _ _ _ _ c.self.invariant _ _ is, c.held_of.ensures, ap (λ (z : Totals). z.reserved) T)

pub set_totals-requires : goal.set_totals-requires
set_totals-requires c none =
    let inside = c.self.inside in
    let u = c.args.item in
    let is : item_at c.args.id inside.items.entries ≡ Some u = ap (λ (z : PlainDays). item_at c.args.id z.items) c.self.view_is ∙ c.requires.there in
    let zero = no_totals _ none in
    let same : get card_eq inside.totals c.card_day-card.result ≡ get card_eq inside.totals (card_day u) =
    ap (λ (z : CardDay). get card_eq inside.totals z) c.card_day-card.ensures in
    let zero_u = no_totals _ (sym same ∙ none) in
    let T = c.totals_of-totals.result in
    let used : T.used ≡ 0 = ap (λ (z : Totals). z.used) c.totals_of-totals.ensures ∙ zero.0 in
    let reserved : T.reserved ≡ 0 = ap (λ (z : Totals). z.reserved) c.totals_of-totals.ensures ∙ zero.1 in
    let spent = spent_there _ _ _ _ c.self.invariant _ _ is in
    let held = held_there _ _ _ _ c.self.invariant _ _ is in
    kept_none _ (omega (arith, used, spent, held, zero_u.0, zero_u.1, c.spent_of.ensures, c.spent_of-2.ensures, c.requires.changes.less))
    (omega (arith, reserved))

pub invariant_of-self : goal.invariant_of-self
invariant_of-self c =
    let inside = c.self.inside in
    let u = c.args.item in
    let v = in_state c.args.state u in
    let is : item_at c.args.id inside.items.entries ≡ Some u = ap (λ (z : PlainDays). item_at c.args.id z.items) c.self.view_is ∙ c.requires.there in
    let T : c.totals_of-totals.result ≡ totals_in (get card_eq inside.totals (card_day u)) =
    c.totals_of-totals.ensures ∙ ap (λ (z : CardDay). totals_in (get card_eq inside.totals z)) c.card_day-card.ensures in
    let used = ap (λ (z : Totals). z.used) T in
    let reserved = ap (λ (z : Totals). z.reserved) T in
    let s : Totals = record {
      used = c.totals_of-totals.result.used - c.spent_of.result + c.spent_of-2.result;
      reserved = c.totals_of-totals.result.reserved - c.held_of.result;
    } in
    let spent = spent_there _ _ _ _ c.self.invariant _ _ is in
    let held = held_there _ _ _ _ c.self.invariant _ _ is in
    let at = λ (d : CardDay). c.set_totals.ensures d
    ∙ ap (λ (z : CardDay). if card_eq z d then kept_totals s else get card_eq inside.totals d) c.card_day-card.ensures in
    subst (λ (z : Items). IsDayBook inside.limit z (get request_eq inside.newest) (get card_eq c.set_totals.new.totals)) (sym c.replace_item.ensures)
    (keeps_set inside.limit inside.items.entries (get request_eq inside.newest) (get card_eq inside.totals) c.self.invariant c.args.id u is v s
    (get card_eq c.set_totals.new.totals) refl refl c.requires.changes.closed c.requires.changes.less
    (omega (arith, used, spent, c.spent_of.ensures, c.spent_of-2.ensures))
    (omega (arith, reserved, held, c.held_of.ensures, closed_held v c.requires.changes.closed)) at)
