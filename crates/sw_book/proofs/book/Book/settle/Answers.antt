use Rattle.std.proofs.Common.{◌≡◌, ◌+◌, ◌-◌, Some, refl, sym, ap, subst, arith}
use Rattle.std.specs.HashMap.{get}
use Rattle.sw_book.specs.declared.item.Totals.{Totals}
use Rattle.sw_book.specs.declared.item.State.TheVariants.{Used}
use Rattle.sw_book.specs.Items.{Items, item_at, key_eq, card_eq, totals_in, in_state}
use Rattle.sw_book.specs.Kept.{IsBook}
use Rattle.sw_book.proofs.Books.{keeps_set, has_totals, held_there, sums_small, open_held, open_spent, some_from}
use Rattle.sw_book.proofs.book.Book.settle.Goals as goal

pub overflow_sub-spent : goal.overflow_sub-spent
overflow_sub-spent c =
    omega (
      arith,
      held_there _ _ _ _ _ c.self.invariant _ (sym c.in-Some.ensures.value),
      open_held c.in-Some.found.now c.in-Open.is,
      ap (λ (z : Totals). z.reserved) c.totals_of-totals.ensures,
    )

pub overflow_add-spent : goal.overflow_add-spent
overflow_add-spent c = let within = sums_small _ _ _ _ _ c.self.invariant _ (sym c.in-Some.ensures.value) in let held =
    held_there _ _ _ _ _ c.self.invariant _ (sym c.in-Some.ensures.value) in let is = open_held c.in-Some.found.now c.in-Open.is in let used =
    ap (λ (z : Totals). z.used) c.totals_of-totals.ensures in let reserved = ap (λ (z : Totals). z.reserved) c.totals_of-totals.ensures in
    omega (arith, within, held, is, used, reserved, c.self.invariant.small)

pub replace_totals-requires : goal.replace_totals-requires
replace_totals-requires c = some_from _ (has_totals _ _ _ _ _ c.self.invariant _ (sym c.in-Some.ensures.value))

pub invariant_of-self : goal.invariant_of-self
invariant_of-self c =
    let inside = c.self.inside in
    let u = c.in-Some.found.now in
    let t = get card_eq inside.totals in
    let is : item_at c.args.id inside.items.entries ≡ Some u = sym c.in-Some.ensures.value in
    let T = c.totals_of-totals.result in
    let used : T.used ≡ (totals_in (t u.card)).used = ap (λ (z : Totals). z.used) c.totals_of-totals.ensures in
    let reserved : T.reserved ≡ (totals_in (t u.card)).reserved = ap (λ (z : Totals). z.reserved) c.totals_of-totals.ensures in
    let held = open_held u c.in-Open.is in
    let spent = open_spent u c.in-Open.is in
    let enough = held_there inside.limit c.args.id inside.items.entries (get key_eq inside.ids) t c.self.invariant u is in
    let s : Totals = record { used = T.used + u.amount; reserved = T.reserved - u.amount } in
    subst (λ (z : Items). IsBook inside.limit z (get key_eq inside.ids) (get card_eq c.replace_totals.new.totals)) (sym c.replace_item.ensures)
    (keeps_set inside.limit c.args.id inside.items.entries (get key_eq inside.ids) t c.self.invariant u is s (get card_eq c.replace_totals.new.totals)
    c.replace_totals.ensures
    (omega (arith, used, reserved, enough, held, spent)) (in_state Used u) refl refl (omega (arith, used, spent, enough, held))
    (omega (arith, reserved, held, enough, spent)))
