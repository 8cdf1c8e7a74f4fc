use Rattle.std.proofs.Common.{◌≡◌, ◌-◌, Some, refl, sym, ap, subst, arith}
use Rattle.std.specs.HashMap.{get}
use Rattle.sw_book.specs.declared.item.Totals.{Totals}
use Rattle.sw_book.specs.declared.item.State.TheVariants.{Reversed}
use Rattle.sw_book.specs.Items.{Items, item_at, key_eq, card_eq, totals_in, in_state}
use Rattle.sw_book.specs.Kept.{IsBook}
use Rattle.sw_book.proofs.Books.{keeps_set, has_totals, spent_there, used_held, used_spent, some_from}
use Rattle.sw_book.proofs.book.Book.reverse.Goals as goal

pub overflow_sub-given_back : goal.overflow_sub-given_back
overflow_sub-given_back c =
    omega (
      arith,
      spent_there _ _ _ _ _ c.self.invariant _ (sym c.in-Some-get.ensures.value),
      used_spent c.in-Some-get.found.now c.in-Used.is,
      ap (λ (z : Totals). z.used) c.totals_of-totals.ensures,
    )

pub replace_totals-requires : goal.replace_totals-requires
replace_totals-requires c = some_from _ (has_totals _ _ _ _ _ c.self.invariant _ (sym c.in-Some-get.ensures.value))

pub invariant_of-self : goal.invariant_of-self
invariant_of-self c =
    let inside = c.self.inside in
    let u = c.in-Some-get.found.now in
    let t = get card_eq inside.totals in
    let is : item_at c.in-Some.id.now inside.items.entries ≡ Some u = sym c.in-Some-get.ensures.value in
    let T = c.totals_of-totals.result in
    let used : T.used ≡ (totals_in (t u.card)).used = ap (λ (z : Totals). z.used) c.totals_of-totals.ensures in
    let reserved : T.reserved ≡ (totals_in (t u.card)).reserved = ap (λ (z : Totals). z.reserved) c.totals_of-totals.ensures in
    let held = used_held u c.in-Used.is in
    let spent = used_spent u c.in-Used.is in
    let enough = spent_there inside.limit c.in-Some.id.now inside.items.entries (get key_eq inside.ids) t c.self.invariant u is in
    let s : Totals = record { used = T.used - u.amount; reserved = T.reserved } in
    subst (λ (z : Items). IsBook inside.limit z (get key_eq inside.ids) (get card_eq c.replace_totals.new.totals)) (sym c.replace_item.ensures)
    (keeps_set inside.limit c.in-Some.id.now inside.items.entries (get key_eq inside.ids) t c.self.invariant u is s
    (get card_eq c.replace_totals.new.totals) c.replace_totals.ensures
    (omega (arith, used, reserved, enough, held, spent)) (in_state Reversed u) refl refl (omega (arith, used, spent, enough, held))
    (omega (arith, reserved, held, enough, spent)))
