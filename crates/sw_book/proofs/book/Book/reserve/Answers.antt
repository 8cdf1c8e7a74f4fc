use Rattle.std.proofs.Common.{◌≡◌, ◌+◌, cond, Some, None, refl, sym, ap, subst, ◌∙◌, arith}
use Rattle.std.specs.HashMap.{get}
use Rattle.sw_book.specs.declared.item.Totals.{Totals}
use Rattle.sw_book.specs.declared.item.Item.{Item}
use Rattle.sw_book.specs.declared.item.State.TheVariants.{Open}
use Rattle.sw_book.specs.Items.{Items, item_at, key_eq, card_eq, totals_in}
use Rattle.sw_book.specs.Kept.{IsBook}
use Rattle.sw_book.proofs.Books.{keeps_new}
use Rattle.sw_book.proofs.book.Book.reserve.Goals as goal
use Rattle.sw_base.proofs.Options.{none_from}

pub invariant_of-self-2 : goal.invariant_of-self-2
invariant_of-self-2 c =
    let inside = c.self.inside in
    let t = get card_eq inside.totals in
    let v : Item = record { card = c.args.card; key = c.args.key; amount = c.args.amount; state = Open } in
    let none : item_at c.args.id inside.items.entries ≡ None = none_from _ c.if-contains_key.ensures in
    let new : get key_eq inside.ids c.args.key ≡ None = none_from _ c.if-contains_key-2.ensures in
    let T = c.totals_of-totals.result in
    let used : T.used ≡ (totals_in (t c.args.card)).used = ap (λ (z : Totals). z.used) c.totals_of-totals.ensures in
    let reserved : T.reserved ≡ (totals_in (t c.args.card)).reserved = ap (λ (z : Totals). z.reserved) c.totals_of-totals.ensures in
    subst (λ (z : Items). IsBook inside.limit z (get key_eq c.insert-2.new.self) (get card_eq c.insert-3.new.self))
    (sym c.in-Ok.ensures.entries)
    (keeps_new inside.limit c.args.id inside.items.entries (get key_eq inside.ids) t c.self.invariant v (get key_eq c.insert-2.new.self)
    (get card_eq c.insert-3.new.self)
    none new refl (omega (arith, used, reserved, c.if-totals-amount.false))
    (λ q. c.in-Ok-insert.ensures.updates.0 q ∙ ap (cond (key_eq c.args.key q) (Some c.args.id)) (c.room.ensures.ids q))
    (λ q. c.in-Ok-insert-2.ensures.updates.0 q
    ∙ (λ i. cond (card_eq c.args.card q) (let s : Totals = record { used = used i; reserved = reserved i + c.args.amount } in Some s)
    (c.room.ensures.totals q i))))
