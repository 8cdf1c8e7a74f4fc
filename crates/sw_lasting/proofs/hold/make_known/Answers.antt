use Rattle.std.proofs.Common.{◌≡◌, ℕ, Bool, if◌then◌else◌, Some, is_some, OnOk, sym, ap, subst, ◌∙◌}
use Rattle.day_book.specs.Items.{newest}
use Rattle.day_book.specs.declared.item.RequestDay.{RequestDay}
use Rattle.day_book.specs.declared.item.State.TheVariants.{Reversed}
use Rattle.sw_lasting.specs.Holding.{put_noted}
use Rattle.sw_lasting.specs.Keeping.{keeping}
use Rattle.sw_lasting.proofs.hold.make_known.Goals as goal

pub returns-clause-known : goal.returns-clause-known
returns-clause-known g c =
    let old = c.args.book.now in
    let new = c.take_in.new.book in
    let put = λ (today : ℕ). put_noted c.args.id Reversed (Some c.args.item) (keeping old today) in
    subst (λ (t : Bool). OnOk c.take_in.result ((today : ℕ) → keeping new today ≡ (if t then keeping old today else put today)))
    (sym c.if-is_some.false ∙ c.is_some.ensures
    ∙ ap is_some (c.newest.ensures ∙ ap (λ (q : RequestDay). newest q old.days.items) c.request_day.ensures)) c.take_in.ensures.taken
