use Rattle.std.proofs.Common.{Option, sym, ap, ◌∙◌}
use Rattle.day_book.specs.declared.item.DayItem.{DayItem}
use Rattle.day_book.specs.declared.item.State.TheVariants.{Used}
use Rattle.sw_lasting.specs.Holding.{put_noted}
use Rattle.sw_lasting.specs.Keeping.{keeping}
use Rattle.sw_lasting.proofs.limits.LastingLimits.take_in.Goals as goal

pub returns-in-Ok-clause-taken : goal.returns-in-Ok-clause-taken
returns-in-Ok-clause-taken g c =
    let old = c.args.self.now in
    c.in-Ok.ensures.taken old.today
    ∙ ap (λ (o : Option DayItem). put_noted c.args.id Used o (keeping old.book old.today)) (sym c.in-Some.is ∙ c.in_ok-item.ensures)

pub returns-in-Err-clause-kept : goal.returns-in-Err-clause-kept
returns-in-Err-clause-kept g c = c.in-Err.ensures.kept c.args.self.now.today
