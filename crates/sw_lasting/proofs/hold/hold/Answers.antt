use Rattle.day_book.specs.Changes.{with_item}
use Rattle.sw_lasting.specs.Keeping.{keeping}
use Rattle.sw_lasting.proofs.Held.{held, keeping_with, unheld}
use Rattle.sw_lasting.proofs.hold.hold.Goals as goal

pub returns-in-Ok-clause-held : goal.returns-in-Ok-clause-held
returns-in-Ok-clause-held g c =
    let old = c.args.book.now in
    let today = c.args.today.now in
    held c.note_held.result c.args.id c.args.item (keeping old today) (keeping c.reserve.new.self today) c.args.context.now
    (keeping c.note_held.new.book c.note_held.new.today) c.note_held.new.context c.requires.open c.in-Ok.ensures.taken
    (keeping_with old c.reserve.new.self (with_item c.args.id c.args.item old.days.items) today c.in-Ok.ensures.held c.reserve.ensures.file c.reserve.ensures.reach)
    c.note_held.ensures.noted

pub returns-in-Ok-clause-kept : goal.returns-in-Ok-clause-kept
returns-in-Ok-clause-kept g c =
    let old = c.args.book.now in
    let today = c.args.today.now in
    unheld c.note_held.result c.args.id c.args.item (keeping old today) (keeping c.reserve.new.self today)
    (keeping c.note_held.new.book c.note_held.new.today) c.requires.open c.in-Ok.ensures.taken
    (keeping_with old c.reserve.new.self (with_item c.args.id c.args.item old.days.items) today c.in-Ok.ensures.held c.reserve.ensures.file c.reserve.ensures.reach)
    c.note_held.ensures.freed
