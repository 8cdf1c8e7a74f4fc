use Rattle.std.proofs.Common.{◌∙◌}
use Rattle.sw_lasting.proofs.Moving.{moved}
use Rattle.sw_lasting.proofs.hold.move_on.Goals as goal

pub returns : goal.returns
returns g c =
    c.forget_in_file.ensures c.args.day
    ∙ moved c.args.book.now c.advance.new.self c.forget.new.self c.forget-2.new.self c.saturating_sub.result c.args.day c.args.today.now c.saturating_sub.ensures
    c.advance.ensures c.forget.ensures.forgotten c.forget.ensures.file c.forget.ensures.reach c.forget-2.ensures.forgotten c.forget-2.ensures.file
    c.forget-2.ensures.reach
