use Rattle.std.proofs.Common.{Some, sym, ◌∙◌}
use Rattle.sw_lasting.specs.Keeping.{keeping}
use Rattle.sw_lasting.proofs.Preparing.{passed, prepared}
use Rattle.sw_lasting.proofs.limits.LastingLimitsParticipant.prepare.Goals as goal

pub returns-in-Some-clause-performed : goal.returns-in-Some-clause-performed
returns-in-Some-clause-performed g c =
    let old = c.args.self.now in
    let new = c.prepare_message.new.self in
    prepared c.prepare_message.result c.args.id (Some c.in-Some.message) (keeping old.book old.today) (keeping new.book new.today) c.args.context.now
    c.prepare_message.new.context (sym c.in-Some.is ∙ c.in_ok-request.ensures) c.prepare_message.ensures.held

pub returns-in-None-clause-performed : goal.returns-in-None-clause-performed
returns-in-None-clause-performed g c =
    let old = c.args.self.now in
    passed c.args.id (keeping old.book old.today) c.args.context.now (sym c.in-None.is ∙ c.in_ok-request.ensures)
