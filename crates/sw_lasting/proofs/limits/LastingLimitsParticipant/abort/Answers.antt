use Rattle.std.proofs.Common.{refl, ap}
use Rattle.sw_lasting.specs.Keeping.{keeping, shown_keeping}
use Rattle.sw_lasting.proofs.limits.LastingLimitsParticipant.abort.Goals as goal

pub returns-clause-performed : goal.returns-clause-performed
returns-clause-performed g c =
    (keeping c.args.self.now.book c.args.self.now.today, refl, ap shown_keeping c.in_ok-abort_request.ensures.aborted, refl, refl)
