use Rattle.sw_lasting.proofs.limits.LastingLimits.make_known.Goals as goal

pub returns-in-Err-clause-kept : goal.returns-in-Err-clause-kept
returns-in-Err-clause-kept g c = c.in-Err.ensures.kept c.args.self.now.today
