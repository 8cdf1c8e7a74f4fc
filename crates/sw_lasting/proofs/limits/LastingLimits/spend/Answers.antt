use Rattle.sw_lasting.proofs.limits.LastingLimits.spend.Goals as goal

pub returns-in-Ok-clause-spent : goal.returns-in-Ok-clause-spent
returns-in-Ok-clause-spent g c = c.in-Ok.ensures.spent c.args.self.now.today

pub returns-in-Err-clause-kept : goal.returns-in-Err-clause-kept
returns-in-Err-clause-kept g c = c.in-Err.ensures.kept c.args.self.now.today
