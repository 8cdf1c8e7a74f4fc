use Rattle.sw_context.proofs.context.reading.+has_name.Given as goal

abbrev pub decreases-has_name : goal.decreases-has_name
decreases-has_name l = l.count
