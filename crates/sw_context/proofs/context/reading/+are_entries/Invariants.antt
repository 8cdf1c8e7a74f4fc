use Rattle.sw_context.proofs.context.reading.+are_entries.Given as goal

abbrev pub decreases-are_entries : goal.decreases-are_entries
decreases-are_entries l = l.count
