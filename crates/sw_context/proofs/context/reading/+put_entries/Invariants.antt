use Rattle.sw_context.proofs.context.reading.+put_entries.Given as goal

abbrev pub decreases-put_entries : goal.decreases-put_entries
decreases-put_entries l = l.count
