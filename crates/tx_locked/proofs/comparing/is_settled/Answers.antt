use Rattle.std.proofs.Common.{arith, rules}
use Rattle.std.proofs.lemmas.Bool.Decides.{nat_tests}
use Rattle.tx_locked.proofs.EmptyQueues.{none_waits}
use Rattle.tx_locked.proofs.comparing.is_settled.Goals as goal
use Rattle.tx_history.proofs.EntryCounts.{entries_length}

pub returns : goal.returns
returns c = λ all.
    let w = c.args.engine.now in
    let long = entries_length w.flow w.start w.past in
    record {
      empty = none_waits w (grind (arith, nat_tests, c.if-queued-ne0.false, c.queued.ensures));
      idle = search rules;
      written = grind (arith, nat_tests, all, long, c.mark.ensures.mark, c.history.ensures.entries);
    }
