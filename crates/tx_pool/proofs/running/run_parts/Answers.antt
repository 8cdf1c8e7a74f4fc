use Rattle.tx_pool.proofs.Starts.{ready_own}
use Rattle.tx_pool.proofs.running.run_parts.Goals as goal

pub run_in-requires-clause-ready : goal.run_in-requires-clause-ready
run_in-requires-clause-ready g c κs within = ready_own (λ s. g.C.Caller.rule s.participant) (λ s. g.C.Caller.object s.participant) (λ s. s.calls)
    (λ s. s.name) c.args.task.stations.items
