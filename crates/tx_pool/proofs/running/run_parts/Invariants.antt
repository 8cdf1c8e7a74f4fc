use Rattle.std.proofs.Common.{map}
use Rattle.sw_participant.specs.Chains.{rule_at}
use Rattle.tx_pool.proofs.running.run_parts.Given as goal
use Rattle.tx_plant.specs.Wholes.{core_in}

abbrev pub ghosts-run_in-K-Run : goal.ghosts-run_in-K-Run
ghosts-run_in-K-Run g a = record {
  start = core_in a.task.running;
  rule = rule_at (λ s. g.C.Caller.rule s.participant) a.task.stations.items;
  objects = map (λ s. g.C.Caller.object s.participant) a.task.stations.items;
  counts = map (λ s. s.calls) a.task.stations.items;
  names = map (λ s. s.name) a.task.stations.items;
  intake = a.task.intake.id;
  given = g.O.Source.given a.task.source;
  ends_with = g.O.Source.ends_with a.task.source;
}

abbrev pub ghosts-run_in-K-Ledger : goal.ghosts-run_in-K-Ledger
ghosts-run_in-K-Ledger g a = record { name = a.blank.name; parts = a.blank.parts }
