use Rattle.run_recode.specs.Queues.{HandsOn}
use Rattle.run_recode.proofs.queue.Queue.write_to.Given as goal

abbrev pub invariant-loop : goal.invariant-loop
invariant-loop g l = HandsOn (g.W.Write.contents l.fn.out) (g.W.Write.contents l.out) l.fn.self l.self
