use Rattle.run_recode.proofs.Queues.{HandsOn-trans}
use Rattle.run_recode.proofs.queue.Queue.write_to.Goals as goal

pub returns-in_err-write_some-clause-written : goal.returns-in_err-write_some-clause-written
returns-in_err-write_some-clause-written g c = HandsOn-trans (g.W.Write.contents c.args.out.now) (g.W.Write.contents c.loop.out)
    (g.W.Write.contents c.write_some.new.out) c.args.self.now c.loop.self c.write_some.new.self c.loop.invariant c.write_some.ensures

pub loop-preserved : goal.loop-preserved
loop-preserved g c = HandsOn-trans (g.W.Write.contents c.args.out.now) (g.W.Write.contents c.loop.out) (g.W.Write.contents c.write_some.new.out)
    c.args.self.now c.loop.self c.write_some.new.self c.loop.invariant c.write_some.ensures
