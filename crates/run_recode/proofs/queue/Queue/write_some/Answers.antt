use Rattle.std.proofs.Common.{◌∙◌, ap, drop, subst, sym, List, ℕ, take}
use Rattle.std.specs.Io.KnownBytes.{Appends}
use Rattle.run_recode.proofs.Queues.{queue_parts}
use Rattle.run_recode.proofs.queue.Queue.write_some.Goals as goal

pub returns-in-Ok : goal.returns-in-Ok
returns-in-Ok g c =
    let q = c.self.inside in
    let n = c.in-Ok.count in (
      take n (drop q.done q.bytes.items),
      sym c.self.view_is ∙ queue_parts q.done n q.bytes.items,
      subst (λ (z : List ℕ). Appends (g.W.Write.contents c.args.out.now) (g.W.Write.contents c.write.new.self) (take n z))
          (c.split_at.ensures.back ∙ ap (λ (z : List ℕ). drop q.done z) c.deref.ensures.value) c.in-Ok.ensures.bytes,
    )
