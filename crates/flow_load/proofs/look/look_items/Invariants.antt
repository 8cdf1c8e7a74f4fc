use Rattle.std.proofs.Common.{◌≡◌, ◌-◌, ◌+◌}
use Rattle.flow_load.specs.Forms.{items_at}
use Rattle.flow_load.specs.LookOver.{items_over}
use Rattle.flow_load.proofs.LookLoop.{with_earlier}
use Rattle.flow_load.proofs.look.look_items.Given as goal

abbrev pub invariant-loop-k : goal.invariant-loop-k
invariant-loop-k g l = with_earlier g.T.Line.form g.T.Line.recovers l.recovering (l.at + l.k)
    (items_at g.T.Line.form (l.count - l.k) l.k (l.at + l.k) l.rest) ≡ items_over g.T.Line.form g.T.Line.recovers l.count l.at l.bytes
