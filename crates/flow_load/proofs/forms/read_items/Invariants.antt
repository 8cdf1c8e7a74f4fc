use Rattle.std.proofs.Common.{◌≡◌, ◌-◌, ◌+◌, length}
use Rattle.flow_load.specs.Forms.{items_at}
use Rattle.flow_load.proofs.ItemLoop.{with_front}
use Rattle.flow_load.proofs.forms.read_items.Given as goal

abbrev pub invariant-loop-k : goal.invariant-loop-k
invariant-loop-k g l = record {
  count : length l.items.items ≡ l.k;
  read : with_front l.items.items (items_at g.T.Line.form (l.count - l.k) l.k (l.at + l.k) l.rest) ≡ items_at g.T.Line.form l.count 0 l.at l.bytes;
}
