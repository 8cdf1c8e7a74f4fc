use Rattle.std.proofs.Common.{arith}
use Rattle.std.proofs.lemmas.List.{length_push}
use Rattle.std.proofs.lemmas.Result.{err_from_is_err_and}
use Rattle.flow_load.specs.Forms.{items_at}
use Rattle.flow_load.proofs.ItemLoop.{goes_on, ends, is_done}
use Rattle.flow_load.proofs.forms.read_items.Goals as goal

pub returns-in_err-item-clause-read : goal.returns-in_err-item-clause-read
returns-in_err-item-clause-read g c =
    let p = err_from_is_err_and c.from_residual.result c.from_residual.ensures.1 in
    rw (p.1, p.2) (ends g.T.Line.form c.in_err-item.field-0.0 c.loop-k.items.items c.args.count c.loop-k.k c.args.at c.loop-k.rest.now
    (items_at g.T.Line.form c.args.count 0 c.args.at c.args.bytes.now) c.loop-k-test.true c.in_err-item.ensures c.loop-k.invariant.read)

pub loop-k-preserved : goal.loop-k-preserved
loop-k-preserved g c = record {
  count = rw c.in_ok-push.ensures.items (omega (arith, length_push c.loop-k.items.items c.in_ok-item.item, c.loop-k.invariant.count));
  read = rw c.in_ok-push.ensures.items (goes_on g.T.Line.form c.loop-k.items.items c.args.count c.loop-k.k c.args.at c.loop-k.rest.now c.in_ok-item.item
      c.in_ok-item.after.now _ c.loop-k-test.true c.in_ok-item.ensures c.loop-k.invariant.read);
}

pub returns-clause-read : goal.returns-clause-read
returns-clause-read g c = is_done g.T.Line.form c.loop-k.items.items c.args.count c.loop-k.k c.args.at c.loop-k.rest.now _ c.loop-k-test.false
    c.loop-k.invariant.read
