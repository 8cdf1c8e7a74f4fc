use Rattle.std.proofs.Common.{false, ◌<◌, length, refl, sym, ap, subst, ◌∙◌, arith}
use Rattle.std.specs.Prelude.{slice_set}
use Rattle.std.specs.Str.{bytes_eq}
use Rattle.sw_mux.specs.Keys.{key}
use Rattle.sw_issuers.specs.Delivery.{Delivers}
use Rattle.sw_issuers.specs.Sending.{DeliversTo, link_states}
use Rattle.sw_issuers.proofs.Links.{if_ok, on_err, same_at, next_one, none_sent, sent_at, kept_at}
use Rattle.sw_issuers.proofs.sender.deliver_to.Goals as goal

pub returns-then-eq-clause-delivered : goal.returns-then-eq-clause-delivered
returns-then-eq-clause-delivered g c =
    let L = g.L.Link in
    let M = g.M.Memory in
    let gs = c.loop-index.links.items in
    let x = c.index_mut.result.now in
    let below : c.loop-index.index < length gs = omega (arith, c.loop-index-test.true, c.len.ensures) in
    let same = same_at c.loop-index.index gs c.index.result.now x below c.index.ensures c.index_mut.ensures.value in
    if_ok c.deliver.result _ _
    (λ accepted m. subst (λ os. DeliversTo (Delivers L.sends L.receives L.starves M.refused c.args.bytes.now (key c.args.advice.now)) c.args.group.now
    (link_states L.state os) accepted (link_states L.state (slice_set gs c.loop-index.index record { group = x.group; link = c.deliver.new.link })))
    (ap (λ v. v.items) c.loop-index.invariant.same)
    (sent_at L.state (Delivers L.sends L.receives L.starves M.refused c.args.bytes.now (key c.args.advice.now)) c.args.group.now c.loop-index.index gs x
    record { group = x.group; link = c.deliver.new.link } accepted
    below c.index_mut.ensures.value refl c.loop-index.invariant.none
    (ap (λ z. bytes_eq z.group c.args.group.now) (sym same) ∙ ap (λ z. bytes_eq z c.args.group.now) (sym c.as_str.ensures) ∙ sym c.if-eq.ensures) m))
    c.deliver.ensures.delivered

pub returns-then-eq-clause-kept : goal.returns-then-eq-clause-kept
returns-then-eq-clause-kept g c =
    let L = g.L.Link in
    let M = g.M.Memory in
    let gs = c.loop-index.links.items in
    let x = c.index_mut.result.now in
    on_err c.deliver.result _ _
    (λ e. kept_at L.state c.loop-index.index gs x record { group = x.group; link = c.deliver.new.link } c.index_mut.ensures.value refl e
    ∙ ap (λ v. link_states L.state v.items) c.loop-index.invariant.same)
    c.deliver.ensures.kept

pub loop-index-preserved : goal.loop-index-preserved
loop-index-preserved g c = record {
  none = next_one c.args.group.now c.loop-index.index c.loop-index.links.items c.index.result.now c.index.ensures c.loop-index.invariant.none
      (ap (λ z. bytes_eq z c.args.group.now) (sym c.as_str.ensures) ∙ sym c.if-eq.ensures);
  same = c.loop-index.invariant.same;
  bound = omega (arith, c.loop-index-test.true, c.len.ensures);
}

pub returns-clause-delivered : goal.returns-clause-delivered
returns-clause-delivered g c =
    let L = g.L.Link in
    let M = g.M.Memory in
    let gs = c.loop-index.links.items in
    subst (λ os. DeliversTo (Delivers L.sends L.receives L.starves M.refused c.args.bytes.now (key c.args.advice.now)) c.args.group.now
    (link_states L.state os) false (link_states L.state gs))
    (ap (λ v. v.items) c.loop-index.invariant.same)
    (none_sent L.state (Delivers L.sends L.receives L.starves M.refused c.args.bytes.now (key c.args.advice.now)) c.args.group.now c.loop-index.index gs
    (omega (arith, c.loop-index-test.false, c.len.ensures)) c.loop-index.invariant.none)
