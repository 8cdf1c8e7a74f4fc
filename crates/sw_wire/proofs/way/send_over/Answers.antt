use Rattle.std.proofs.Common.{◌≡◌, true, sym, subst, refl, ℕ}
use Rattle.std.specs.Global.{Vec}
use Rattle.sw_wire.specs.Framing.{is_frame}
use Rattle.sw_wire.specs.Outgoings.{IsOutgoing, SentAs}
use Rattle.sw_wire.proofs.Framing.{framed_is_frame}
use Rattle.sw_wire.proofs.Sending.{sends_over}
use Rattle.sw_wire.proofs.way.send_over.Goals as goal

pub invariant_of-send : goal.invariant_of-send
invariant_of-send g c =
    let sent : SentAs c.args.message.now c.in-Some.outgoing = subst (IsOutgoing c.args.message.now) c.in-Some.is c.in_ok-outgoing.ensures in
    let framed : is_frame c.in-Some.outgoing.bytes.items ≡ true = framed_is_frame c.in-Some.outgoing.bytes.items c.args.message.now sent.framed in
    record { framed = subst (λ (b : Vec ℕ). is_frame b.items ≡ true) (sym c.into_parts-bytes.ensures.bytes) framed }

pub returns-clause-sent : goal.returns-clause-sent
returns-clause-sent g c =
    let sent : SentAs c.args.message.now c.in-Some.outgoing = subst (IsOutgoing c.args.message.now) c.in-Some.is c.in_ok-outgoing.ensures in
    sends_over g.W.Way.enters g.W.Way.takes c.args.way.now c.enter.new.self c.send-sent.new.self c.args.message.now c.in-Some.outgoing _ _ c.in-Some-enter.deadline
    _ _ c.send-sent.result c.awaited_of.result sent c.into_parts-bytes.ensures.expected c.in-Some-enter.is c.enter.ensures c.key-key.ensures
    c.into_parts-bytes.ensures.bytes refl c.send-sent.ensures c.awaited_of.ensures
