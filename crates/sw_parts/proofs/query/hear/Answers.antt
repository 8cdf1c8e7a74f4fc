use Rattle.std.proofs.Common.{ℕ, List, Option, Some, None, option_map, refl, sym, ap, subst, ◌∙◌, rules, arith}
use Rattle.sw_parts.proofs.Hearing.{ended, starved, came, later, heard, unread}
use Rattle.sw_parts.proofs.query.hear.Goals as goal

pub returns-in_default-clause-heard : goal.returns-in_default-clause-heard
returns-in_default-clause-heard g c =
    let L = g.L.Link in
    let M = g.M.Memory in
    c.loop-round.invariant.heard None (L.state c.receive.new.self)
    (starved L.receives L.starves M.refused c.loop-round.round c.args.key.bytes (L.state c.loop-round.link) (L.state c.receive.new.self)
    c.loop-round-test.true c.in_default.ensures.starved c.in_default.ensures.kept)

pub returns-in-Ok-Some-clause-heard : goal.returns-in-Ok-Some-clause-heard
returns-in-Ok-Some-clause-heard g c =
    let L = g.L.Link in
    let M = g.M.Memory in
    c.loop-round.invariant.heard (Some c.in-Ok-Some.answer) (L.state c.receive.new.self)
    (came L.receives L.starves M.refused c.loop-round.round c.args.key.bytes (L.state c.loop-round.link) (Some c.deref.result.now)
    (L.state c.receive.new.self) (Some c.in-Ok-Some.answer) (L.state c.receive.new.self) c.loop-round-test.true
    (subst (λ (z : Option (List ℕ)). L.receives (L.state c.loop-round.link) z (L.state c.receive.new.self))
    (ap (option_map (λ v. v.items)) c.in-Some.is ∙ ap Some (sym c.deref.ensures.value)) c.in-Ok.ensures.received)
    (heard M.refused c.args.key.bytes c.deref.result.now (L.state c.receive.new.self) c.in-Ok-Some.answer _
    (sym c.in-Ok-Some.field-0-is ∙ c.in-Ok-Some.ensures.answer)))

pub returns-in-Err-clause-heard : goal.returns-in-Err-clause-heard
returns-in-Err-clause-heard g c =
    let L = g.L.Link in
    let M = g.M.Memory in
    c.loop-round.invariant.heard None (L.state c.receive.new.self)
    (came L.receives L.starves M.refused c.loop-round.round c.args.key.bytes (L.state c.loop-round.link) (Some c.deref.result.now)
    (L.state c.receive.new.self) None (L.state c.receive.new.self) c.loop-round-test.true
    (subst (λ (z : Option (List ℕ)). L.receives (L.state c.loop-round.link) z (L.state c.receive.new.self))
    (ap (option_map (λ v. v.items)) c.in-Some.is ∙ ap Some (sym c.deref.ensures.value)) c.in-Ok.ensures.received)
    (unread M.refused c.args.key.bytes c.deref.result.now (L.state c.receive.new.self) _ c.in-Err.ensures.refused))

pub loop-round-preserved : goal.loop-round-preserved
loop-round-preserved g c =
    let L = g.L.Link in
    let M = g.M.Memory in
    record {
      heard = λ r t h. c.loop-round.invariant.heard r t
          (came L.receives L.starves M.refused c.loop-round.round c.args.key.bytes (L.state c.loop-round.link) (Some c.deref.result.now)
          (L.state c.receive.new.self) r t c.loop-round-test.true
          (subst (λ (z : Option (List ℕ)). L.receives (L.state c.loop-round.link) z (L.state c.receive.new.self))
          (ap (option_map (λ v. v.items)) c.in-Some.is ∙ ap Some (sym c.deref.ensures.value)) c.in-Ok.ensures.received)
          (later M.refused c.args.key.bytes c.deref.result.now (L.state c.receive.new.self) r t _
          (sym c.in-Ok-None.field-0-is ∙ c.in-Ok-None.ensures.answer) h));
      waits = search rules;
    }

pub returns-clause-heard : goal.returns-clause-heard
returns-clause-heard g c =
    let L = g.L.Link in
    let M = g.M.Memory in
    c.loop-round.invariant.heard None (L.state c.loop-round.link) (ended L.receives L.starves M.refused c.loop-round.round c.args.key.bytes
    (L.state c.loop-round.link) (omega (arith, c.loop-round-test.false)))

pub returns-in_default-received-clause-heard : goal.returns-in_default-received-clause-heard
returns-in_default-received-clause-heard g c =
    let L = g.L.Link in
    let M = g.M.Memory in
    c.loop-round.invariant.heard None (L.state c.receive.new.self)
    (came L.receives L.starves M.refused c.loop-round.round c.args.key.bytes (L.state c.loop-round.link) None (L.state c.receive.new.self) None
    (L.state c.receive.new.self) c.loop-round-test.true
    (subst (λ (z : Option (List ℕ)). L.receives (L.state c.loop-round.link) z (L.state c.receive.new.self))
    (ap (option_map (λ v. v.items)) c.in_default-received.is) c.in-Ok.ensures.received)
    (refl, refl))
