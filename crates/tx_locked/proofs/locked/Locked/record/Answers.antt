use Rattle.std.proofs.Common.{◌∷◌, [], ◌++◌, ◌∙◌, ap, sym, subst}
use Rattle.tx_plant.specs.Entered.{Entered}
use Rattle.tx_plant.specs.Wholes.{core_in}
use Rattle.tx_locked.specs.Linked.{made}
use Rattle.tx_locked.proofs.Growth.{since_reply}
use Rattle.tx_locked.proofs.locked.Locked.record.Goals as goal

pub invariant_of-self-in-Ok-enter : goal.invariant_of-self-in-Ok-enter
invariant_of-self-in-Ok-enter g c =
    let i = c.self.inside in
    let j = c.enter.new.self in
    let p = core_in i.running in
    let q = core_in j in
    let m = made c.args.call.now c.args.reply c.in-Ok-enter.before c.in-Ok.left in
    let e = subst (λ y. Entered p c.args.session.now.index c.args.call.now c.args.reply c.in-Ok-enter.before y c.in-Ok-enter.number q) (sym c.in-Ok.ensures)
    c.in-Ok-enter.ensures.entered in (
      since_reply g.K.Run.start p q i.getter.passed i.book.total c.add.new.self.total i.made.items c.push_reserved.new.self.items c.args.session.now.index
          c.in-Ok-enter.number m c.self.invariant.0 e c.engine_is_sound.ensures.engine c.add.ensures.total
          (c.push_reserved.ensures.items ∙ ap (λ l. l ++ m ∷ []) c.reserve-2.ensures.items),
      c.self.invariant.1,
    )
