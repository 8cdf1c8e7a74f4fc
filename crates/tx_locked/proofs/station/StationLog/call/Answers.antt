use Rattle.std.proofs.Common.{◌≡◌, [], ◌∷◌, ◌++◌, Result, Ok, Err, get_or, sym, ap, subst, ◌∙◌}
use Rattle.std.specs.Prelude.{IfOk}
use Rattle.tx_locked.specs.Linked.{IsStation, made}
use Rattle.tx_locked.proofs.Linking.{station_more}
use Rattle.tx_locked.proofs.station.StationLog.call.Goals as goal

pub invariant_of-self-2 : goal.invariant_of-self-2
invariant_of-self-2 g c =
    let i = c.self.inside in
    let first = g.K.Run.rule i.index in
    let o = get_or g.K.Run.objects i.index [] in
    let n = get_or g.K.Run.counts i.index 0 in
    let old = i.participant in
    let new = c.make.new.self in
    let call = c.args.call.now in
    let reply = c.in_ok-reply.reply in
    let x = made call reply c.in_ok-before.before c.make.new.context in
    let log = c.push_reserved.ensures.items ∙ ap (λ l. l ++ x ∷ []) c.in_ok-reserve.ensures.items in
    let performed = subst (λ z. g.C.Caller.rule old call.id call.act (g.C.Caller.object old) z reply (g.C.Caller.object new) c.make.new.context)
    (sym c.in_ok-before.ensures) c.in_ok-reply.ensures.performed in (
      subst (λ l. IsStation first o n (g.C.Caller.rule new) (g.C.Caller.object new) c.saturating_add-self-inside.result l) (sym log)
          (station_more first o (g.C.Caller.object old) (g.C.Caller.object new) n i.calls c.saturating_add-self-inside.result (g.C.Caller.rule old)
          (g.C.Caller.rule new) i.log.items x c.self.invariant.0 c.in_ok-reply.ensures.within performed c.saturating_add-self-inside.ensures),
      c.self.invariant.1,
    )

if_ok : {A B : Type 0} (P Q : A → Type 0) (r : Result A B) → ((a : A) → P a → Q a) → IfOk r P → IfOk r Q
if_ok P Q (Ok a) so is = so a is
if_ok P Q (Err e) so is = tt

pub returns : goal.returns
returns g c =
    let call = c.args.call.now in
    let reply = c.in_ok-reply.reply in
    let after = c.make.new.context in
    let old = c.args.self.now.log in
    let x = made call reply c.in_ok-before.before after in
    let log = c.push_reserved.ensures.items ∙ ap (λ l. l ++ x ∷ []) (c.in_ok-reserve.ensures.items ∙ ap (λ z. z.log) c.self.view_is) in
    let context = c.args.context in
    record {
      made = if_ok (λ r. (r.0 ≡ reply) × (r.1 ≡ after)) (λ r. _ ≡ old ++ made call r.0 context r.1 ∷ []) c.copy_left-left.result
          (λ r is. log ∙ ap (λ b. old ++ made call reply b after ∷ []) c.in_ok-before.ensures
          ∙ ap (λ q. old ++ made call q context after ∷ []) (sym is.0)
          ∙ ap (λ y. old ++ made call r.0 context y ∷ []) (sym is.1))
          c.copy_left-left.ensures;
    }
