use Rattle.std.proofs.Common.{◌∙◌, refl, sym}
use Rattle.std.proofs.lemmas.Result.{err_from_is_err_and}
use Rattle.tx_machine.specs.declared.machine.Machine.{Machine}
use Rattle.tx_machine.specs.declared.values.Item.TheVariants.{Answer}
use Rattle.tx_machine.specs.Table.{is_open}
use Rattle.tx_machine.specs.Contract.{tx_state, IsSound}
use Rattle.tx_machine.proofs.Copies.{IsSame, same_ready, same_state}
use Rattle.tx_machine.proofs.Replies.{answered_on, closed, lacking, not_prepared, prepared, prepared_room, refused, taken}
use Rattle.tx_machine.proofs.machine.Machine.answered.Goals as goal

pub returns-then-not-is_open : goal.returns-then-not-is_open
unfolding tx_state IsSound
returns-then-not-is_open c = refused c.args.code.now c.args.self.now (Answer c.args.byte c.args.context.items) c.requires
    (closed (is_open c.args.self.now.phase) _ (sym c.is_open.ensures ∙ c.if-not-is_open.true))

pub returns-in_default : goal.returns-in_default
unfolding tx_state IsSound
returns-in_default c = refused c.args.code.now c.args.self.now (Answer c.args.byte c.args.context.items) c.requires
    (not_prepared c.args.code.now c.args.self.now c.look.result (is_open c.args.self.now.phase) c.requires.at_call_or_end c.look.ensures.ahead
    c.in_default.not-Call)

pub returns-in_err-join : goal.returns-in_err-join
unfolding tx_state IsSound
returns-in_err-join c =
    let m : Machine = c.args.self.now in
    let new : Machine = record m { joined = c.join.new.joined } in
    let p = err_from_is_err_and c.from_residual.result c.from_residual.ensures.1 in
    let same : IsSame m new = record {
      phase = refl;
      step = refl;
      stack = refl;
      retry = refl;
      bound = refl;
      calls = refl;
      joined =
          c.in_err-join.ensures.err;
      told = refl;
      tries = refl;
      saved = refl;
    } in
    lacking c.args.code.now m new (Answer c.args.byte c.args.context.items) c.from_residual.result p.0 p.1 (p.2 ∙ c.in_err-join.ensures.memory)
    (same_ready c.args.code.now m new same c.requires) (same_state c.args.code.now m new same)
    (prepared c.args.code.now m c.in-Call.participant c.in-Call.field-1 (is_open m.phase) c.in-Call.ensures.ahead
    (sym c.is_open.ensures ∙ c.if-not-is_open.false))

pub advance-requires : goal.advance-requires
unfolding IsSound
advance-requires c = record {
  within = c.in-Call.ensures.ahead.2.next;
  frames = c.requires.at_call_or_end.fits.frames;
  few = prepared_room c.args.code.now c.args.self.now c.in-Call.participant c.in-Call.field-1 c.in-Call.ensures.ahead c.requires;
  members = c.in_ok-join.ensures.within _ c.in-Call.ensures.ahead.5 c.requires.at_call_or_end.fits.members;
}

pub returns : goal.returns
unfolding tx_state IsSound
returns c =
    let m : Machine = c.args.self.now in
    taken c.args.code.now m c.advance.new.self (Answer c.args.byte c.args.context.items) c.advance.ensures.ready
    (c.advance.ensures.state ∙ answered_on c.args.code.now m c.in-Call.participant c.in-Call.field-1 c.args.byte c.args.context.items _ _ _ _
    c.in-Call.ensures.ahead c.phase_after-self.ensures c.retry_by-self.ensures c.in_ok-join.ensures.ok c.save.ensures)
    (prepared c.args.code.now m c.in-Call.participant c.in-Call.field-1 (is_open m.phase) c.in-Call.ensures.ahead
    (sym c.is_open.ensures ∙ c.if-not-is_open.false))
