use Rattle.std.proofs.Common.{◌∙◌, ◌+◌, refl, sym, ap, List, map, ◌++◌}
use Rattle.std.proofs.lemmas.Result.{err_from_is_err_and}
use Rattle.flow_model.specs.declared.flow.PlacedEntry.{PlacedEntry}
use Rattle.tx_machine.specs.declared.machine.Machine.{Machine}
use Rattle.tx_machine.specs.declared.values.Item.TheVariants.{Choice}
use Rattle.tx_machine.specs.Table.{Prepare, is_open}
use Rattle.tx_machine.specs.Contract.{tx_state, IsSound}
use Rattle.tx_machine.specs.Position.{rest_of, shown}
use Rattle.tx_machine.proofs.Copies.{IsSame, same_ready, same_state}
use Rattle.tx_machine.proofs.Replies.{chose_on, closed, lacking, not_selected, refused, selected, selected_room, taken}
use Rattle.tx_machine.proofs.machine.Machine.chose.Goals as goal

pub returns-then-not-is_open : goal.returns-then-not-is_open
unfolding tx_state IsSound
returns-then-not-is_open c = refused c.args.code.now c.args.self.now (Choice c.args.text.now) c.requires
    (closed (is_open c.args.self.now.phase) _ (sym c.is_open.ensures ∙ c.if-not-is_open.true))

pub returns-in_default : goal.returns-in_default
unfolding tx_state IsSound
returns-in_default c = refused c.args.code.now c.args.self.now (Choice c.args.text.now) c.requires
    (not_selected c.args.code.now c.args.self.now c.look.result (is_open c.args.self.now.phase) c.requires.at_call_or_end c.look.ensures.ahead
    c.in_default.not-Pick)

pub returns-in_err-groups : goal.returns-in_err-groups
unfolding tx_state IsSound
returns-in_err-groups c =
    let m : Machine = c.args.self.now in
    let p = err_from_is_err_and c.from_residual.result c.from_residual.ensures.1 in
    lacking c.args.code.now m m (Choice c.args.text.now) c.from_residual.result p.0 p.1 p.2 c.requires refl
    (selected c.args.code.now m c.in-Pick.field-0 (is_open m.phase) c.in-Pick.ensures.ahead (sym c.is_open.ensures ∙ c.if-not-is_open.false))

pub returns-in_err-self : goal.returns-in_err-self
unfolding tx_state IsSound
returns-in_err-self c =
    let m : Machine = c.args.self.now in
    let new : Machine = record m { stack = c.enter.new.stack } in
    let p = err_from_is_err_and c.from_residual-in_err-self.result c.from_residual-in_err-self.ensures.1 in
    let same : IsSame m new = record {
      phase = refl;
      step = refl;
      stack = ap (map shown) c.in_err-self.ensures.err;
      retry = refl;
      bound = refl;
      calls =
          refl;
      joined = refl;
      told = refl;
      tries = refl;
      saved = refl;
    } in
    lacking c.args.code.now m new (Choice c.args.text.now) c.from_residual-in_err-self.result p.0 p.1 (p.2 ∙ c.in_err-self.ensures.memory)
    (same_ready c.args.code.now m new same c.requires) (same_state c.args.code.now m new same)
    (selected c.args.code.now m c.in-Pick.field-0 (is_open m.phase) c.in-Pick.ensures.ahead (sym c.is_open.ensures ∙ c.if-not-is_open.false))

pub advance-requires : goal.advance-requires
unfolding IsSound
advance-requires c = record {
  within = c.in_ok-self.ensures.within;
  frames = c.in_ok-self.ensures.frames;
  few = selected_room c.args.code.now c.args.self.now c.in-Pick.field-0 c.in-Pick.ensures.ahead c.requires;
  members = c.requires.at_call_or_end.fits.members;
}

pub returns : goal.returns
unfolding tx_state IsSound
returns c =
    let m : Machine = c.args.self.now in
    let on = c.in_ok-self.ensures.rest ∙ ap (λ (l : List PlacedEntry). map Prepare l ++ rest_of c.args.code.now (m.step + 1) m.stack.items)
    c.in_ok-groups.ensures.placed_entries in
    taken c.args.code.now m c.advance.new.self (Choice c.args.text.now) c.advance.ensures.ready
    (c.advance.ensures.state ∙ chose_on c.args.code.now m c.in-Pick.field-0 c.args.text.now _ c.in-Pick.ensures.ahead on)
    (selected c.args.code.now m c.in-Pick.field-0 (is_open m.phase) c.in-Pick.ensures.ahead (sym c.is_open.ensures ∙ c.if-not-is_open.false))
