use Rattle.std.proofs.Common.{◌∙◌, ap, List, [], ℕ}
use Rattle.tx_machine.specs.Contract.{tx_state}
use Rattle.tx_machine.specs.Table.{next}
use Rattle.tx_machine.specs.declared.values.Item.TheVariants.{Answer}
use Rattle.tx_engine.specs.contracts.engine.Engine.{the_view}
use Rattle.tx_engine.proofs.Dues.{allows_of, gives_answer}
use Rattle.tx_engine.proofs.engine.Engine.answered.Goals as goal

pub after_answer-requires-clause-due : goal.after_answer-requires-clause-due
after_answer-requires-clause-due c = (allows_of (the_view c.self.inside) _ c.args.s _ _ c.self.view_is c.in_ok-hold.ensures).asked.0 c.args.byte []

pub give-requires : goal.give-requires
give-requires c =
    let went = c.in_ok-machine.ensures.after
    ∙ ap (λ (x : List ℕ). next c.self.inside.code (tx_state c.self.inside.code c.in_ok-hold.hold.now.machine) (Answer c.args.byte x))
    c.in_ok-spelled.ensures.bytes in
    rw c.in_ok-spelled-2.ensures.bytes
    (gives_answer (the_view c.self.inside) _ c.args.s c.args.byte _ c.in_ok-hold.hold.now c.in_ok-machine.machine c.self.inside.restored c.self.view_is
    c.in_ok-hold.ensures c.spelled.ensures.spelled c.self.invariant.renewed c.in_ok-machine.ensures.sound went)
