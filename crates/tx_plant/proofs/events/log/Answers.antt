use Rattle.std.proofs.Common.{subst, sym}
use Rattle.tx_history.specs.declared.event.Event.TheVariants.{LetGo}
use Rattle.tx_plant.specs.declared.turn.Turn.{Turn}
use Rattle.tx_plant.specs.Turns.{IsLogged}
use Rattle.tx_plant.proofs.Turning.{logged, no_event}
use Rattle.tx_plant.proofs.events.log.Goals as goal

pub unreachable-requires : goal.unreachable-requires
unreachable-requires c = no_event c.args.engine.now c.args.turn.now c.requires c.in_default.not-Offer c.in_default.not-Release c.in_default.not-Ack
    c.in_default.not-Break c.in_default.not-Clear c.in_default.not-LetGo

pub returns-in-LetGo : goal.returns-in-LetGo
returns-in-LetGo c = subst (λ (t : Turn). IsLogged c.args.engine.now t c.outcome_of-in-LetGo.result c.let_go.new.self) (sym c.in-LetGo.is)
    (logged (LetGo c.in-LetGo.s) _ c.args.engine.now c.let_go.new.self _ c.outcome_of-in-LetGo.result c.let_go.ensures c.outcome_of-in-LetGo.ensures)
