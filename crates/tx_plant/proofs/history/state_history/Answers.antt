use Rattle.tx_history.proofs.SoundJournals.{ids_last}
use Rattle.tx_plant.proofs.Recovering.{room}
use Rattle.tx_plant.proofs.history.state_history.Goals as goal

pub returns-clause-next : goal.returns-clause-next
returns-clause-next c =
    ids_last c.args.engine.now.flow c.args.engine.now.start c.args.engine.now.past c.engine_is_sound.ensures.start.view.last c.engine_is_sound.ensures.lawful.lawful

pub returns-clause-room : goal.returns-clause-room
returns-clause-room c =
    λ e past is no. room c.args.engine.now.flow c.args.engine.now.start c.args.engine.now.past c.engine_is_sound.ensures.lawful.lawful e past is no
