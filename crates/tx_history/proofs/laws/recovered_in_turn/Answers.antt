use Rattle.tx_machine.specs.declared.values.Item.TheVariants.{Told as ToldOne}
use Rattle.tx_history.specs.declared.event.Event.TheVariants.{Told}
use Rattle.tx_history.proofs.GivenItems.{gave_told, state_other}
use Rattle.tx_history.proofs.Sessions.{state_given}
use Rattle.tx_history.proofs.RecoveryOrder.{later_none, recovering_next}
use Rattle.tx_history.proofs.laws.recovered_in_turn.Goals as goal

pub returns : goal.returns
returns c = record {
  untouched = later_none;
  follows = λ f v past s a id o law h r. recovering_next f v past (Told s a) id (ToldOne a) o law (gave_told f v past s a id h) r;
  moves = λ f v past s a id h. state_given f v past (Told s a) id (ToldOne a) (gave_told f v past s a id h);
  stays = λ f v past s a id j h d. state_other f v past (Told s a) id (ToldOne a) j (gave_told f v past s a id h) d;
}
