use Rattle.std.proofs.Common.{◌<◌, length}
use Rattle.flow_model.specs.Places.{parts_of}
use Rattle.tx_history.specs.History.{number_of}
use Rattle.tx_slots.proofs.MappedLists.{all_mapped}
use Rattle.tx_slots.proofs.recovery.reopened.Goals as goal

pub reopened-requires : goal.reopened-requires
reopened-requires c = rw c.in_ok-members.ensures (all_mapped (number_of c.args.code.now) (λ p. p < length (parts_of c.args.code.now)) _ c.requires)
