use Rattle.iso_msg.proofs.FieldMaps.{reads_back, keeps_others, takes_out, leaves_others, determined}
use Rattle.iso_msg.proofs.laws.fields_are_a_map.Goals as goal

pub returns-clause-put : goal.returns-clause-put
returns-clause-put c = reads_back

pub returns-clause-put_others : goal.returns-clause-put_others
returns-clause-put_others c = keeps_others

pub returns-clause-taken : goal.returns-clause-taken
returns-clause-taken c = takes_out

pub returns-clause-taken_others : goal.returns-clause-taken_others
returns-clause-taken_others c = leaves_others

pub returns-clause-determined : goal.returns-clause-determined
returns-clause-determined c = determined
