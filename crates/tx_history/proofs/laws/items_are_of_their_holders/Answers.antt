use Rattle.tx_history.proofs.Sessions.{own_answered, own_chose, own_told, holds_recovered, recovered_first, served_once}
use Rattle.tx_history.proofs.laws.items_are_of_their_holders.Goals as goal

pub returns : goal.returns
returns c = record { answered = own_answered; chose = own_chose; told = own_told; first = holds_recovered; untaken = recovered_first; once = served_once }
