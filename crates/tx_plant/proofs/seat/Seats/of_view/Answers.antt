use Rattle.tx_plant.proofs.seat.Seats.of_view.Goals as goal

pub waiting_of-requires-clause-fit : goal.waiting_of-requires-clause-fit
waiting_of-requires-clause-fit c = rw c.as_slice.ensures c.requires.rows
