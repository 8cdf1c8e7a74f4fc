use Rattle.test_threads.proofs.tests.legs.take_from.Given as goal

abbrev pub ghosts-take_all : goal.ghosts-take_all
ghosts-take_all g a = record { input = g.I.Read.remaining a.input; header = 0 }
