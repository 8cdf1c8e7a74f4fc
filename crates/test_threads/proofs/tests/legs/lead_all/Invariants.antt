use Rattle.test_threads.proofs.tests.legs.lead_all.Given as goal

abbrev pub ghosts-lead : goal.ghosts-lead
ghosts-lead g a = record { before = a.led.arrivals }
