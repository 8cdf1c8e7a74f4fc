use Rattle.run_switch.proofs.leg.answer_leg.Given as goal

abbrev pub ghosts-lead_leg : goal.ghosts-lead_leg
ghosts-lead_leg g a = record { before = a.arrivals }
