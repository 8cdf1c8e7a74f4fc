use Rattle.run_switch.proofs.switch.Switch.answer_together.Given as goal

abbrev pub ghosts-answer_stream : goal.ghosts-answer_stream
ghosts-answer_stream g a = record { input = g.R.Read.remaining a.stream.input; header = a.stream.header }
