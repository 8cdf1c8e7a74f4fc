use Rattle.cardswitch.proofs.Doing.{recover_done}
use Rattle.cardswitch.proofs.program.run_subcommand.Goals as goal

pub returns-in-Recover-clause-done : goal.returns-in-Recover-clause-done
returns-in-Recover-clause-done g c = recover_done _ c.args.options.now c.in-Recover.options _ _ _ c.recover.result c.in-Recover.is c.recover.ensures.recovered
