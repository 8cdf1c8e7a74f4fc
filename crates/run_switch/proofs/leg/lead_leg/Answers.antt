use Rattle.std.proofs.Common.{[], inl, refl}
use Rattle.cli_io.proofs.Writing.{beginning_none}
use Rattle.run_switch.proofs.Stops.{on_err_of}
use Rattle.run_switch.proofs.leg.lead_leg.Goals as goal

pub returns-in_err-source-clause-some : goal.returns-in_err-source-clause-some
returns-in_err-source-clause-some g c = on_err_of c.from_residual.result ([], inl refl, beginning_none _ [])
