-- First the parts around the space, then each number: a search through all facts takes long.
use Rattle.std.proofs.Common.{ap, arith}
use Rattle.cli_script.specs.Forms.{ack_line}
use Rattle.cli_script.proofs.action_lines.read_ack.Goals as goal

pub returns-in_default : goal.returns-in_default
returns-in_default c = ap ack_line c.in_default.ensures

pub returns-in_err-id : goal.returns-in_err-id
returns-in_err-id c = grind (arith, c.in-Some.ensures, c.in_err-id.ensures, c.from_residual.ensures)

pub returns-in_err-place : goal.returns-in_err-place
returns-in_err-place c =
    grind (arith, c.in-Some.ensures, c.in_ok-id.ensures, c.in_err-place.ensures, c.from_residual-in_err-place.ensures)

pub returns : goal.returns
returns c = grind (arith, c.in-Some.ensures, c.in_ok-id.ensures, c.in_ok-place.ensures)
