use Rattle.std.proofs.Common.{ap, arith, length}
use Rattle.flow_load.proofs.groups.read_flow.Goals as goal

pub read_groups-requires-clause-few : goal.read_groups-requires-clause-few
read_groups-requires-clause-few c = omega (
  arith,
  ap length c.as_slice-parts.ensures,
  ap length c.as_slice-starts.ensures,
  ap length c.as_slice.ensures,
  c.requires.parts,
  c.requires.starts,
  c.requires.steps,
)

pub check_end-requires : goal.check_end-requires
check_end-requires c = omega (
  arith,
  ap length c.as_slice-parts.ensures,
  ap length c.as_slice-starts.ensures,
  ap length c.as_slice.ensures,
  c.requires.parts,
  c.requires.starts,
  c.requires.steps,
  c.in_ok-walked.ensures.within,
)
