use Rattle.std.proofs.Common.{◌≡◌, take, drop}
use Rattle.flow_asm.specs.Numbering.{IsNumbering}
use Rattle.flow_load.specs.Groups.{double_from}
use Rattle.flow_load.proofs.groups.first_double.Given as goal

abbrev pub invariant-loop-number : goal.invariant-loop-number
invariant-loop-number l = record {
  seen : IsNumbering (take l.number l.parts) l.seen;
  rest : double_from l.parts l.number (drop l.number l.parts) ≡ double_from l.parts 0 l.parts;
}
