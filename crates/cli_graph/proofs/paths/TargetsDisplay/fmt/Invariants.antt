use Rattle.std.proofs.Common.{take}
use Rattle.std.specs.Fmt.{IsPlainFormatter, HasWritten}
use Rattle.cli_graph.specs.Picture.{texts, target_group}
use Rattle.cli_graph.proofs.paths.TargetsDisplay.fmt.Given as goal

abbrev pub invariant-loop-number : goal.invariant-loop-number
invariant-loop-number g l = IsPlainFormatter l.initial.f → HasWritten g.W.Write.write_str_gives l.initial.f
    (texts (target_group l.initial.self.form) 0 (take l.number l._group-items)) l.f
