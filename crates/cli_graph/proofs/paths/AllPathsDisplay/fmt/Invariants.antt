use Rattle.std.proofs.Common.{take}
use Rattle.std.specs.Fmt.{IsPlainFormatter, HasWritten}
use Rattle.cli_graph.specs.Picture.{texts, group_paths}
use Rattle.cli_graph.proofs.paths.AllPathsDisplay.fmt.Given as goal

abbrev pub invariant-loop-number : goal.invariant-loop-number
invariant-loop-number g l = IsPlainFormatter l.initial.f → HasWritten g.W.Write.write_str_gives l.initial.f
    (texts (group_paths l.initial.self.form l.initial.self.groups.now) 0 (take l.number l.group-items)) l.f
