use Rattle.std.proofs.Common.{take}
use Rattle.std.specs.Fmt.{IsPlainFormatter, HasWritten}
use Rattle.cli_graph.specs.Picture.{texts, selection_entry}
use Rattle.cli_graph.proofs.paths.SelectionsDisplay.fmt.Given as goal

abbrev pub invariant-loop-index : goal.invariant-loop-index
invariant-loop-index g l = IsPlainFormatter l.initial.f → HasWritten g.W.Write.write_str_gives l.initial.f
    (texts (selection_entry l.initial.self.form l.initial.self.groups.now l.initial.self.group) 0 (take l.index l.entry-items)) l.f
