-- What the line says, of the counts and of what stands beside them.
use Rattle.sw_stats.specs.Line.{Numbers}
use Rattle.sw_stats.specs.Tallies.{Tally}
use Rattle.sw_stats.specs.declared.line.Beside.{Beside}

abbrev pub numbers : Tally → Beside → Numbers
numbers t b = record { tally = t; passed = b.passed; stored = b.stored }
