-- The numbers of a run at a point.
--
-- - *Numbers at* a point (`Numbers.antt`): its tally, and the advices given since the run began.
--   *Shows* (`Shown.antt`): where their line is wanted it was written, or a beginning of it where
--   a write failed; *shows since*: where it is due; *tells all*: all of the trace, and the
--   numbers of the end last.
use Rattle.std.specs.Prelude.{ℕ, ◌+◌, ◌-◌, ◌^◌, length, min}
use Rattle.sw_stats.specs.Line.{Numbers}
use Rattle.sw_stats.specs.Tallies.{no_tally}
use Rattle.tx_history.specs.Journal.{advices}
use Rattle.tx_engine.specs.World.{World}
use Rattle.run_switch.specs.declared.progress.Progress.{Progress}
use Rattle.run_switch.specs.Advices.{stored_at}
use Rattle.run_switch.specs.Points.{Point}

-- before the first transaction of a run, which has this id: nothing is given or counted, and these advices are stored
abbrev pub begun_in : World → ℕ → Progress
begun_in w first = record { last = first - 1; counts = no_tally; found = length (advices w.flow w.start w.past) }

-- The advices that members gave in the run: those that are stored now and were not found, and those that were accepted since.
abbrev pub given_since : Point → ℕ
given_since p = min (length (stored_at p) + p.answered.counts.delivered) (2 ^ 64 - 1) - p.answered.found

-- the numbers at a point, if this many messages were passed over
abbrev pub numbers_at : Point → ℕ → Numbers
numbers_at p passed = record { tally = p.answered.counts; passed = passed; stored = given_since p }
