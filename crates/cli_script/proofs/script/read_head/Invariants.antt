use Rattle.std.proofs.Common.{◌+◌, ◌≤◌, length}
use Rattle.cli_script.specs.Scripts.{IsHeadRead}
use Rattle.cli_script.proofs.script.read_head.Given as goal

abbrev pub invariant-loop-settings : goal.invariant-loop-settings
invariant-loop-settings l = record {
  read : IsHeadRead l.has_file l.script l.settings l.rest l.lines;
  few : l.lines + length l.rest ≤ length l.script;
}

abbrev pub decreases-loop-settings : goal.decreases-loop-settings
decreases-loop-settings l = length l.rest
