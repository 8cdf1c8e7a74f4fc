use Rattle.std.proofs.Common.{◌≡◌, ◌++◌, drop, string_bytes}
use Rattle.std.specs.List.{flat_map}
use Rattle.cli_step.specs.Places.{put_in, saved_text}
use Rattle.cli_step.proofs.shown.saved_text.Given as goal

abbrev pub invariant-loop-index : goal.invariant-loop-index
invariant-loop-index l = string_bytes l.text ++ flat_map (put_in l.values) (drop l.index l.context) ≡ saved_text (put_in l.values) l.fn.id l.context
