use Rattle.std.proofs.Common.{◌≡◌, drop}
use Rattle.sw_scripted.specs.Puts.{put_all}
use Rattle.sw_scripted.proofs.puts.put_all.Given as goal

abbrev pub invariant-loop-put : goal.invariant-loop-put
invariant-loop-put l = put_all l.context (drop l.put-index l.puts) ≡ put_all l.initial.context l.puts
