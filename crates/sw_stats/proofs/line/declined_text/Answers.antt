use Rattle.sw_stats.proofs.Texts.{next_member}
use Rattle.sw_stats.proofs.line.declined_text.Goals as goal

pub loop-code-preserved : goal.loop-code-preserved
loop-code-preserved c = next_member c.loop-code.yielded (c.in-Some.code, c.in-Some.count) _ _ c.loop-code.invariant c.in_ok-add_declined.ensures
