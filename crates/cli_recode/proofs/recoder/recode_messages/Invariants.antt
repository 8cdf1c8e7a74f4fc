use Rattle.std.proofs.Common.{take}
use Rattle.sw_frame.specs.Feeds.{messages}
use Rattle.cli_recode.specs.Progress.{IsQuiet}
use Rattle.cli_recode.specs.Recodings.{AreWritten}
use Rattle.cli_recode.proofs.recoder.recode_messages.Given as goal

abbrev pub invariant-loop-message : goal.invariant-loop-message
invariant-loop-message g l = record {
  written : AreWritten l.recoding (messages (take l.message-index l.messages)) l.recoded.frames.items l.recoded.refused;
  quiet : IsQuiet l.recoded.refused (g.E.Write.contents l.fn.err) (g.E.Write.contents l.err);
}
