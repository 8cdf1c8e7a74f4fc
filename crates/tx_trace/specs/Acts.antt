-- The names of calls.
use Rattle.std.specs.Prelude.{codes}
use Rattle.sw_participant.specs.declared.call.Act.{Act}
use Rattle.sw_participant.specs.declared.call.Act.TheVariants as act
use Rattle.tx_trace.specs.Trace.{Text}

abbrev pub act_word : Act → Text
act_word act.Prepare = codes "prepare"
act_word act.PrepareForAbort = codes "prepare_for_abort"
act_word act.Select = codes "select"
act_word (act.Commit recovering) = codes "commit"
act_word (act.Abort recovering) = codes "abort"
act_word (act.Recover commit) = codes "recover"
