use Rattle.std.proofs.Common.{map}
use Rattle.std.proofs.lemmas.List.{map-append}
use Rattle.run_responses.proofs.Ended.{framed_more}
use Rattle.run_responses.proofs.given.text_above.Goals as goal

pub loop-number-preserved : goal.loop-number-preserved
loop-number-preserved c =
    let (framed, are, text) = c.in_ok-add_frame.ensures in
    let es = map (λ e. (e.0.now, e.1.now)) c.loop-number.yielded in
    let more = framed_more c.loop-number.text.items framed es (c.in-Some.number.now, c.in-Some.context.now) c.loop-number.invariant are in
    rw (text, map-append) more
