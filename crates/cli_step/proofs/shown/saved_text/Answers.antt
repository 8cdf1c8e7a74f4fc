use Rattle.std.proofs.Common.{◌++◌, ◌+◌, ◌∙◌, ap, append_assoc, drop, string_bytes}
use Rattle.std.specs.List.{flat_map}
use Rattle.cli_step.proofs.Puts.{one_shown}
use Rattle.cli_step.specs.Places.{put_in}
use Rattle.cli_step.proofs.shown.saved_text.Goals as goal

pub loop-index-preserved : goal.loop-index-preserved
loop-index-preserved c =
    let context = c.args.context.now in
    let index = c.loop-index.index in
    let text = string_bytes c.loop-index.text in
    ap (λ t. t ++ flat_map (put_in c.args.values) (drop (index + 1) context)) c.in_ok-push_put_at.ensures
    ∙ append_assoc text _ _ ∙ ap (λ t. text ++ t) (one_shown (put_in c.args.values) context index) ∙ c.loop-index.invariant
