use Rattle.std.proofs.Common.{◌∙◌, ◌++◌, ◌∷◌, [], ℕ, List, ap}
use Rattle.cli_script.specs.Groups.{entry, entry_spelled}
use Rattle.cli_script.proofs.Spelled.{spelled_more}
use Rattle.cli_script.proofs.group.spelled_entries.Goals as goal

pub loop-word-preserved : goal.loop-word-preserved
loop-word-preserved c =
    let grows = c.in_ok-push.ensures.items ∙ ap (λ (name : List ℕ). c.loop-word.entries.items ++ entry name c.in-Some.kind ∷ []) c.in_ok-participant.ensures in
    spelled_more entry_spelled c.loop-word.entries.items _ c.args.words.now c.loop-word.word-index _ (entry c.in-Some.name.now c.in-Some.kind) _ grows
    c.loop-word-test.true c.in-Some.ensures c.loop-word.invariant
