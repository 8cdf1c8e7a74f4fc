use Rattle.std.proofs.Common.{◌∙◌, rules, tests}
use Rattle.std.proofs.lemmas.Iterator.{YieldsList-from_slice}
use Rattle.std.proofs.lemmas.Iterator.Search.{position_from_yields_List}
use Rattle.cli_io.proofs.Positions.{end_found, end_within}
use Rattle.cli_lines.specs.Feeds.{is_line_feed}
use Rattle.cli_lines.proofs.feeds.line_end.Goals as goal

pub returns : goal.returns
returns c =
    let bytes = c.args.bytes.now in
    let index = c.unwrap_or.ensures
    ∙ end_found is_line_feed bytes c.position.result
    (position_from_yields_List is_line_feed _ _ c.position.result c.position.ensures.ran
    (YieldsList-from_slice bytes (cc)) (λ x b q k. search (rules, tests))) in
    record { index = index; within = end_within is_line_feed bytes _ index }
