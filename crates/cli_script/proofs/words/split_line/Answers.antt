use Rattle.std.proofs.Common.{rules}
use Rattle.cli_script.proofs.LineEnds.{after_end, before_end, nothing_after, whole_line}
use Rattle.cli_lines.specs.Feeds.{is_line_feed}
use Rattle.cli_script.proofs.words.split_line.Goals as goal

pub returns-then-end-script : goal.returns-then-end-script
returns-then-end-script c =
    let index = c.line_end-end.ensures.index in (
      search rules,
      whole_line is_line_feed c.args.script.now _ index c.if-end-script.true,
      nothing_after is_line_feed c.args.script.now _ index c.if-end-script.true,
    )

pub returns : goal.returns
returns c =
    let index = c.line_end-end.ensures.index in (
      search rules,
      before_end is_line_feed c.args.script.now _ index,
      after_end is_line_feed c.args.script.now _ index,
    )
