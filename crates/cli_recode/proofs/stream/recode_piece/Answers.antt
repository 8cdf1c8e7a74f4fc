use Rattle.std.proofs.Common.{◌∙◌, sym, inr, take}
use Rattle.cli_recode.proofs.Streams.{not_false, turned}
use Rattle.cli_recode.proofs.stream.recode_piece.Goals as goal

pub returns-clause-goes_on : goal.returns-clause-goes_on
returns-clause-goes_on g c =
    let q = c.in_ok-write_piece.ensures.written in (
      λ form first h. turned form c.args.recoding.now first _ _ _ _ (take c.in_ok-count.count c.read_piece.new.buf) q.out c.in_ok-count.ensures.piece
          q.recoded q.written q.quiet h,
      λ e. inr (sym c.failed.ensures ∙ not_false _ e),
    )
