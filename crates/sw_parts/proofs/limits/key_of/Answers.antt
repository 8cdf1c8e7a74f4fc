use Rattle.std.proofs.Common.{ℕ, List, ap, ◌∙◌}
use Rattle.sw_parts.proofs.KeyParts.{four}
use Rattle.sw_messages.specs.Placing.{put_at}
use Rattle.sw_book.specs.declared.item.BookKey.{BookKey}
use Rattle.sw_parts.proofs.limits.key_of.Goals as goal

pub returns : goal.returns
returns c =
    ap (λ (z : List ℕ). let k : BookKey = record { bytes = z } in k)
    (c.put_part-4.ensures
    ∙ ap (put_at 33 c.args.sent.now) (c.put_part-3.ensures ∙ ap (put_at 27 c.args.stan.now)
    (c.put_part-2.ensures ∙ ap (put_at 19 c.args.terminal.now) c.put_part.ensures))
    ∙ four c.args.card.digits c.args.terminal.now c.args.stan.now c.args.sent.now c.requires.card c.requires.terminal c.requires.stan c.requires.sent)
