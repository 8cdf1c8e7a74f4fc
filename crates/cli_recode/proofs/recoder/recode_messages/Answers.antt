use Rattle.std.proofs.Common.{◌∙◌, ap, subst, sym, List, ℕ, ◌++◌}
use Rattle.std.proofs.KnownBytes.{Keeps-trans}
use Rattle.cli_recode.specs.Recodings.{IsWritten}
use Rattle.cli_recode.proofs.Written.{added, or-left, or-right}
use Rattle.cli_recode.proofs.recoder.recode_messages.Goals as goal

pub loop-message-preserved : goal.loop-message-preserved
loop-message-preserved g c =
    let job = c.args.recoding.now in
    let vs = c.args.messages.now in
    let old = c.loop-message.recoded in
    let one = c.in_ok-one.one in
    let written = subst (λ (z : List ℕ). IsWritten job z one.frames.items one.refused) c.deref.ensures.value c.in_ok-one.ensures.written in
    let new = c.in_ok-extend_from_slice.ensures.items ∙ ap (λ (z : List ℕ). old.frames.items ++ z) c.deref-in-loop-message.ensures.value in
    record {
      written = rw c.either.ensures (added job vs c.loop-message.message-index c.message-item.result old.frames.items one.frames.items
          c.extend_from_slice.new.self.items old.refused one.refused c.loop-message-test.true c.message-item.is c.loop-message.invariant.written written new);
      quiet = λ e. Keeps-trans (g.E.Write.contents c.args.err.now) (g.E.Write.contents c.loop-message.err) (g.E.Write.contents c.recode_one.new.err)
          (c.loop-message.invariant.quiet (or-left old.refused one.refused (sym c.either.ensures ∙ e)))
          (c.in_ok-one.ensures.quiet (or-right old.refused one.refused (sym c.either.ensures ∙ e)));
    }
