use Rattle.std.proofs.Common.{◌∙◌, ◌≤◌, ℕ, List, [], length, sym, refl, inl, inr, subst, arith}
use Rattle.cli_encode.specs.Reading.{closed}
use Rattle.cli_encode.specs.declared.encoder.Stage.TheVariants.{Headed}
use Rattle.cli_encode.proofs.Points.{heading_none, heading_step, headed_not, headed_is, headed_at, other_word, same_word}
use Rattle.cli_encode.proofs.encoder.Encoder.head.Goals as goal

pub returns-in-Headed-clause-taken : goal.returns-in-Headed-clause-taken
returns-in-Headed-clause-taken c p h = (heading_none p c.args.word.now (h.stage ∙ c.in-Headed.is), p, inl refl, h)

pub returns-then-ne : goal.returns-then-ne
returns-then-ne c = record {
  taken = λ p h.
      let after = c.in_ok-close.ensures.closed p h in (
        heading_step p c.args.word.now (λ e. c.in_default.not-Headed (sym h.stage ∙ e))
            ∙ headed_not p.size (closed p).done c.args.word.now c.close.new.self.count after.count
            (other_word c.args.word.now _ _ _ c.if-ne.true c.ne.ensures (c.as_bytes.ensures.value ∙ c.format.ensures.text)),
        closed p,
        inr refl,
        after,
      );
  counted = c.in_ok-close.ensures.counted;
  short = c.in_ok-close.ensures.short;
}

pub returns : goal.returns
returns c = record {
  taken = λ p h.
      let after = c.in_ok-close.ensures.closed p h in (
        record { size = p.size; done = (closed p).done; header = []; stage = Headed },
        heading_step p c.args.word.now (λ e. c.in_default.not-Headed (sym h.stage ∙ e))
            ∙ headed_is p.size (closed p).done c.args.word.now c.close.new.self.count after.count
            (same_word c.args.word.now _ _ _ c.if-ne.false c.ne.ensures (c.as_bytes.ensures.value ∙ c.format.ensures.text)),
        headed_at p c.close.new.self _ after refl refl c.clear.ensures.items refl refl,
      );
  counted = c.in_ok-close.ensures.counted;
  short = subst (λ (l : List ℕ). length l ≤ 64) (sym c.clear.ensures.items) (omega arith);
}
