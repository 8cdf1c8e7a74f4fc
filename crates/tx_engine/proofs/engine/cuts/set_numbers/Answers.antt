use Rattle.std.proofs.Common.{◌∙◌, sym, true, false}
use Rattle.tx_slots.specs.Slots.{flag}
use Rattle.tx_engine.proofs.Cuts.{append_none, filter_next, flag_get}
use Rattle.tx_engine.proofs.engine.cuts.set_numbers.Goals.{then-set+in_ok-push, else-set}
use Rattle.tx_engine.proofs.engine.cuts.set_numbers.Goals as goal

pub loop-number-preserved : goal.loop-number-preserved
loop-number-preserved c =
    elim c.if-set.branch [
      | then-set+in_ok-push w ↦ (rw (w.numbers-is, w.in_ok-push.ensures.items, c.loop-number.invariant)
          (sym (filter_next (flag c.args.flags.now) c.loop-number.number true (flag_get c.args.flags.now c.loop-number.number ∙ w.if-set.true))))
      | else-set w ↦ (rw (w.numbers-is, c.loop-number.invariant)
          (sym (filter_next (flag c.args.flags.now) c.loop-number.number false (flag_get c.args.flags.now c.loop-number.number ∙ w.if-set.false)
          ∙ append_none _)))
    ]
