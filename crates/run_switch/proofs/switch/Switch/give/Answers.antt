use Rattle.std.proofs.Common.{[], inl, inr, refl, sym}
use Rattle.cli_io.proofs.Writing.{beginning_all, beginning_none}
use Rattle.run_switch.proofs.Rounds.{on_ok}
use Rattle.run_switch.proofs.Stops.{on_err_of}
use Rattle.run_switch.proofs.switch.Switch.give.Goals as goal

pub returns-clause-gives : goal.returns-clause-gives
returns-clause-gives g c =
    on_ok c.note_given.result (λ _. (
      c.deref.result.now,
      rw (c.deref.ensures.value, sym c.ended.ensures) c.in_ok-text.ensures,
      c.in_ok-write_out.ensures.written,
    )) c.note_given.ensures.answered

pub returns-clause-stopped : goal.returns-clause-stopped
returns-clause-stopped g c =
    on_err_of c.note_given.result (
      c.deref.result.now,
      inr (rw (c.deref.ensures.value, sym c.ended.ensures) c.in_ok-text.ensures),
      beginning_all _ _ c.deref.result.now c.in_ok-write_out.ensures.written,
    )

pub returns-in_err-text-clause-stopped : goal.returns-in_err-text-clause-stopped
returns-in_err-text-clause-stopped g c = on_err_of c.from_residual.result ([], inl refl, beginning_none _ [])

pub returns-in_err-write_out-clause-stopped : goal.returns-in_err-write_out-clause-stopped
returns-in_err-write_out-clause-stopped g c =
    on_err_of c.from_residual-in_err-write_out.result (
      c.deref.result.now,
      inr (rw (c.deref.ensures.value, sym c.ended.ensures) c.in_ok-text.ensures),
      c.in_err-write_out.ensures.beginning,
    )
