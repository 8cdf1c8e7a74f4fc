use Rattle.std.proofs.Common.{◌∙◌, refl, ap, map}
use Rattle.tx_machine.specs.declared.machine.Machine.{Machine}
use Rattle.tx_machine.specs.Contract.{IsSound, tx_state}
use Rattle.tx_machine.specs.Position.{shown}
use Rattle.tx_machine.proofs.Copies.{IsSame, same_ready, same_state}
use Rattle.tx_machine.proofs.machine.Machine.copy.Goals as goal
use Rattle.tx_machine.proofs.machine.Machine.copy.Goals.{In_ok-saved}

abbrev made : In_ok-saved → Machine
made c =
    let m = c.args.self.now in
    record {
      phase = m.phase;
      step = m.step;
      stack = c.in_ok-stack.stack;
      retry = m.retry;
      bound = m.bound;
      calls = m.calls;
      joined = c.in_ok-joined.joined;
      told = m.told;
      tries = m.tries;
      saved = c.in_ok-saved.saved;
    }

same : (c : In_ok-saved) → IsSame c.args.self.now (made c)
same c = record {
  phase = refl;
  step = refl;
  stack = c.in_ok-stack.ensures ∙ ap (map shown) c.as_slice.ensures.value;
  retry = refl;
  bound = refl;
  calls = refl;
  joined = c.in_ok-joined.ensures.items ∙ c.as_slice-2.ensures.value;
  told = refl;
  tries = refl;
  saved = c.in_ok-saved.ensures.items ∙ c.as_slice-3.ensures.value;
}

pub returns-clause-state : goal.returns-clause-state
unfolding tx_state
returns-clause-state c = λ f. same_state f c.args.self.now (made c.before) (same c.before)

pub returns-clause-sound : goal.returns-clause-sound
unfolding IsSound
returns-clause-sound c = λ f h. same_ready f c.args.self.now (made c.before) (same c.before) h
