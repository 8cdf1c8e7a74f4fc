-- A machine with the same step, and frames that say the same, is in the same state as the other.
-- for: machine::Machine::copy
use Rattle.std.proofs.Common.{◌≡◌, ℕ, ◌<◌, ◌≤◌, inl, inr, ⊎_elim, List, [], ◌∷◌, ◌++◌, length, map, refl, sym, ap, ◌∙◌, subst}
use Rattle.std.specs.Prelude.{slice_get}
use Rattle.std.specs.List.{All, AllByRecursion}
use Rattle.std.proofs.lemmas.List.Elements.{All-from_recursion, recursion_from_All}
use Rattle.flow_model.specs.declared.flow.Flow.{Flow}
use Rattle.flow_model.specs.Places.{parts_of}
use Rattle.flow_asm.specs.Steps.{layout, stages}
use Rattle.tx_machine.specs.declared.walk.StackFrame.{StackFrame}
use Rattle.tx_machine.specs.declared.machine.Machine.{Machine}
use Rattle.tx_machine.specs.Table.{Prepare, TxState}
use Rattle.tx_machine.specs.Position.{frame_upcoming, upcoming_at, rest_of, shown, entries_in, stack_upcoming, IsStackFrame}
use Rattle.tx_machine.specs.Contract.{IsReady, state}

same_upcoming : (f : Flow) (xs ys : List StackFrame) → map shown xs ≡ map shown ys → stack_upcoming f xs ≡ stack_upcoming f ys
same_upcoming f [] [] h = refl
same_upcoming f [] (y ∷ ys) h = absurd cc
same_upcoming f (x ∷ xs) [] h = absurd cc
same_upcoming f (x ∷ xs) (y ∷ ys) h =
    let same : shown x ≡ shown y = cc in
    let rest : map shown xs ≡ map shown ys = cc in
    let back : x.back ≡ y.back = ap (λ (p : ℕ × List ℕ). p.0) same in
    let pending : x.pending.items ≡ y.pending.items = ap (λ (p : ℕ × List ℕ). p.1) same in
    ap (λ ms. ms ++ frame_upcoming f x) (same_upcoming f xs ys rest)
    ∙ ap (λ gs. stack_upcoming f ys ++ (map Prepare (entries_in f gs) ++ upcoming_at f x.back)) pending
    ∙ ap (λ k. stack_upcoming f ys ++ (map Prepare (entries_in f y.pending.items) ++ upcoming_at f k)) back

same_rest : (f : Flow) (step : ℕ) (xs ys : List StackFrame) → map shown xs ≡ map shown ys → rest_of f step xs ≡ rest_of f step ys
same_rest f step xs ys h = ap (λ ms. upcoming_at f step ++ ms) (same_upcoming f xs ys h)

pub record IsSame (m n : Machine) : Type 0 where
  pub phase : n.phase ≡ m.phase
  pub step : n.step ≡ m.step
  pub stack : map shown n.stack.items ≡ map shown m.stack.items
  pub retry : n.retry ≡ m.retry
  pub bound : n.bound ≡ m.bound
  pub calls : n.calls ≡ m.calls
  pub joined : n.joined.items ≡ m.joined.items
  pub told : n.told ≡ m.told
  pub tries : n.tries ≡ m.tries
  pub saved : n.saved.items ≡ m.saved.items

pub same_state : (f : Flow) (m n : Machine) → IsSame m n → state f n ≡ state f m
same_state f m n s =
    let rest : rest_of f n.step n.stack.items ≡ rest_of f m.step m.stack.items = same_rest f n.step n.stack.items m.stack.items s.stack
    ∙ ap (λ k. rest_of f k m.stack.items) s.step in
    rw (s.phase, rest, s.retry, s.bound, s.calls, s.joined, s.told, s.tries, s.saved) refl

same_frames : (f : Flow) (xs ys : List StackFrame) → map shown xs ≡ map shown ys → AllByRecursion (IsStackFrame f) ys → AllByRecursion (IsStackFrame f) xs
same_frames f [] [] h all = tt
same_frames f [] (y ∷ ys) h all = absurd cc
same_frames f (x ∷ xs) [] h all = absurd cc
same_frames f (x ∷ xs) (y ∷ ys) h all =
    let same : shown x ≡ shown y = cc in
    let rest : map shown xs ≡ map shown ys = cc in
    let back : y.back ≡ x.back = sym (ap (λ (p : ℕ × List ℕ). p.0) same) in
    let pending : y.pending.items ≡ x.pending.items = sym (ap (λ (p : ℕ × List ℕ). p.1) same) in (
      record { back = subst (λ n. n < length (stages f)) back all.0.back; pending = subst (All (λ g. g < length (layout f))) pending all.0.pending },
      same_frames f xs ys rest all.1,
    )

same_empty : (xs ys : List StackFrame) → map shown xs ≡ map shown ys → ys ≡ [] → xs ≡ []
same_empty [] ys h e = refl
same_empty (x ∷ xs) [] h e = absurd cc
same_empty (x ∷ xs) (y ∷ ys) h e = absurd cc

pub same_ready : (f : Flow) (m n : Machine) → IsSame m n → IsReady f m → IsReady f n
same_ready f m n s h = record {
  at_call_or_end = record {
    fits = record {
      within = subst (λ k. k < length (stages f)) (sym s.step) h.at_call_or_end.fits.within;
      frames = All-from_recursion (IsStackFrame f) n.stack.items (same_frames f n.stack.items m.stack.items s.stack
          (recursion_from_All (IsStackFrame f) m.stack.items h.at_call_or_end.fits.frames));
      few = subst (λ k. k ≤ 1000) (sym s.calls) h.at_call_or_end.fits.few;
      members = subst (All (λ p. p < length (parts_of f))) (sym s.joined) h.at_call_or_end.fits.members;
    };
    rested = λ e. same_empty n.stack.items m.stack.items s.stack (h.at_call_or_end.rested (ap (λ k. slice_get (stages f) k) (sym s.step) ∙ e));
  };
  few = ⊎_elim (λ none. inl (ap (λ (t : TxState). t.rest) (same_state f m n s) ∙ none)) (λ less. inr (subst (λ k. k < 1000) (sym s.calls) less)) h.few;
}
