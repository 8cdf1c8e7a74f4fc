-- Where a transaction stands when it is taken, and what its row says of it.
-- for: tracer::begun, tracer::Tracer::other
use Rattle.std.proofs.Common.{◌≡◌, ℕ, ◌-◌, ◌<◌, Bool, true, false, List, [], ◌∷◌, length, Some, None, refl, sym, ◌∙◌, ap, arith, suc, zero}
use Rattle.std.specs.Prelude.{if◌then◌else◌, slice_get, ◌==◌, nat_lt, codes, map}
use Rattle.std.proofs.lemmas.Bool.Decides.{nat_tests}
use Rattle.flow_model.specs.declared.flow.Flow.{Flow}
use Rattle.flow_model.specs.Places.{entries_named}
use Rattle.tx_machine.specs.declared.values.Phase.{Phase}
use Rattle.tx_machine.specs.declared.values.Phase.TheVariants.{Preparing, Aborting, Committing, Undoing}
use Rattle.tx_machine.specs.declared.values.Due.TheVariants as due
use Rattle.tx_machine.specs.Table.{TxState, Upcoming, Prepare, Select, cut_at, decide_at, limited, advanced, is_aborting, opening, passed_if}
use Rattle.tx_machine.specs.Due.{due_at, due_of, end_by}
use Rattle.tx_history.specs.declared.event.Event.{Event}
use Rattle.tx_history.specs.declared.event.Event.TheVariants.{Taken}
use Rattle.tx_history.specs.declared.journal.Row.{Row}
use Rattle.tx_history.specs.declared.journal.WaitingContext.{WaitingContext}
use Rattle.tx_history.specs.History.{Start, arrivals, is_ended, is_over, next_id, own_items, state_of, takes}
use Rattle.tx_history.specs.Journal.{IsLawful, row}
use Rattle.tx_history.specs.Views.{IsOrdered}
use Rattle.tx_history.proofs.Rows.{as_row, row_some, row_unended}
use Rattle.tx_history.proofs.SoundJournals.{own_none}

-- an opening keeps the tries and the context, and has no retry

pub record Opens (s to : TxState) : Type 0 where
  pub tries : to.tries ≡ s.tries
  pub saved : to.saved ≡ s.saved
  pub retry : to.retry ≡ false

cut_opens : (s : TxState) (ms : List Upcoming) (full : Bool) → s.retry ≡ false → Opens s (cut_at s ms full)
cut_opens s [] full r = record { tries = refl; saved = refl; retry = r }
cut_opens s (m ∷ ms) false r = record { tries = refl; saved = refl; retry = r }
cut_opens s (m ∷ ms) true r = record { tries = refl; saved = refl; retry = refl }

decide_opens : (s : TxState) (ms : List Upcoming) (ps : List ℕ) → s.retry ≡ false → Opens s (decide_at s ms ps)
decide_opens s (m ∷ ms) ps r = record { tries = refl; saved = refl; retry = r }
decide_opens s [] [] r = record { tries = refl; saved = refl; retry = r }
decide_opens s [] (p ∷ ps) r = record { tries = refl; saved = refl; retry = r }

advanced_opens : (s : TxState) → s.retry ≡ false → Opens s (advanced s)
advanced_opens s r =
    let go : TxState = record s { rest = passed_if (is_aborting s.phase) s.rest } in
    let a = cut_opens go go.rest (go.calls == 1000) r in
    let b = decide_opens (limited go) (limited go).rest (limited go).joined a.retry in
    record { tries = b.tries ∙ a.tries; saved = b.saved ∙ a.saved; retry = b.retry }

pub record IsOpening (f : Flow) (tries : ℕ) (saved : List ℕ) : Type 0 where
  pub same_tries : (opening f tries saved).tries ≡ tries
  pub same_saved : (opening f tries saved).saved ≡ saved
  pub retry : (opening f tries saved).retry ≡ false

pub opens : (f : Flow) (tries : ℕ) (saved : List ℕ) → IsOpening f tries saved
opens f tries saved =
    let s : TxState = record {
      phase = Preparing;
      rest = map Prepare (entries_named f (codes "main"));
      retry = false;
      bound = false;
      calls = 0;
      joined =
          [];
      told = 0;
      saved = saved;
      tries = tries;
    } in
    let w = advanced_opens s refl in
    record { same_tries = w.tries; same_saved = w.saved; retry = w.retry }

-- without a retry nothing ends on the shelf

commit_done : (b : Bool) (p : ℕ) → is_over (if b then due.Commit p else due.Done) ≡ true → (if b then due.Commit p else due.Done) ≡ due.Done
commit_done true p h = absurd (cc)
commit_done false p h = refl

abort_done : (b c : Bool) (p n : ℕ) → c ≡ false → is_over (if b then due.Abort p else end_by c n) ≡ true → (if b then due.Abort p else end_by c n) ≡ due.Done
abort_done true c p n r h = absurd (cc)
abort_done false c p n r h = rw r refl

done_at : (f : Flow) (s : TxState) (p : Phase) (ms : List Upcoming) → s.retry ≡ false → is_over (due_at f s p ms) ≡ true → due_at f s p ms ≡ due.Done
done_at f s Preparing [] r h = refl
done_at f s Preparing (Prepare e ∷ ms) r h = absurd (cc)
done_at f s Preparing (Select e ∷ ms) r h = absurd (cc)
done_at f s Aborting [] r h = rw r refl
done_at f s Aborting (Prepare e ∷ ms) r h = absurd (cc)
done_at f s Aborting (Select e ∷ ms) r h = absurd (cc)
done_at f s Committing ms r h = commit_done _ _ h
done_at f s Undoing ms r h = abort_done _ s.retry _ s.tries r h

-- what the row of a taken transaction says

ended_if : (f : Flow) (st : TxState) (b : Bool) → is_ended f st ≡ b → (if b then None else Some (as_row f st)) ≡ None → is_ended f st ≡ true
ended_if f st true e h = e
ended_if f st false e h = absurd (cc)

pub no_row_ended : (f : Flow) (st : TxState) → row f st ≡ None → is_ended f st ≡ true
no_row_ended f st h = ended_if f st (is_ended f st) refl (sym (row_unended f st) ∙ h)

pub no_row_done : (f : Flow) (tries : ℕ) (saved : List ℕ) → row f (opening f tries saved) ≡ None → due_of f (opening f tries saved) ≡ due.Done
no_row_done f tries saved h =
    let st : TxState = opening f tries saved in
    done_at f st st.phase st.rest (opens f tries saved).retry (no_row_ended f st h)

pub row_opening : (f : Flow) (tries : ℕ) (saved : List ℕ) (r : Row) → row f (opening f tries saved) ≡ Some r →
    opening f r.tries r.context ≡ opening f tries saved
row_opening f tries saved r h =
    let w = (row_some f (opening f tries saved) r h).1 in
    let is = opens f tries saved in
    let t : r.tries ≡ tries = sym (ap (λ (x : Row). x.tries) w) ∙ is.same_tries in
    let s : r.context ≡ saved = sym (ap (λ (x : Row). x.context) w) ∙ is.same_saved in
    rw (t, s) refl

-- where a transaction stands when it is taken

get_within : {A : Type 0} (xs : List A) (n : ℕ) → n < length xs → (x : A) × (slice_get xs n ≡ Some x)
get_within [] n h = absurd (omega arith)
get_within (x ∷ xs) zero h = (x, refl)
get_within (x ∷ xs) (suc n) h = get_within xs n (omega arith)

pub record StandsTaken (f : Flow) (v : Start) (past : List Event) (s : ℕ) : Type 0 where
  pub first : WaitingContext
  pub state : state_of f v (Taken s ∷ past) (next_id v past) ≡ opening f first.tries first.context

pub stands_taken : (f : Flow) (v : Start) (past : List Event) (s : ℕ) → IsOrdered v.view → IsLawful f v (Taken s ∷ past) → StandsTaken f v past s
stands_taken f v past s o law =
    let w = get_within (arrivals f v past) (takes past) law.0.2 in
    let no : nat_lt (next_id v past) v.view.next_id ≡ false = grind (arith, nat_tests) in
    let at : next_id v past - v.view.next_id ≡ takes past = omega arith in
    let none : own_items f v past (next_id v past) ≡ [] = own_none f v past (next_id v past) o (omega arith) in
    record { first = w.0; state = rw (no, at, w.1, none) refl }
