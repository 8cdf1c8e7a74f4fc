-- The call that is due to what a session holds.
-- for: laws::calls_agree
use Rattle.std.proofs.Common.{◌≡◌, ℕ, ◌<◌, ◌≤◌, Bool, true, false, inl, inr, List, Option, Some, None, refl, sym, ◌∙◌, ap, arith}
use Rattle.std.specs.Prelude.{if◌then◌else◌, ◌&&◌, nat_lt, not, slice_get}
use Rattle.std.specs.Option.{option_map_or}
use Rattle.std.proofs.lemmas.Bool.Decides.{nat_tests}
use Rattle.sw_participant.specs.declared.call.Call.{Call}
use Rattle.flow_model.specs.declared.flow.Flow.{Flow}
use Rattle.flow_model.specs.declared.numbering.Part.{Part}
use Rattle.flow_model.specs.Places.{parts_of}
use Rattle.tx_machine.specs.declared.values.Due.{Due}
use Rattle.tx_machine.specs.declared.values.Due.TheVariants as due
use Rattle.tx_machine.specs.Due.{call_of, due_of}
use Rattle.tx_machine.specs.Row.{Row as TxRow}
use Rattle.tx_machine.specs.Table.{TxState}
use Rattle.outcome_calls.specs.States.{FullState, own, is_recovering, recovers as recovers_it}
use Rattle.outcome_calls.specs.Stations.{station_call}
use Rattle.tx_history.specs.declared.event.Event.{Event}
use Rattle.tx_history.specs.declared.journal.Row.{Row}
use Rattle.tx_history.specs.Keys.{look}
use Rattle.tx_history.specs.History.{Start, recovers, recovering, is_restored, marked, outcome_of, own_items, serves, state_of}
use Rattle.tx_history.specs.Journal.{IsLawful, is_closed}
use Rattle.tx_history.specs.Views.{IsOrdered}
use Rattle.tx_history.proofs.OwnItems.{FoundRow, serves_below, serves_old, taken_from}
use Rattle.tx_history.proofs.Sessions.{serves_who}
use Rattle.outcome_history.specs.Sessions.{restored, recovered_state}
use Rattle.outcome_history.specs.Calls.{call_or, due_call, Calls}
use Rattle.outcome_history.proofs.ServedSessions.{open_at, closed_idle}
use Rattle.outcome_history.proofs.StandingStates.{of_this_life, of_the_journal}
use Rattle.outcome_history.proofs.RestoredAgree.{restored_same}

-- of this life

own_call : (f : Flow) (id : ℕ) (s : TxState) (d : Due) → station_call f id (own s) d ≡ call_of id false d
own_call f id s (due.Prepare p) = refl
own_call f id s (due.PrepareForAbort p) = refl
own_call f id s (due.Select p) = refl
own_call f id s (due.Commit p) = refl
own_call f id s (due.Abort p) = refl
own_call f id s due.Shelve = refl
own_call f id s due.Done = refl

-- of the journal

same_mark : (o : Option Part) → is_recovering o ≡ option_map_or (λ (x : Part). x.kind.recovers) o false
same_mark None = refl
same_mark (Some p) = refl

-- a state that was recovered
abbrev pub back_at : TxState → Option TxRow → Bool → FullState
back_at s row b = record { state = s; opened = row; recovered = true; restored = b }

commit_call : (f : Flow) (id p : ℕ) (s : TxState) (row : Option TxRow) (back mark : Bool) → recovers_it f p ≡ mark → recovers f p ≡ mark
    → station_call f id (back_at s row back) (due.Commit p) ≡ call_or id true (due.Commit p) (if not back then marked f (Some (p, true)) else None)
commit_call f id p s row true mark e w = refl
commit_call f id p s row false true e w = rw (e, w) refl
commit_call f id p s row false false e w = rw (e, w) refl

abort_call : (f : Flow) (id p : ℕ) (s : TxState) (row : Option TxRow) (back mark : Bool) → recovers_it f p ≡ mark → recovers f p ≡ mark
    → station_call f id (back_at s row back) (due.Abort p) ≡ call_or id true (due.Abort p) (if not back then marked f (Some (p, false)) else None)
abort_call f id p s row true mark e w = refl
abort_call f id p s row false true e w = rw (e, w) refl
abort_call f id p s row false false e w = rw (e, w) refl

plain_call : (id : ℕ) (d : Due) (back : Bool) (o : Option Call) → o ≡ call_of id true d → o ≡ call_or id true d (if not back then None else None)
plain_call id d true o e = e
plain_call id d false o e = e

back_call : (f : Flow) (id : ℕ) (s : TxState) (row : Option TxRow) (back : Bool) (d : Due) →
    station_call f id (back_at s row back) d ≡ call_or id true d (if not back then marked f (outcome_of d) else None)
back_call f id s row back (due.Prepare p) = plain_call id (due.Prepare p) back _ refl
back_call f id s row back (due.PrepareForAbort p) = plain_call id (due.PrepareForAbort p) back _ refl
back_call f id s row back (due.Select p) = plain_call id (due.Select p) back _ refl
back_call f id s row back (due.Commit p) = commit_call f id p s row back (recovers_it f p) refl (sym (same_mark (slice_get (parts_of f) p)))
back_call f id s row back (due.Abort p) = abort_call f id p s row back (recovers_it f p) refl (sym (same_mark (slice_get (parts_of f) p)))
back_call f id s row back due.Shelve = plain_call id due.Shelve back _ refl
back_call f id s row back due.Done = plain_call id due.Done back _ refl

-- what is held

unclosed : (f : Flow) (v : Start) (past : List Event) (id : ℕ) → IsOrdered v.view → IsLawful f v past → FoundRow f v.view.rows (own_items f v past) id →
    (b : Bool) → is_closed past id ≡ b → b ≡ false
unclosed f v past id o law w false e = refl
unclosed f v past id o law w true e =
    let idle = closed_idle f v past id o law e in
    let busy : open_at f (look id v.view.rows) (own_items f v past id) ≡ true = ap (λ (r : Option Row). open_at f r (own_items f v past id)) w.there
    ∙ ap not w.unfinished in
    absurd (cc)

pub recovered_id : (f : Flow) (v : Start) (past : List Event) (s id : ℕ) → serves f v past s ≡ Some id → id < v.view.next_id → recovering f v past ≡ Some id
recovered_id f v past s id h less = elim (serves_who f v past s id h) [
  | inl a ↦ a.0
  | inr a ↦ absurd (let le = taken_from v past s id a in omega arith)
]

due_old : (f : Flow) (v : Start) (past : List Event) (id : ℕ) → nat_lt id v.view.next_id ≡ true
    → due_call f v past id ≡ call_or id true (due_of f (state_of f v past id))
    (if not (is_restored past) then marked f (outcome_of (due_of f (state_of f v past id))) else None)
due_old f v past id lt = ap (λ (b : Bool). call_or id b (due_of f (state_of f v past id))
    (if b && not (is_restored past) then marked f (outcome_of (due_of f (state_of f v past id))) else None)) lt

due_new : (f : Flow) (v : Start) (past : List Event) (id : ℕ) → nat_lt id v.view.next_id ≡ false →
    due_call f v past id ≡ call_of id false (due_of f (state_of f v past id))
due_new f v past id lt = ap (λ (b : Bool). call_or id b (due_of f (state_of f v past id))
    (if b && not (is_restored past) then marked f (outcome_of (due_of f (state_of f v past id))) else None)) lt

calls_if : (f : Flow) (v : Start) (past : List Event) (s id : ℕ) → IsOrdered v.view → IsLawful f v past → serves f v past s ≡ Some id → (b : Bool) →
    nat_lt id v.view.next_id ≡ b → Calls f v past id
calls_if f v past s id o law h true e =
    let less : id < v.view.next_id = grind (arith, nat_tests) in
    let w = serves_old f v past s id o h less in
    let back = restored_same f v past id o law (recovered_id f v past s id h less) in
    record {
      state = recovered_state f v past id w.row;
      stands = of_the_journal f v past id w.row o law w.there (unclosed f v past id o law w (is_closed past id) refl);
      same = refl;
      call = back_call f id (state_of f v past id) (recovered_state f v past id w.row).opened (restored f v past id) (due_of f (state_of f v past id))
          ∙ (ap (λ (b : Bool). call_or id true (due_of f (state_of f v past id)) (if not b then marked f (outcome_of (due_of f (state_of f v past id))) else
          None)) back
          ∙ sym (due_old f v past id e));
    }
calls_if f v past s id o law h false e =
    let above : v.view.next_id ≤ id = grind (arith, nat_tests) in
    record {
      state = own (state_of f v past id);
      stands = of_this_life f v past id o law above (serves_below f v past s id o h).1;
      same = refl;
      call = own_call f id (state_of f v past id) (due_of f (state_of f v past id)) ∙ sym (due_new f v past id e);
    }

pub calls_agree : (f : Flow) (v : Start) (past : List Event) (s id : ℕ) → IsOrdered v.view → IsLawful f v past → serves f v past s ≡ Some id
    → Calls f v past id
calls_agree f v past s id o law h = calls_if f v past s id o law h (nat_lt id v.view.next_id) refl
