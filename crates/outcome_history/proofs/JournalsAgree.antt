-- The journal that a lawful history leaves, in the outcome law's words.
-- for: laws::journals_agree
use Rattle.std.proofs.Common.{◌≡◌, ℕ, List, refl}
use Rattle.std.proofs.Math.Path.{fun_ext}
use Rattle.flow_model.specs.declared.flow.Flow.{Flow}
use Rattle.sw_seating.proofs.Numbered.{numbered_parts}
use Rattle.outcome_calls.specs.Core as core
use Rattle.outcome_calls.specs.Core.{IdView}
use Rattle.tx_history.specs.declared.event.Event.{Event}
use Rattle.tx_history.specs.History.{Start}
use Rattle.tx_history.specs.Journal.{IsLawful, journal}
use Rattle.tx_history.specs.Views.{StartFits}
use Rattle.outcome_history.specs.Looked.{id_view}
use Rattle.outcome_history.specs.Sessions.{id_events}
use Rattle.outcome_history.proofs.ServedSessions.{next_same}
use Rattle.outcome_history.proofs.RowsAgree.{rows_agree}
use Rattle.outcome_history.proofs.AdvicesAgree.{advices_agree}

same_view : (a b : IdView) → a.next_id ≡ b.next_id → ((id : ℕ) → a.row id ≡ b.row id) → ((id n : ℕ) → a.advice id n ≡ b.advice id n) → a ≡ b
same_view a b next rows advices =
    let each : a.row ≡ b.row = fun_ext rows in
    let kept : a.advice ≡ b.advice = fun_ext (λ id. fun_ext (advices id)) in
    let e : record { next_id = a.next_id; row = a.row; advice = a.advice } ≡ record { next_id = b.next_id; row = b.row; advice = b.advice } =
    rw (next, each, kept) refl in e

pub journals_agree : (f : Flow) (v : Start) (past : List Event) → StartFits f v → IsLawful f v past → core.journal f (id_view f v.view) (id_events f v past)
    ≡ id_view f (journal f v past)
journals_agree f v past st law =
    same_view (core.journal f (id_view f v.view) (id_events f v past)) (id_view f (journal f v past)) (next_same f v past)
    (λ id. rows_agree f v past id (numbered_parts f) st law)
    (λ id n. advices_agree f v past id n st.view.ordered law)
