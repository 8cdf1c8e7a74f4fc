-- What stands under an id, by whether it is of this life or journalled.
-- for: laws::states_agree
use Rattle.std.proofs.Common.{◌≡◌, ℕ, ◌+◌, ◌<◌, ◌≤◌, Bool, true, false, List, Option, Some, None, refl, ◌∙◌, arith}
use Rattle.std.specs.Prelude.{nat_lt}
use Rattle.std.proofs.lemmas.Bool.Decides.{nat_tests}
use Rattle.flow_model.specs.declared.flow.Flow.{Flow}
use Rattle.outcome_calls.specs.States.{own}
use Rattle.outcome_calls.specs.Core.{at}
use Rattle.tx_history.specs.declared.event.Event.{Event}
use Rattle.tx_history.specs.declared.journal.Row.{Row}
use Rattle.tx_history.specs.Keys.{look}
use Rattle.tx_history.specs.History.{Start, own_items, next_id, takes, state_of}
use Rattle.tx_history.specs.Journal.{IsLawful, is_closed}
use Rattle.tx_history.specs.Views.{IsOrdered}
use Rattle.tx_history.proofs.RisingKeys.{look_within}
use Rattle.outcome_history.specs.Looked.{id_view}
use Rattle.outcome_history.specs.Sessions.{id_events, restored, journalled, full_state, recovered_state}
use Rattle.outcome_history.proofs.StatesAgree.{states_agree}

pub of_this_life : (f : Flow) (v : Start) (past : List Event) (id : ℕ) → IsOrdered v.view → IsLawful f v past → v.view.next_id ≤ id → id < next_id v past
    → at f (id_view f v.view) (id_events f v past) id ≡ Some (own (state_of f v past id))
of_this_life f v past id o law lo hi =
    let old : nat_lt id v.view.next_id ≡ false = grind (arith, nat_tests) in
    let new : nat_lt id (v.view.next_id + takes past) ≡ true = grind (arith, nat_tests) in
    let is : full_state f v past id ≡ Some (own (state_of f v past id)) = rw (old, new) refl in
    states_agree f v past o law id ∙ is

pub untaken : (f : Flow) (v : Start) (past : List Event) (id : ℕ) → IsOrdered v.view → IsLawful f v past → next_id v past ≤ id →
    at f (id_view f v.view) (id_events f v past) id ≡ None
untaken f v past id o law lo =
    let old : nat_lt id v.view.next_id ≡ false = grind (arith, nat_tests) in
    let new : nat_lt id (v.view.next_id + takes past) ≡ false = grind (arith, nat_tests) in
    let is : full_state f v past id ≡ None = rw (old, new) refl in
    states_agree f v past o law id ∙ is

journalled_as : (f : Flow) (v : Start) (past : List Event) (id : ℕ) (r : Row) → nat_lt id v.view.next_id ≡ true → look id v.view.rows ≡ Some r →
    is_closed past id ≡ false → full_state f v past id ≡ Some (recovered_state f v past id r)
journalled_as f v past id r lt h c = rw (lt, h, c) refl

pub of_the_journal : (f : Flow) (v : Start) (past : List Event) (id : ℕ) (r : Row) → IsOrdered v.view → IsLawful f v past → look id v.view.rows ≡ Some r →
    is_closed past id ≡ false
    → at f (id_view f v.view) (id_events f v past) id ≡ Some (recovered_state f v past id r)
of_the_journal f v past id r o law h c =
    let w = (look_within v.view.rows 1 v.view.next_id id r o.rows h).1 in
    let lt : nat_lt id v.view.next_id ≡ true = grind (arith, nat_tests) in
    states_agree f v past o law id ∙ journalled_as f v past id r lt h c

gone_if : (f : Flow) (v : Start) (past : List Event) (id : ℕ) (o : Option Row) (back : Bool) → is_closed past id ≡ true →
    journalled f o (is_closed past id) (own_items f v past id) back ≡ None
gone_if f v past id None back c = refl
gone_if f v past id (Some r) back c = rw c refl

pub closed_gone : (f : Flow) (v : Start) (past : List Event) (id : ℕ) → IsOrdered v.view → IsLawful f v past → id < v.view.next_id →
    is_closed past id ≡ true → at f (id_view f v.view) (id_events f v past) id ≡ None
closed_gone f v past id o law less c =
    let lt : nat_lt id v.view.next_id ≡ true = grind (arith, nat_tests) in
    let is : full_state f v past id ≡ None = rw lt (gone_if f v past id (look id v.view.rows) (restored f v past id) c) in
    states_agree f v past o law id ∙ is

pub rowless_gone : (f : Flow) (v : Start) (past : List Event) (id : ℕ) → IsOrdered v.view → IsLawful f v past → id < v.view.next_id →
    look id v.view.rows ≡ None → at f (id_view f v.view) (id_events f v past) id ≡ None
rowless_gone f v past id o law less h =
    let lt : nat_lt id v.view.next_id ≡ true = grind (arith, nat_tests) in
    let is : full_state f v past id ≡ None = rw (lt, h) refl in
    states_agree f v past o law id ∙ is
