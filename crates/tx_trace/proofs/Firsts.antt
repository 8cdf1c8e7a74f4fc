-- A tracer that has not gone through an entry.
-- for: tracer::Tracer::new
use Rattle.std.proofs.Common.{◌≡◌, ℕ, false, [], length, Some, None, refl, sym, ◌∙◌, ap, arith}
use Rattle.std.specs.BTreeMap.{BTreeMap, is_at}
use Rattle.std.specs.Map.{lookup}
use Rattle.std.specs.Ordering.{nat_cmp}
use Rattle.tx_machine.specs.declared.machine.Machine.{Machine}
use Rattle.tx_history.specs.declared.journal.JournalView.{JournalView}
use Rattle.tx_history.specs.Views.{IsOrdered}
use Rattle.tx_history.proofs.Changes.{journal_first}
use Rattle.tx_engine.specs.World.{World}
use Rattle.tx_trace.specs.Follow.{Follows, Tracks, machine_at}
use Rattle.tx_trace.proofs.Earlier.{earlier_none}
use Rattle.tx_trace.proofs.Tracked.{recovered_first, row_first}

pub tracks_first : (w : World) (machines : BTreeMap ℕ Machine) (count : ℕ) → IsOrdered w.start.view → machines.entries ≡ [] → count ≡ length w.start.view.shelf
    → Follows w (record { done = 0; machines = machines; shelved = count; restored = false; over = 0 })
tracks_first w machines count o empty is =
    let none : (id : ℕ) → machine_at machines id ≡ None = λ id. ap (lookup (is_at (nat_cmp id))) empty in
    let first : Tracks w.flow w.start [] (record { done = 0; machines = machines; shelved = count; restored = false; over = 0 }) = record {
      kept = λ id m at. absurd (let no : None ≡ Some m = sym (none id) ∙ at in cc);
      others = λ id at lt going. row_first w.flow w.start id lt;
      shelved = is ∙ sym (ap (λ (v : JournalView). length v.shelf) (journal_first w.flow w.start o));
      restored = refl;
      over = recovered_first w.flow w.start o;
    } in
    record { within = omega arith; tracks = rw (earlier_none w.past) first }
