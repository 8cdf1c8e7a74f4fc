-- Each item by the lemma for how it is read: a search through all facts takes long.
use Rattle.std.proofs.Common.{◌≡◌, ◌∙◌, ℕ, Ok, ap, subst}
use Rattle.std.proofs.lemmas.Result.{err_from_is_err_and}
use Rattle.toml.specs.View.{table_view}
use Rattle.flow_toml.specs.FlowFile.{entry_of}
use Rattle.flow_toml.specs.Reads.{Fails}
use Rattle.flow_toml.proofs.ItemLoop.{added, all_read, fails_through, passed, stopped}
use Rattle.flow_toml.proofs.read.read_entries.Goals as goal
use Rattle.flow_toml.proofs.read.read_entries.Goals.{in-Some+in_ok-read_entry+in_ok-push, in_default}

pub loop-value-preserved : goal.loop-value-preserved
loop-value-preserved c = elim c.match-as_table.branch [
  | in-Some+in_ok-read_entry+in_ok-push w ↦
      added (entry_of c.args.group) c.deref-value-items.result.now _ c.loop-value.entries.items _ c.loop-value.value-index c.value-item.result _
      w.in_ok-read_entry.field-0
      (ap (λ v. v.items) w.entries-is ∙ w.in_ok-push.ensures.items) c.loop-value-test.true c.value-item.is w.in-Some.ensures
      (subst (λ (k : ℕ). entry_of c.args.group k (table_view w.in-Some.table.now) ≡ Ok w.in_ok-read_entry.field-0)
      (w.len.ensures ∙ c.loop-value.entries.ok.0) w.in_ok-read_entry.ensures) c.loop-value.invariant
  | in_default w ↦
      passed (entry_of c.args.group) c.deref-value-items.result.now _ c.loop-value.entries.items _ c.loop-value.value-index c.value-item.result
      (ap (λ v. v.items) w.entries-is) c.loop-value-test.true c.value-item.is w.in_default.ensures c.loop-value.invariant
]

pub returns-in_err-read_entry : goal.returns-in_err-read_entry
returns-in_err-read_entry c =
    let p = err_from_is_err_and c.from_residual.result c.from_residual.ensures.1 in
    rw (p.1, p.2, ← c.deref-value-items.ensures.value)
    (fails_through c.in_err-read_entry.field-0.0 _ _
    (stopped (entry_of c.args.group) c.deref-value-items.result.now _ c.loop-value.entries.items c.loop-value.value-index c.value-item.result _
    c.in_err-read_entry.field-0.0 c.loop-value-test.true c.value-item.is c.in-Some.ensures c.loop-value.invariant)
    (subst (λ (k : ℕ). Fails c.in_err-read_entry.field-0.0 (entry_of c.args.group k (table_view c.in-Some.table.now)))
    (c.len.ensures ∙ c.loop-value.entries.ok.0) c.in_err-read_entry.ensures))

pub returns : goal.returns
returns c =
    rw (← c.deref-value-items.ensures.value) (all_read (entry_of c.args.group) c.deref-value-items.result.now _ c.loop-value.entries.items
    c.loop-value.value-index c.loop-value-test.false c.loop-value.invariant)
