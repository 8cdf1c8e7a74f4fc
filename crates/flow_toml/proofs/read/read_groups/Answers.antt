-- Each item by the lemma for how it is read: a search through all facts takes long.
use Rattle.std.proofs.Common.{◌≡◌, ◌∙◌, ℕ, Ok, ap, subst}
use Rattle.std.proofs.lemmas.Result.{err_from_is_err_and}
use Rattle.toml.specs.View.{table_view}
use Rattle.flow_toml.specs.FlowFile.{group_of}
use Rattle.flow_toml.specs.Reads.{Fails}
use Rattle.flow_toml.proofs.ItemLoop.{added, all_read, fails_through, passed, stopped}
use Rattle.flow_toml.proofs.read.read_groups.Goals as goal
use Rattle.flow_toml.proofs.read.read_groups.Goals.{in-Some+in_ok-read_group+in_ok-push, in_default}

pub loop-value-preserved : goal.loop-value-preserved
loop-value-preserved c = elim c.match-as_table.branch [
  | in-Some+in_ok-read_group+in_ok-push w ↦
      added group_of c.deref-value-items.result.now _ c.loop-value.groups.items _ c.loop-value.value-index c.value-item.result _ w.in_ok-read_group.field-0
      (ap (λ v. v.items) w.groups-is ∙ w.in_ok-push.ensures.items) c.loop-value-test.true c.value-item.is w.in-Some.ensures
      (subst (λ (k : ℕ). group_of k (table_view w.in-Some.table.now) ≡ Ok w.in_ok-read_group.field-0) (w.len.ensures ∙ c.loop-value.groups.ok.0)
      w.in_ok-read_group.ensures) c.loop-value.invariant
  | in_default w ↦
      passed group_of c.deref-value-items.result.now _ c.loop-value.groups.items _ c.loop-value.value-index c.value-item.result
      (ap (λ v. v.items) w.groups-is) c.loop-value-test.true c.value-item.is w.in_default.ensures c.loop-value.invariant
]

pub returns-in_err-read_group : goal.returns-in_err-read_group
returns-in_err-read_group c =
    let p = err_from_is_err_and c.from_residual.result c.from_residual.ensures.1 in
    rw (p.1, p.2, ← c.deref-value-items.ensures.value)
    (fails_through c.in_err-read_group.field-0.0 _ _
    (stopped group_of c.deref-value-items.result.now _ c.loop-value.groups.items c.loop-value.value-index c.value-item.result _
    c.in_err-read_group.field-0.0 c.loop-value-test.true c.value-item.is c.in-Some.ensures c.loop-value.invariant)
    (subst (λ (k : ℕ). Fails c.in_err-read_group.field-0.0 (group_of k (table_view c.in-Some.table.now))) (c.len.ensures ∙ c.loop-value.groups.ok.0)
    c.in_err-read_group.ensures))

pub returns : goal.returns
returns c =
    rw (← c.deref-value-items.ensures.value) (all_read group_of c.deref-value-items.result.now _ c.loop-value.groups.items c.loop-value.value-index
    c.loop-value-test.false c.loop-value.invariant)
