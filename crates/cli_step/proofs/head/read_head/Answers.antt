use Rattle.std.proofs.Common.{◌∙◌, ◌++◌, ℕ, List, ap, arith, length, length-append}
use Rattle.cli_lines.specs.Lines.{to_come}
use Rattle.cli_step.proofs.Gathering.{all_gathered, ends_gathering, gathers, none_gathered}
use Rattle.cli_step.proofs.head.read_head.Goals as goal

pub loop-head-init : goal.loop-head-init
loop-head-init g c = record {
  gathered = rw c.new-head.ensures.items (none_gathered c.args.has_file (to_come g.R.Read.remaining c.args.lines.now));
  few = let none = ap length c.new-head.ensures.items in omega arith;
}

pub loop-head-preserved : goal.loop-head-preserved
loop-head-preserved g c =
    let old = c.loop-head in
    let line = c.in-Some.line.items in
    let next = rw c.in-Some.is at c.in_ok-line.ensures.next in
    let some = rw c.in-Some.is at c.in_ok-line.ensures.some in
    let fewer = rw c.in-Some.is at c.in_ok-line.ensures.room in
    let setting = rw c.as_slice-in-Some.ensures.value at (c.in_ok-is_setting.ensures.setting c.if-not-branch.false) in
    let items = c.in_ok-extend_from_slice.ensures.items ∙ ap (λ (l : List ℕ). old.head.items ++ l) c.as_slice.ensures.value in
    let long = ap length items ∙ length-append old.head.items line in
    let few = old.invariant.few in
    record {
      gathered = rw items (gathers c.args.has_file (to_come g.R.Read.remaining c.args.lines.now) (to_come g.R.Read.remaining old.lines)
          (to_come g.R.Read.remaining c.next.new.self) old.head.items line old.invariant.gathered next some setting);
      few = omega arith;
    }

pub returns-then-not-branch-clause-head : goal.returns-then-not-branch-clause-head
returns-then-not-branch-clause-head g c =
    let old = c.loop-head in
    let line = c.in-Some.line.items in
    let next = rw c.in-Some.is at c.in_ok-line.ensures.next in
    let some = rw c.in-Some.is at c.in_ok-line.ensures.some in
    let none = rw c.as_slice-in-Some.ensures.value at (c.in_ok-is_setting.ensures.none c.if-not-branch.true) in
    let items = c.in_ok-extend_from_slice.ensures.items ∙ ap (λ (l : List ℕ). old.head.items ++ l) c.as_slice.ensures.value in
    rw items (ends_gathering c.args.has_file (to_come g.R.Read.remaining c.args.lines.now) (to_come g.R.Read.remaining old.lines)
    (to_come g.R.Read.remaining c.next.new.self) old.head.items line old.invariant.gathered next some none)

pub returns-then-not-branch-clause-few : goal.returns-then-not-branch-clause-few
returns-then-not-branch-clause-few g c =
    let old = c.loop-head in
    let fewer = rw c.in-Some.is at c.in_ok-line.ensures.room in
    let items = c.in_ok-extend_from_slice.ensures.items ∙ ap (λ (l : List ℕ). old.head.items ++ l) c.as_slice.ensures.value in
    let long = ap length items ∙ length-append old.head.items c.in-Some.line.items in
    let few = old.invariant.few in
    omega arith

pub returns-clause-head : goal.returns-clause-head
returns-clause-head g c =
    let next = rw c.in_default.is at c.in_ok-line.ensures.next in
    all_gathered c.args.has_file (to_come g.R.Read.remaining c.args.lines.now) (to_come g.R.Read.remaining c.loop-head.lines)
    (to_come g.R.Read.remaining c.next.new.self) c.loop-head.head.items c.loop-head.invariant.gathered next
