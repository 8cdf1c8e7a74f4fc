use Rattle.std.proofs.Common.{◌≡◌, ◌∙◌, [], refl, subst, sym, IfSome, Option}
use Rattle.cli_lines.specs.Lines.{to_come}
use Rattle.flow_model.specs.declared.flow.Flow.{Flow}
use Rattle.cli_step.proofs.Adding.{on_ok}
use Rattle.cli_step.proofs.Joining.{grows_none, grows_then}
use Rattle.cli_step.proofs.Prompting.{head_first, head_left, head_line, head_nothing, head_on, head_opened, head_quits}
use Rattle.cli_step.specs.Prompts.{HeadAnswers, HeadPrompted, OpenedAt, heading}
use Rattle.cli_step.specs.Typed.{kept, typed}
use Rattle.cli_step.proofs.opening.run_prompted.Goals.{in-Nothing, in-Line+in_ok-answer_or_open-in-Line+else-branch}
use Rattle.cli_step.proofs.opening.run_prompted.Goals as goal

pub loop-settings-init : goal.loop-settings-init
loop-settings-init g c = record {
  same = c.in_ok-steps.ensures;
  talked = head_first c.args.file (to_come g.R.Read.remaining c.args.lines.now) c.new-settings.result.items (g.W.Write.contents c.args.out.now)
      (g.E.Write.contents c.args.err.now) c.new-settings.ensures.items;
  grows_out = grows_none (g.W.Write.contents c.args.out.now);
  grows_err = grows_none (g.E.Write.contents c.args.err.now);
}

pub loop-settings-preserved : goal.loop-settings-preserved
loop-settings-preserved g c =
    let old = c.loop-settings in
    let a = heading [] (g.W.Write.contents c.args.out.now) (g.E.Write.contents c.args.err.now) in
    let b = heading old.settings.items (g.W.Write.contents old.out) (g.E.Write.contents old.err) in
    let asked = heading old.settings.items (g.W.Write.contents c.ask.new.out) (g.E.Write.contents old.err) in
    let next = rw c.in-Some.is at c.in_ok-read.ensures.next in
    let line = c.in-Some.read.items in
    let is : c.in_ok-keep.field-0 ≡ typed [] line = rw (sym c.as_slice.ensures.value, sym c.new-line.ensures.items) c.in_ok-keep.ensures.is in
    let keeps : c.keep.new.last.items ≡ kept [] line = rw (sym c.as_slice.ensures.value, sym c.new-line.ensures.items) c.in_ok-keep.ensures.kept in
    let prompted : HeadPrompted b asked = record { settings = refl; out = c.in_ok-read.ensures.asked; err = refl } in
    let out = grows_then a.out b.out asked.out old.invariant.grows_out c.ask.ensures.grows in
    elim c.match-branch-5.branch [
      | in-Nothing w ↦
          let on = head_on c.args.file (to_come g.R.Read.remaining c.args.lines.now) (to_come g.R.Read.remaining old.lines)
          (to_come g.R.Read.remaining c.ask.new.lines) line a b asked asked old.invariant.talked next prompted
          (head_nothing c.args.file line c.in_ok-keep.field-0 asked is w.in-Nothing.is) in
          record {
            same = old.invariant.same;
            talked = rw (w.lines-is, w.out-is, w.err-is, w.settings-is) on;
            grows_out = rw w.out-is out;
            grows_err = rw w.err-is old.invariant.grows_err;
          }
      | in-Line+in_ok-answer_or_open-in-Line+else-branch w ↦
          let after = heading w.answer_or_open.new.settings.items (g.W.Write.contents w.answer_or_open.new.out)
          (g.E.Write.contents w.answer_or_open.new.err) in
          let answered = rw (w.as_slice-line.ensures.value, keeps) at (w.in_ok-answer_or_open-in-Line.ensures.answered w.if-branch.false) in
          let answers = subst (λ (f : Option Flow). HeadAnswers f (kept [] line) asked after) old.invariant.same answered in
          let on = head_on c.args.file (to_come g.R.Read.remaining c.args.lines.now) (to_come g.R.Read.remaining old.lines)
          (to_come g.R.Read.remaining c.ask.new.lines) line a b asked after old.invariant.talked next prompted
          (head_line c.args.file line c.in_ok-keep.field-0 asked after is w.in-Line.is answers) in
          record {
            same = old.invariant.same;
            talked = rw (w.lines-is, w.out-is, w.err-is, w.settings-is, w.in_ok-answer_or_open-in-Line.ensures.stays w.if-branch.false) on;
            grows_out = rw w.out-is (grows_then a.out asked.out after.out out w.answer_or_open.ensures.grows_out);
            grows_err = rw w.err-is (grows_then a.err b.err after.err old.invariant.grows_err w.answer_or_open.ensures.grows_err);
          }
    ]

pub returns-in-Quit-clause-prompted : goal.returns-in-Quit-clause-prompted
returns-in-Quit-clause-prompted g c =
    let old = c.loop-settings in
    let b = heading old.settings.items (g.W.Write.contents old.out) (g.E.Write.contents old.err) in
    let asked = heading old.settings.items (g.W.Write.contents c.ask.new.out) (g.E.Write.contents old.err) in
    let next = rw c.in-Some.is at c.in_ok-read.ensures.next in
    let line = c.in-Some.read.items in
    let is : c.in_ok-keep.field-0 ≡ typed [] line = rw (sym c.as_slice.ensures.value, sym c.new-line.ensures.items) c.in_ok-keep.ensures.is in
    head_quits c.args.file (to_come g.R.Read.remaining c.args.lines.now) (to_come g.R.Read.remaining old.lines)
    (to_come g.R.Read.remaining c.ask.new.lines) line _ _ b asked old.invariant.talked next
    (record { settings = refl; out = c.in_ok-read.ensures.asked; err = refl }) (sym is ∙ c.in-Quit.is)

pub returns-then-branch-clause-prompted : goal.returns-then-branch-clause-prompted
returns-then-branch-clause-prompted g c =
    let old = c.loop-settings in
    let b = heading old.settings.items (g.W.Write.contents old.out) (g.E.Write.contents old.err) in
    let asked = heading old.settings.items (g.W.Write.contents c.ask.new.out) (g.E.Write.contents old.err) in
    let next = rw c.in-Some.is at c.in_ok-read.ensures.next in
    let line = c.in-Some.read.items in
    let is : c.in_ok-keep.field-0 ≡ typed [] line = rw (sym c.as_slice.ensures.value, sym c.new-line.ensures.items) c.in_ok-keep.ensures.is in
    let keeps : c.keep.new.last.items ≡ kept [] line = rw (sym c.as_slice.ensures.value, sym c.new-line.ensures.items) c.in_ok-keep.ensures.kept in
    let over = rw (c.as_slice-line.ensures.value, keeps) at (c.in_ok-answer_or_open-in-Line.ensures.opened c.if-branch.true) in
    let opened = subst (λ (f : Option Flow). IfSome (to_come g.R.Read.remaining c.ask.new.lines)
    (λ others. OpenedAt f old.settings.items (kept [] line) others (g.W.Write.contents c.ask.new.out) (g.E.Write.contents old.err)
    (g.W.Write.contents c.answer_or_open.new.out) (g.E.Write.contents c.answer_or_open.new.err))) old.invariant.same over in
    head_opened c.args.file (to_come g.R.Read.remaining c.args.lines.now) (to_come g.R.Read.remaining old.lines)
    (to_come g.R.Read.remaining c.ask.new.lines) line _ _ b asked _ _ old.invariant.talked next
    (record { settings = refl; out = c.in_ok-read.ensures.asked; err = refl }) (sym is ∙ c.in-Line.is) opened

pub returns-clause-prompted : goal.returns-clause-prompted
returns-clause-prompted g c =
    let old = c.loop-settings in
    let b = heading old.settings.items (g.W.Write.contents old.out) (g.E.Write.contents old.err) in
    let asked = heading old.settings.items (g.W.Write.contents c.ask.new.out) (g.E.Write.contents old.err) in
    let next = rw c.in_default.is at c.in_ok-read.ensures.next in
    on_ok c.leave.result (λ left. head_left c.args.file (to_come g.R.Read.remaining c.args.lines.now) (to_come g.R.Read.remaining old.lines)
    (to_come g.R.Read.remaining c.ask.new.lines) _ _ b asked _ _ old.invariant.talked next
    (record { settings = refl; out = c.in_ok-read.ensures.asked; err = refl }) left refl)
    c.leave.ensures.left

pub returns-in_err-read-clause-grows_out : goal.returns-in_err-read-clause-grows_out
returns-in_err-read-clause-grows_out g c = grows_then _ _ _ c.loop-settings.invariant.grows_out c.ask.ensures.grows

pub returns-in_err-keep-clause-grows_out : goal.returns-in_err-keep-clause-grows_out
returns-in_err-keep-clause-grows_out g c = grows_then _ _ _ c.loop-settings.invariant.grows_out c.ask.ensures.grows

pub returns-in-Quit-clause-grows_out : goal.returns-in-Quit-clause-grows_out
returns-in-Quit-clause-grows_out g c = grows_then _ _ _ c.loop-settings.invariant.grows_out c.ask.ensures.grows

pub returns-in_err-answer_or_open-in-Line-clause-grows_out : goal.returns-in_err-answer_or_open-in-Line-clause-grows_out
returns-in_err-answer_or_open-in-Line-clause-grows_out g c =
    grows_then _ _ _ (grows_then _ _ _ c.loop-settings.invariant.grows_out c.ask.ensures.grows) c.answer_or_open.ensures.grows_out

pub returns-in_err-answer_or_open-in-Line-clause-grows_err : goal.returns-in_err-answer_or_open-in-Line-clause-grows_err
returns-in_err-answer_or_open-in-Line-clause-grows_err g c =
    grows_then _ _ _ c.loop-settings.invariant.grows_err c.answer_or_open.ensures.grows_err

pub returns-then-branch-clause-grows_out : goal.returns-then-branch-clause-grows_out
returns-then-branch-clause-grows_out g c =
    grows_then _ _ _ (grows_then _ _ _ c.loop-settings.invariant.grows_out c.ask.ensures.grows) c.answer_or_open.ensures.grows_out

pub returns-then-branch-clause-grows_err : goal.returns-then-branch-clause-grows_err
returns-then-branch-clause-grows_err g c = grows_then _ _ _ c.loop-settings.invariant.grows_err c.answer_or_open.ensures.grows_err

pub returns-clause-grows_out : goal.returns-clause-grows_out
returns-clause-grows_out g c = grows_then _ _ _ (grows_then _ _ _ c.loop-settings.invariant.grows_out c.ask.ensures.grows) c.leave.ensures.grows
