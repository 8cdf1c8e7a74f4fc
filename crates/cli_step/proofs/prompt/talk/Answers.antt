use Rattle.std.proofs.Common.{◌≡◌, ◌∙◌, refl, sym}
use Rattle.cli_lines.specs.Lines.{to_come}
use Rattle.cli_step.proofs.Adding.{on_ok}
use Rattle.cli_step.proofs.Joining.{grows_none, grows_then}
use Rattle.cli_step.proofs.Prompting.{nothing_typed, none_talked, line_typed, quits, talked, talks_on}
use Rattle.cli_step.specs.Doing.{point_of}
use Rattle.cli_step.specs.Prompts.{Answers, Prompted, scene}
use Rattle.cli_step.specs.Typed.{kept, typed}
use Rattle.cli_step.proofs.prompt.talk.Goals.{in-Nothing, in-Line+in_ok-answer-in-Line}
use Rattle.cli_step.proofs.prompt.talk.Goals as goal

pub loop-last-init : goal.loop-last-init
loop-last-init g c = record {
  follows = c.requires;
  talked = none_talked c.args.last.items (to_come g.R.Read.remaining c.args.lines.now) _;
  grows_out = grows_none (g.W.Write.contents c.args.out.now);
  grows_err = grows_none (g.E.Write.contents c.args.err.now);
}

pub loop-last-preserved : goal.loop-last-preserved
loop-last-preserved g c =
    let old = c.loop-last in
    let a = scene (point_of g.S.Store c.args.traced.now.plant) (g.W.Write.contents c.args.out.now) (g.E.Write.contents c.args.err.now) in
    let b = scene (point_of g.S.Store old.traced.plant) (g.W.Write.contents old.out) (g.E.Write.contents old.err) in
    let asked = scene (point_of g.S.Store old.traced.plant) (g.W.Write.contents c.ask.new.out) (g.E.Write.contents old.err) in
    let next = rw c.in-Some.is at c.in_ok-read.ensures.next in
    let line = c.in-Some.read.items in
    let is : c.in_ok-keep.field-0 ≡ typed old.last.items line = rw (sym c.as_slice.ensures.value) c.in_ok-keep.ensures.is in
    let keeps : c.keep.new.last.items ≡ kept old.last.items line = rw (sym c.as_slice.ensures.value) c.in_ok-keep.ensures.kept in
    let prompted : Prompted b asked = record { at = refl; out = c.in_ok-read.ensures.asked; err = refl } in
    let out = grows_then a.out b.out asked.out old.invariant.grows_out c.ask.ensures.grows in
    elim c.match-branch-4.branch [
      | in-Nothing w ↦
          let on = talks_on c.args.last.items old.last.items (to_come g.R.Read.remaining c.args.lines.now) (to_come g.R.Read.remaining old.lines)
          (to_come g.R.Read.remaining c.ask.new.lines) line a b asked asked old.invariant.talked next prompted
          (nothing_typed old.last.items line c.in_ok-keep.field-0 asked is w.in-Nothing.is) in
          record {
            follows = rw w.traced-is old.invariant.follows;
            talked = rw (keeps, w.traced-is, w.out-is, w.err-is) on;
            grows_out = rw w.out-is out;
            grows_err = rw w.err-is old.invariant.grows_err;
          }
      | in-Line+in_ok-answer-in-Line w ↦
          let after = scene (point_of g.S.Store w.answer.new.traced.plant) (g.W.Write.contents w.answer.new.out) (g.E.Write.contents w.answer.new.err) in
          let answers : Answers (kept old.last.items line) asked after =
          rw (sym keeps, sym w.as_slice-in-Line.ensures.value) w.in_ok-answer-in-Line.ensures.answers in
          let on = talks_on c.args.last.items old.last.items (to_come g.R.Read.remaining c.args.lines.now) (to_come g.R.Read.remaining old.lines)
          (to_come g.R.Read.remaining c.ask.new.lines) line a b asked after old.invariant.talked next prompted
          (line_typed old.last.items line c.in_ok-keep.field-0 asked after is w.in-Line.is answers) in
          record {
            follows = rw w.traced-is w.in_ok-answer-in-Line.ensures.follows;
            talked = rw (keeps, w.traced-is, w.out-is, w.err-is) on;
            grows_out = rw w.out-is (grows_then a.out asked.out after.out out w.answer.ensures.grows_out);
            grows_err = rw w.err-is (grows_then a.err b.err after.err old.invariant.grows_err w.answer.ensures.grows_err);
          }
    ]

pub returns-in-Quit-clause-talked : goal.returns-in-Quit-clause-talked
returns-in-Quit-clause-talked g c =
    let old = c.loop-last in
    let a = scene (point_of g.S.Store c.args.traced.now.plant) (g.W.Write.contents c.args.out.now) (g.E.Write.contents c.args.err.now) in
    let b = scene (point_of g.S.Store old.traced.plant) (g.W.Write.contents old.out) (g.E.Write.contents old.err) in
    let asked = scene (point_of g.S.Store old.traced.plant) (g.W.Write.contents c.ask.new.out) (g.E.Write.contents old.err) in
    let next = rw c.in-Some.is at c.in_ok-read.ensures.next in
    let line = c.in-Some.read.items in
    let is : c.in_ok-keep.field-0 ≡ typed old.last.items line = rw (sym c.as_slice.ensures.value) c.in_ok-keep.ensures.is in
    quits c.args.last.items old.last.items (to_come g.R.Read.remaining c.args.lines.now) (to_come g.R.Read.remaining old.lines)
    (to_come g.R.Read.remaining c.ask.new.lines) line a b asked old.invariant.talked next (sym is ∙ c.in-Quit.is)
    (record { at = refl; out = c.in_ok-read.ensures.asked; err = refl })

pub returns-clause-talked : goal.returns-clause-talked
returns-clause-talked g c =
    let old = c.loop-last in
    let a = scene (point_of g.S.Store c.args.traced.now.plant) (g.W.Write.contents c.args.out.now) (g.E.Write.contents c.args.err.now) in
    let b = scene (point_of g.S.Store old.traced.plant) (g.W.Write.contents old.out) (g.E.Write.contents old.err) in
    let end = scene (point_of g.S.Store old.traced.plant) (g.W.Write.contents c.leave.new.out) (g.E.Write.contents old.err) in
    let next = rw c.in_default.is at c.in_ok-read.ensures.next in
    on_ok c.leave.result (λ left. talked c.args.last.items old.last.items (to_come g.R.Read.remaining c.args.lines.now)
    (to_come g.R.Read.remaining old.lines) (to_come g.R.Read.remaining c.ask.new.lines) a b end old.invariant.talked next
    (record { left = (g.W.Write.contents c.ask.new.out, c.in_ok-read.ensures.asked, left); err = refl; at = refl }))
    c.leave.ensures.left

pub returns-in_err-read-clause-grows_out : goal.returns-in_err-read-clause-grows_out
returns-in_err-read-clause-grows_out g c = grows_then _ _ _ c.loop-last.invariant.grows_out c.ask.ensures.grows

pub returns-in_err-keep-clause-grows_out : goal.returns-in_err-keep-clause-grows_out
returns-in_err-keep-clause-grows_out g c = grows_then _ _ _ c.loop-last.invariant.grows_out c.ask.ensures.grows

pub returns-in-Quit-clause-grows_out : goal.returns-in-Quit-clause-grows_out
returns-in-Quit-clause-grows_out g c = grows_then _ _ _ c.loop-last.invariant.grows_out c.ask.ensures.grows

pub returns-in_err-answer-in-Line-clause-grows_out : goal.returns-in_err-answer-in-Line-clause-grows_out
returns-in_err-answer-in-Line-clause-grows_out g c =
    grows_then _ _ _ (grows_then _ _ _ c.loop-last.invariant.grows_out c.ask.ensures.grows) c.answer.ensures.grows_out

pub returns-in_err-answer-in-Line-clause-grows_err : goal.returns-in_err-answer-in-Line-clause-grows_err
returns-in_err-answer-in-Line-clause-grows_err g c = grows_then _ _ _ c.loop-last.invariant.grows_err c.answer.ensures.grows_err

pub returns-clause-grows_out : goal.returns-clause-grows_out
returns-clause-grows_out g c = grows_then _ _ _ (grows_then _ _ _ c.loop-last.invariant.grows_out c.ask.ensures.grows) c.leave.ensures.grows
