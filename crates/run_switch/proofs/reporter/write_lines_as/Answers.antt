use Rattle.std.proofs.Common.{◌<◌, ◌≤◌, ◌∙◌, ap, length, arith, ℕ}
use Rattle.std.specs.Global.{Vec}
use Rattle.run_switch.proofs.Printing.{all_lines, counted_next, first_lines, more_lines, none_missing, part_line, some_lines}
use Rattle.cli_io.proofs.Writing.{beginning_all}
use Rattle.run_switch.specs.Lines.{lines_in, written_as}
use Rattle.run_switch.proofs.reporter.write_lines_as.Goals as goal
use Rattle.tx_history.proofs.EntryCounts.{entries_length}

pub loop-number-init : goal.loop-number-init
loop-number-init g c =
    let w = c.args.engine.now in
    record {
      follows = c.new-tracer.ensures.follows;
      counted = c.new-tracer.ensures.first;
      all = ap length c.history-count.ensures.entries ∙ entries_length w.flow w.start w.past;
      written = first_lines c.args.form w.flow w.start w.past (g.W.Write.contents c.args.out.now);
    }

pub returns-in_default : goal.returns-in_default
returns-in_default g c =
    let w = c.args.engine.now in
    let all = c.loop-number.invariant.all in
    let lt : c.loop-number.number < length w.past = omega (arith, all, c.loop-number-test.true) in
    absurd (none_missing (λ (l : Vec ℕ). l.items) c.args.form w.flow w.start w.past c.loop-number.number _ c.in_ok-line.field-0 lt
    c.loop-number.invariant.counted c.in_default.is c.in_ok-line.ensures.line)

pub loop-number-preserved : goal.loop-number-preserved
loop-number-preserved g c =
    let w = c.args.engine.now in
    let all = c.loop-number.invariant.all in
    let lt : c.loop-number.number < length w.past = omega (arith, all, c.loop-number-test.true) in
    record {
      follows = c.in_ok-line.ensures.follows;
      counted = counted_next c.in_ok-line.field-0 c.in-Some.line _ _ c.loop-number.number c.in-Some.is
          c.in_ok-line.ensures.on c.loop-number.invariant.counted;
      all = all;
      written = more_lines (λ (l : Vec ℕ). l.items) c.args.form w.flow w.start w.past c.loop-number.number _ c.in_ok-line.field-0 c.in-Some.line
          c.as_slice.result.now _ _ _ lt c.loop-number.invariant.counted c.in-Some.is c.in_ok-line.ensures.line c.as_slice.ensures.value
          c.loop-number.invariant.written c.in_ok-write_line.ensures.written;
    }

pub returns : goal.returns
returns g c =
    let w = c.args.engine.now in
    let all = c.loop-number.invariant.all in
    let le : length w.past ≤ c.loop-number.number = omega (arith, all, c.loop-number-test.false) in
    let lines = all_lines c.args.form w.flow w.start w.past c.loop-number.number _ _ le c.loop-number.invariant.written in
    record { lines = lines; beginning = beginning_all _ _ (written_as c.args.form (lines_in w)) lines }

pub returns-in_err-line-clause-beginning : goal.returns-in_err-line-clause-beginning
returns-in_err-line-clause-beginning g c =
    let w = c.args.engine.now in
    some_lines c.args.form w.flow w.start w.past c.loop-number.number _ _ c.loop-number.invariant.written

pub returns-in_err-write_line-clause-beginning : goal.returns-in_err-write_line-clause-beginning
returns-in_err-write_line-clause-beginning g c =
    let w = c.args.engine.now in
    let all = c.loop-number.invariant.all in
    let lt : c.loop-number.number < length w.past = omega (arith, all, c.loop-number-test.true) in
    part_line (λ (l : Vec ℕ). l.items) c.args.form w.flow w.start w.past c.loop-number.number _ c.in_ok-line.field-0 c.in-Some.line c.as_slice.result.now _
    _ _ lt c.loop-number.invariant.counted c.in-Some.is c.in_ok-line.ensures.line c.as_slice.ensures.value c.loop-number.invariant.written
    c.in_err-write_line.ensures.beginning
