use Rattle.std.proofs.Common.{Some, None, inr, subst}
use Rattle.cli_io.specs.Written.{AppendsBeginning}
use Rattle.std.specs.Io.KnownBytes.{Appends}
use Rattle.tx_engine.specs.World.{World}
use Rattle.run_switch.specs.declared.reporter.LineForm.TheVariants.{Text}
use Rattle.run_switch.specs.Lines.{lines_in, written_as}
use Rattle.run_input.specs.Requests.{readings}
use Rattle.run_switch.proofs.LegRounds.{for_these, some_for}
use Rattle.run_switch.proofs.Rounds.{if_ok, none_none, some_ok}
use Rattle.run_switch.proofs.Runs.{through_both, told_last, told_ready}
use Rattle.run_switch.proofs.Halted.{goes_none, goes_some, served_all}
use Rattle.run_switch.proofs.Stops.{either_way, on_err, on_err_of}
use Rattle.run_switch.proofs.serving.Begun.go_on.Goals as goal

pub returns-in_default-clause-printed : goal.returns-in_default-clause-printed
returns-in_default-clause-printed g c = none_none _ c.args.self.input c.in_default.is
    (subst (λ (w : World). Appends (g.O.Write.contents c.args.out.now) (g.O.Write.contents c.print.new.out) (written_as Text (lines_in w)))
    c.engine.ensures c.in_ok-print.ensures.lines)

pub answer_together-requires-clause-rest : goal.answer_together-requires-clause-rest
answer_together-requires-clause-rest g c = λ κs within. c.requires.rest

pub answer_together-requires-clause-empty : goal.answer_together-requires-clause-empty
answer_together-requires-clause-empty g c = λ κs within. c.requires.empty

pub returns-in-Some-threads-clause-serves : goal.returns-in-Some-threads-clause-serves
returns-in-Some-threads-clause-serves g c =
    if_ok c.answer_together.result (λ end served. some_ok _ c.args.self.input c.in-Some.input c.in-Some.is (
      served.0,
      served.1,
      served.2,
      for_these c.args.self.threads (Some c.in-Some-threads.order) (readings c.args.self.header served.0) served.2 c.in-Some-threads.is served.3,
      told_ready _ _ _ _ _ _ _ _ _ _ _ _ c.say_ready.ensures (served.4, served.5),
    )) c.answer_together.ensures.serves

pub returns-in-Some-threads-clause-stops : goal.returns-in-Some-threads-clause-stops
returns-in-Some-threads-clause-stops g c =
    on_err c.answer_together.result (λ some. goes_some c.args.self.header _ c.args.self.threads g.R.Read.remaining c.args.self.input c.in-Some.input _ _ _ _ c.in-Some.is
    (some_for c.args.self.header _ c.args.self.threads (Some c.in-Some-threads.order) _ _ _ _ _ c.in-Some-threads.is some)) c.answer_together.ensures.stops

pub returns-clause-serves : goal.returns-clause-serves
returns-clause-serves g c =
    through_both c.answer_in_turn-served.result c.trace-traced.result c.end_of.result c.end_of.ensures.served c.end_of.ensures.traced
    c.answer_in_turn-served.ensures.serves c.trace-traced.ensures.tells (λ end served left. some_ok _ c.args.self.input c.in-Some.input c.in-Some.is (
      served.0,
      served.1,
      served.2,
      for_these c.args.self.threads None (readings c.args.self.header served.0) served.2 c.in_default-threads.is served.3,
      told_ready _ _ _ _ _ _ _ _ _ _ _ _ c.say_ready.ensures
          (told_last _ _ _ _ _ _ _ _ _ _ _ _ _ served.4 served.5 c.engine-2.ensures served.6 left c.show.ensures.shows),
    ))

pub returns-in_err-print-clause-stops : goal.returns-in_err-print-clause-stops
returns-in_err-print-clause-stops g c =
    on_err_of c.from_residual.result (goes_none c.args.self.header _ c.args.self.threads g.R.Read.remaining c.args.self.input _ _ _ _ c.in_default.is
    (subst (λ (w : World). AppendsBeginning (g.O.Write.contents c.args.out.now) (g.O.Write.contents c.print.new.out) (written_as Text (lines_in w)))
    c.engine.ensures c.in_err-print.ensures.beginning))

pub returns-clause-stops : goal.returns-clause-stops
returns-clause-stops g c =
    either_way c.answer_in_turn-served.result c.end_of.result c.answer_in_turn-served.ensures.serves c.answer_in_turn-served.ensures.stops
    (λ end served. goes_some c.args.self.header _ c.args.self.threads g.R.Read.remaining c.args.self.input c.in-Some.input _ _ _ _ c.in-Some.is
    (inr (served_all c.args.self.header c.args.self.threads _ _ _ _ _ _ end served.0 served.2 served.1
    (for_these c.args.self.threads None (readings c.args.self.header served.0) served.2 c.in_default-threads.is served.3) served.4)))
    (λ some. goes_some c.args.self.header _ c.args.self.threads g.R.Read.remaining c.args.self.input c.in-Some.input _ _ _ _ c.in-Some.is
    (some_for c.args.self.header _ c.args.self.threads None _ _ _ _ _ c.in_default-threads.is some))
