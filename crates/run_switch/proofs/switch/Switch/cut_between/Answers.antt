use Rattle.std.proofs.Common.{◌≡◌, ◌∙◌, [], false, refl, subst}
use Rattle.tx_engine.specs.World.{World}
use Rattle.run_switch.specs.Lines.{lines_in}
use Rattle.run_switch.specs.Points.{is_long}
use Rattle.run_switch.specs.Traces.{Tells, log_of}
use Rattle.run_switch.proofs.Resting.{cut_none, cut_rest, cuts_waits, history_none, history_short, may_cut, may_keep}
use Rattle.run_switch.proofs.Tracing.{tells_none}
use Rattle.run_switch.proofs.switch.Switch.cut_between.Goals as goal

pub returns-then-history-entries : goal.returns-then-history-entries
returns-then-history-entries g c =
    let short = history_short c.engine.result.now c.history.result.now c.entries_kept-entries.result c.history.ensures.entries c.if-history-entries.true
    c.entries_kept-entries.ensures.bound in
    record {
      cuts = record { lines = []; cuts = may_keep _ (subst (λ (w : World). is_long w ≡ false) c.engine.ensures short); tells = tells_none _ };
      rest = c.requires.rest;
      queue = refl;
      live = λ wanted. subst (λ (w : World). w.past ≡ []) c.engine.ensures
          (history_none c.engine.result.now c.history.result.now c.entries_kept-entries.result c.history.ensures.entries c.if-history-entries.true
          (c.entries_kept-entries.ensures.live (c.is_live.ensures ∙ wanted)));
      once = tt;
    }

pub returns-in-Ok : goal.returns-in-Ok
returns-in-Ok g c =
    let cuts = may_cut _ _ _ c.in-Ok.ensures.does in
    record {
      cuts = record {
        lines = _;
        cuts = cuts;
        tells = subst (λ (w : World). Tells (lines_in w) 0 (log_of g.E.Write.contents c.args.edge.now.stderr) (log_of g.E.Write.contents c.trace.new.self))
            c.engine-2.ensures c.in_ok-trace.ensures.tells;
      };
      rest = cut_rest _ _ _ c.requires.rest c.in-Ok.ensures.does c.in-Ok.ensures.seated;
      queue = cuts_waits _ _ _ cuts;
      live = λ wanted. cut_none _ _ _ c.in-Ok.ensures.does;
      once = tt;
    }
