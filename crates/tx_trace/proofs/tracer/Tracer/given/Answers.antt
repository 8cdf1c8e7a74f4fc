use Rattle.std.proofs.Common.{refl, List, Some}
use Rattle.std.specs.Prelude.{nat_lt}
use Rattle.tx_history.specs.declared.event.Event.{Event}
use Rattle.tx_trace.specs.declared.shown.Shown.TheVariants.{Moved}
use Rattle.tx_trace.specs.Follow.{earlier}
use Rattle.tx_trace.proofs.Tracked.{given_traced}
use Rattle.tx_trace.proofs.tracer.Tracer.given.Goals as goal

pub returns : goal.returns
returns c =
    let past : List Event = earlier c.args.self.now.done c.args.engine.now.past in
    given_traced c.args.engine.now.flow c.args.engine.now.start past c.args.entry.now.event c.args.id c.in_ok-before.before c.in_ok-after.after
    (nat_lt c.args.id c.opened.result.now.next_id) c.args.self.now.restored c.restored_after-restored.result c.restores_at.result c.restores_at-2.result
    c.kept-kept.result (record {
      shown = Moved (record {
        id = c.args.id;
        recovering = nat_lt c.args.id c.opened.result.now.next_id;
        before =
            c.of.result;
        after = c.of-2.result;
      });
      moved = Some (c.args.id, c.kept-kept.result);
    }) c.requires.concerns
    (record {
      stood = c.in_ok-before.ensures;
      sound = rw (← c.code-code.ensures) c.in_ok-after.ensures.sound;
      led = rw (← c.code-code.ensures) c.in_ok-after.ensures.state;
      old = rw c.opened.ensures refl;
      restored = c.requires.next.tracks.restored;
      restores = c.restored_after-restored.ensures past c.requires.next.tracks.restored;
      call = rw (← c.code-code.ensures) c.restores_at.ensures;
      next = rw (← c.code-code.ensures) c.restores_at-2.ensures;
      left = rw (← c.code-code.ensures) c.kept-kept.ensures;
    })
    (rw (c.of.ensures, c.of-2.ensures, c.code-code.ensures) refl) refl
