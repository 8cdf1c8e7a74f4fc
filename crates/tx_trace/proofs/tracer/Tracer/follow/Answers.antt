use Rattle.std.proofs.Common.{◌∙◌, refl, rules, List}
use Rattle.tx_history.specs.declared.event.Event.{Event}
use Rattle.tx_trace.specs.Follow.{earlier}
use Rattle.tx_trace.proofs.Shelved.{shelf_few}
use Rattle.tx_trace.proofs.Tracked.{tracks_next, tracks_same}
use Rattle.tx_trace.proofs.tracer.Tracer.follow.Goals as goal

pub returns-in_err-put-clause-stays : goal.returns-in_err-put-clause-stays
returns-in_err-put-clause-stays c =
    let h = tracks_same c.args.engine.now.flow c.args.engine.now.start (earlier c.args.self.now.done c.args.engine.now.past) c.args.self.now
    (record {
      done = c.args.self.now.done;
      machines = c.put.new.machines;
      shelved = c.args.self.now.shelved;
      restored = c.args.self.now.restored;
      over =
          c.args.self.now.over;
    }) c.requires.next.tracks c.in_err-put.ensures.refused refl refl refl in
    search rules

pub shelved_after-self-requires : goal.shelved_after-self-requires
shelved_after-self-requires c = rw c.requires.next.tracks.shelved
    (shelf_few c.args.engine.now.flow c.args.engine.now.start (earlier c.args.self.now.done c.args.engine.now.past) c.requires.next.start.view.last
    c.requires.next.lawful.2)

pub returns-clause-tracks : goal.returns-clause-tracks
returns-clause-tracks c =
    let past : List Event = earlier c.args.self.now.done c.args.engine.now.past in
    tracks_next c.args.engine.now.flow c.args.engine.now.start past c.args.entry.now.event c.args.entry.now.change c.args.self.now _ c.args.traced
    c.requires.next.start.view.ordered c.requires.next.lawful c.requires.next.change c.requires.next.tracks c.requires.traced c.in_ok-put.ensures.put
    c.shelved_after-self.ensures (c.restored_after-self.ensures past c.requires.next.tracks.restored) (c.over_after-over.ensures ∙ (rw c.opened.ensures refl))
