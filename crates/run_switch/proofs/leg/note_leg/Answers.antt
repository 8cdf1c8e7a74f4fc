use Rattle.std.proofs.Common.{false, true, [], ◌≡◌, ap, subst, ◌∙◌}
use Rattle.run_responses.specs.Giving.{Gives, giving_of}
use Rattle.run_responses.proofs.Gave.{same_output}
use Rattle.run_switch.specs.Points.{point_of}
use Rattle.run_switch.proofs.Leading.{ended_some, gave_all, leg_ends}
use Rattle.run_switch.proofs.leg.note_leg.Goals as goal

pub returns-in-Ok-clause-same : goal.returns-in-Ok-clause-same
returns-in-Ok-clause-same g c =
    c.check_given-checked.ensures.same ∙ (c.flush.ensures.same ∙ (ap (λ z. z.out.ghost_name) c.into_parts-source.ensures.sink
    ∙ same_output (λ z. z.out.ghost_name) _ (λ z id x y t. t.0) _ _ _ c.in-Ok.ensures.took.took))

pub returns-in-Ok-clause-led : goal.returns-in-Ok-clause-led
returns-in-Ok-clause-led g c =
    let (xs, heard, together) = c.in-Ok.ensures.together in
    let took = c.in-Ok.ensures.took in
    let view = giving_of g.O.Write.contents in
    let gives = gave_all view _ (λ z id x y t. t.1) c.args.sink c.in-Ok.streams.sink c.flush.new.self took.all took.took c.requires.whole
    (subst (λ s. (view s).failed ≡ false → Gives (view s) [] (view c.flush.new.self)) c.into_parts-source.ensures.sink c.flush.ensures.gives)
    (subst (λ s. (view s).failed ≡ true → view c.flush.new.self ≡ view s) c.into_parts-source.ensures.sink c.flush.ensures.kept) in
    rw c.note.ensures (leg_ends (λ d. point_of g.S.Store d.0) (λ d. d.1.got) c.end_of.result c.check_given-checked.result _ xs c.in-Ok.streams.source.got
    (point_of g.S.Store c.args.switch) (point_of g.S.Store c.in-Ok.switch) (view c.args.sink) (view c.flush.new.self) _ took.all
    c.end_of.ensures.switch (rw c.into_parts-source.ensures.source at c.end_of.ensures.source) c.end_of.ensures.checked
    (ap g.O.Write.contents c.check_given-checked.ensures.out) c.requires.held c.requires.given heard together c.requires.rest took.ids took.contexts gives
    c.check_given-checked.ensures.whole c.check_given-checked.ensures.given)

pub returns-in-Err-clause-same : goal.returns-in-Err-clause-same
returns-in-Err-clause-same g c =
    c.flush-in-Err.ensures.same ∙ same_output (λ z. z.out.ghost_name) _ (λ z id x y t. t.0) _ _ _ c.in-Err.ensures.some.took

pub returns-in-Err-clause-led : goal.returns-in-Err-clause-led
returns-in-Err-clause-led g c =
    let some = c.in-Err.ensures.some in
    let view = giving_of g.O.Write.contents in
    let gives = gave_all view _ (λ z id x y t. t.1) c.args.sink c.in-Err.sink c.flush-in-Err.new.self some.some some.took c.requires.whole
    c.flush-in-Err.ensures.gives c.flush-in-Err.ensures.kept in
    rw c.note-in-Err.ensures (ended_some (point_of g.S.Store c.args.switch) (view c.args.sink) (view c.flush-in-Err.new.self) some.some c.requires.held some.were
    gives)
