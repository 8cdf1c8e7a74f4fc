use Rattle.std.proofs.Common.{refl}
use Rattle.std.proofs.lemmas.Result.{err_from_is_err_and}
use Rattle.cardswitch.proofs.Answering.{answered_through, refused_through, taken}
use Rattle.cardswitch.proofs.Profiled.{acquirer_refused, anyhow, no_memory, with_profile}
use Rattle.cardswitch.proofs.requests.answer_recoded.Goals as goal

pub returns-in_err-passages-clause-failed : goal.returns-in_err-passages-clause-failed
returns-in_err-passages-clause-failed g c =
    let error = err_from_is_err_and c.from_residual-in_err-passages.result c.from_residual-in_err-passages.ensures.1 in
    taken _ c.args.flow c.args.config c.in_ok-flow.flow c.in_ok-config.config c.in_ok-flow.was c.in_ok-config.was
    (rw (error.1, error.2) (acquirer_refused c.args.options.now c.in_ok-config.config _ c.in_err-passages.field-0.0 c.in_err-passages.ensures.refused))

pub returns-in_err-edge-clause-failed : goal.returns-in_err-edge-clause-failed
returns-in_err-edge-clause-failed g c =
    let error = err_from_is_err_and c.from_residual-in_err-edge.result c.from_residual-in_err-edge.ensures.1 in
    taken _ c.args.flow c.args.config c.in_ok-flow.flow c.in_ok-config.config c.in_ok-flow.was c.in_ok-config.was
    (rw (error.1, error.2) (no_memory c.args.options.now c.in_ok-config.config _ _ _ c.in-Some.is))

pub returns-clause-answered : goal.returns-clause-answered
returns-clause-answered g c =
    taken _ c.args.flow c.args.config c.in_ok-flow.flow c.in_ok-config.config c.in_ok-flow.was c.in_ok-config.was
    (answered_through _ c.in_ok-flow.flow c.args.options.now c.in_ok-config.config _ _ _ _ _ _ c.answer_by-2.result
    (with_profile _ c.in_ok-config.config.run.profile _ c.in-Some.is) c.answer_by-2.ensures.answered)

pub returns-clause-failed : goal.returns-clause-failed
returns-clause-failed g c =
    taken _ c.args.flow c.args.config c.in_ok-flow.flow c.in_ok-config.config c.in_ok-flow.was c.in_ok-config.was
    (refused_through c.args.options.now c.in_ok-config.config _ _ _ _ c.answer_by-2.result
    (with_profile _ c.in_ok-config.config.run.profile _ c.in-Some.is) c.answer_by-2.ensures.failed)

-- without a profile of the acquirer
pub returns-in_default-clause-answered : goal.returns-in_default-clause-answered
returns-in_default-clause-answered g c =
    taken _ c.args.flow c.args.config c.in_ok-flow.flow c.in_ok-config.config c.in_ok-flow.was c.in_ok-config.was
    (answered_through _ c.in_ok-flow.flow c.args.options.now c.in_ok-config.config _ _ _ _ _ _ c.answer_by.result
    (anyhow _ c.in_ok-config.config.run.profile (refl, refl, refl)) c.answer_by.ensures.answered)

pub returns-in_default-clause-failed : goal.returns-in_default-clause-failed
returns-in_default-clause-failed g c =
    taken _ c.args.flow c.args.config c.in_ok-flow.flow c.in_ok-config.config c.in_ok-flow.was c.in_ok-config.was
    (refused_through c.args.options.now c.in_ok-config.config _ _ _ _ c.answer_by.result
    (anyhow _ c.in_ok-config.config.run.profile (refl, refl)) c.answer_by.ensures.failed)
