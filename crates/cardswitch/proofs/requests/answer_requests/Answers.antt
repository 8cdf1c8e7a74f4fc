use Rattle.cardswitch.proofs.Answering.{answered_requests, refused}
use Rattle.cardswitch.proofs.requests.answer_requests.Goals as goal

pub returns-clause-answered : goal.returns-clause-answered
returns-clause-answered g c = answered_requests _ c.flow_at-flow.result c.config_for-config.result c.args.options.now _ _ _ c.answer_recoded.result
    c.flow_at-flow.ensures.checked c.config_for-config.ensures.stated c.answer_recoded.ensures.no_flow c.answer_recoded.ensures.no_config c.answer_recoded.ensures.answered

pub returns-clause-failed : goal.returns-clause-failed
returns-clause-failed g c = refused c.flow_at-flow.result c.config_for-config.result c.args.options.now _ _ c.answer_recoded.result c.flow_at-flow.ensures.failed
    c.config_for-config.ensures.failed c.config_for-config.ensures.stated c.answer_recoded.ensures.no_flow c.answer_recoded.ensures.no_config c.answer_recoded.ensures.failed
