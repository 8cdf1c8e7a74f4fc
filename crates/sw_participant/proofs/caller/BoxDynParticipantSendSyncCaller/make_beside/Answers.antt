-- The box's contents and what is lent of them are one value.
use Rattle.std.proofs.Common.{IfOk, subst}
use Rattle.sw_participant.specs.Calls.{PerformsCall}
use Rattle.sw_participant.proofs.caller.BoxDynParticipantSendSyncCaller.make_beside.Goals as goal

pub returns-clause-performed : goal.returns-clause-performed
returns-clause-performed g c =
    subst
    (λ z. IfOk
    c.make_beside.result
    (λ reply. PerformsCall
    (goal.Participant-dyn g z)
    c.args.call.now.id
    c.args.call.now.act
    ((goal.Participant-dyn g z).object z.1)
    c.args.context.now
    reply
    ((goal.Participant-dyn g z).object z.1)
    c.make_beside.new.context))
    c.deref_box-1.ensures.1
    c.make_beside.ensures.performed
