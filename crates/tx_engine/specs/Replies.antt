-- Which kind of reply a participant's reply is.
use Rattle.sw_participant.specs.declared.call.Reply.{Reply}
use Rattle.sw_participant.specs.declared.call.Reply.TheVariants as reply
use Rattle.tx_slots.specs.declared.next.ReplyKind.{ReplyKind}
use Rattle.tx_slots.specs.declared.next.ReplyKind.TheVariants as kind

abbrev pub kind_of : Reply → ReplyKind
kind_of (reply.Answer byte) = kind.Answer
kind_of (reply.Chosen text) = kind.Choice
kind_of (reply.Told advice) = kind.Told
kind_of reply.Recovered = kind.Recovered
