-- What participants reply, by their names.
use Rattle.std.specs.Prelude.{ℕ, List}
use Rattle.sw_scripted.specs.Scripted.{Queues}
use Rattle.sw_scripted.specs.declared.participant.QueuedAnswer.{QueuedAnswer}
use Rattle.sw_scripted.specs.declared.puts.Put.{Put}
use Rattle.cli_script.specs.Queues.{queue_at}
use Rattle.cli_script.specs.declared.replies.Replies.{Replies}

-- the answers that are queued for the preparations of a name, the next first
abbrev pub answers_at : Replies → List ℕ → List QueuedAnswer
answers_at r name = queue_at r.answers name

-- the texts for its selections
abbrev pub choices_at : Replies → List ℕ → List (List ℕ)
choices_at r name = queue_at r.choices name

-- the advices of its commits and aborts
abbrev pub advices_at : Replies → List ℕ → List (List ℕ)
advices_at r name = queue_at r.advices name

-- what its `recover` calls put into the context
abbrev pub restores_at : Replies → List ℕ → List (List Put)
restores_at r name = queue_at r.restores name

-- all that is queued for a name
abbrev pub queued_at : Replies → List ℕ → Queues
queued_at r name = record {
  answers = answers_at r name;
  choices = choices_at r name;
  advices = advices_at r name;
  restores = restores_at r name;
}
