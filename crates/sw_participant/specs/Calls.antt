-- What one call of a participant did, by the relations that the participant states.
--
-- Participants and stations.
--
-- A participant states what contracts see of it, a list of numbers that shows what it keeps (its
-- object), and a relation for each call. `PerformsCall` is one call: its act names the relation,
-- and a reply of another kind performs nothing. `shown` shows a value that has a code as numbers,
-- no two values alike. Of a station contracts see its type of participant, name, count and object
-- (`type_of`, `name_of`, `calls_of`, `object_of`); `rule_of` is its participant's `PerformsCall`.
use Rattle.std.specs.Prelude.{ℕ, List}
use Rattle.sw_context.specs.Pairs.{Pairs}
use Rattle.sw_participant.specs.declared.participant.Participant.{Ghosts}
use Rattle.sw_participant.specs.declared.call.Act.{Act}
use Rattle.sw_participant.specs.declared.call.Reply.{Reply}
use Rattle.sw_participant.specs.Performs.{PerformsBy}

-- The call that the act names, in this transaction, led from an object and a context to the later ones, with a
-- reply of the call's kind.
abbrev pub PerformsCall : {S : Type 0} → Ghosts S → ℕ → Act → List ℕ → Pairs → Reply → List ℕ → Pairs → Type 0
PerformsCall w id act o x reply p y = PerformsBy w.prepares w.prepares_for_abort w.selects w.commits w.aborts w.recovers id act o x reply p y
