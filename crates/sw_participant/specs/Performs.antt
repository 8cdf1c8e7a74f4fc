-- One call, by the relations of a participant's calls, each given by itself: a participant's own clauses cannot name the
-- record of them.
use Rattle.std.specs.Prelude.{◌≡◌, ℕ, List, Bool, Option}
use Rattle.sw_context.specs.Pairs.{Pairs}
use Rattle.sw_participant.specs.declared.call.Act.{Act}
use Rattle.sw_participant.specs.declared.call.Act.TheVariants.{Prepare, PrepareForAbort, Select, Commit, Abort, Recover}
use Rattle.sw_participant.specs.declared.call.Reply.{Reply}
use Rattle.sw_participant.specs.declared.call.Reply.TheVariants.{Answer, Chosen, Told, Recovered}

-- id, object and context before, answer byte, object and context after
abbrev pub Preparing : Type 1
Preparing = ℕ → List ℕ → Pairs → ℕ → List ℕ → Pairs → Type 0

-- id, object and context, the text, the object after
abbrev pub Selecting : Type 1
Selecting = ℕ → List ℕ → Pairs → List ℕ → List ℕ → Type 0

-- id, whether after a restart, object and context before, the advice, object and context after
abbrev pub Ending : Type 1
Ending = ℕ → Bool → List ℕ → Pairs → Option (List ℕ) → List ℕ → Pairs → Type 0

-- id, whether the outcome is commit, object and context before and after
abbrev pub Recovering : Type 1
Recovering = ℕ → Bool → List ℕ → Pairs → List ℕ → Pairs → Type 0

-- The call that the act names led from an object and a context to the later ones, with a reply of the call's kind.
abbrev pub PerformsBy : Preparing → Preparing → Selecting → Ending → Ending → Recovering → ℕ → Act → List ℕ → Pairs → Reply → List ℕ → Pairs → Type 0
PerformsBy prepares prepares_for_abort selects commits aborts recovers id Prepare o x (Answer byte) p y = prepares id o x byte p y
PerformsBy prepares prepares_for_abort selects commits aborts recovers id PrepareForAbort o x (Answer byte) p y = prepares_for_abort id o x byte p y
PerformsBy prepares prepares_for_abort selects commits aborts recovers id Select o x (Chosen text) p y = selects id o x text p × (y ≡ x)
PerformsBy prepares prepares_for_abort selects commits aborts recovers id (Commit recovering) o x (Told advice) p y = commits id recovering o x advice p y
PerformsBy prepares prepares_for_abort selects commits aborts recovers id (Abort recovering) o x (Told advice) p y = aborts id recovering o x advice p y
PerformsBy prepares prepares_for_abort selects commits aborts recovers id (Recover commit) o x Recovered p y = recovers id commit o x p y
PerformsBy prepares prepares_for_abort selects commits aborts recovers id _ o x _ p y = ⊥
