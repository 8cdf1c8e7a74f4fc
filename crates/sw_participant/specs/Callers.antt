-- What makes calls, as contracts see it: a rule and an object.
use Rattle.std.specs.Prelude.{ℕ, List}
use Rattle.sw_context.specs.Pairs.{Pairs}
use Rattle.sw_participant.specs.declared.call.Act.{Act}
use Rattle.sw_participant.specs.declared.call.Reply.{Reply}
use Rattle.sw_participant.specs.Chains.{Rule}

-- what the first rule allows, the second allows too
abbrev pub Within : Rule → Rule → Type 0
Within rule wide = (id : ℕ) (act : Act) (o : List ℕ) (x : Pairs) (reply : Reply) (p : List ℕ) (y : Pairs) → rule id act o x reply p y →
    wide id act o x reply p y
