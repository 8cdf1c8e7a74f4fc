-- A transaction of this life by the list of its items, as the machine has it.
use Rattle.std.specs.Prelude.{◌+◌, List, [], ◌∷◌, None}
use Rattle.flow_model.specs.declared.flow.Flow.{Flow}
use Rattle.tx_machine.specs.declared.values.Item.{Item}
use Rattle.tx_machine.specs.declared.values.Item.TheVariants as item
use Rattle.tx_machine.specs.declared.values.Phase.{Phase}
use Rattle.tx_machine.specs.Row.{Row}
use Rattle.outcome_calls.specs.Trail.{listed}
use Rattle.outcome_calls.specs.One.{FullReply, Answer, Chosen, Advice}
use Rattle.outcome_calls.specs.States.{FullState, after}

abbrev pub reply_of : Item → FullReply
reply_of (item.Answer b c) = Answer b c
reply_of (item.Choice t) = Chosen t
reply_of (item.Told a) = Advice a

abbrev pub replies : List Item → List FullReply
replies [] = []
replies (x ∷ xs) = reply_of x ∷ replies xs

-- oldest first
abbrev pub afters : Flow → FullState → List FullReply → FullState
afters f st [] = st
afters f st (x ∷ xs) = afters f (after f st x) xs

-- a recovered transaction's row after its first Told
abbrev pub told_row : Row → Phase → Row
told_row r ph = record { phase = ph; joined = listed r; told = r.told + 1; doing = None; tries = r.tries; saved = r.saved }
