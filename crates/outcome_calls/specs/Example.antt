-- Two runs, so that the laws speak of something.
use Rattle.std.specs.Prelude.{◌≡◌, false, true, List, [], ◌∷◌, Some, None, codes}
use Rattle.flow_model.specs.declared.flow.Flow.{Flow}
use Rattle.tx_machine.specs.declared.values.Phase.TheVariants.{Preparing}
use Rattle.tx_machine.specs.Row.{Row}
use Rattle.outcome_calls.specs.Trail.{Answered, Chose, Told, Recovered, Stopped}
use Rattle.outcome_calls.specs.One.{Answer, Chosen, Advice, Restored}
use Rattle.outcome_calls.specs.Core.{IdView, trail_of}
use Rattle.outcome_calls.specs.Plant.{AbstractPlant, made_on, view, PlantMove, Take, Call, Record, Put, Note, Stop, PlantRun}

-- a flow of one group: `check`, which is recovering, and `send`
abbrev pub two : Flow
two = record {
  retries = 0;
  groups = record {
    name = codes "main";
    entries = record { participant = codes "check"; kind = record { selector = false; abort_aware = false; recovers = true } }
        ∷ record { participant = codes "send"; kind = record { selector = false; abort_aware = false; recovers = false } } ∷ [];
  } ∷ [];
}

-- a journal that holds nothing
abbrev pub blank : IdView
blank = record { next_id = 1; row = λ id. None; advice = λ id n. None }

-- the row at both stops: `check` has joined, and the preparation of `send` is due
abbrev pub left : Row
left = record { phase = Preparing; joined = 0 ∷ []; told = 0; doing = Some 1; tries = 3; saved = 9 ∷ [] }

-- `check` is prepared, the plant stops; `check` restores and is notified of the abort, which is not written as the plant stops again
abbrev pub moves : List PlantMove
moves = Take 0 (3, 5 ∷ []) ∷ Put ∷ Note 1 ∷ Call 0 (Answer 1 (9 ∷ [])) (Answered 0 1) ∷ Record 0 ∷ Put ∷ Note 2 ∷ Stop []
    ∷ Call 0 Restored (Recovered 0 0) ∷ Record 0 ∷ Put ∷ Note 1 ∷ Call 0 (Advice None) (Told false 0 0 None) ∷ Record 0 ∷ Stop [] ∷ Call 0 Restored
    (Recovered 0 0) ∷ []

-- these small steps are a run, after which the trail of transaction 1 is this
abbrev pub SomeRun : Type 0
SomeRun = (q : AbstractPlant) × PlantRun two moves (made_on blank [] []) q
    × (trail_of 1 q.calls ≡ Recovered 0 0 ∷ Stopped (Some left) ∷ Told false 0 0 None ∷ Recovered 0 0 ∷ Stopped (Some left) ∷ Answered 0 1 ∷ Stopped None ∷ [])

-- a flow whose selector `route` may select the group `card`
abbrev pub chooser : Flow
chooser = record {
  retries = 1;
  groups = record {
    name = codes "main";
    entries = record {
      participant = codes "route";
      kind =
          record { selector = true; abort_aware = false; recovers = false };
    } ∷ [];
  }
      ∷ record {
        name = codes "card";
        entries = record {
          participant = codes "limits";
          kind =
              record { selector = false; abort_aware = false; recovers = false };
        } ∷ [];
      } ∷ [];
}

-- a selector that does not join chooses a group, whose participant is not prepared and asks for another try: it is notified of the
-- abort, and the transaction goes on the shelf, and the journal keeps no row of it
abbrev pub shelving : List PlantMove
shelving = Take 0 (1, []) ∷ Put ∷ Note 1 ∷ Call 0 (Answer 65 []) (Answered 0 65) ∷ Record 0 ∷ Put ∷ Note 2 ∷ Call 0 (Chosen (codes "card")) (Chose 0)
    ∷ Record 0 ∷ Put ∷ Note 3
    ∷ Call 0 (Answer 2 []) (Answered 1 2) ∷ Record 0 ∷ Put ∷ Note 4 ∷ Call 0 (Advice (Some (7 ∷ []))) (Told false 1 0 (Some (7 ∷ []))) ∷ Record 0 ∷ Put
    ∷ Note 5 ∷ []

-- these small steps are a run: the trail of transaction 1 after it, and what the journal has of it
abbrev pub ShelvingRun : Type 0
ShelvingRun = (q : AbstractPlant) × PlantRun chooser shelving (made_on blank [] []) q
    × (trail_of 1 q.calls ≡ Told false 1 0 (Some (7 ∷ [])) ∷ Answered 1 2 ∷ Chose 0 ∷ Answered 0 65 ∷ Stopped None ∷ []) × ((view chooser q).row 1 ≡ None)
    × ((view chooser q).advice 1 0 ≡ Some (7 ∷ []))
