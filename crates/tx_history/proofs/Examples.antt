-- The definitions at work, by computation only.
-- for: the definitions, which compute
use Rattle.std.proofs.Common.{true, ◌≡◌, false, List, [], ◌∷◌, Some, None, refl}
use Rattle.std.specs.Prelude.{codes}
use Rattle.flow_model.specs.declared.flow.Flow.{Flow}
use Rattle.sw_participant.specs.declared.kind.Kind.{Kind}
use Rattle.tx_machine.specs.declared.values.Phase.TheVariants.{Preparing, Undoing}
use Rattle.tx_history.specs.declared.event.Event.{Event}
use Rattle.tx_history.specs.declared.event.Event.TheVariants.{Offered, Taken, Answered, Told, Recovered, Released, Closed}
use Rattle.tx_history.specs.History.{Start, queue, holds, restores}
use Rattle.tx_history.specs.Journal.{journal}
use Rattle.tx_history.specs.Lives.{opened, stopped}

plain : Kind
plain = record { selector = false; abort_aware = false; recovers = false }

flow : Flow
unfolding plain
flow = record {
  retries = 0;
  groups = record {
    name = codes "main";
    entries = record { participant = codes "check"; kind = plain } ∷ record {
      participant =
          codes "send";
      kind = plain;
    } ∷ [];
  } ∷ [];
}

start : Start
start = record { view = record { next_id = 1; rows = []; shelf = []; advices = [] }; queue = []; breaks = [] }

past : List Event
past = Answered 0 1 (0 ∷ []) ∷ Taken 0 ∷ Offered (0 ∷ []) ∷ []

-- after the first answer of `main check send`: the row that a stop leaves
left : journal flow start past ≡ record {
  next_id = 2;
  rows =
      (1, record { phase = Preparing; joined = codes "check" ∷ []; told = 0; doing = Some (codes "send"); tries = 0; context = 0 ∷ [] }) ∷ [];
  shelf =
      [];
  advices = [];
}
unfolding plain flow start past
left = refl

-- after the stop: both are notified of the abort, in order, and nothing is left
again : holds flow (stopped flow start past) [] 0 ≡ Some 1
unfolding plain flow start past
again = refl

once : (journal flow (stopped flow start past) (Told 0 None ∷ [])).rows
    ≡ (1, record { phase = Undoing; joined = codes "check" ∷ codes "send" ∷ []; told = 1; doing = None; tries = 0; context = 0 ∷ [] }) ∷ []
unfolding plain flow start past
once = refl

twice : journal flow (stopped flow start past) (Told 0 None ∷ Told 0 (Some (7 ∷ [])) ∷ []) ≡ record {
  next_id = 2;
  rows = [];
  shelf = [];
  advices =
      ((1, 0), 7 ∷ []) ∷ [];
}
unfolding plain flow start past
twice = refl

-- a transaction with no member and nobody in `doing` is closed at the opening
closed : opened flow (record {
  view = record {
    next_id = 2;
    rows =
        (1, record { phase = Preparing; joined = []; told = 0; doing = None; tries = 0; context = 0 ∷ [] }) ∷ [];
    shelf = [];
    advices = [];
  };
  queue =
      [];
  breaks = [];
}) ≡ Closed 1 ∷ []
unfolding plain flow
closed = refl

-- a participant that restores contexts is asked before it is notified, again after a stop
restoring : Flow
unfolding plain
restoring = record {
  retries = 1;
  groups = record {
    name = codes "main";
    entries = record {
      participant = codes "check";
      kind =
          record { selector = false; abort_aware = false; recovers = true };
    } ∷ record { participant = codes "send"; kind = plain } ∷ [];
  } ∷ [];
}

asked : restores restoring (stopped restoring start past) [] 1 ≡ Some (0, false)
unfolding plain restoring start past
asked = refl

restored : restores restoring (stopped restoring start past) (Recovered 0 (0 ∷ []) ∷ []) 1 ≡ None
unfolding plain restoring start past
restored = refl

unchanged : (journal restoring (stopped restoring start past) (Recovered 0 (0 ∷ []) ∷ [])).rows ≡ (journal restoring start past).rows
unfolding plain restoring start past
unchanged = refl

-- the second participant restores nothing
second : restores restoring (stopped restoring start past) (Told 0 None ∷ Recovered 0 (0 ∷ []) ∷ []) 1 ≡ None
unfolding plain restoring start past
second = refl

-- an abort with RETRY and a try left goes on the shelf, and a release puts it back into the queue
shelved_past : List Event
shelved_past = Told 0 None ∷ Answered 0 2 (0 ∷ []) ∷ Taken 0 ∷ Offered (0 ∷ []) ∷ []

on_shelf : journal restoring start shelved_past ≡ record { next_id = 2; rows = []; shelf = (1, record { tries = 0; context = 0 ∷ [] }) ∷ []; advices = [] }
unfolding plain restoring start shelved_past
on_shelf = refl

put_back : queue restoring start (Released ∷ shelved_past) ≡ record { tries = 0; context = 0 ∷ [] } ∷ []
unfolding plain restoring start shelved_past
put_back = refl

emptied : (journal restoring start (Released ∷ shelved_past)).shelf ≡ []
unfolding plain restoring start shelved_past
emptied = refl

-- an old shelf is released too
old_back : queue restoring (stopped restoring start shelved_past) (Released ∷ []) ≡ record { tries = 0; context = 0 ∷ [] } ∷ []
unfolding plain restoring start shelved_past
old_back = refl
