-- What a run leaves.
use Rattle.std.specs.Prelude.{◌≡◌, ℕ, List, ◌++◌, length, map, Bool, true, drop}
use Rattle.sw_context.specs.Pairs.{Pairs}
use Rattle.sw_context.specs.Spelling.{bytes_of}
use Rattle.tx_history.specs.declared.event.Event.{Event}
use Rattle.tx_history.specs.declared.event.Entry.{Entry}
use Rattle.tx_engine.specs.World.{World}
use Rattle.tx_locked.specs.declared.station.MadeCall.{MadeCall}
use Rattle.tx_locked.specs.AllStations.{AreCalls}
use Rattle.tx_locked.specs.Receipts.{AllOwn, all_of, count_done, count_shelved, offered_of, run_entries}
use Rattle.tx_locked.specs.Settled.{IsSettled}

-- the history is the one that it was, and more: of the same flow and sessions, from the same start
pub record Grown (start w : World) : Type 0 where
  pub flow : w.flow ≡ start.flow
  pub from : w.start ≡ start.start
  pub sessions : w.sessions ≡ start.sessions
  pub new : List Event
  pub past : w.past ≡ new ++ start.past

-- the run reports, session by session, the numbers of its entries, and how many transactions ended, and how
pub record Reports {V : Type 0} (items : V → List ℕ) (start w : World) (receipts : List V) (done kept : ℕ) : Type 0 where
  pub sessions : length receipts ≡ start.sessions
  pub own : AllOwn items (run_entries start w) receipts
  pub finished : done ≡ count_done (run_entries start w)
  pub shelved : kept ≡ count_shelved (run_entries start w)

-- what the source gave in the run was offered, in order, each once; and it has ended
pub record Offered (start w : World) (before after : List Pairs) (ended : Bool) : Type 0 where
  pub given : List Pairs
  pub all : after ≡ before ++ given
  pub offers : offered_of (run_entries start w) ≡ map bytes_of given
  pub ends : ended ≡ true

-- what is compared at the end: the history is at rest; the copies of the entries above the old mark, the calls of the stations and
-- the receipts of the sessions are those of the history
pub record Agrees {L V : Type 0} (calls : L → List MadeCall) (items : V → List ℕ) (w : World) (mark from : ℕ) (made : List MadeCall) (logs : List L)
    (receipts : List V) (written : List Entry) : Type 0 where
  pub settled : IsSettled w
  pub copies : written ≡ drop mark (all_of w)
  pub calls_are : AreCalls calls made logs
  pub own : AllOwn items (drop from (all_of w)) receipts
