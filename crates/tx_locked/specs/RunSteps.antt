-- What happened in a plant's core since a run began, the newest first.
use Rattle.std.specs.Prelude.{◌≡◌, ◌≤◌, ◌<◌, take, ◌+◌, ℕ, List, [], ◌∷◌, ◌++◌, length, None}
use Rattle.sw_context.specs.Pairs.{Pairs}
use Rattle.sw_participant.specs.Chains.{Began}
use Rattle.tx_history.specs.declared.event.Event.TheVariants as event
use Rattle.tx_history.specs.declared.event.Entry.{Entry}
use Rattle.tx_engine.specs.World.{Recorded}
use Rattle.tx_engine.specs.Calls.{offer_refusal}
use Rattle.tx_plant.specs.Core.{Core}
use Rattle.tx_plant.specs.Turns.{Taken}
use Rattle.tx_plant.specs.Entered.{Entered}
use Rattle.tx_plant.specs.Plant.{IsEngine, late}
use Rattle.tx_locked.specs.declared.station.MadeCall.{MadeCall}

-- a context of these bytes was offered; a session took a transaction; the reply to a session's call was recorded; these
-- entries were found written
pub data RunStep : Type 0 where
  Offers : (bytes : List ℕ) → (number : ℕ) → RunStep
  Takes : (session number id : ℕ) → (context : Pairs) → RunStep
  Replies : (session number : ℕ) → (made : MadeCall) → RunStep
  Writes : (batch : List Entry) → RunStep

-- the oldest entries that are not written are found written
pub record Marks (b : List Entry) (p q : Core) : Type 0 where
  pub some : 0 < length b
  pub batch : b ≡ take (length b) (late p.world)
  pub few : length b ≤ length (late p.world)
  pub core : q ≡ record p { world = record p.world { mark = p.world.mark + length b } }

-- what such a step did to the core
abbrev pub Does : RunStep → Core → Core → Type 0
Does (Offers b n) p q =
    (offer_refusal p.world ≡ None) × Recorded p.world (event.Offered b) n q.world × (q ≡ record p { world = q.world })
Does (Takes s n id x) p q = Taken p s n (Began id x ∷ []) q
Does (Replies s n m) p q = Entered p s m.call m.reply m.before m.after n q
Does (Writes b) p q = Marks b p q

-- one after the other
abbrev pub DoesAll : List RunStep → Core → Core → Type 0
DoesAll [] p q = q ≡ p
DoesAll (d ∷ ds) p q = (w : Core) × DoesAll ds p w × Does d w q × IsEngine q.world

-- the bytes of the contexts that were offered, in order
abbrev pub offers_of : List RunStep → List (List ℕ)
offers_of [] = []
offers_of (Offers b n ∷ ds) = offers_of ds ++ b ∷ []
offers_of (d ∷ ds) = offers_of ds

-- the calls that were made, in order
abbrev pub calls_of : List RunStep → List MadeCall
calls_of [] = []
calls_of (Replies s n m ∷ ds) = calls_of ds ++ m ∷ []
calls_of (d ∷ ds) = calls_of ds

-- how many entries the sessions made
abbrev pub given_of : List RunStep → ℕ
given_of [] = 0
given_of (Takes s n id x ∷ ds) = given_of ds + 1
given_of (Replies s n m ∷ ds) = given_of ds + 1
given_of (d ∷ ds) = given_of ds

-- the entries that were found written, in order
abbrev pub written_of : List RunStep → List Entry
written_of [] = []
written_of (Writes b ∷ ds) = written_of ds ++ b
written_of (d ∷ ds) = written_of ds
