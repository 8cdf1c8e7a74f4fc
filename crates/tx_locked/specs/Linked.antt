-- Calls of one station that follow one another.
use Rattle.std.specs.Prelude.{◌≡◌, ℕ, ◌+◌, ◌-◌, ◌^◌, min, List, [], ◌∷◌}
use Rattle.sw_context.specs.Pairs.{Pairs}
use Rattle.sw_participant.specs.declared.call.Call.{Call}
use Rattle.sw_participant.specs.declared.call.Reply.{Reply}
use Rattle.sw_participant.specs.Chains.{Rule}
use Rattle.sw_participant.specs.Callers.{Within}
use Rattle.tx_locked.specs.declared.station.MadeCall.{MadeCall}

-- each call was one that the rule allows, from the object that the last one left
abbrev pub Linked : Rule → List ℕ → List MadeCall → List ℕ → Type 0
Linked rule o [] p = p ≡ o
Linked rule o (m ∷ ms) p =
    (q : List ℕ) × rule m.call.id m.call.act o m.before m.reply q m.after × Linked rule q ms p

-- a count of calls after these; it stays at 2^64 - 1
abbrev pub count_up : ℕ → List MadeCall → ℕ
count_up n [] = n
count_up n (m ∷ ms) = count_up (min (n + 1) (2 ^ 64 - 1)) ms

-- A station in a run, which began with this rule, object and count: its calls lead from that object to the one that it has,
-- the count counts them, and the first rule allows what its rule allows.
pub record IsStation (first : Rule) (o : List ℕ) (c : ℕ) (rule : Rule) (p : List ℕ) (d : ℕ) (log : List MadeCall) : Type 0 where
  pub within : Within rule first
  pub linked : Linked first o log p
  pub counts : d ≡ count_up c log

-- a call beside others is one that the rule allows, and leaves the object as it was
abbrev pub IsBeside : Rule → List ℕ → MadeCall → Type 0
IsBeside rule o m = rule m.call.id m.call.act o m.before m.reply o m.after

-- The notes of a station whose participant several sessions call at once: its calls lead from the object that it has to the
-- same, and the count counts them.
pub record AreNotes (rule : Rule) (o : List ℕ) (c d : ℕ) (log : List MadeCall) : Type 0 where
  pub linked : Linked rule o log o
  pub counts : d ≡ count_up c log

-- what contracts see of notes: which station's they are, and its calls in the run
pub record NotesSeen : Type 0 where
  pub index : ℕ
  pub log : List MadeCall

abbrev pub notes_seen : ℕ → List MadeCall → NotesSeen
notes_seen index log = record { index = index; log = log }

-- what contracts see of it: which one it is, its name, and its calls in the run
pub record StationSeen : Type 0 where
  pub index : ℕ
  pub name : List ℕ
  pub log : List MadeCall

abbrev pub station_seen : ℕ → List ℕ → List MadeCall → StationSeen
station_seen index name log = record { index = index; name = name; log = log }

abbrev pub made : Call → Reply → Pairs → Pairs → MadeCall
made call reply before after = record { call = call; reply = reply; before = before; after = after }
