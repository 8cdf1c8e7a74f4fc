-- The calls of all stations.
use Rattle.std.specs.Prelude.{◌≡◌, ◌<◌, ◌==◌, ⊤, ℕ, Bool, List, [], ◌∷◌, length, filter, get_or, slice_get, Some}
use Rattle.sw_participant.specs.Chains.{Rule}
use Rattle.sw_participant.specs.Callers.{Within}
use Rattle.tx_locked.specs.declared.station.MadeCall.{MadeCall}
use Rattle.tx_locked.specs.Linked.{Linked, count_up}

-- the call is one of this station
abbrev pub is_at : ℕ → MadeCall → Bool
is_at k m = m.call.participant == k

-- those of one station
abbrev pub calls_at : ℕ → List MadeCall → List MadeCall
calls_at k ms = filter (is_at k) ms

-- each call is one of the first n stations
abbrev pub AllThere : ℕ → List MadeCall → Type 0
AllThere n [] = ⊤
AllThere n (m ∷ ms) = (m.call.participant < n) × AllThere n ms

-- Each call is one of a station; each station's calls lead from the object that it had to the one that it has, and are
-- counted.
pub record AllLinked (rule : ℕ → Rule) (os : List (List ℕ)) (cs : List ℕ) (ms : List MadeCall) (ps : List (List ℕ)) (ds : List ℕ) : Type 0 where
  pub long : length ps ≡ length os
  pub counted : length ds ≡ length os
  pub there : AllThere (length os) ms
  pub linked : (k : ℕ) → Linked (rule k) (get_or os k []) (calls_at k ms) (get_or ps k [])
  pub counts : (k : ℕ) → get_or ds k 0 ≡ count_up (get_or cs k 0) (calls_at k ms)

-- of one station: its calls lead from the object that it had, and its count counts them; its name is the one that it had
pub record IsBack (rule : Rule) (o : List ℕ) (c : ℕ) (n : List ℕ) (log : List MadeCall) (p : List ℕ) (d : ℕ) (name : List ℕ) : Type 0 where
  pub linked : Linked rule o log p
  pub counts : d ≡ count_up c log
  pub named : name ≡ n

-- stations with the calls that they made, in the order in which they were at the start
pub record AllBack {S L : Type 0} (rule : ℕ → Rule) (os : List (List ℕ)) (cs : List ℕ) (ns : List (List ℕ)) (object : S → List ℕ) (count : S → ℕ)
    (name : S → List ℕ) (calls : L → List MadeCall) (stations : List S) (logs : List L) : Type 0 where
  pub long : length stations ≡ length os
  pub logged : length logs ≡ length stations
  pub each : (k : ℕ) (s : S) (l : L) → slice_get stations k ≡ Some s → slice_get logs k ≡ Some l →
      IsBack (rule k) (get_or os k []) (get_or cs k 0) (get_or ns k []) (calls l) (object s) (count s) (name s)

-- these are the calls of all stations
pub record AreCalls {L : Type 0} (calls : L → List MadeCall) (ms : List MadeCall) (logs : List L) : Type 0 where
  pub there : AllThere (length logs) ms
  pub own : (k : ℕ) (l : L) → slice_get logs k ≡ Some l → calls_at k ms ≡ calls l

-- a station at the start of a run, with its own rule, object, count and name
pub record IsReady (rule own : Rule) (o p : List ℕ) (c d : ℕ) (n name : List ℕ) : Type 0 where
  pub within : Within own rule
  pub object : p ≡ o
  pub count : d ≡ c
  pub named : name ≡ n

-- so is each of these stations, in this order
abbrev pub AreReady : {S : Type 0} → (ℕ → Rule) → List (List ℕ) → List ℕ → List (List ℕ) → (S → Rule) → (S → List ℕ) → (S → ℕ) → (S → List ℕ) → List S → Type 0
AreReady {S} rule os cs ns own object count name stations =
    (k : ℕ) (s : S) → slice_get stations k ≡ Some s → IsReady (rule k) (own s) (get_or os k []) (object s) (get_or cs k 0) (count s) (get_or ns k []) (name s)
