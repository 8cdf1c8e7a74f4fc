-- Chains of calls: what happened to the stations of a plant, in order, so that their objects join from start to end,
-- and the contexts of each transaction.
--
-- Chains of calls.
--
-- A chain is a list of chain items: a transaction began with a context, a participant was called,
-- everything but the stations stopped. `Chain` says that the items lead from objects and contexts
-- to others. Each call is one by its participant's rule (`Makes` is one call). It has the object
-- that its station's last call left, and the context that its transaction's last call left. A
-- transaction begins only where it has no context, and starts from the one that it began with.
-- After a stop contexts begin anew with the recovered ones. `outcome_place` is the place of an
-- outcome call, and of the `recover` before it: the number of members notified before. `Among`
-- says that some contexts are among others. `counts_after` are the stations' counts, `calls_to`
-- is the number of calls of one station.
use Rattle.std.specs.Prelude.{◌≡◌, ℕ, zero, suc, ◌+◌, ◌-◌, ◌^◌, ◌==◌, min, Bool, true, false, List, [], ◌∷◌, Option, Some, None, get_or, slice_set}
use Rattle.std.specs.Prelude.{if◌then◌else◌}
use Rattle.sw_context.specs.Pairs.{Pairs}
use Rattle.sw_participant.specs.declared.call.Act.{Act}
use Rattle.sw_participant.specs.declared.call.Act.TheVariants.{Prepare, PrepareForAbort, Select, Commit, Abort, Recover}
use Rattle.sw_participant.specs.declared.call.Call.{Call}
use Rattle.sw_participant.specs.declared.call.Reply.{Reply}

-- what one participant may do: id, act, object and context before, reply, object and context after
abbrev pub Rule : Type 1
Rule = ℕ → Act → List ℕ → Pairs → Reply → List ℕ → Pairs → Type 0

-- the rule of the station with this number; a station that is not there may do nothing
abbrev pub rule_at : {S : Type 0} → (S → Rule) → List S → ℕ → Rule
rule_at rule [] k = λ id act o x reply p y. ⊥
rule_at rule (s ∷ ss) zero = rule s
rule_at rule (s ∷ ss) (suc k) = rule_at rule ss k

-- One call among stations with these objects: it is one by the rule of the station that it names, and the others stayed.
abbrev pub Makes : (ℕ → Rule) → List (List ℕ) → Pairs → Call → Reply → List (List ℕ) → Pairs → Type 0
Makes rule os x call reply ps y =
    (p : List ℕ)
    × rule call.participant call.id call.act (get_or os call.participant []) x reply p y
    × (ps ≡ slice_set os call.participant p)

-- what the first rule allows, the second allows too, for each participant
abbrev pub IsWider : {S : Type 0} → (S → Rule) → (S → Rule) → Type 0
IsWider {S = S} rule wide =
    (s : S) (id : ℕ) (act : Act) (o : List ℕ) (x : Pairs) (reply : Reply) (p : List ℕ) (y : Pairs)
    → rule s id act o x reply p y → wide s id act o x reply p y

-- the contexts of transactions under their ids
abbrev pub Contexts : Type 0
Contexts = ℕ → Option Pairs

abbrev pub with_context : Contexts → ℕ → Pairs → Contexts
with_context live id x i = if i == id then Some x else live i

-- what the first has, the second has too, with the same context
abbrev pub Among : Contexts → Contexts → Type 0
Among now live = (id : ℕ) → (x : Pairs) → now id ≡ Some x → live id ≡ Some x

-- What happened, in order: a transaction began with a context; a participant was called; everything but the stations
-- stopped, and what was written down then is all that is left of the contexts. The record of a call has the call, its
-- place, by which an outcome call is distinguished from the others of its transaction, and the reply. V is what a plant writes
-- down. A participant's number is its station's.
pub data ChainItem (V : Type 0) : Type 0 where
  Began : (id : ℕ) → (context : Pairs) → ChainItem V
  Called : (call : Call) → (place : Option ℕ) → (reply : Reply) → ChainItem V
  Stopped : (view : V) → ChainItem V

-- the place of a call: if a member is notified of the outcome, or recovers before that, the number of members that were
-- notified before it
abbrev pub outcome_place : Act → ℕ → Option ℕ
outcome_place Prepare told = None
outcome_place PrepareForAbort told = None
outcome_place Select told = None
outcome_place (Commit recovering) told = Some told
outcome_place (Abort recovering) told = Some told
outcome_place (Recover commit) told = Some told

-- From these objects and contexts to those: each call is one by its participant's rule, with the object that its
-- station's last call left and the context that its transaction's last call left. A transaction begins only if it has no
-- context, and starts from the one that it began with; after a stop it starts from the recovered one.
abbrev pub Chain : {V : Type 0} → (V → Contexts) → (ℕ → Rule) → List (List ℕ) → Contexts → List (ChainItem V) → List (List ℕ) → Contexts → Type 0
Chain recovered rule os live [] ps now = (ps ≡ os) × ((id : ℕ) → now id ≡ live id)
Chain recovered rule os live (Began id x ∷ items) ps now = (live id ≡ None) × Chain recovered rule os (with_context live id x) items ps now
Chain recovered rule os live (Called call place reply ∷ items) ps now =
    (x : Pairs)
    × (qs : List (List ℕ))
    × (y : Pairs)
    × (live call.id ≡ Some x)
    × Makes rule os x call reply qs y
    × Chain recovered rule qs (with_context live call.id y) items ps now
Chain recovered rule os live (Stopped view ∷ items) ps now = Chain recovered rule os (recovered view) items ps now

-- whether these items begin the transaction, before any stop
abbrev pub begins : {V : Type 0} → ℕ → List (ChainItem V) → Bool
begins id [] = false
begins id (Began i x ∷ items) = if id == i then true else begins id items
begins id (Called call place reply ∷ items) = begins id items
begins id (Stopped view ∷ items) = false

-- the counts of the stations after one call of the station k: a count stays at 2^64 - 1
abbrev pub counted : List ℕ → ℕ → List ℕ
counted counts k = slice_set counts k (min (get_or counts k 0 + 1) (2 ^ 64 - 1))

-- the counts of the stations after all this
abbrev pub counts_after : {V : Type 0} → List ℕ → List (ChainItem V) → List ℕ
counts_after counts [] = counts
counts_after counts (Called call place reply ∷ items) = counts_after (counted counts call.participant) items
counts_after counts (_ ∷ items) = counts_after counts items

-- how many calls of the station k these are
abbrev pub calls_to : {V : Type 0} → ℕ → List (ChainItem V) → ℕ
calls_to k [] = 0
calls_to k (Called call place reply ∷ items) = if call.participant == k then calls_to k items + 1 else calls_to k items
calls_to k (_ ∷ items) = calls_to k items
