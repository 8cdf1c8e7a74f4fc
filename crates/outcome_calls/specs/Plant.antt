-- The core of a plant: sessions take, call and record; the events name the session. A plant is an engine with its journal
-- and its stations.
use Rattle.std.specs.Prelude.{◌≡◌, ℕ, ◌+◌, ◌≤◌, Bool, true, false, suc, zero, List, [], ◌∷◌, ◌++◌, length, Option, Some, None, ◌==◌, not}
use Rattle.std.specs.Prelude.{if◌then◌else◌}
use Rattle.outcome_calls.specs.Trail.{Deed}
use Rattle.outcome_calls.specs.One.{DueCall, NoCall, FullReply, Made}
use Rattle.flow_model.specs.declared.flow.Flow.{Flow}
use Rattle.outcome_calls.specs.States.{FullState, Head, due, standing}
use Rattle.outcome_calls.specs.Core.{IdView, IdEvent, Took, Given, Acked, Closed, Other, PlantDeed, Called, Halted, next_id, at, journal, put, none_kept, Shuts}
use Rattle.outcome_calls.specs.Core.{AbstractCore, CoreFits}

-- A session takes, or was given a reply; an advice is acknowledged; a transaction is closed. The others are plain: offers,
-- releases, breakpoints set and cleared, sessions let go.
pub data SessionEvent : Type 0 where
  Taken : (s : ℕ) → (head : Head) → SessionEvent
  Replied : (s : ℕ) → (x : FullReply) → SessionEvent
  Ack : (id : ℕ) → (place : ℕ) → SessionEvent
  Closing : (id : ℕ) → SessionEvent
  Plain : SessionEvent

abbrev pub taken_count : List SessionEvent → ℕ
taken_count [] = 0
taken_count (Taken s h ∷ past) = taken_count past + 1
taken_count (_ ∷ past) = taken_count past

-- the id that the session took last
abbrev pub taken : IdView → List SessionEvent → ℕ → Option ℕ
taken v [] s = None
taken v (Taken t h ∷ past) s = if t == s then Some (v.next_id + taken_count past) else taken v past s
taken v (_ ∷ past) s = taken v past s

-- no call is due
abbrev pub is_idle : DueCall → Bool
is_idle NoCall = true
is_idle _ = false

-- there is such a transaction, and a call of it is due
abbrev pub unfinished : Flow → Option FullState → Bool
unfinished f None = false
unfinished f (Some st) = not (is_idle (due f st))

-- the first of the k ids from n on that passes the test
abbrev pub seek : (ℕ → Bool) → ℕ → ℕ → Option ℕ
seek test n zero = None
seek test n (suc k) = if test n then Some n else seek test (n + 1) k

-- the recovered transaction whose members are notified next
abbrev pub recovering : Flow → IdView → List IdEvent → Option ℕ
recovering f v l = seek (λ id. unfinished f (at f v l id)) 0 v.next_id

-- the transaction that the session serves: the one that it took last; before that, session 0 serves the journalled ones, ids rising
abbrev pub serves_in : Flow → IdView → Option ℕ → ℕ → List IdEvent → Option ℕ
serves_in f v (Some id) s l = Some id
serves_in f v None s l = if s == 0 then recovering f v l else None

-- the event of a reply that was given for this id, if there is one
abbrev pub given_to : Option ℕ → FullReply → IdEvent
given_to None x = Other
given_to (Some id) x = Given id x

-- a session's event by the id that it speaks of: `tk` has what each session took last, `l` the entries before it
abbrev pub event_of : Flow → IdView → (ℕ → Option ℕ) → List IdEvent → SessionEvent → IdEvent
event_of f v tk l (Taken s h) = Took h
event_of f v tk l (Replied s x) = given_to (serves_in f v (tk s) s l) x
event_of f v tk l (Ack i n) = Acked i n
event_of f v tk l (Closing i) = Closed i
event_of f v tk l Plain = Other

-- the entries, by the ids that they speak of
abbrev pub by_ids : Flow → IdView → List SessionEvent → List IdEvent
by_ids f v [] = []
by_ids f v (e ∷ past) = event_of f v (taken v past) (by_ids f v past) e ∷ by_ids f v past

-- the transaction that the session serves after these entries
abbrev pub serves : Flow → IdView → List SessionEvent → ℕ → Option ℕ
serves f v past s = serves_in f v (taken v past s) s (by_ids f v past)

-- the number of the last entry that speaks of id
abbrev pub last_own : IdView → List IdEvent → ℕ → ℕ
last_own v [] id = 0
last_own v (Took h ∷ l) id = if next_id v l == id then length l + 1 else last_own v l id
last_own v (Given i x ∷ l) id = if i == id then length l + 1 else last_own v l id
last_own v (_ ∷ l) id = last_own v l id

-- The view that was opened, the entries that are not in the journal and those that are (newest first), the number of
-- entries known to be written, a kept reply per session, the calls. After a fault in a write the journal may be ahead of
-- what is known.
pub record AbstractPlant : Type 0 where
  pub start : IdView
  pub late : List SessionEvent
  pub gone : List SessionEvent
  pub mark : ℕ
  pub kept : ℕ → Option FullReply
  pub calls : List PlantDeed

-- all entries, the newest first
abbrev pub past : AbstractPlant → List SessionEvent
past p = p.late ++ p.gone

-- the same by the ids that they speak of
abbrev pub whole : Flow → AbstractPlant → List IdEvent
whole f p = by_ids f p.start (past p)

-- what the journal holds
abbrev pub view : Flow → AbstractPlant → IdView
view f p = journal f p.start (by_ids f p.start p.gone)

-- closing entries of these ids
abbrev pub shut : List ℕ → List SessionEvent
shut [] = []
shut (i ∷ is) = Closing i ∷ shut is

-- the same by ids
abbrev pub shut_ids : List ℕ → List IdEvent
shut_ids [] = []
shut_ids (i ∷ is) = Closed i ∷ shut_ids is

-- a plant that was opened on this view: `cs` are the ids that are closed, `ms` the calls before
abbrev pub made_on : IdView → List ℕ → List PlantDeed → AbstractPlant
made_on j cs ms = record { start = j; late = shut cs; gone = []; mark = 0; kept = none_kept; calls = Halted j ∷ ms }

-- Small steps, of which the turns of a plant are made: a call keeps its reply, which is then recorded as an entry; the oldest
-- entry is put into the journal; and then it is known how many are there. A cut begins a history anew.
pub data PlantMove : Type 0 where
  Take : (s : ℕ) → (head : Head) → PlantMove
  Call : (s : ℕ) → (x : FullReply) → (m : Deed) → PlantMove
  Record : (s : ℕ) → PlantMove
  Acking : (id : ℕ) → (place : ℕ) → PlantMove
  Quiet : PlantMove
  Put : PlantMove
  Note : (n : ℕ) → PlantMove
  Stop : (closings : List ℕ) → PlantMove
  Cut : PlantMove

-- a plant after a cut: its history begins from what the journal holds
abbrev pub cut_plant : Flow → AbstractPlant → AbstractPlant
cut_plant f p = record { start = view f p; late = []; gone = []; mark = 0; kept = none_kept; calls = p.calls }

-- when a small step may be made, and what it leaves
abbrev pub PlantMoves : Flow → PlantMove → AbstractPlant → AbstractPlant → Type 0
PlantMoves f (Take s h) p q = (recovering f p.start (whole f p) ≡ None)
    × ((id : ℕ) → serves f p.start (past p) s ≡ Some id → unfinished f (at f p.start (whole f p) id) ≡ false)
    × (q ≡ record p { late = Taken s h ∷ p.late })
PlantMoves f (Call s x m) p q = (id : ℕ) × (st : FullState) × (serves f p.start (past p) s ≡ Some id) × (at f p.start (whole f p) id ≡ Some st)
    × (last_own p.start (whole f p) id ≤ p.mark) × (p.kept s ≡ None) × Made (standing f st).due x (standing f st) m
    × (q ≡ record p { kept = put s (Some x) p.kept; calls = Called id m ∷ p.calls })
PlantMoves f (Record s) p q = (x : FullReply) × (p.kept s ≡ Some x) × (q ≡ record p { kept = put s None p.kept; late = Replied s x ∷ p.late })
PlantMoves f (Acking id n) p q = q ≡ record p { late = Ack id n ∷ p.late }
PlantMoves f Quiet p q = q ≡ record p { late = Plain ∷ p.late }
PlantMoves f Put p q = (l : List SessionEvent) × (e : SessionEvent) × (p.late ≡ l ++ e ∷ []) × (q ≡ record p { late = l; gone = e ∷ p.gone })
PlantMoves f (Note n) p q = (p.mark ≤ n) × (n ≤ length p.gone) × (q ≡ record p { mark = n })
PlantMoves f (Stop cs) p q = Shuts (view f p) (shut_ids cs) × (q ≡ made_on (view f p) cs p.calls)
PlantMoves f Cut p q = (p.mark ≡ length (past p)) × (recovering f p.start (whole f p) ≡ None)
    × ((s id : ℕ) → serves f p.start (past p) s ≡ Some id → unfinished f (at f p.start (whole f p) id) ≡ false) × (q ≡ cut_plant f p)

-- small steps one after the other, from p to q
abbrev pub PlantRun : Flow → List PlantMove → AbstractPlant → AbstractPlant → Type 0
PlantRun f [] p q = q ≡ p
PlantRun f (t ∷ ts) p q = (m : AbstractPlant) × PlantMoves f t p m × PlantRun f ts m q

-- the core by ids below it

-- the entries above `gone`, by the ids that they speak of
abbrev pub over : Flow → IdView → List SessionEvent → List SessionEvent → List IdEvent
over f v gone [] = []
over f v gone (e ∷ l) = event_of f v (taken v (l ++ gone)) (by_ids f v (l ++ gone)) e ∷ over f v gone l

-- what a plant is by ids; `kb` has the kept replies by id
abbrev pub lower : Flow → AbstractPlant → (ℕ → Option FullReply) → AbstractCore
lower f p kb = record { start = p.start; late = over f p.start p.gone p.late; gone = by_ids f p.start p.gone; kept = kb; calls = p.calls }

-- a kept reply of a session is that of the id that it holds
pub record SeatsAgree (f : Flow) (v : IdView) (es : List SessionEvent) (kept kb : ℕ → Option FullReply) : Type 0 where
  pub up : (s : ℕ) (x : FullReply) → kept s ≡ Some x → (id : ℕ) × (serves f v es s ≡ Some id) × (kb id ≡ Some x)
  pub down : (id : ℕ) (x : FullReply) → kb id ≡ Some x → (s : ℕ) × (serves f v es s ≡ Some id) × (kept s ≡ Some x)

-- a session holds each unfinished transaction of this life
abbrev pub AreHeld : Flow → IdView → List SessionEvent → Type 0
AreHeld f v es = (id : ℕ) → v.next_id ≤ id → unfinished f (at f v (by_ids f v es) id) ≡ true → (s : ℕ) × (taken v es s ≡ Some id)

-- what every run of small steps keeps
abbrev pub PlantFits : Flow → AbstractPlant → Type 0
PlantFits f p = (kb : ℕ → Option FullReply) × CoreFits f (lower f p kb) × SeatsAgree f p.start (past p) p.kept kb × (p.mark ≤ length p.gone)
    × AreHeld f p.start (past p)
