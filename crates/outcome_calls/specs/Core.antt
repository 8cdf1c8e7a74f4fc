-- The core by ids: histories whose events name the transaction that they speak of, the journal that they make, and the calls.
use Rattle.std.specs.Prelude.{◌≡◌, ℕ, ◌+◌, Bool, true, false, List, [], ◌∷◌, ◌++◌, Option, Some, None, nat_lt, ◌==◌, ◌||◌}
use Rattle.std.specs.Prelude.{if◌then◌else◌}
use Rattle.tx_machine.specs.Row.{Row}
use Rattle.outcome_calls.specs.Trail.{Deed, Stopped, IdLaw, listed}
use Rattle.outcome_calls.specs.One.{FullReply, Standing, Made, advised, without, standing_row, IdFits, NoCall}
use Rattle.flow_model.specs.declared.flow.Flow.{Flow}
use Rattle.outcome_calls.specs.States.{FullState, Head, begin, after, standing, due, answers, reopen, PhaseFits, StateFits}

-- a journal, by look-up
pub record IdView : Type 0 where
  pub next_id : ℕ
  pub row : ℕ → Option Row
  pub advice : ℕ → ℕ → Option (List ℕ)

-- A transaction is taken, with its tries and its context; a reply is given for it; an advice is acknowledged; a journalled
-- transaction with nobody to notify is closed; all other events.
pub data IdEvent : Type 0 where
  Took : (head : Head) → IdEvent
  Given : (id : ℕ) → (x : FullReply) → IdEvent
  Acked : (id : ℕ) → (place : ℕ) → IdEvent
  Closed : (id : ℕ) → IdEvent
  Other : IdEvent

-- a call that was made, or a stop with the journal's view at it
pub data PlantDeed : Type 0 where
  Called : (id : ℕ) → (m : Deed) → PlantDeed
  Halted : (view : IdView) → PlantDeed

-- the deeds of one transaction: its calls, and each stop with its row at it
abbrev pub trail_of : ℕ → List PlantDeed → List Deed
trail_of id [] = []
trail_of id (Called i m ∷ ms) = if i == id then m ∷ trail_of id ms else trail_of id ms
trail_of id (Halted v ∷ ms) = Stopped (v.row id) ∷ trail_of id ms

-- The outcome law of the calls made (the newest first, with the stops between them) and a journal's view.
abbrev pub OutcomeLaw : List PlantDeed → IdView → Type 0
OutcomeLaw ms j = (id : ℕ) → IdLaw (trail_of id ms) (nat_lt id j.next_id) (j.row id) (j.advice id)

-- what the law needs of a view besides: it is part of what makes a journal sound
pub record ViewFits (j : IdView) : Type 0 where
  pub rows : (id : ℕ) → nat_lt id j.next_id ≡ false → j.row id ≡ None
  pub advices : (id n : ℕ) → nat_lt id j.next_id ≡ false → j.advice id n ≡ None
  pub ok : (id : ℕ) (r : Row) → j.row id ≡ Some r → PhaseFits r

abbrev pub takes : List IdEvent → ℕ
takes [] = 0
takes (Took h ∷ past) = takes past + 1
takes (_ ∷ past) = takes past

-- the id of the next take
abbrev pub next_id : IdView → List IdEvent → ℕ
next_id v past = v.next_id + takes past

-- where the journalled transaction of this row begins, if there is one
abbrev pub reopened : Option Row → Option FullState
reopened None = None
reopened (Some r) = Some (reopen r)

-- where one more reply leads from this state, if there is one
abbrev pub later : Flow → FullReply → Option FullState → Option FullState
later f x None = None
later f x (Some st) = Some (after f st x)

-- where the transaction stands
abbrev pub at : Flow → IdView → List IdEvent → ℕ → Option FullState
at f v [] id = reopened (v.row id)
at f v (Took h ∷ past) id = if next_id v past == id then Some (begin f h) else at f v past id
at f v (Given i x ∷ past) id = if i == id then later f x (at f v past id) else at f v past id
at f v (Closed i ∷ past) id = if i == id then None else at f v past id
at f v (_ ∷ past) id = at f v past id

abbrev pub standing_of : Flow → Option FullState → Option Standing
standing_of f None = None
standing_of f (Some st) = Some (standing f st)

-- the advices by place, after the entry of a reply to what was due at this standing
abbrev pub advised_at : Option Standing → FullReply → (ℕ → Option (List ℕ)) → ℕ → Option (List ℕ)
advised_at None x advice = advice
advised_at (Some st) x advice = advised st.due x st.told advice

-- the stored advices of a transaction, by place
abbrev pub advice : Flow → IdView → List IdEvent → ℕ → ℕ → Option (List ℕ)
advice f v [] id = v.advice id
advice f v (Given i x ∷ past) id = if i == id then advised_at (standing_of f (at f v past id)) x (advice f v past id) else advice f v past id
advice f v (Acked i k ∷ past) id = if i == id then without k (advice f v past id) else advice f v past id
advice f v (_ ∷ past) id = advice f v past id

-- the journal after the entries of past
abbrev pub journal : Flow → IdView → List IdEvent → IdView
journal f v past = record { next_id = next_id v past; row = λ id. standing_row (standing_of f (at f v past id)); advice = advice f v past }

-- the entries that are not written

-- the newest reply in the list
abbrev pub given : List IdEvent → ℕ → Option FullReply
given [] id = None
given (Given i x ∷ l) id = if i == id then Some x else given l id
given (_ ∷ l) id = given l id

-- whether the list has a closing entry of id
abbrev pub closed : List IdEvent → ℕ → Bool
closed [] id = false
closed (Closed i ∷ l) id = (i == id) || closed l id
closed (_ ∷ l) id = closed l id

-- a second reply or closing of an id comes only after the first is written
abbrev pub Once : List IdEvent → Type 0
Once [] = Unit {0}
Once (Given i x ∷ l) = (given l i ≡ None) × Once l
Once (Closed i ∷ l) = (closed l i ≡ false) × Once l
Once (_ ∷ l) = Once l

-- the kept reply, or else the one of an entry
abbrev pub first : Option FullReply → Option FullReply → Option FullReply
first (Some x) g = Some x
first None g = g

-- The core: the view that this life began with, the history as unwritten and written entries (each newest first),
-- the kept replies, and all calls with the stops.
pub record AbstractCore : Type 0 where
  pub start : IdView
  pub late : List IdEvent
  pub gone : List IdEvent
  pub kept : ℕ → Option FullReply
  pub calls : List PlantDeed

-- the kept replies by id, with this one, or none, for id
abbrev pub put : ℕ → Option FullReply → (ℕ → Option FullReply) → ℕ → Option FullReply
put id o kept i = if id == i then o else kept i

abbrev pub none_kept : ℕ → Option FullReply
none_kept i = None

-- the closing entries of an opening
abbrev pub Closings : IdView → List IdEvent → Type 0
Closings j [] = Unit {0}
Closings j (Closed i ∷ cs) = ((r : Row) × (j.row i ≡ Some r) × (listed r ≡ [])) × (closed cs i ≡ false) × Closings j cs
Closings j _ = ⊥

-- each row with nobody to notify is closed
abbrev pub Covers : IdView → List IdEvent → Type 0
Covers j cs = (id : ℕ) (r : Row) → j.row id ≡ Some r → listed r ≡ [] → closed cs id ≡ true

-- exactly the rows with nobody to notify are closed, each once
abbrev pub Shuts : IdView → List IdEvent → Type 0
Shuts j cs = Closings j cs × Covers j cs

-- a core that was opened on this view: `cs` are its closing entries, `ms` the calls before
abbrev pub opened : IdView → List IdEvent → List PlantDeed → AbstractCore
opened j cs ms = record { start = j; late = cs; gone = []; kept = none_kept; calls = Halted j ∷ ms }

-- what the journal holds
abbrev pub written : Flow → AbstractCore → IdView
written f c = journal f c.start c.gone

-- moves: a call is made; its reply becomes an entry; a take, an acknowledged advice, any other event; the oldest entry is
-- written; all stops
pub data CoreMove : Type 0 where
  Calls : (id : ℕ) → (x : FullReply) → (m : Deed) → CoreMove
  Records : (id : ℕ) → CoreMove
  Takes : (head : Head) → CoreMove
  Acks : (id : ℕ) → (place : ℕ) → CoreMove
  Others : CoreMove
  Writes : CoreMove
  Stops : (closings : List IdEvent) → CoreMove

-- when a move may be made, and what it leaves
abbrev pub CoreMoves : Flow → CoreMove → AbstractCore → AbstractCore → Type 0
CoreMoves f (Calls id x m) c d = (st : FullState) × (at f c.start c.gone id ≡ Some st) × (given c.late id ≡ None) × (c.kept id ≡ None)
    × Made (standing f st).due x (standing f st) m × (d ≡ record c { kept = put id (Some x) c.kept; calls = Called id m ∷ c.calls })
CoreMoves f (Records id) c d = (x : FullReply) × (c.kept id ≡ Some x) × (d ≡ record c { kept = put id None c.kept; late = Given id x ∷ c.late })
CoreMoves f (Takes h) c d = d ≡ record c { late = Took h ∷ c.late }
CoreMoves f (Acks id n) c d = d ≡ record c { late = Acked id n ∷ c.late }
CoreMoves f Others c d = d ≡ record c { late = Other ∷ c.late }
CoreMoves f Writes c d = (l : List IdEvent) × (e : IdEvent) × (c.late ≡ l ++ e ∷ []) × (d ≡ record c { late = l; gone = e ∷ c.gone })
CoreMoves f (Stops cs) c d = Shuts (written f c) cs × (d ≡ opened (written f c) cs c.calls)

-- moves one after the other, from c to d
abbrev pub CoreRun : Flow → List CoreMove → AbstractCore → AbstractCore → Type 0
CoreRun f [] c d = d ≡ c
CoreRun f (t ∷ ts) c d = (m : AbstractCore) × CoreMoves f t c m × CoreRun f ts m d

-- the invariant of the core

-- there is such a transaction, and the reply is one to its due call
abbrev pub IsAwaited : Flow → Option FullState → FullReply → Type 0
IsAwaited f None x = ⊥
IsAwaited f (Some st) x = answers (due f st) x ≡ true

-- there is such a transaction, with nobody to notify and no call due
abbrev pub Closable : Flow → Option FullState → Type 0
Closable f None = ⊥
Closable f (Some st) = (st.state.joined ≡ []) × (due f st ≡ NoCall)

-- a row with nobody to notify, opened and not yet closed
abbrev pub Stuck : Option FullState → Type 0
Stuck None = ⊥
Stuck (Some st) = (r : Row) × (st.opened ≡ Some r) × (st.state.joined ≡ [])

abbrev pub StateFitsAt : Option FullState → Type 0
StateFitsAt None = Unit {0}
StateFitsAt (Some st) = StateFits st

-- what every run of moves keeps, by the parts of a core
pub record IsCore (f : Flow) (v : IdView) (late gone : List IdEvent) (kept : ℕ → Option FullReply) (calls : List PlantDeed) : Type 0 where
  pub ones : (id : ℕ) → IdFits (nat_lt id (next_id v gone)) (standing_of f (at f v gone id)) (first (kept id) (given late id)) (trail_of id calls)
      (advice f v gone id)
  pub once : Once late
  pub apart : (id : ℕ) (x : FullReply) → kept id ≡ Some x → given late id ≡ None
  pub alive : (id : ℕ) (x : FullReply) → first (kept id) (given late id) ≡ Some x → IsAwaited f (at f v gone id) x
  pub closes : (id : ℕ) → closed late id ≡ true → Closable f (at f v gone id)
  pub proper : (id : ℕ) → StateFitsAt (at f v gone id)
  pub shut : (id : ℕ) → Stuck (at f v gone id) → closed late id ≡ true

abbrev pub CoreFits : Flow → AbstractCore → Type 0
CoreFits f c = IsCore f c.start c.late c.gone c.kept c.calls
