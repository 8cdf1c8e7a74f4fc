-- One transaction in the core: what the journal has of it, and what was called beyond that.
use Rattle.std.specs.Prelude.{◌≡◌, ℕ, ◌+◌, ◌<◌, ◌≤◌, Bool, true, false, List, [], ◌∷◌, ◌++◌, length, Option, Some, None, slice_get, ◌==◌}
use Rattle.std.specs.Prelude.{if◌then◌else◌}
use Rattle.tx_machine.specs.Row.{Row}
use Rattle.outcome_calls.specs.Trail.{Deed, Answered, Chose, Told, Recovered, Stopped, joins, has_call, has_commit, has_abort, has_outcome, told_by, joins_of}
use Rattle.outcome_calls.specs.Trail.{places_told, last_told, may_tell, may_recover, is_unstopped, InOrder, count, listed, is_committing, last_row, FollowsRows}
use Rattle.outcome_calls.specs.Trail.{IdLaw}

-- Undecided: preparing or aborting, nobody notified. A journalled transaction never is.
pub data Decision : Type 0 where
  Undecided : Decision
  ToCommit : Decision
  ToAbort : Decision

-- the call that is due, if any: a preparation, a selection, an outcome, or a recover call before an outcome
pub data DueCall : Type 0 where
  Preparation : (p : ℕ) → DueCall
  Selection : (p : ℕ) → DueCall
  Telling : (p : ℕ) → DueCall
  Recovery : (p : ℕ) → DueCall
  NoCall : DueCall

-- a reply, with the context that an answer leaves
pub data FullReply : Type 0 where
  Answer : (byte : ℕ) → (context : List ℕ) → FullReply
  Chosen : (text : List ℕ) → FullReply
  Advice : (advice : Option (List ℕ)) → FullReply
  Restored : FullReply

-- what the law needs to know of a transaction: where its written entries lead
pub record Standing : Type 0 where
  pub decision : Decision
  pub members : List ℕ
  pub told : ℕ
  pub due : DueCall
  -- the recover call of the place that is due was made since the opening
  pub restored : Bool
  pub row : Option Row

abbrev pub commits : Decision → Bool
commits Undecided = false
commits ToCommit = true
commits ToAbort = false

-- what a row says of a standing
pub record IsRowOf (st : Standing) (r : Row) : Type 0 where
  pub phase : is_committing r.phase ≡ commits st.decision
  pub told : r.told ≡ st.told
  pub members : (n : ℕ) → n < r.told → slice_get r.joined n ≡ slice_get st.members n
  pub covered : (p : ℕ) → count p st.members ≤ count p (listed r)
  pub doing : (q : ℕ) → st.due ≡ Preparation q → (p : ℕ) → count p (st.members ++ q ∷ []) ≤ count p (listed r)

-- the due call is one before the outcome is decided, or one to the member that is to be notified next
abbrev pub DueFits : DueCall → Standing → Type 0
DueFits (Preparation p) st = (st.decision ≡ Undecided) × (st.told ≡ 0)
DueFits (Selection p) st = (st.decision ≡ Undecided) × (st.told ≡ 0)
DueFits (Telling p) st = (st.decision ≡ Undecided → ⊥) × (slice_get st.members st.told ≡ Some p)
DueFits (Recovery p) st = (st.decision ≡ Undecided → ⊥) × (slice_get st.members st.told ≡ Some p)
DueFits NoCall st = Unit {0}

-- the parts of a standing agree with one another
pub record IsStanding (st : Standing) : Type 0 where
  pub due : DueFits st.due st
  pub ended : st.row ≡ None → (st.told ≡ length st.members) × (st.due ≡ NoCall)
  pub row : (r : Row) → st.row ≡ Some r → IsRowOf st r
  pub back : st.restored ≡ true → (p : ℕ) × (st.due ≡ Telling p)

-- the deed of the call d, made at the standing st, with its reply
abbrev pub Made : DueCall → FullReply → Standing → Deed → Type 0
Made (Preparation p) (Answer b c) st m = m ≡ Answered p b
Made (Selection p) (Chosen w) st m = m ≡ Chose p
Made (Telling p) (Advice a) st m = m ≡ Told (commits st.decision) p st.told a
Made (Recovery p) Restored st m = m ≡ Recovered p st.told
Made _ _ st m = ⊥

-- where that reply leads
abbrev pub Follows : DueCall → FullReply → Standing → Standing → Type 0
Follows (Preparation p) (Answer b c) st to = (to.members ≡ (if joins b then st.members ++ p ∷ [] else st.members)) × (to.told ≡ st.told)
Follows (Selection p) (Chosen w) st to = (to.members ≡ st.members) × (to.told ≡ st.told)
Follows (Telling p) (Advice a) st to = (to.members ≡ st.members) × (to.told ≡ st.told + 1) × (to.decision ≡ st.decision)
Follows (Recovery p) Restored st to = (to.members ≡ st.members) × (to.told ≡ st.told) × (to.decision ≡ st.decision) × (to.restored ≡ true)
Follows _ _ st to = ⊥

-- the advices by place, after the entry of that reply
abbrev pub advised : DueCall → FullReply → ℕ → (ℕ → Option (List ℕ)) → ℕ → Option (List ℕ)
advised (Telling p) (Advice (Some a)) told advice n = if told == n then Some a else advice n
advised _ _ told advice n = advice n

-- undecided: no outcome or recover call, and no other call older than a stop; decided: nobody was notified of the other outcome
abbrev pub GoesOneWay : Decision → List Deed → Type 0
GoesOneWay Undecided t = (has_outcome t ≡ false) × (is_unstopped t ≡ true)
GoesOneWay ToCommit t = has_abort t ≡ false
GoesOneWay ToAbort t = has_commit t ≡ false

-- the trail and the advices are those of a transaction that is written up to this standing
pub record IsLive (t : List Deed) (st : Standing) (advice : ℕ → Option (List ℕ)) : Type 0 where
  pub sound : IsStanding st
  pub ordered : InOrder t
  pub way : GoesOneWay st.decision t
  pub told : (n p : ℕ) → n < st.told → slice_get st.members n ≡ Some p → told_by p n t ≡ true
  pub joined : (p : ℕ) → joins_of p t ≤ count p st.members
  pub again : (n : ℕ) → st.told ≤ n → may_tell n t ≡ true
  pub afresh : (n : ℕ) → st.told ≤ n → (st.restored ≡ true → n ≡ st.told → ⊥) → may_recover n t ≡ true
  pub quiet : (n : ℕ) → st.told ≤ n → advice n ≡ None
  pub advised : (n : ℕ) (a : List ℕ) (g : Option (List ℕ)) → advice n ≡ Some a → last_told n t ≡ Some g → g ≡ Some a
  pub reopened : (r : Row) → last_row t ≡ Some r → (commits st.decision ≡ is_committing r.phase) × (st.decision ≡ Undecided → ⊥)
  pub decided : FollowsRows t

-- the same of one that is over
pub record IsOver (t : List Deed) (advice : ℕ → Option (List ℕ)) : Type 0 where
  pub one_way : has_commit t ≡ true → has_abort t ≡ true → ⊥
  pub all_told : (p : ℕ) → (k : ℕ) × (joins_of p t ≤ places_told p t 0 k)
  pub ordered : InOrder t
  pub advised : (n : ℕ) (a : List ℕ) (g : Option (List ℕ)) → advice n ≡ Some a → last_told n t ≡ Some g → g ≡ Some a
  pub decided : FollowsRows t

-- One id: its trail; whether it is below the journal's next id; its written standing; the reply that was given beyond what
-- is written, kept or in an entry (there is one at most, since a call waits until what was due before it is written); its
-- advices by place.
pub record One : Type 0 where
  pub trail : List Deed
  pub known : Bool
  pub standing : Option Standing
  pub ahead : Option FullReply
  pub advice : ℕ → Option (List ℕ)

abbrev pub standing_row : Option Standing → Option Row
standing_row None = None
standing_row (Some st) = st.row

-- what every list of moves keeps
abbrev pub IdFits : Bool → Option Standing → Option FullReply → List Deed → (ℕ → Option (List ℕ)) → Type 0
IdFits false None None t advice = (has_call t ≡ false) × ((n : ℕ) → advice n ≡ None) × (last_row t ≡ None)
IdFits true None None t advice = IsOver t advice
IdFits true (Some st) None t advice = IsLive t st advice
IdFits true (Some st) (Some x) t advice = (m : Deed) × (u : List Deed) × (t ≡ m ∷ u) × Made st.due x st m × IsLive u st advice
IdFits _ _ _ t advice = ⊥

-- the same of a whole `One`
abbrev pub OneFits : One → Type 0
OneFits a = IdFits a.known a.standing a.ahead a.trail a.advice

-- the standing of a row that is opened again
pub record Reopened (r : Row) (st : Standing) : Type 0 where
  pub sound : IsStanding st
  pub decision : st.decision ≡ (if is_committing r.phase then ToCommit else ToAbort)
  pub members : (p : ℕ) → count p (listed r) ≤ count p st.members
  pub row : st.row ≡ Some r

-- the same of a row that there may be; without one there is no standing
abbrev pub Reopens : Option Row → Option Standing → Type 0
Reopens None to = to ≡ None
Reopens (Some r) to = (st : Standing) × (to ≡ Some st) × Reopened r st

-- moves of one id: it is taken, a call is made, its reply is written, it is closed, an advice is acknowledged, all stops
pub data Move : Type 0 where
  Born : (st : Standing) → Move
  Call : (x : FullReply) → (m : Deed) → Move
  Settle : (to : Standing) → Move
  Close : Move
  Ack : (n : ℕ) → Move
  Stop : (to : Option Standing) → Move

-- the advices by place, but for place k
abbrev pub without : ℕ → (ℕ → Option (List ℕ)) → ℕ → Option (List ℕ)
without k advice n = if k == n then None else advice n

-- what may happen to one id
abbrev pub Moves : Move → One → One → Type 0
Moves (Born st) a b = (a.known ≡ false) × IsStanding st × (st.decision ≡ Undecided) × (st.told ≡ 0)
    × (b ≡ record a { known = true; standing = Some st })
Moves (Call x m) a b = (st : Standing) × (a.standing ≡ Some st) × (a.ahead ≡ None) × Made st.due x st m
    × (b ≡ record a { ahead = Some x; trail = m ∷ a.trail })
Moves (Settle to) a b = (st : Standing) × (x : FullReply) × (a.standing ≡ Some st) × (a.ahead ≡ Some x) × Follows st.due x st to × IsStanding to
    × (b ≡ record a { standing = Some to; ahead = None; advice = advised st.due x st.told a.advice })
Moves Close a b = (st : Standing) × (a.standing ≡ Some st) × (a.ahead ≡ None) × (st.members ≡ [])
    × (b ≡ record a { standing = None })
Moves (Ack n) a b = b ≡ record a { advice = without n a.advice }
Moves (Stop to) a b = Reopens (standing_row a.standing) to
    × (b ≡ record a { standing = to; ahead = None; trail = Stopped (standing_row a.standing) ∷ a.trail })

abbrev pub LawOfOne : One → Type 0
LawOfOne a = IdLaw a.trail a.known (standing_row a.standing) a.advice
