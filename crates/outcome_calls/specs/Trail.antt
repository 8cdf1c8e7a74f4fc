-- The trail of one transaction: the calls made for it and the stops, newest first; and the outcome law over it.
use Rattle.std.specs.Prelude.{◌≡◌, ℕ, ◌+◌, ◌<◌, ◌≤◌, Bool, true, false, suc, zero, List, [], ◌∷◌, ◌++◌, Option, Some, None, slice_get, nat_lt, ◌==◌, not, ◌&&◌}
use Rattle.std.specs.Prelude.{◌||◌}
use Rattle.std.specs.Prelude.{if◌then◌else◌}
use Rattle.sw_participant.specs.Answers.{stays_out}
use Rattle.tx_machine.specs.Row.{Row}
use Rattle.tx_machine.specs.declared.values.Phase.{Phase}
use Rattle.tx_machine.specs.declared.values.Phase.TheVariants.{Preparing, Aborting, Committing, Undoing}

-- What was done for a transaction, by its id: a participant `p` was called, with its reply; or everything stopped, with
-- the row that the journal had then. A place is the number of members notified before.
pub data Deed : Type 0 where
  Answered : (p : ℕ) → (byte : ℕ) → Deed
  Chose : (p : ℕ) → Deed
  Told : (commit : Bool) → (p : ℕ) → (place : ℕ) → (advice : Option (List ℕ)) → Deed
  Recovered : (p : ℕ) → (place : ℕ) → Deed
  Stopped : (row : Option Row) → Deed

-- the answer is without NO_JOIN
abbrev pub joins : ℕ → Bool
joins b = not (stays_out b)

abbrev pub has_call : List Deed → Bool
has_call [] = false
has_call (Stopped row ∷ t) = has_call t
has_call (_ ∷ t) = true

-- whether anybody was notified of the commit
abbrev pub has_commit : List Deed → Bool
has_commit [] = false
has_commit (Told c p n a ∷ t) = c || has_commit t
has_commit (_ ∷ t) = has_commit t

-- whether anybody was notified of the abort
abbrev pub has_abort : List Deed → Bool
has_abort [] = false
has_abort (Told c p n a ∷ t) = not c || has_abort t
has_abort (_ ∷ t) = has_abort t

-- whether anybody was notified of an outcome, or recovered before that
abbrev pub has_outcome : List Deed → Bool
has_outcome [] = false
has_outcome (Told c p n a ∷ t) = true
has_outcome (Recovered p n ∷ t) = true
has_outcome (_ ∷ t) = has_outcome t

-- whether a call before the outcome was made: a preparation or a selection
abbrev pub has_open_call : List Deed → Bool
has_open_call [] = false
has_open_call (Answered p b ∷ t) = true
has_open_call (Chose p ∷ t) = true
has_open_call (_ ∷ t) = has_open_call t

-- whether p was notified of an outcome as the member of this place
abbrev pub told_by : ℕ → ℕ → List Deed → Bool
told_by p n [] = false
told_by p n (Told c q m a ∷ t) = ((q == p) && (m == n)) || told_by p n t
told_by p n (_ ∷ t) = told_by p n t

-- how many preparations of p had no NO_JOIN
abbrev pub joins_of : ℕ → List Deed → ℕ
joins_of p [] = 0
joins_of p (Answered q b ∷ t) = if (q == p) && joins b then joins_of p t + 1 else joins_of p t
joins_of p (_ ∷ t) = joins_of p t

-- at how many of the k places from n on p was notified of an outcome
abbrev pub places_told : ℕ → List Deed → ℕ → ℕ → ℕ
places_told p t n zero = 0
places_told p t n (suc k) = if told_by p n t then places_told p t (n + 1) k + 1 else places_told p t (n + 1) k

-- what the last outcome call at the place gave
abbrev pub last_told : ℕ → List Deed → Option (Option (List ℕ))
last_told n [] = None
last_told n (Told c p m a ∷ t) = if m == n then Some a else last_told n t
last_told n (_ ∷ t) = last_told n t

-- whether a row of this phase and this `told` does not say that the member at place n was notified
abbrev pub untold_in : Phase → ℕ → ℕ → Bool
untold_in Preparing told n = true
untold_in Aborting told n = true
untold_in Committing told n = not (nat_lt n told)
untold_in Undoing told n = not (nat_lt n told)

-- whether the Told entry of the place was not in a journal with this row
abbrev pub untold : Option Row → ℕ → Bool
untold None n = false
untold (Some r) n = untold_in r.phase r.told n

-- whether each outcome call at the place is older than a stop at which its Told entry was not in the journal
abbrev pub may_tell : ℕ → List Deed → Bool
may_tell n [] = true
may_tell n (Stopped row ∷ t) = untold row n || may_tell n t
may_tell n (Told c p m a ∷ t) = not (m == n) && may_tell n t
may_tell n (_ ∷ t) = may_tell n t

-- the same of outcome and recover calls both
abbrev pub may_recover : ℕ → List Deed → Bool
may_recover n [] = true
may_recover n (Stopped row ∷ t) = untold row n || may_recover n t
may_recover n (Recovered p m ∷ t) = not (m == n) && may_recover n t
may_recover n (Told c p m a ∷ t) = not (m == n) && may_recover n t
may_recover n (_ ∷ t) = may_recover n t

-- whether no preparation or selection is older than a stop
abbrev pub is_unstopped : List Deed → Bool
is_unstopped [] = true
is_unstopped (Stopped row ∷ t) = not (has_open_call t)
is_unstopped (_ ∷ t) = is_unstopped t

-- No stop comes between two preparations or selections, and no preparation or selection follows an outcome or a recover call. A
-- member is notified, or recovers, again only after a stop at which the journal did not have yet that it was notified.
abbrev pub InOrder : List Deed → Type 0
InOrder [] = Unit {0}
InOrder (Answered p b ∷ t) = (is_unstopped t ≡ true) × (has_outcome t ≡ false) × InOrder t
InOrder (Chose p ∷ t) = (is_unstopped t ≡ true) × (has_outcome t ≡ false) × InOrder t
InOrder (Told c p n a ∷ t) = (may_tell n t ≡ true) × InOrder t
InOrder (Recovered p n ∷ t) = (may_recover n t ≡ true) × InOrder t
InOrder (Stopped row ∷ t) = InOrder t

-- how often p is among these
abbrev pub count : ℕ → List ℕ → ℕ
count p [] = 0
count p (q ∷ qs) = if q == p then count p qs + 1 else count p qs

abbrev pub one_of : Option ℕ → List ℕ
one_of None = []
one_of (Some p) = p ∷ []

-- the members of a row, with the participant whose preparation was under way: it may have joined
abbrev pub listed : Row → List ℕ
listed r = r.joined ++ one_of r.doing

abbrev pub is_committing : Phase → Bool
is_committing Preparing = false
is_committing Aborting = false
is_committing Committing = true
is_committing Undoing = false

-- the row that the journal had at the last stop
abbrev pub last_row : List Deed → Option Row
last_row [] = None
last_row (Stopped row ∷ t) = row
last_row (_ ∷ t) = last_row t

-- the outcome of a journalled transaction: the commit if its row was committing, and otherwise the abort
abbrev pub IsOutcomeOf : Option Row → Bool → Type 0
IsOutcomeOf None commit = Unit {0}
IsOutcomeOf (Some r) commit = commit ≡ is_committing r.phase

-- whoever is notified after a stop at which the journal had the transaction is notified of that outcome
abbrev pub FollowsRows : List Deed → Type 0
FollowsRows [] = Unit {0}
FollowsRows (Told c p n a ∷ t) = IsOutcomeOf (last_row t) c × FollowsRows t
FollowsRows (_ ∷ t) = FollowsRows t

-- What the law says of a transaction with this row: commits only if it is committing, and aborts only if it is not; each
-- member at a place below its `told` was notified; nobody joined more often than the row lists it; no advice of a place that
-- was not notified.
pub record InRow (t : List Deed) (r : Row) (advice : ℕ → Option (List ℕ)) : Type 0 where
  pub no_commit : is_committing r.phase ≡ false → has_commit t ≡ false
  pub no_abort : is_committing r.phase ≡ true → has_abort t ≡ false
  pub told : (n p : ℕ) → n < r.told → slice_get r.joined n ≡ Some p → told_by p n t ≡ true
  pub joined : (p : ℕ) → joins_of p t ≤ count p (listed r)
  pub unadvised : (n : ℕ) → r.told ≤ n → advice n ≡ None

-- The outcome law for one id, by its trail, whether it is below the journal's next id, its row and its advices by place:
-- one way (a): nobody is notified of the commit if anybody is notified of the abort;
-- all told (b): without a row in the journal, each participant was notified at no fewer places than it prepared without NO_JOIN;
-- in order (c): calls come in the order above, each member notified once but for a stop that lost it;
-- advised (d): an advice that the journal holds is what the last outcome call of its place gave;
-- numbered and in row (e): no call is of an id that the journal has not given, and a row says what was called;
-- decided (f): after a restart a transaction that was committing is committed, and any other that the journal has is aborted.
pub record IdLaw (t : List Deed) (known : Bool) (row : Option Row) (advice : ℕ → Option (List ℕ)) : Type 0 where
  pub one_way : has_commit t ≡ true → has_abort t ≡ true → ⊥
  pub all_told : known ≡ true → row ≡ None → (p : ℕ) → (k : ℕ) × (joins_of p t ≤ places_told p t 0 k)
  pub ordered : InOrder t
  pub advised : (n : ℕ) (a : List ℕ) (g : Option (List ℕ)) → advice n ≡ Some a → last_told n t ≡ Some g → g ≡ Some a
  pub numbered : known ≡ false → has_call t ≡ false
  pub in_row : (r : Row) → row ≡ Some r → InRow t r advice
  pub decided : FollowsRows t
