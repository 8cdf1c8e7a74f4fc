-- What a sound journal is.
use Rattle.std.specs.Prelude.{◌≡◌, ℕ, ◌≤◌, ◌<◌, true, false, List, [], ◌∷◌, length, Option, Some, None, IsTrue}
use Rattle.std.specs.List.{All}
use Rattle.sw_context.specs.Names.{is_name}
use Rattle.sw_context.specs.Spelling.{IsSpelled}
use Rattle.flow_model.specs.declared.flow.Flow.{Flow}
use Rattle.flow_model.specs.declared.numbering.Part.{Part}
use Rattle.flow_model.specs.Places.{parts_of}
use Rattle.tx_machine.specs.declared.values.Item.{Item}
use Rattle.tx_machine.specs.declared.values.Item.TheVariants.{Answer, Choice, Told as ToldOne}
use Rattle.tx_machine.specs.Table.{is_open}
use Rattle.tx_history.specs.declared.event.Event.{Event}
use Rattle.tx_history.specs.declared.event.Event.TheVariants.{Offered, Taken, Answered, Recovered}
use Rattle.tx_history.specs.declared.journal.JournalView.{JournalView}
use Rattle.tx_history.specs.declared.journal.Row.{Row}
use Rattle.tx_history.specs.declared.journal.WaitingContext.{WaitingContext}
use Rattle.tx_history.specs.Keys.{Rising, look, place_lt}
use Rattle.tx_history.specs.History.{Start, number_of, to_tell}
use Rattle.tx_history.specs.Journal.{IsLawful}

-- ids rise from 1 and are below the next id, and no id with a row is on the shelf
pub record IsOrdered (v : JournalView) : Type 0 where
  pub next : 1 ≤ v.next_id
  pub rows : Rising 1 v.next_id v.rows
  pub shelf : Rising 1 v.next_id v.shelf
  pub apart : (id : ℕ) (r : Row) (w : WaitingContext) → look id v.rows ≡ Some r → look id v.shelf ≡ Some w → ⊥

abbrev pub IsNamed : List ℕ → Type 0
IsNamed name = IsTrue (is_name name)

-- a row's `doing`: nothing, or a name
abbrev pub IsDoing : Option (List ℕ) → Type 0
IsDoing None = Unit {0}
IsDoing (Some name) = IsNamed name

-- a row that a journal may hold
pub record RowFits (r : Row) : Type 0 where
  pub members : length r.joined ≤ 1001
  pub names : All IsNamed r.joined
  pub doing : IsDoing r.doing
  -- while preparing or aborting nobody was notified
  pub untold : is_open r.phase ≡ true → (r.told ≡ 0) × (length r.joined ≤ 1000)
  -- while committing or undoing a member is left to notify
  pub telling : is_open r.phase ≡ false → (r.doing ≡ None) × (r.told < length r.joined)
  pub tries : r.tries ≤ 100
  pub context : IsSpelled r.context

-- P holds of all that stands under an id
abbrev pub AllUnder : {A : Type 0} → (A → Type 0) → List (ℕ × A) → Type 0
AllUnder P [] = Unit {0}
AllUnder P (x ∷ xs) = P x.1 × AllUnder P xs

-- a context that may wait in the queue or on the shelf
pub record WaitingFits (w : WaitingContext) : Type 0 where
  pub tries : w.tries ≤ 100
  pub context : IsSpelled w.context

-- places rise, with ids from 1 on and below n, and members from 0 to 1,000
abbrev pub PlacesRise : ℕ → List ((ℕ × ℕ) × List ℕ) → Type 0
PlacesRise n [] = Unit {0}
PlacesRise n (x ∷ xs) = (1 ≤ x.0.0) × (x.0.0 < n) × (x.0.1 ≤ 1000) × All (λ y. place_lt x.0 y.0 ≡ true) xs × PlacesRise n xs

-- a journal that an engine may be opened on
pub record IsOk (v : JournalView) : Type 0 where
  pub ordered : IsOrdered v
  pub last : v.next_id ≤ 9223372036854775807
  pub few : length v.rows ≤ 16
  pub rows : (id : ℕ) (r : Row) → look id v.rows ≡ Some r → RowFits r
  pub shelf : (id : ℕ) (w : WaitingContext) → look id v.shelf ≡ Some w → WaitingFits w
  pub advices : PlacesRise v.next_id v.advices

-- of a flow: what a checked flow is
pub record FlowFits (f : Flow) : Type 0 where
  pub retries : f.retries ≤ 100
  pub names : All (λ (x : Part). IsNamed x.name) (parts_of f)

-- the flow has every participant that is to be notified
abbrev pub Knows : Flow → JournalView → Type 0
Knows f v = (id : ℕ) (r : Row) → look id v.rows ≡ Some r → All (λ n. number_of f n < length (parts_of f)) (to_tell r r.doing)

-- a start from which an engine of this flow may have a history
pub record StartFits (f : Flow) (v : Start) : Type 0 where
  pub view : IsOk v.view
  pub queue : All WaitingFits v.queue
  pub knows : Knows f v.view

-- contexts are bytes of contexts
abbrev pub IsItem : Item → Type 0
IsItem (Answer b c) = IsSpelled c
IsItem (Choice t) = Unit {0}
IsItem (ToldOne a) = Unit {0}

abbrev pub AreItems : List Item → Type 0
AreItems [] = Unit {0}
AreItems (x ∷ xs) = IsItem x × AreItems xs

-- the same of the contexts of events
abbrev pub AreSpelled : List Event → Type 0
AreSpelled [] = Unit {0}
AreSpelled (Offered c ∷ past) = IsSpelled c × AreSpelled past
AreSpelled (Answered s b c ∷ past) = IsSpelled c × AreSpelled past
AreSpelled (Recovered s c ∷ past) = IsSpelled c × AreSpelled past
AreSpelled (_ ∷ past) = AreSpelled past

-- each take is of a session of the engine
abbrev pub AreSessions : ℕ → List Event → Type 0
AreSessions n [] = Unit {0}
AreSessions n (Taken s ∷ past) = (s < n) × AreSessions n past
AreSessions n (_ ∷ past) = AreSessions n past

-- a lawful history over n sessions, at most 16, whose contexts are bytes of contexts
pub record IsHistory (f : Flow) (v : Start) (n : ℕ) (past : List Event) : Type 0 where
  pub few : n ≤ 16
  pub sessions : AreSessions n past
  pub spelled : AreSpelled past
  pub lawful : IsLawful f v past
