-- What contracts see of an intake and of its two ends.
use Rattle.std.specs.Prelude.{◌≡◌, ℕ, List, [], ◌++◌, not, nat_le, ◌&&◌, Option}
use Rattle.atomic_table.specs.Seated.{TableId}
use Rattle.crossbeam_queue.specs.Fifo.{Held}
use Rattle.sw_base.specs.Refusals.{refused_if}
use Rattle.tx_intake.specs.declared.error.IntakeError.{IntakeError}
use Rattle.tx_intake.specs.declared.error.IntakeError.TheVariants.{BadCapacity}

-- by which one intake is distinguished from another
abbrev pub IntakeId : Type 0
IntakeId = TableId

-- an intake: which it is, and how many items it holds at most
pub record Passage : Type 0 where
  pub id : IntakeId
  pub capacity : ℕ

abbrev pub passage : IntakeId → ℕ → Passage
passage id capacity = record { id = id; capacity = capacity }

-- an end: to which intake it belongs, and what has passed it
pub record End (A : Type 0) : Type 0 where
  pub intake : IntakeId
  pub passed : List A

abbrev pub end_of : {A : Type 0} → IntakeId → List A → End A
end_of intake passed = record { intake = intake; passed = passed }

-- why no intake has this capacity
abbrev pub capacity_refusal : ℕ → Option IntakeError
capacity_refusal capacity = refused_if (not (nat_le 1 capacity && nat_le capacity 4096)) BadCapacity

-- an intake of this capacity with its two ends, which nothing has passed
pub record IsNew {A : Type 0} (places : ℕ) (made : Passage) (putter getter : End A) : Type 0 where
  pub holds : made.capacity ≡ places
  pub puts : putter ≡ end_of made.id []
  pub gets : getter ≡ end_of made.id []

-- at a moment the intake was full: what had been put was what had been got, followed by as many items as it holds at most
abbrev pub WasFull : {A : Type 0} → Passage → End A → Type 0
WasFull {A} full putter = Held full.capacity (λ held. (got : List A) × (putter.passed ≡ got ++ held))

-- what was got is the beginning of what was put
abbrev pub IsBehind : {A : Type 0} → End A → End A → Type 0
IsBehind {A} getter putter = (held : List A) × (putter.passed ≡ getter.passed ++ held)
