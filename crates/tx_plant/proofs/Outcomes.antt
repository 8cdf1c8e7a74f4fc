-- What an outcome that is no fault is of.
use Rattle.std.proofs.Common.{◌≡◌, Result, Ok, Err}
use Rattle.journal_store.specs.declared.error.JournalError.{JournalError}
use Rattle.tx_plant.specs.declared.turn.Outcome.{Outcome}
use Rattle.tx_plant.specs.declared.turn.StepFault.{StepFault}
use Rattle.tx_plant.specs.declared.turn.StepFault.TheVariants as fault
use Rattle.tx_plant.specs.Plant.{journal_fault, step_fault}

pub same_outcome : {E : Type 0} (x y : Outcome) → ◌≡◌ {A = Result Outcome E} (Ok x) (Ok y) → x ≡ y
same_outcome x y e = cc

pub unfaulted : (R : Result Outcome JournalError → Type 0) (o : Outcome) (x : Result Outcome JournalError) → Ok o ≡ journal_fault x → R x → R (Ok o)
unfaulted R o (Ok y) same holds = rw (same_outcome o y same) holds
unfaulted R o (Err e) same holds = cc

pub stepped_as : (R : Result Outcome StepFault → Type 0) (o : Outcome) (x : Result Outcome StepFault) → Ok o ≡ step_fault x → R x → R (Ok o)
stepped_as R o (Ok y) same holds = rw (same_outcome o y same) holds
stepped_as R o (Err fault.OutOfMemory) same holds = cc
stepped_as R o (Err (fault.NoStation n)) same holds = cc
