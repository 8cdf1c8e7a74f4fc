-- A recovery is a drive.
-- for: laws::recoveries_are_drives
use Rattle.std.proofs.Common.{ℕ, List, [], ◌∷◌, ◌++◌, Result, Ok, Err}
use Rattle.sw_participant.specs.Chains.{Rule}
use Rattle.tx_plant.specs.declared.turn.PlantError.{PlantError}
use Rattle.tx_plant.specs.declared.turn.PlantError.TheVariants as error
use Rattle.tx_plant.specs.declared.turn.Outcome.TheVariants as outcome
use Rattle.tx_plant.specs.declared.turn.Turn.{Turn}
use Rattle.tx_plant.specs.Recovery.{EndsBy, Recovers}
use Rattle.tx_plant.specs.Steps.{Moved}
use Rattle.tx_plant.specs.Plant.{DrivesTo, Whole}
use Rattle.tx_seats.specs.Drives.{Broken, Done, Drive, DrivenBy}

broken : (rule : ℕ → Rule) (os ps : List (List ℕ)) (cs ds : List ℕ) (turns : List Turn) (e : PlantError) (p q : Whole) →
    (done : ℕ) × DrivesTo rule os cs turns (record { done = done; cause = e }) p ps ds q → (d : Drive) × (m : List Moved) × DrivenBy d m p q
broken rule os ps cs ds turns e p q h = (Broken turns (record { done = h.0; cause = e }), h.1.0, h.1.1)

ended : (rule : ℕ → Rule) (os ps : List (List ℕ)) (cs ds : List ℕ) (turns : List Turn) (e : PlantError) (p q : Whole) →
    EndsBy rule os cs turns p e ps ds q → (d : Drive) × (m : List Moved) × DrivenBy d m p q
ended rule os ps cs ds turns (error.Engine e) p q h = (Done turns (h.0 ++ outcome.Refused e ∷ []), h.1.0, h.1.1)
ended rule os ps cs ds turns (error.Journal e) p q h = broken rule os ps cs ds turns (error.Journal e) p q h
ended rule os ps cs ds turns error.OutOfMemory p q h = broken rule os ps cs ds turns error.OutOfMemory p q h
ended rule os ps cs ds turns (error.Seating e) p q h = broken rule os ps cs ds turns (error.Seating e) p q h

pub recovery_drive : (rule : ℕ → Rule) (os ps : List (List ℕ)) (cs ds : List ℕ) (r : Result (Unit {0}) PlantError) (p q : Whole) →
    Recovers rule os cs p r ps ds q → (d : Drive) × (m : List Moved) × DrivenBy d m p q
recovery_drive rule os ps cs ds (Ok u) p q (turns, outcomes, all, (m, driven, led, counts), over) = (Done turns outcomes, m, driven)
recovery_drive rule os ps cs ds (Err e) p q (turns, all, ends) = ended rule os ps cs ds turns e p q ends
