-- What callers see of a plant, and of its engine with the seats.
use Rattle.std.specs.Prelude.{List}
use Rattle.sqlite_trees.specs.declared.store.Store.{Ghosts}
use Rattle.sw_participant.specs.declared.station.Station.{Station}
use Rattle.journal_store.specs.Kept.{JournalState, kept}
use Rattle.tx_engine.specs.World.{World}
use Rattle.tx_plant.specs.declared.seat.Seats.{Seats}
use Rattle.tx_plant.specs.declared.running.Running.{Running}
use Rattle.tx_plant.specs.declared.plant.Plant.{Plant}
use Rattle.tx_plant.specs.declared.plant.PlantParts.{PlantParts}
use Rattle.tx_plant.specs.Core.{Core, core}
use Rattle.tx_plant.specs.Plant.{Whole, whole_of}

-- of an engine with its seats: the engine's world, the seats, and what contracts see of both

abbrev pub engine_in : Running → World
engine_in r = r.engine

abbrev pub seats_in : Running → Seats
seats_in r = r.seats

abbrev pub core_in : Running → Core
core_in r = core r.engine r.seats

-- with the journal that it writes
abbrev pub whole_in : Running → JournalState → Whole
whole_in r j = whole_of r.engine r.seats j

-- of a plant: the same, what its journal keeps, and its stations

abbrev pub engine_of : {S : Type 0} {I : Type 0} {D : I → Type 0} → Plant S I D → World
engine_of p = engine_in p.running

abbrev pub core_of : {S : Type 0} {I : Type 0} {D : I → Type 0} → Plant S I D → Core
core_of p = core_in p.running

abbrev pub kept_of : {S : Type 0} {I : Type 0} {D : I → Type 0} → Ghosts S → Plant S I D → JournalState
kept_of g p = kept g p.journal

abbrev pub whole_at : {S : Type 0} {I : Type 0} {D : I → Type 0} → Ghosts S → Plant S I D → Whole
whole_at g p = whole_in p.running (kept_of g p)

abbrev pub stations_of : {S : Type 0} {I : Type 0} {D : I → Type 0} → Plant S I D → List (Station I D)
stations_of p = p.stations.items

-- all that it is made of
abbrev pub plant_parts : {S : Type 0} {I : Type 0} {D : I → Type 0} → Plant S I D → PlantParts S I D
plant_parts p = record { running = p.running; journal = p.journal; stations = p.stations }
