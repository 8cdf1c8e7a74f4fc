-- The stations of a plant at work.
use Rattle.std.specs.Prelude.{◌≡◌, List, map}
use Rattle.sw_participant.specs.declared.station.Station.{Station}
use Rattle.sw_participant.specs.Stations.{name_of, type_of}

-- the participants stay those of the flow: each station keeps its index, with its type and its name
pub record SameStations {I : Type 0} {D : I → Type 0} (old new : List (Station I D)) : Type 0 where
  pub types : map type_of new ≡ map type_of old
  pub names : map name_of new ≡ map name_of old
