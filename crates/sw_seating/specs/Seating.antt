-- Which stations suit the participants of a flow, and in which order they are put.
use Rattle.std.specs.Prelude.{◌≡◌, ℕ, ◌<◌, Bool, List, length, map, take, get_or, not, true, Option}
use Rattle.std.specs.List.{list_any}
use Rattle.std.specs.Str.{bytes_eq}
use Rattle.sw_base.specs.Refusals.{first_at, or_else, refused_if}
use Rattle.sw_participant.specs.declared.station.Station.{Station}
use Rattle.sw_participant.specs.Stations.{name_of}
use Rattle.flow_model.specs.declared.numbering.Part.{Part}
use Rattle.flow_model.specs.Places.{number_in}
use Rattle.sw_seating.specs.declared.seating.SeatingError.{SeatingError}
use Rattle.sw_seating.specs.declared.seating.SeatingError.TheVariants.{NoStation, DoubleStation}

abbrev pub names_of : {I : Type 0} {D : I → Type 0} → List (Station I D) → List (List ℕ)
names_of stations = map name_of stations

abbrev pub part_names : List Part → List (List ℕ)
part_names parts = map (λ (p : Part). p.name) parts

abbrev pub is_among : List ℕ → List (List ℕ) → Bool
is_among name names = list_any (λ n. bytes_eq n name) names

-- a participant without a station of its name
abbrev pub no_station : List (List ℕ) → ℕ → Part → Option SeatingError
no_station names k part = refused_if (not (is_among part.name names)) (NoStation k)

-- a station whose name an earlier one has
abbrev pub double_station : List (List ℕ) → ℕ → List ℕ → Option SeatingError
double_station names k name = refused_if (is_among name (take k names)) (DoubleStation k)

-- the least participant without a station, then the first station that repeats a name
abbrev pub seating_refusal : List (List ℕ) → List Part → Option SeatingError
seating_refusal names parts = or_else (first_at (no_station names) 0 parts) (first_at (double_station names) 0 names)

-- each participant has a station of its name
abbrev pub HaveStations : List (List ℕ) → List Part → Type 0
HaveStations names parts = (k : ℕ) (p : Part) → k < length parts → is_among (get_or parts k p).name names ≡ true

-- the first stations have the participants' names, in the order of the participants' numbers
abbrev pub AreSeated : List (List ℕ) → List Part → Type 0
AreSeated names parts = take (length parts) names ≡ part_names parts

-- each participant has its index as its number: no two have the same name
abbrev pub AreNumbered : List Part → Type 0
AreNumbered parts = (k : ℕ) (p : Part) → k < length parts → number_in parts (get_or parts k p).name ≡ k
