-- Which participant of the switch has which name.
use Rattle.std.specs.Prelude.{ℕ, List, Option, Some, None, codes, nat_eq, if◌then◌else◌}
use Rattle.std.specs.List.{starts_with}
use Rattle.std.specs.Str.{bytes_eq}
use Rattle.sw_simulated.specs.declared.participant.Simulated.{Simulated}
use Rattle.sw_simulated.specs.declared.participant.Simulated.TheVariants as simulated

-- the switch's participants
pub data Part : Type 0 where
  Check : Part
  Limits : Part
  Route : Part
  Reverse : Part
  Query : Part
  StandIn : Part
  Forward : Part
  Respond : Part

abbrev pub part_of : Simulated → Part
part_of (simulated.Check p) = Check
part_of (simulated.Limits p) = Limits
part_of (simulated.Route p) = Route
part_of (simulated.Reverse p) = Reverse
part_of (simulated.Query p) = Query
part_of (simulated.StandIn p) = StandIn
part_of (simulated.Forward p) = Forward
part_of (simulated.Respond p) = Respond

-- one that asks an issuer
abbrev pub query_named : List ℕ → Option Part
query_named name = if starts_with nat_eq name (codes "query_") then Some Query else None

abbrev pub part_named : List ℕ → Option Part
part_named name =
    if bytes_eq name (codes "check") then Some Check
    else if bytes_eq name (codes "limits") then Some Limits
    else if bytes_eq name (codes "route") then Some Route
    else if bytes_eq name (codes "reverse") then Some Reverse
    else if bytes_eq name (codes "standin") then Some StandIn
    else if bytes_eq name (codes "forward") then Some Forward
    else if bytes_eq name (codes "respond") then Some Respond
    else query_named name
