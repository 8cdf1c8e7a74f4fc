-- What the rules read of a configuration.
use Rattle.std.specs.Prelude.{ℕ, Bool, true, List, [], ◌∷◌, map, unwrap_or, codes}
use Rattle.std.specs.Option.{option_map_or}
use Rattle.sw_parts.specs.declared.route.Routing.{Routing}
use Rattle.sw_rules.specs.declared.set_up.SetUp.{SetUp}
use Rattle.sw_rules.specs.declared.set_up.SetUpHost.{SetUpHost}
use Rattle.sw_rules.specs.declared.set_up.SetUpRoute.{SetUpRoute}
use Rattle.cli_config.specs.declared.config.Config.{Config}
use Rattle.cli_config.specs.declared.config.Host.{Host}
use Rattle.run_switch.specs.Links.{query_name}
use Rattle.run_setup.specs.Plans.{routes_of}

-- by the name of a host, and whether the switch stands in for it
abbrev pub host_named : List ℕ → Bool → SetUpHost
host_named name stand_in = record { query = query_name name; stand_in = stand_in }

-- the switch stands in for its own hosts
abbrev pub own_hosts : List SetUpHost
own_hosts = host_named (codes "alpha") true ∷ host_named (codes "beta") true ∷ []

abbrev pub host_of : Host → SetUpHost
host_of h = host_named h.name h.has_stand_in

-- the hosts of the configuration, or the switch's own
abbrev pub hosts_of : Config → List SetUpHost
hosts_of c = option_map_or (map host_of) c.hosts own_hosts

abbrev pub route_of : Routing → SetUpRoute
route_of r = record { prefix = r.prefix; group = r.group }

-- the rules that the configuration allows to be broken
abbrev pub allowed : Config → List (List ℕ)
allowed c = unwrap_or c.run.allow []

-- the hosts and routes by which a run of this configuration answers requests
abbrev pub set_up_of : Config → SetUp
set_up_of c = record { hosts = hosts_of c; routes = map route_of (routes_of c); allow = allowed c }
