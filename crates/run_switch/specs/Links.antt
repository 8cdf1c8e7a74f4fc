-- Which cards go where, and which participants ask over which links.
use Rattle.std.specs.Prelude.{ℕ, List, [], ◌∷◌, ◌++◌, map, codes}
use Rattle.sw_parts.specs.declared.route.Routing.{Routing}
use Rattle.sw_issuers.specs.declared.sender.GroupLink.{GroupLink}
use Rattle.sw_issuers.specs.Sending.{PlainSender, link_states}
use Rattle.run_switch.specs.declared.setup.NamedLink.{NamedLink}

-- cards that begin with this prefix go to this group
abbrev pub routing : List ℕ → List ℕ → Routing
routing prefix group = record { prefix = prefix; group = group }

-- what sends advices by these routes, over links with these groups and states
abbrev pub sender_with : {X : Type 0} → (X → List ℕ) → List Routing → List (GroupLink X) → PlainSender
sender_with state routes links = record { routes = routes; links = link_states state links }

-- without a configuration: cards that begin with 4 go to the group alpha, those with 5 to beta, and those with 55 to alpha
abbrev pub switch_routes : List Routing
switch_routes = routing (codes "4") (codes "alpha") ∷ routing (codes "5") (codes "beta") ∷ routing (codes "55") (codes "alpha") ∷ []

-- by these routes, over links with these states
abbrev pub sender_of : List ℕ → List ℕ → PlainSender
sender_of alpha beta = record { routes = switch_routes; links = (codes "alpha", alpha) ∷ (codes "beta", beta) ∷ [] }

abbrev pub link_names : {X : Type 0} → List (NamedLink X) → List (List ℕ)
link_names links = map (λ l. l.name) links

-- the participant that asks over the link of this name
abbrev pub query_name : List ℕ → List ℕ
query_name link = codes "query_" ++ link

-- the participants of the switch, over links of these names
abbrev pub station_names : List (List ℕ) → List (List ℕ)
station_names links =
    codes "check" ∷ codes "limits" ∷ codes "route" ∷ codes "reverse" ∷ codes "standin" ∷ codes "forward" ∷ codes "respond"
    ∷ map query_name links
