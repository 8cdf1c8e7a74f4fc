-- Which group of the flow asks the issuer of a card.
--
-- - *Route of a card*: of the prefixes with which the number
--   begins the longest, the first of equally long ones.
use Rattle.std.specs.Prelude.{ℕ, nat_lt, nat_eq, List, [], ◌∷◌, length, codes, refl}
use Rattle.std.specs.Prelude.{Option, Some, None, is_none, if◌then◌else◌}
use Rattle.std.specs.Coded.{Coded, code_by, coded_ℕ, coded_list, coded×}
use Rattle.std.specs.List.{starts_with}
use Rattle.iso_msg.specs.Messages.{PlainMessage, value_at}
use Rattle.sw_context.specs.Pairs.{Pairs, find}
use Rattle.sw_participant.specs.Shown.{shown}
use Rattle.sw_messages.specs.declared.class.Class.{Class}
use Rattle.sw_messages.specs.declared.class.Class.TheVariants.{Authorization}
use Rattle.sw_messages.specs.declared.response_code.ResponseCode.{ResponseCode}
use Rattle.sw_messages.specs.declared.response_code.ResponseCode.TheVariants as rc
use Rattle.sw_messages.specs.Requests.{request_in, class_of}
use Rattle.sw_parts.specs.declared.route.Routing.{Routing}
use Rattle.sw_parts.specs.Checks.{Decided}

-- the one of two with the longer prefix, or the first if they are equally long
abbrev pub longer : Option Routing → Option Routing → Option Routing
longer None later = later
longer (Some r) None = Some r
longer (Some r) (Some q) =
    if nat_lt (length r.prefix) (length q.prefix) then Some q else Some r

-- the route, if the card number begins with its prefix
abbrev pub if_prefix : List ℕ → Routing → Option Routing
if_prefix card r = if starts_with nat_eq card r.prefix then Some r else None

-- of the routes whose prefix the card number begins with, the one with the longest prefix, or the
-- first of equally long ones
abbrev pub route_for : List ℕ → List Routing → Option Routing
route_for card [] = None
route_for card (r ∷ rs) = longer (if_prefix card r) (route_for card rs)

-- none without a card number
abbrev pub route_by : Option (List ℕ) → List Routing → Option Routing
route_by None rs = None
route_by (Some card) rs = route_for card rs

-- by field 2, the card number
abbrev pub route_of : PlainMessage → List Routing → Option Routing
route_of m rs = route_by (value_at 2 m.fields) rs

-- an authorization without a route is refused
abbrev pub unroutable : Option Routing → Option ResponseCode
unroutable None = Some rc.IssuerInoperative
unroutable (Some r) = None

-- any other request needs no route
abbrev pub route_fault_class : Option Class → PlainMessage → List Routing → Option ResponseCode
route_fault_class (Some Authorization) m rs = unroutable (route_of m rs)
route_fault_class _ m rs = None

-- the code with which a request is refused, if it has no route and needs one
abbrev pub route_fault : Option PlainMessage → List Routing → Option ResponseCode
route_fault None rs = None
route_fault (Some m) rs = route_fault_class (class_of m.mti) m rs

-- route, as it prepares: routes, context, answer byte, context after
abbrev pub ChecksRoute : List Routing → Pairs → ℕ → Pairs → Type 0
ChecksRoute rs x byte y = Decided (route_fault (request_in x) rs) x byte y

-- the group of a route; no text without one
abbrev pub group_of : Option Routing → List ℕ
group_of None = []
group_of (Some r) = r.group

-- a request that is not an authorization picks no group
abbrev pub group_class : Option Class → PlainMessage → List Routing → List ℕ
group_class (Some Authorization) m rs = group_of (route_of m rs)
group_class _ m rs = []

-- a context without a request that can be read picks none
abbrev pub group_by : Option PlainMessage → List Routing → List ℕ
group_by None rs = []
group_by (Some m) rs = group_class (class_of m.mti) m rs

-- the group that is selected: that of its route, for an authorization on which nobody has decided;
-- otherwise none
abbrev pub chosen_group : List Routing → Pairs → List ℕ
chosen_group rs x = if is_none (find (codes "rc") x) then group_by (request_in x) rs else []

-- routes as a list of numbers; no two lists of routes are shown alike
abbrev pub routing_code : Coded Routing
routing_code =
    code_by (List ℕ × List ℕ) (coded× (coded_list coded_ℕ) (coded_list coded_ℕ))
    (λ r. (r.prefix, r.group)) (λ p. record { prefix = p.0; group = p.1 }) (λ _. refl)

abbrev pub shown_routes : List Routing → List ℕ
shown_routes rs = shown (coded_list routing_code) rs
