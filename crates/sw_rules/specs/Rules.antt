-- What breaks each rule: at an entry, in a group, by a route.
use Rattle.std.specs.Prelude.{ℕ, Bool, false, not, ◌&&◌, ◌||◌, List, [], ◌∷◌, take, codes}
use Rattle.std.specs.List.{list_any}
use Rattle.std.specs.Str.{bytes_eq}
use Rattle.flow_model.specs.declared.flow.Flow.{Flow}
use Rattle.flow_model.specs.declared.flow.Group.{Group}
use Rattle.flow_model.specs.declared.flow.Entry.{Entry}
use Rattle.sw_rules.specs.declared.rule.Rule.{Rule}
use Rattle.sw_rules.specs.declared.rule.Rule.TheVariants as rule
use Rattle.sw_rules.specs.declared.set_up.SetUp.{SetUp}
use Rattle.sw_rules.specs.declared.set_up.SetUpHost.{SetUpHost}
use Rattle.sw_rules.specs.declared.set_up.SetUpRoute.{SetUpRoute}
use Rattle.sw_rules.specs.Flows.{comes_after, comes_before, has, is_main, is_placed_before, picks_groups}

-- the participants that the switch has whatever its hosts
abbrev pub own_names : List (List ℕ)
own_names =
    codes "check" ∷ codes "limits" ∷ codes "route" ∷ codes "reverse" ∷ codes "standin" ∷ codes "forward" ∷ codes "respond" ∷ []

abbrev pub is_own : List ℕ → Bool
is_own name = list_any (λ own. bytes_eq name own) own_names

-- the participant asks one of the hosts
abbrev pub asks : SetUp → List ℕ → Bool
asks s name = list_any (λ (h : SetUpHost). bytes_eq h.query name) s.hosts

-- it asks one for which the switch stands in
abbrev pub needs_stand_in : SetUp → List ℕ → Bool
needs_stand_in s name = list_any (λ (h : SetUpHost). h.stand_in && bytes_eq h.query name) s.hosts

-- the switch has a participant of this name
abbrev pub is_known : SetUp → List ℕ → Bool
is_known s name = is_own name || asks s name

-- one of the entries asks a host
abbrev pub has_query : SetUp → List Entry → Bool
has_query s es = list_any (λ (e : Entry). asks s e.participant) es

-- a route picks the group
abbrev pub is_picked : SetUp → List ℕ → Bool
is_picked s name = list_any (λ (r : SetUpRoute). bytes_eq r.group name) s.routes

abbrev pub is_group : List Group → List ℕ → Bool
is_group xs name = list_any (λ (x : Group). bytes_eq x.name name) xs

-- requests are answered by a host through this group: a route picks it, or it is main and leaves no choice to a selector
abbrev pub answers_requests : SetUp → Group → Bool
answers_requests s x = is_picked s x.name || (is_main x && not (has x.entries (codes "route")))

-- the group has an outcome that issuers need to know: hosts are asked from here
abbrev pub leads_to_hosts : SetUp → Group → Bool
leads_to_hosts s x = has x.entries (codes "route") || has_query s x.entries

-- the entry of this index in the group breaks the rule
abbrev pub entry_breaks : Rule → Flow → SetUp → Group → ℕ → Entry → Bool
entry_breaks rule.UnknownParticipant f s x i e = not (is_known s e.participant)
entry_breaks rule.NoSelector f s x i e = bytes_eq e.participant (codes "route") && not e.kind.selector
entry_breaks rule.NotAbortAware f s x i e = bytes_eq e.participant (codes "respond") && not e.kind.abort_aware
entry_breaks rule.PlacedTwice f s x i e = is_placed_before f x i e.participant
entry_breaks rule.AfterRespond f s x i e = is_main x && has (take i x.entries) (codes "respond")
entry_breaks rule.NoCheck f s x i e = asks s e.participant && not (comes_before f x i (codes "check"))
entry_breaks rule.NoReverse f s x i e = asks s e.participant && not (comes_before f x i (codes "reverse"))
entry_breaks rule.NoStandIn f s x i e = needs_stand_in s e.participant && not (comes_after f x i (codes "standin"))
entry_breaks r f s x i e = false

-- the group breaks the rule
abbrev pub group_breaks : Rule → SetUp → Group → Bool
group_breaks rule.NoQuery s x = answers_requests s x && not (has_query s x.entries)
group_breaks rule.NoForward s x = (is_main x && leads_to_hosts s x) && not (has x.entries (codes "forward"))
group_breaks rule.NoRespond s x = is_main x && not (has x.entries (codes "respond"))
group_breaks r s x = false

-- the route breaks the rule, which it does only if the flow asks for routes
abbrev pub route_breaks : Rule → Flow → SetUpRoute → Bool
route_breaks rule.UnknownGroup f r = picks_groups f && not (is_group f.groups r.group)
route_breaks rule.PicksMain f r = picks_groups f && bytes_eq r.group (codes "main")
route_breaks q f r = false
