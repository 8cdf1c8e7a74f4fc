-- The ways of requests through the flow of a set-up.
use Rattle.std.specs.Prelude.{◌≡◌, ◌⊎◌, ℕ, true, false, List, [], ◌∷◌, ◌++◌, Some, codes, slice_get}
use Rattle.flow_model.specs.declared.flow.Flow.{Flow}
use Rattle.flow_model.specs.declared.flow.Group.{Group}
use Rattle.flow_model.specs.declared.flow.Entry.{Entry}
use Rattle.sw_rules.specs.Flows.{after_route, before_route, entries_in, is_main, main_of, picks_groups}
use Rattle.sw_rules.specs.Rules.{asks, is_own}
use Rattle.sw_rules.specs.Spelling.{is_among}
use Rattle.sw_rules.specs.declared.rule.Rule.TheVariants as rule
use Rattle.sw_rules.specs.declared.set_up.SetUp.{SetUp}
use Rattle.sw_rules.specs.declared.set_up.SetUpHost.{SetUpHost}
use Rattle.sw_rules.specs.declared.set_up.SetUpRoute.{SetUpRoute}
use Rattle.sw_approvals.specs.Parts.{Check, Forward, Limits, Part, Query, Respond, Reverse, Route, StandIn}
use Rattle.sw_approvals.specs.Ways.{Stop}

-- which participant has a name: a query is that of a host, and stands as the host says
abbrev pub IsPart : SetUp → List ℕ → Part → Type 0
IsPart s name Check = name ≡ codes "check"
IsPart s name Limits = name ≡ codes "limits"
IsPart s name Route = name ≡ codes "route"
IsPart s name Reverse = name ≡ codes "reverse"
IsPart s name (Query has_stand_in) =
    (n : ℕ) × (h : SetUpHost) × (slice_get s.hosts n ≡ Some h) × (h.query ≡ name) × (h.stand_in ≡ has_stand_in)
IsPart s name StandIn = name ≡ codes "standin"
IsPart s name Forward = name ≡ codes "forward"
IsPart s name Respond = name ≡ codes "respond"

-- no host's query has a name of another participant
abbrev pub AreQueries : SetUp → Type 0
AreQueries s = (name : List ℕ) → is_own name ≡ true → asks s name ≡ false

-- the participants of these entries, in their order
abbrev pub AreStops : SetUp → List Entry → List Stop → Type 0
AreStops s [] [] = Unit {0}
AreStops s (e ∷ es) (p ∷ ps) = IsPart s e.participant p.part × AreStops s es ps
AreStops s [] (p ∷ ps) = ⊥
AreStops s (e ∷ es) [] = ⊥

-- main is this group
pub record IsMain (f : Flow) (x : Group) : Type 0 where
  pub number : ℕ
  pub there : slice_get f.groups number ≡ Some x
  pub named : is_main x ≡ true
  pub entries : x.entries ≡ main_of f

-- The entries on the way of an authorization on which nobody has decided: those of main, and after route those of the group that
-- the set-up's route picks.
abbrev pub IsWayThrough : Flow → SetUp → List Entry → Type 0
IsWayThrough f s es =
    ((picks_groups f ≡ false) × (es ≡ main_of f))
    ⊎ ((picks_groups f ≡ true) × ((n : ℕ) × (r : SetUpRoute) × (selector : Entry) × (slice_get s.routes n ≡ Some r)
    × (es ≡ before_route f ++ selector ∷ (entries_in f.groups r.group ++ after_route f))))

-- the rules without which an authorization could be approved by silence are in force
pub record AreInForce (s : SetUp) : Type 0 where
  pub check : is_among s.allow rule.NoCheck ≡ false
  pub stand_in : is_among s.allow rule.NoStandIn ≡ false
  pub query : is_among s.allow rule.NoQuery ≡ false
  pub groups : is_among s.allow rule.UnknownGroup ≡ false
