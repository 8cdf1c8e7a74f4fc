-- What a checked set-up is: a flow of the switch's participants, with the hosts and routes of a configuration.
use Rattle.std.specs.Prelude.{◌≡◌, ℕ, true, false, take, Some, slice_get, codes}
use Rattle.std.specs.Str.{bytes_eq}
use Rattle.flow_model.specs.declared.flow.Flow.{Flow}
use Rattle.flow_model.specs.declared.flow.Group.{Group}
use Rattle.flow_model.specs.declared.flow.Entry.{Entry}
use Rattle.sw_rules.specs.declared.rule.Rule.{Rule}
use Rattle.sw_rules.specs.declared.rule.Rule.TheVariants as rule
use Rattle.sw_rules.specs.declared.set_up.SetUp.{SetUp}
use Rattle.sw_rules.specs.declared.set_up.SetUpRoute.{SetUpRoute}
use Rattle.sw_rules.specs.Spelling.{is_among}
use Rattle.sw_rules.specs.Flows.{comes_after, comes_before, has, is_main, is_placed_before, picks_groups}
use Rattle.sw_rules.specs.Rules.{answers_requests, asks, has_query, is_group, is_known, leads_to_hosts, needs_stand_in}

-- a fact that the rule demands, unless the configuration allows its breach
abbrev pub Demands : SetUp → Rule → Type 0 → Type 0
Demands s r fact = is_among s.allow r ≡ false → fact

-- a fact of each group, of each entry at its place, of each route
abbrev pub OfGroups : Flow → (Group → Type 0) → Type 0
OfGroups f P = (g : ℕ) (x : Group) → slice_get f.groups g ≡ Some x → P x

abbrev pub OfEntries : Flow → (Group → ℕ → Entry → Type 0) → Type 0
OfEntries f P = OfGroups f (λ x. (i : ℕ) (e : Entry) → slice_get x.entries i ≡ Some e → P x i e)

abbrev pub OfRoutes : SetUp → (SetUpRoute → Type 0) → Type 0
OfRoutes s P = (n : ℕ) (r : SetUpRoute) → slice_get s.routes n ≡ Some r → P r

pub record IsSetUpChecked (f : Flow) (s : SetUp) : Type 0 where
  -- the switch has each participant of the flow
  pub known : Demands s rule.UnknownParticipant (OfEntries f (λ x i e. is_known s e.participant ≡ true))
  -- route is a selector, so that its groups run
  pub selector : Demands s rule.NoSelector (OfEntries f (λ x i e. bytes_eq e.participant (codes "route") ≡ true → e.kind.selector ≡ true))
  -- respond is abort-aware, so that a declined request has a response
  pub abort_aware : Demands s rule.NotAbortAware
      (OfEntries f (λ x i e. bytes_eq e.participant (codes "respond") ≡ true → e.kind.abort_aware ≡ true))
  -- nobody is prepared twice for a request
  pub once : Demands s rule.PlacedTwice (OfEntries f (λ x i e. is_placed_before f x i e.participant ≡ false))
  -- respond is the last entry of main
  pub last : Demands s rule.AfterRespond (OfEntries f (λ x i e. is_main x ≡ true → has (take i x.entries) (codes "respond") ≡ false))
  -- a host is asked only what was checked, once its reversal is in place
  pub check_first : Demands s rule.NoCheck (OfEntries f (λ x i e. asks s e.participant ≡ true → comes_before f x i (codes "check") ≡ true))
  pub reverse_first : Demands s rule.NoReverse
      (OfEntries f (λ x i e. asks s e.participant ≡ true → comes_before f x i (codes "reverse") ≡ true))
  -- somebody decides where the host is silent
  pub stand_in : Demands s rule.NoStandIn
      (OfEntries f (λ x i e. needs_stand_in s e.participant ≡ true → comes_after f x i (codes "standin") ≡ true))
  -- a host is asked in each group through which requests are answered
  pub query : Demands s rule.NoQuery (OfGroups f (λ x. answers_requests s x ≡ true → has_query s x.entries ≡ true))
  -- the issuers get advices of what the switch approved, and the reversals
  pub forward : Demands s rule.NoForward
      (OfGroups f (λ x. is_main x ≡ true → leads_to_hosts s x ≡ true → has x.entries (codes "forward") ≡ true))
  pub respond : Demands s rule.NoRespond (OfGroups f (λ x. is_main x ≡ true → has x.entries (codes "respond") ≡ true))
  -- each route picks a group of the flow, and not that in which it is asked for
  pub groups : Demands s rule.UnknownGroup (OfRoutes s (λ r. picks_groups f ≡ true → is_group f.groups r.group ≡ true))
  pub not_main : Demands s rule.PicksMain (OfRoutes s (λ r. picks_groups f ≡ true → bytes_eq r.group (codes "main") ≡ false))
