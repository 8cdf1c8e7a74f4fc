-- All breaches of the rules by a set-up: of each group, of each entry of it, and of each route, in their order.
use Rattle.std.specs.Prelude.{ℕ, ◌+◌, Bool, not, ◌&&◌, List, [], ◌∷◌, ◌++◌, if◌then◌else◌}
use Rattle.std.specs.List.{flat_map}
use Rattle.flow_model.specs.declared.flow.Flow.{Flow}
use Rattle.flow_model.specs.declared.flow.Group.{Group}
use Rattle.flow_model.specs.declared.flow.Entry.{Entry}
use Rattle.sw_rules.specs.declared.rule.Rule.{Rule}
use Rattle.sw_rules.specs.declared.breach.At.{At}
use Rattle.sw_rules.specs.declared.breach.At.TheVariants as at
use Rattle.sw_rules.specs.declared.breach.Breach.{Breach}
use Rattle.sw_rules.specs.declared.set_up.SetUp.{SetUp}
use Rattle.sw_rules.specs.declared.set_up.SetUpRoute.{SetUpRoute}
use Rattle.sw_rules.specs.Spelling.{is_among, rules}
use Rattle.sw_rules.specs.Rules.{entry_breaks, group_breaks, route_breaks}

-- what each item gives by its number, in their order
abbrev pub all_at : {A B : Type 0} → (ℕ → A → List B) → ℕ → List A → List B
all_at F n [] = []
all_at F n (x ∷ xs) = F n x ++ all_at F (n + 1) xs

-- the rule is broken, and the configuration does not allow its breach
abbrev pub is_counted : SetUp → Bool → Rule → Bool
is_counted s is_broken r = is_broken && not (is_among s.allow r)

-- a breach at a place, if there is one
abbrev pub breach_if : Bool → Rule → At → List Breach
breach_if holds r place = if holds then record { rule = r; at = place } ∷ [] else []

-- of the rules those that are broken at a place, by a test
abbrev pub broken : SetUp → At → (Rule → Bool) → List Rule → List Breach
broken s place test rs = flat_map (λ r. breach_if (is_counted s (test r) r) r place) rs

-- of an entry, by the number of its group and its index
abbrev pub entry_breaches : Flow → SetUp → Group → ℕ → ℕ → Entry → List Breach
entry_breaches f s x g i e = broken s (at.Entry g i) (λ r. entry_breaks r f s x i e) rules

-- of all entries of a group, by the number of the group
abbrev pub all_entry_breaches : Flow → SetUp → Group → ℕ → List Breach
all_entry_breaches f s x g = all_at (entry_breaches f s x g) 0 x.entries

-- of a group by itself, without its entries
abbrev pub own_breaches : SetUp → ℕ → Group → List Breach
own_breaches s g x = broken s (at.Group g) (λ r. group_breaks r s x) rules

-- of a group by itself, and then of its entries
abbrev pub group_breaches : Flow → SetUp → ℕ → Group → List Breach
group_breaches f s g x = own_breaches s g x ++ all_entry_breaches f s x g

-- of a route, by its number
abbrev pub route_breaches : Flow → SetUp → ℕ → SetUpRoute → List Breach
route_breaches f s n r = broken s (at.Route n) (λ q. route_breaks q f r) rules

abbrev pub breaches : Flow → SetUp → List Breach
breaches f s = all_at (group_breaches f s) 0 f.groups ++ all_at (route_breaches f s) 0 s.routes
