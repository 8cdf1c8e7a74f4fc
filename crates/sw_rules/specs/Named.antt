-- The names that a finding gives: of what stands at the place of a breach.
use Rattle.std.specs.Prelude.{ℕ, List, [], Option, option_and_then, slice_get}
use Rattle.std.specs.Option.{option_map_or}
use Rattle.flow_model.specs.declared.flow.Flow.{Flow}
use Rattle.flow_model.specs.declared.flow.Group.{Group}
use Rattle.flow_model.specs.declared.flow.Entry.{Entry}
use Rattle.sw_rules.specs.declared.breach.At.{At}
use Rattle.sw_rules.specs.declared.breach.At.TheVariants as at
use Rattle.sw_rules.specs.declared.breach.Breach.{Breach}
use Rattle.sw_rules.specs.declared.finding.Finding.{Finding}
use Rattle.sw_rules.specs.declared.set_up.SetUp.{SetUp}
use Rattle.sw_rules.specs.declared.set_up.SetUpRoute.{SetUpRoute}

abbrev pub group_name : Option Group → List ℕ
group_name x = option_map_or (λ (g : Group). g.name) x []

-- by the number of the group and the index of the entry
abbrev pub entry_at : Flow → ℕ → ℕ → Option Entry
entry_at f g i = option_and_then (λ (x : Group). slice_get x.entries i) (slice_get f.groups g)

-- the group of an entry or a breach of a group, the prefix of a route
abbrev pub holder_at : Flow → SetUp → At → List ℕ
holder_at f s (at.Entry g i) = group_name (slice_get f.groups g)
holder_at f s (at.Group g) = group_name (slice_get f.groups g)
holder_at f s (at.Route n) = option_map_or (λ (r : SetUpRoute). r.prefix) (slice_get s.routes n) []

-- the participant of an entry, the group of a route
abbrev pub name_at : Flow → SetUp → At → List ℕ
name_at f s (at.Entry g i) = option_map_or (λ (e : Entry). e.participant) (entry_at f g i) []
name_at f s (at.Group g) = group_name (slice_get f.groups g)
name_at f s (at.Route n) = option_map_or (λ (r : SetUpRoute). r.group) (slice_get s.routes n) []

-- a finding without the name that was probably meant
pub record PlainFinding : Type 0 where
  pub breach : Breach
  pub holder : List ℕ
  pub name : List ℕ

abbrev pub plain : Finding → PlainFinding
plain f = record { breach = f.breach; holder = f.holder; name = f.name }

-- what is to be found of a breach
abbrev pub finding_of : Flow → SetUp → Breach → PlainFinding
finding_of f s b = record { breach = b; holder = holder_at f s b.at; name = name_at f s b.at }
