-- What is reported of hosts.
use Rattle.std.specs.Prelude.{◌≡◌, ◌≢◌, ◌⊎◌, ℕ, List, [], ◌∷◌, ◌++◌, map, flat_map}
use Rattle.sw_wire.specs.HostLine.{host_line}
use Rattle.sw_wire.specs.States.{IsStateLine}
use Rattle.sw_wire.specs.declared.counts.Counts.{Counts}
use Rattle.sw_wire.specs.declared.state.HostState.{HostState}
use Rattle.sw_wire.specs.declared.times.HostTimes.{HostTimes}
use Rattle.run_reports.specs.declared.hosts.Hosts.{Hosts}

-- their names, in their order
abbrev pub names_in : Hosts → List (List ℕ)
names_in hosts = map (λ h. h.name) hosts.hosts.items

-- the states that were reported last of them
abbrev pub states_in : Hosts → List HostState
states_in hosts = map (λ h. h.reported) hosts.hosts.items

abbrev pub line_of : List ℕ × Counts → List ℕ
line_of row = host_line row.0 row.1

-- a line for each of these hosts, in their order, with some counts
pub record AreHostLines (names : List (List ℕ)) (text : List ℕ) : Type 0 where
  pub rows : List (List ℕ × Counts)
  pub named : map (λ row. row.0) rows ≡ names
  pub written : text ≡ flat_map line_of rows

-- nothing is new of a host, or its line says its state
abbrev pub IsNewsOf : List ℕ → List ℕ → Type 0
IsNewsOf name line = (line ≡ []) ⊎ ((times : HostTimes) × (state : HostState) × IsStateLine name times state line)

-- The state `after` is the one that was reported last from then on. There is a line exactly where `before` was another one.
abbrev pub Reports : List ℕ → HostState → HostState → List ℕ → Type 0
Reports name before after line =
    ((after ≡ before) × (line ≡ [])) ⊎ ((after ≢ before) × (times : HostTimes) × IsStateLine name times after line)

-- what is new of each of these hosts, in their order
abbrev pub AreNews : List (List ℕ) → List ℕ → Type 0
AreNews [] text = text ≡ []
AreNews (name ∷ names) text = (line more : List ℕ) × IsNewsOf name line × AreNews names more × (text ≡ line ++ more)
