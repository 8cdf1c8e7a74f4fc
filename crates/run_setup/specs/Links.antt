-- The links to the hosts of a run, as contracts see them.
use Rattle.std.specs.Prelude.{◌≡◌, ℕ, List, [], ◌∷◌, ◌++◌, map, true, false}
use Rattle.sw_issuers.specs.Issuing.{shown_issuer}
use Rattle.sw_issuers.specs.Sending.{LinkStates, link_states}
use Rattle.sw_hosts.specs.Issuers.{host_state, state_of}
use Rattle.sw_parts.specs.Queries.{shown_query}
use Rattle.cli_config.specs.declared.config.Host.{Host}
use Rattle.cli_config.specs.declared.config.Wire.{Wire}
use Rattle.cli_config.specs.declared.config.Wire.TheVariants as wire
use Rattle.sw_hosts.specs.declared.issuer_link.IssuerLink.{IssuerLink}
use Rattle.run_switch.specs.declared.setup.NamedLink.{NamedLink}
use Rattle.run_setup.specs.declared.links.Links.{Links}
use Rattle.run_setup.specs.declared.links.Side.{Side}
use Rattle.run_setup.specs.declared.links.Side.TheVariants.{Reached, Silent, Simulated}

-- what contracts see of a link
abbrev pub shown_link : {C : Type 0} → IssuerLink C → List ℕ
shown_link = state_of (λ issuer. shown_issuer issuer.silent issuer.waiting.items)

-- the same of a new link, by how its host is reached
abbrev pub wire_state : Wire → List ℕ
wire_state wire.Simulated = 0 ∷ shown_issuer false []
wire_state wire.Silent = 0 ∷ shown_issuer true []
wire_state (wire.Streams to from times in_flight profile) = host_state

-- the same of a link that is made of this side
abbrev pub side_state : Side → List ℕ
side_state Simulated = 0 ∷ shown_issuer false []
side_state Silent = 0 ∷ shown_issuer true []
side_state (Reached host) = host_state

-- a host's name, and what contracts see of a new link to it
abbrev pub host_link : Host → List ℕ × List ℕ
host_link h = (h.name, wire_state h.wire)

-- a host's name, and what contracts see of the query that asks it
abbrev pub host_query : Host → List ℕ × List ℕ
host_query h = (h.name, shown_query h.has_stand_in (wire_state h.wire))

-- the same of the link that the query asks over
abbrev pub named_state : {C : Type 0} → NamedLink (IssuerLink C) → List ℕ × List ℕ
named_state l = (l.name, shown_query l.has_stand_in (shown_link l.link))

-- the two lists have these queries and these links
pub record AreLinksOf (qs ls : LinkStates) (links : Links) : Type 0 where
  pub queried : map named_state links.queried.items ≡ qs
  pub advised : link_states shown_link links.advised.items ≡ ls

-- a link is added to each list
pub record AddsLink (q l : List ℕ × List ℕ) (before after : Links) : Type 0 where
  pub queried : map named_state after.queried.items ≡ map named_state before.queried.items ++ q ∷ []
  pub advised : link_states shown_link after.advised.items ≡ link_states shown_link before.advised.items ++ l ∷ []
