-- A link to an issuer that is simulated, or has a host.
use Rattle.std.specs.Prelude.{◌≡◌, ⊤, ℕ, zero, Bool, true, false, List, [], ◌∷◌}
use Rattle.sw_parts.specs.Queries.{Sending, Receiving}
use Rattle.sw_issuers.specs.declared.issuer.Issuer.{Issuer}
use Rattle.sw_hosts.specs.HostLinks.{Sends, shown_link}
use Rattle.sw_hosts.specs.HostWays.{WasEntered, WasForgotten, WasHanded}
use Rattle.sw_hosts.specs.declared.issuer_link.IssuerLink.{IssuerLink}
use Rattle.sw_hosts.specs.declared.issuer_link.IssuerLink.TheVariants.{Simulated, Host}

-- the tag of an issuer's host, of which nothing is known
abbrev pub host_state : List ℕ
host_state = 1 ∷ []

-- whether the issuer has a host
abbrev pub has_host : {C : Type 0} → IssuerLink C → Bool
has_host (Simulated issuer) = false
has_host (Host link) = true

-- a tag, and after it the state of an issuer that is simulated
abbrev pub state_of : {C : Type 0} → (Issuer → List ℕ) → IssuerLink C → List ℕ
state_of state (Simulated issuer) = 0 ∷ state issuer
state_of state (Host link) = host_state

-- the simulated issuer does what it may, and stays one; a host stays one
abbrev pub SendsBy : Sending → Sending
SendsBy sends (zero ∷ s) message t = (u : List ℕ) × (t ≡ 0 ∷ u) × sends s message u
SendsBy sends _ message t = t ≡ host_state

abbrev pub ReceivesBy : Receiving → Receiving
ReceivesBy receives (zero ∷ s) message t = (u : List ℕ) × (t ≡ 0 ∷ u) × receives s message u
ReceivesBy receives _ message t = t ≡ host_state

-- a message to a host is sent over its link, once
abbrev pub SendsToHost : {C : Type 0} → IssuerLink C → List ℕ → IssuerLink C → Type 0
SendsToHost (Simulated issuer) message new = ⊤
SendsToHost (Host old) message (Host new) = Sends WasEntered WasHanded WasForgotten (shown_link old) message (shown_link new)
SendsToHost (Host old) message (Simulated issuer) = ⊥
