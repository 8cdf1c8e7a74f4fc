-- Which link an advice goes over.
use Rattle.std.specs.Prelude.{◌≡◌, ℕ, Bool, true, false, List, [], ◌∷◌, map, Option, Some, None}
use Rattle.std.specs.Str.{bytes_eq}
use Rattle.iso_msg.specs.Messages.{PlainMessage}
use Rattle.sw_mux.specs.Keys.{key}
use Rattle.sw_parts.specs.declared.route.Routing.{Routing}
use Rattle.sw_parts.specs.Queries.{Sending, Receiving, Starving}
use Rattle.sw_messages.specs.Requests.{message_of}
use Rattle.sw_parts.specs.Routes.{route_of}
use Rattle.sw_issuers.specs.declared.sender.GroupLink.{GroupLink}
use Rattle.sw_issuers.specs.Delivery.{Delivers}

-- groups with the states of their links
abbrev pub LinkStates : Type 0
LinkStates = List (List ℕ × List ℕ)

-- a group with what contracts see of its link
abbrev pub link_state : {X : Type 0} → (X → List ℕ) → GroupLink X → List ℕ × List ℕ
link_state state g = (g.group, state g.link)

abbrev pub link_states : {X : Type 0} → (X → List ℕ) → List (GroupLink X) → LinkStates
link_states state gs = map (link_state state) gs

-- a sender without where it lies in memory
pub record PlainSender : Type 0 where
  pub routes : List Routing
  pub links : LinkStates

-- the last digit of a repeat's type is 1
abbrev pub repeated : Bool → List ℕ → List ℕ
repeated true (a ∷ b ∷ c ∷ last ∷ rest) = a ∷ b ∷ c ∷ 49 ∷ rest
repeated _ advice = advice

-- what a link may do, by its state before, what it answers, its state after
abbrev pub Delivering : Type 1
Delivering = List ℕ → Bool → List ℕ → Type 0

-- if this link is the group's, it delivers and the later ones stay; otherwise it stays and a later one may
abbrev pub DeliversAt : Delivering → Bool → List ℕ × List ℕ → LinkStates
    → Bool → LinkStates → (LinkStates → Type 0) → Type 0
DeliversAt D true l ls accepted ts later =
    (t : List ℕ) × D l.1 accepted t × (ts ≡ (l.0, t) ∷ ls)
DeliversAt D false l ls accepted ts later = (us : LinkStates) × later us × (ts ≡ l ∷ us)

-- the first link of the group delivers, and the others stay as they are; without one nothing is
-- sent
abbrev pub DeliversTo : Delivering → List ℕ → LinkStates → Bool → LinkStates → Type 0
DeliversTo D group [] accepted ts = (accepted ≡ false) × (ts ≡ [])
DeliversTo D group (l ∷ ls) accepted ts =
    DeliversAt D (bytes_eq l.0 group) l ls accepted ts (λ us. DeliversTo D group ls accepted us)

-- the sender before, the answer, the sender after
abbrev pub SenderStep : Type 1
SenderStep = PlainSender → Bool → PlainSender → Type 0

module _ (sends : Sending) (receives : Receiving) (starves : Starving) (refused : Type 0) where
  -- an advice without a route is neither sent nor accepted
  abbrev pub SendsBy : Option Routing → List ℕ → PlainMessage → SenderStep
  SendsBy None bytes m s accepted t = (accepted ≡ false) × (t ≡ s)
  SendsBy (Some r) bytes m s accepted t =
      DeliversTo (Delivers sends receives starves refused bytes (key m)) r.group
      s.links accepted t.links
      × (t.routes ≡ s.routes)

  -- bytes that are not a message are neither sent nor accepted
  abbrev pub SendsMessage : Option PlainMessage → List ℕ → SenderStep
  SendsMessage None bytes s accepted t = (accepted ≡ false) × (t ≡ s)
  SendsMessage (Some m) bytes s accepted t = SendsBy (route_of m s.routes) bytes m s accepted t

  -- an advice goes over the link of its card number's route: the advice, whether it is a repeat,
  -- the sender before, the answer, the sender after
  abbrev pub SendsAdvice : List ℕ → Bool → SenderStep
  SendsAdvice advice repeat s accepted t =
      SendsMessage (message_of (Some advice)) (repeated repeat advice) s accepted t
