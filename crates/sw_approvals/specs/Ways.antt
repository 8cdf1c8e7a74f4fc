-- The way of a request through a flow: the participants that prepare it, one after the other.
--
-- - *Way, stop, sound way*: the participants that prepare a
--   request, one after the other; check before the query, and the stand-in after it. *Approves*
--   (`Parts.antt`): a host that answered 00, or a stand-in that decided. *Way through a flow*
--   (`Flows.antt`): main, with the group that a route picks after `route`.
use Rattle.std.specs.Prelude.{◌≡◌, ◌⊎◌, ◌<◌, ℕ, Bool, true, false, not, List, [], ◌∷◌, ◌++◌, length, Some, None, codes, if◌then◌else◌}
use Rattle.iso_msg.specs.Messages.{PlainMessage, value_at}
use Rattle.sw_context.specs.Pairs.{Pairs, find}
use Rattle.sw_messages.specs.Requests.{class_in}
use Rattle.sw_messages.specs.Responses.{response_to}
use Rattle.sw_messages.specs.declared.class.Class.TheVariants.{Authorization}
use Rattle.sw_messages.specs.declared.response_code.ResponseCode.{ResponseCode}
use Rattle.sw_messages.specs.declared.response_code.ResponseCode.TheVariants.{Approved, SystemMalfunction}
use Rattle.sw_participant.specs.Answers.{is_prepared}
use Rattle.sw_parts.specs.Queries.{Receiving, Sending, Starving}
use Rattle.sw_approvals.specs.Parts.{Approves, Check, Part, Prepares, PreparesForAbort, Query, StandIn}

-- a place of a way: the participant, and whether it is called while the transaction aborts
pub record Stop : Type 0 where
  pub part : Part
  pub aware : Bool

-- a call that was made: the answer byte, the context before and after
pub record PreparedCall : Type 0 where
  pub part : Part
  pub byte : ℕ
  pub before : Pairs
  pub after : Pairs

module _ (sends : Sending) (receives : Receiving) (starves : Starving) (refused : Type 0) where
  -- While a transaction prepares, each participant of the way is called in its turn. Once one is not prepared, the transaction
  -- aborts, and the abort-aware ones alone are called. Whether it aborts and the context, the calls, and the same after them.
  abbrev pub Goes : List Stop → Bool → Pairs → List PreparedCall → Bool → Pairs → Type 0
  Goes [] aborting x calls after z = (calls ≡ []) × (after ≡ aborting) × (z ≡ x)
  Goes (p ∷ ps) false x calls after z =
      (c : PreparedCall) × (rest : List PreparedCall)
      × (calls ≡ c ∷ rest) × (c.part ≡ p.part) × (c.before ≡ x)
      × Prepares sends receives starves refused p.part x c.byte c.after
      × Goes ps (not (is_prepared c.byte)) c.after rest after z
  Goes (p ∷ ps) true x calls after z =
      (y : Pairs) × PreparesForAbort sends receives starves refused p.part x y × Goes ps true (if p.aware then y else x) calls after z

  -- one of the calls approves the request
  abbrev pub SomeApproves : List PreparedCall → Type 0
  SomeApproves [] = ⊥
  SomeApproves (c ∷ cs) = Approves sends receives starves refused c.part c.before c.byte ⊎ SomeApproves cs

abbrev pub is_check : Part → Bool
is_check Check = true
is_check p = false

abbrev pub is_stand_in : Part → Bool
is_stand_in StandIn = true
is_stand_in p = false

-- one of the participants passes the test
abbrev pub Has : (Part → Bool) → List Stop → Type 0
Has test [] = ⊥
Has test (p ∷ ps) = (test p.part ≡ true) ⊎ Has test ps

-- A way on which an authorization is not approved by silence: it asks a host, once the request was checked, and a stand-in
-- comes later if the host needs one.
pub record IsSoundWay (way : List Stop) : Type 0 where
  pub before : List Stop
  pub query : Stop
  pub has_stand_in : Bool
  pub after : List Stop
  pub is : way ≡ before ++ query ∷ after
  pub asks : query.part ≡ Query has_stand_in
  pub checked : Has is_check before
  pub stands_in : has_stand_in ≡ true → Has is_stand_in after

-- a request for an authorization, on which nobody has decided
pub record IsOpenAuthorization (x : Pairs) : Type 0 where
  pub authorizes : class_in x ≡ Some Authorization
  pub undecided : find (codes "rc") x ≡ None

-- the contexts of the calls have room for the notes of one more participant
abbrev pub HaveRoom : List PreparedCall → Type 0
HaveRoom [] = Unit {0}
HaveRoom (c ∷ cs) = (length c.before < 60) × HaveRoom cs

-- what respond takes where no code was noted
abbrev pub default_code : Bool → ResponseCode
default_code false = Approved
default_code true = SystemMalfunction

-- the response that respond gives then approves the request (field 39 is 00)
abbrev pub IsApproved : PlainMessage → Bool → Pairs → Type 0
IsApproved m aborting x = value_at 39 (response_to m (default_code aborting) x).fields ≡ Some (codes "00")
