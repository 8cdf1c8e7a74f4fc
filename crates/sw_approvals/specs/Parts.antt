-- The switch's participants as they prepare a request, and which of them approve it.
use Rattle.std.specs.Prelude.{◌≡◌, ℕ, Bool, true, List, Some, codes}
use Rattle.iso_msg.specs.Messages.{PlainMessage}
use Rattle.sw_book.specs.Items.{PlainBook}
use Rattle.sw_context.specs.Pairs.{Pairs, find}
use Rattle.sw_messages.specs.Requests.{class_in}
use Rattle.sw_messages.specs.declared.response_code.ResponseCode.TheVariants.{Approved, SystemMalfunction}
use Rattle.sw_parts.specs.Checks.{ChecksFields}
use Rattle.sw_parts.specs.Forwards.{forward_answer}
use Rattle.sw_parts.specs.Holding.{Holds}
use Rattle.sw_parts.specs.Queries.{Hears, Queries, Receiving, Sending, Starving, approves, bytes_in}
use Rattle.sw_parts.specs.Quiet.{leaves_notes}
use Rattle.sw_parts.specs.Responses.{responded}
use Rattle.sw_parts.specs.Reversals.{reverse_answer}
use Rattle.sw_parts.specs.Routes.{ChecksRoute}
use Rattle.sw_parts.specs.StandIns.{StandsIn, is_open}
use Rattle.sw_parts.specs.declared.route.Routing.{Routing}
use Rattle.sw_timed.specs.Timing.{MayNote}

-- the switch's participants; a query asks a host, for which the switch stands in or not
pub data Part : Type 0 where
  Check : Part
  Limits : Part
  Route : Part
  Reverse : Part
  Query : (has_stand_in : Bool) → Part
  StandIn : Part
  Forward : Part
  Respond : Part

-- over links of hosts, and where memory may be refused to read and note what came
module _ (sends : Sending) (receives : Receiving) (starves : Starving) (refused : Type 0) where
  -- what a participant does as it prepares: context before, answer byte, context after
  abbrev pub Prepares : Part → Pairs → ℕ → Pairs → Type 0
  Prepares Check x byte y = ChecksFields x byte y
  Prepares Limits x byte y = (id : ℕ) × (book : PlainBook) × (after : PlainBook) × Holds id book x byte after y
  Prepares Route x byte y = (routes : List Routing) × ChecksRoute routes x byte y
  Prepares Reverse x byte y = (byte ≡ reverse_answer (class_in x)) × (y ≡ x)
  Prepares (Query has_stand_in) x byte y =
      (z : Pairs) × (s : List ℕ) × (t : List ℕ) × Queries sends receives starves refused has_stand_in s x byte t z × MayNote z y
  Prepares StandIn x byte y = (most : ℕ) × StandsIn most x byte y
  Prepares Forward x byte y = (byte ≡ forward_answer (class_in x)) × (y ≡ x)
  Prepares Respond x byte y = (byte ≡ leaves_notes) × (y ≡ responded Approved x)

  -- the same while the transaction aborts, where it is abort-aware
  abbrev pub PreparesForAbort : Part → Pairs → Pairs → Type 0
  PreparesForAbort Respond x y = y ≡ responded SystemMalfunction x
  PreparesForAbort p x y = y ≡ x

  -- a host was sent the request, and its answer was an approval
  abbrev pub HostApproves : Pairs → Type 0
  HostApproves x =
      (k : List ℕ) × (s : List ℕ) × (u : List ℕ) × (t : List ℕ) × (m : PlainMessage)
      × sends s (bytes_in (find (codes "request") x)) u × Hears receives starves refused 8 k u (Some m) t × (approves m ≡ true)

  -- the participant approves the request: its host said so, or no answer came and the switch stands in
  abbrev pub Approves : Part → Pairs → ℕ → Type 0
  Approves (Query has_stand_in) x byte = HostApproves x
  Approves StandIn x byte = (is_open x ≡ true) × (byte ≡ leaves_notes)
  Approves p x byte = ⊥
