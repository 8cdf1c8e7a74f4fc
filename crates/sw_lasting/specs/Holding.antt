-- What the limits of a lasting book do: they hold the amount of an authorization for its card and day, spend it at
-- commit, let it go at abort, and give back what a reversal names. After a restart they take the item of a transaction
-- that they do not have from its context.
use Rattle.std.specs.Prelude.{◌≡◌, ◌≢◌, ◌⊎◌, ℕ, ◌-◌, ◌≤◌, ◌++◌, max, Bool, ◌&&◌, List, Option, Some, None, is_none, is_some}
use Rattle.std.specs.Prelude.{if◌then◌else◌}
use Rattle.sha2.specs.Sha256.{sha256}
use Rattle.iso_msg.specs.Messages.{PlainMessage}
use Rattle.sw_context.specs.Pairs.{Pairs, refusal as put_refusal}
use Rattle.day_book.specs.declared.error.DayBookError.{DayBookError}
use Rattle.day_book.specs.declared.error.DayBookError.TheVariants.{OverLimit, AmountTooLarge}
use Rattle.day_book.specs.declared.item.DayItem.{DayItem}
use Rattle.day_book.specs.declared.item.State.{State}
use Rattle.day_book.specs.declared.item.State.TheVariants.{Open, Reversed, Used}
use Rattle.day_book.specs.Items.{Items, item_at, newest, request_day, with_items}
use Rattle.day_book.specs.Changes.{forgotten, in_state, released, reversed, settled, with_item}
use Rattle.day_book.specs.Taking.{refusal}
use Rattle.sw_base.specs.Refusals.{or_else}
use Rattle.sw_book.specs.declared.item.Item as asked_item
use Rattle.sw_book.specs.declared.item.BookKey.{BookKey}
use Rattle.sw_messages.specs.declared.class.Class.{Class}
use Rattle.sw_messages.specs.declared.class.Class.TheVariants.{Authorization, Reversal}
use Rattle.sw_messages.specs.declared.response_code.ResponseCode.{ResponseCode}
use Rattle.sw_messages.specs.declared.response_code.ResponseCode.TheVariants as rc
use Rattle.sw_messages.specs.Requests.{request_in, class_of, coded}
use Rattle.sw_parts.specs.Asking.{asked, original}
use Rattle.sw_parts.specs.Quiet.{passes, refuses, joins}
use Rattle.sw_lasting.specs.Keeping.{Keeping}
use Rattle.sw_lasting.specs.Noting.{limits_name, day_bytes, day_in, with_day}

-- ready, to be notified of the outcome, and the context is to be saved (PREPARED)
abbrev pub reserves : ℕ
reserves = 0x01

-- what a request asks to hold on a day
abbrev pub item_on : List ℕ → ℕ → asked_item.Item → DayItem
item_on salt day item = record {
  card = sha256 (salt ++ item.card.digits);
  request = sha256 (salt ++ item.key.bytes);
  amount = item.amount;
  day = day;
  state = Open;
}

-- the response code of a refusal of the book
abbrev pub code_for : DayBookError → ResponseCode
code_for OverLimit = rc.ExceedsLimit
code_for AmountTooLarge = rc.InvalidAmount
code_for _ = rc.DuplicateTransmission

abbrev pub with_days : Items → Keeping → Keeping
with_days items k = record k { days = with_items k.days items }

-- A day is then today, days before the one before it are out of reach, and at most two items of these are forgotten.
abbrev pub moved_on : ℕ → Keeping → Keeping
moved_on day k =
    let reach = max k.reach (day - 1) in
    record {
      days = with_items k.days (forgotten reach (forgotten reach k.days.items));
      reach = reach;
      today = day;
      salt = k.salt;
    }

-- an item is held on its day
abbrev pub held_on : ℕ → DayItem → Keeping → Keeping
held_on id item k = moved_on item.day (with_days (with_item id item k.days.items) k)

-- a preparation: what is kept and the context before, answer byte, what is kept and the context after
abbrev pub KeepingStep : Type 1
KeepingStep = Keeping → Pairs → ℕ → Keeping → Pairs → Type 0

-- an amount is held, and its day noted, or the refusal is noted; a context that does not take the day holds nothing
abbrev pub HeldBy : Option DayBookError → ℕ → DayItem → KeepingStep
HeldBy None id item k x byte after y =
    ((put_refusal x limits_name (day_bytes item.day) ≡ None) × (byte ≡ reserves)
    × (after ≡ held_on id item k) × (y ≡ with_day item.day x))
    ⊎ ((put_refusal x limits_name (day_bytes item.day) ≢ None) × (byte ≡ refuses)
    × (after ≡ k) × (y ≡ coded rc.SystemMalfunction x))
HeldBy (Some e) id item k x byte after y = (byte ≡ refuses) × (after ≡ k) × (y ≡ coded (code_for e) x)

-- what was just held is noted, or freed again
abbrev pub NotedBy : ℕ → DayItem → KeepingStep
NotedBy id item k x byte after y =
    ((put_refusal x limits_name (day_bytes item.day) ≡ None) × (byte ≡ reserves)
    × (after ≡ moved_on item.day k) × (y ≡ with_day item.day x))
    ⊎ ((put_refusal x limits_name (day_bytes item.day) ≢ None) × (byte ≡ refuses)
    × (after ≡ with_days (released id k.days.items) k) × (y ≡ coded rc.SystemMalfunction x))

abbrev pub PassesBy : ℕ → KeepingStep
PassesBy answer k x byte after y = (byte ≡ answer) × (after ≡ k) × (y ≡ x)

-- what a request asks is held on a day that is not before today, or refused; one that asks for nothing is passed over
abbrev pub HoldsAsked : Option asked_item.Item → ℕ → KeepingStep
HoldsAsked None id k x byte after y = PassesBy passes k x byte after y
HoldsAsked (Some item) id k x byte after y = (day : ℕ) × (k.today ≤ day)
    × HeldBy (refusal k.days id (item_on k.salt day item)) id (item_on k.salt day item) k x byte after y

-- an authorization holds its amount, a reversal joins, and any other request is passed over
abbrev pub HoldsByClass : Option Class → PlainMessage → ℕ → KeepingStep
HoldsByClass (Some Authorization) m id k x byte after y = HoldsAsked (asked m) id k x byte after y
HoldsByClass (Some Reversal) m id k x byte after y = PassesBy joins k x byte after y
HoldsByClass _ m id k x byte after y = PassesBy passes k x byte after y

abbrev pub HoldsBy : Option PlainMessage → ℕ → KeepingStep
HoldsBy None id k x byte after y = PassesBy passes k x byte after y
HoldsBy (Some m) id k x byte after y = HoldsByClass (class_of m.mti) m id k x byte after y

-- the limits, as they prepare
abbrev pub Holds : ℕ → KeepingStep
Holds id k x byte after y = HoldsBy (request_in x) id k x byte after y

-- the item of a transaction by its context: what its request asks, on the day that is noted
abbrev pub noted_on : List ℕ → Option ℕ → Option asked_item.Item → Option DayItem
noted_on salt (Some day) (Some item) = Some (item_on salt day item)
noted_on salt _ _ = None

-- the item of the context is put in this state, if there is one
abbrev pub put_noted : ℕ → State → Option DayItem → Keeping → Keeping
put_noted id state None k = k
put_noted id state (Some item) k = with_days (with_item id (in_state state item) k.days.items) k

-- after a restart an item that is not known is taken from the context; otherwise what is held is spent
abbrev pub committed_item : ℕ → Bool → Pairs → PlainMessage → Keeping → Keeping
committed_item id recovering x m k =
    if recovering && is_none (item_at id k.days.items) then put_noted id Used (noted_on k.salt (day_in x) (asked m)) k
    else with_days (settled id k.days.items) k

-- the newest item of a request, today or the day before
abbrev pub recent : List ℕ → ℕ → Items → Option ℕ
recent request today items =
    or_else (newest (record { request = request; day = today }) items)
    (newest (record { request = request; day = today - 1 }) items)

abbrev pub given_back_at : Option ℕ → Keeping → Keeping
given_back_at None k = k
given_back_at (Some id) k = with_days (reversed id k.days.items) k

abbrev pub given_back : Option BookKey → Keeping → Keeping
given_back None k = k
given_back (Some key) k = given_back_at (recent (sha256 (k.salt ++ key.bytes)) k.today k.days.items) k

abbrev pub committed_class : Option Class → ℕ → Bool → Pairs → PlainMessage → Keeping → Keeping
committed_class (Some Authorization) id recovering x m k = committed_item id recovering x m k
committed_class (Some Reversal) id recovering x m k = given_back (original m) k
committed_class _ id recovering x m k = k

abbrev pub committed_by : Option PlainMessage → ℕ → Bool → Pairs → Keeping → Keeping
committed_by None id recovering x k = k
committed_by (Some m) id recovering x k = committed_class (class_of m.mti) id recovering x m k

-- what is kept after commit
abbrev pub committed : ℕ → Bool → Pairs → Keeping → Keeping
committed id recovering x k = committed_by (request_in x) id recovering x k

-- the request of an aborted transaction is made known, unless its day knows it
abbrev pub made_known : ℕ → Option DayItem → Keeping → Keeping
made_known id None k = k
made_known id (Some item) k =
    if is_some (newest (request_day item) k.days.items) then k else put_noted id Reversed (Some item) k

abbrev pub asked_in : Option PlainMessage → Option asked_item.Item
asked_in None = None
asked_in (Some m) = asked m

-- what is kept after abort
abbrev pub aborted : ℕ → Bool → Pairs → Keeping → Keeping
aborted id recovering x k =
    if recovering && is_none (item_at id k.days.items)
    then made_known id (noted_on k.salt (day_in x) (asked_in (request_in x))) k
    else with_days (released id k.days.items) k
