-- What `limits` does: it holds the amount of an authorization, spends it at commit, lets it go at
-- abort, and gives back what a reversal names.
use Rattle.std.specs.Prelude.{◌≡◌, ℕ, Option, Some, None}
use Rattle.iso_msg.specs.Messages.{PlainMessage}
use Rattle.sw_context.specs.Pairs.{Pairs}
use Rattle.sw_book.specs.declared.error.BookError.{BookError}
use Rattle.sw_book.specs.declared.item.BookKey.{BookKey}
use Rattle.sw_book.specs.declared.item.Item.{Item}
use Rattle.sw_book.specs.Items.{PlainBook, with_items, with_item, refusal}
use Rattle.sw_book.specs.Items.{settled, released, reversed}
use Rattle.sw_messages.specs.declared.class.Class.{Class}
use Rattle.sw_messages.specs.declared.class.Class.TheVariants.{Authorization, Reversal}
use Rattle.sw_messages.specs.Requests.{request_in, class_of, coded}
use Rattle.sw_parts.specs.Asking.{asked, original, code_for}
use Rattle.sw_parts.specs.Quiet.{passes, refuses, joins}

-- a preparation: book and context before, answer byte, book and context after
abbrev pub BookStep : Type 1
BookStep = PlainBook → Pairs → ℕ → PlainBook → Pairs → Type 0

-- an amount is held, or the refusal is noted
abbrev pub HeldBy : Option BookError → ℕ → Item → BookStep
HeldBy None id item book x byte after y =
    (byte ≡ joins) × (after ≡ with_items book (with_item id item book.items)) × (y ≡ x)
HeldBy (Some e) id item book x byte after y =
    (byte ≡ refuses) × (after ≡ book) × (y ≡ coded (code_for e) x)

-- with this answer byte, book and context stay as they are
abbrev pub PassesBy : ℕ → BookStep
PassesBy answer book x byte after y = (byte ≡ answer) × (after ≡ book) × (y ≡ x)

-- what a request asks is held under the transaction's id, or refused; one that asks for nothing is passed over
abbrev pub HoldsAsked : Option Item → ℕ → BookStep
HoldsAsked None id book x byte after y = PassesBy passes book x byte after y
HoldsAsked (Some item) id book x byte after y =
    HeldBy (refusal book id item.card item.key item.amount) id item book x byte after y

-- an authorization holds its amount, a reversal joins, and any other request is passed over
abbrev pub HoldsByClass : Option Class → PlainMessage → ℕ → BookStep
HoldsByClass (Some Authorization) m id book x byte after y =
    HoldsAsked (asked m) id book x byte after y
HoldsByClass (Some Reversal) m id book x byte after y = PassesBy joins book x byte after y
HoldsByClass _ m id book x byte after y = PassesBy passes book x byte after y

-- a context without a request that can be read is passed over
abbrev pub HoldsBy : Option PlainMessage → ℕ → BookStep
HoldsBy None id book x byte after y = PassesBy passes book x byte after y
HoldsBy (Some m) id book x byte after y = HoldsByClass (class_of m.mti) m id book x byte after y

-- limits, as it prepares
abbrev pub Holds : ℕ → BookStep
Holds id book x byte after y = HoldsBy (request_in x) id book x byte after y

-- the item with this key goes from used to reversed
abbrev pub gives_back : Option BookKey → PlainBook → PlainBook
gives_back None book = book
gives_back (Some key) book = with_items book (reversed key book.items)

-- what a request names is given back
abbrev pub given_back : Option PlainMessage → PlainBook → PlainBook
given_back None book = book
given_back (Some m) book = gives_back (original m) book

-- an authorization's item is settled, a reversal gives back what it names, and any other request changes nothing
abbrev pub committed_class : Option Class → PlainMessage → ℕ → PlainBook → PlainBook
committed_class (Some Authorization) m id book = with_items book (settled id book.items)
committed_class (Some Reversal) m id book = gives_back (original m) book
committed_class _ m id book = book

-- a context without a request that can be read changes nothing
abbrev pub committed_by : Option PlainMessage → ℕ → PlainBook → PlainBook
committed_by None id book = book
committed_by (Some m) id book = committed_class (class_of m.mti) m id book

-- the book after commit, and after abort
abbrev pub committed : ℕ → Pairs → PlainBook → PlainBook
committed id x book = committed_by (request_in x) id book

abbrev pub aborted : ℕ → PlainBook → PlainBook
aborted id book = with_items book (released id book.items)
