-- What is said of a link whose answers are not known: each send and each receive meets the link's
-- own relation.
--
-- - *Hears*: at most a number of receives, each by the link's own
--   relation, until a message has the key, none came, or memory was refused to receive or to
--   read.
-- - *Unanswered*: a request without an answer stays as it was
--   sent if a stand-in decides, and is refused with 91 otherwise.
use Rattle.std.specs.Prelude.{◌≡◌, ◌⊎◌, ℕ, zero, suc, Bool, true, false, List, [], ◌∷◌, Option, Some, None}
use Rattle.std.specs.Prelude.{if◌then◌else◌, codes}
use Rattle.std.specs.Str.{bytes_eq}
use Rattle.iso_msg.specs.Messages.{PlainMessage, value_at}
use Rattle.iso_codec.specs.Reads.{read}
use Rattle.sw_context.specs.Pairs.{Pairs, find, without}
use Rattle.sw_mux.specs.Keys.{key}
use Rattle.sw_messages.specs.declared.class.Class.{Class}
use Rattle.sw_messages.specs.declared.class.Class.TheVariants.{Authorization}
use Rattle.sw_messages.specs.declared.response_code.ResponseCode.TheVariants.{IssuerInoperative, SystemMalfunction}
use Rattle.sw_messages.specs.Requests.{request_in, ok_of, class_of, noted, coded, digits_of}
use Rattle.sw_parts.specs.Quiet.{passes, refuses, leaves_notes}

-- what a link may do, by its state before, the message, its state after
abbrev pub Sending : Type 1
Sending = List ℕ → List ℕ → List ℕ → Type 0

-- the same of a receive, with the message that came, if one did
abbrev pub Receiving : Type 1
Receiving = List ℕ → Option (List ℕ) → List ℕ → Type 0

-- in which states memory may be refused to a receive
abbrev pub Starving : Type 1
Starving = List ℕ → Type 0

-- there is a key, and it is this one
abbrev pub has_key : List ℕ → Option (List ℕ) → Bool
has_key k None = false
has_key k (Some other) = bytes_eq k other

-- the message of these bytes, if it has the key
abbrev pub with_key : List ℕ → Option PlainMessage → Option PlainMessage
with_key k None = None
with_key k (Some m) = if has_key k (key m) then Some m else None

-- the same of bytes, which may not be a message
abbrev pub answer_in : List ℕ → List ℕ → Option PlainMessage
answer_in k bytes = with_key k (ok_of (read bytes))

-- no answer, and nothing more is received
abbrev pub Stops : List ℕ → Option PlainMessage → List ℕ → Type 0
Stops s r t = (r ≡ None) × (t ≡ s)

-- a message came: it is the answer, or what comes later decides
abbrev pub Taken : Option PlainMessage → List ℕ → Option PlainMessage → List ℕ → Type 0 → Type 0
Taken None u r t later = later
Taken (Some m) u r t later = (r ≡ Some m) × (t ≡ u)

-- none came, or a message, which memory may be refused to read
abbrev pub Came : Type 0 → List ℕ → Option (List ℕ)
    → List ℕ → Option PlainMessage → List ℕ → Type 0 → Type 0
Came refused k None u r t later = Stops u r t
Came refused k (Some bytes) u r t later =
    (refused × Stops u r t) ⊎ Taken (answer_in k bytes) u r t later

-- At most this many receives, until the answer with this key or none. They end earlier only where
-- memory is refused, to a receive or to read what came.
abbrev pub Hears : Receiving → Starving → Type 0 → ℕ → List ℕ
    → List ℕ → Option PlainMessage → List ℕ → Type 0
Hears receives starves refused zero k s r t = Stops s r t
Hears receives starves refused (suc n) k s r t =
    (starves s × Stops s r t)
    ⊎ ((a : Option (List ℕ)) × (u : List ℕ) × receives s a u
    × Came refused k a u r t (Hears receives starves refused n k u r t))

-- the answer's 39, or 96 without one
abbrev pub or_code : Option (List ℕ) → List ℕ
or_code None = digits_of SystemMalfunction
or_code (Some rc) = rc

-- with a note of this value, if there is one, under this name
abbrev pub noted_if : Option (List ℕ) → List ℕ → Pairs → Pairs
noted_if None name x = x
noted_if (Some value) name x = noted x name value

-- the context as an answer leaves it: with its 39, or 96 without one, and its 38, and without the note `late`
abbrev pub answered : PlainMessage → Pairs → Pairs
answered m x = without (codes "late")
    (noted_if (value_at 38 m.fields) (codes "auth")
    (noted x (codes "rc") (or_code (value_at 39 m.fields))))

-- the context of a request that was sent, and whose answer has not come
abbrev pub asking : Pairs → Pairs
asking x = noted (noted x (codes "sent") (codes "1")) (codes "late") (codes "1")

-- an answer approves if its 39 is 00
abbrev pub approves : PlainMessage → Bool
approves m = bytes_eq (or_code (value_at 39 m.fields)) (codes "00")

-- without an answer the request stays as it was sent, for a stand-in that decides; where none does,
-- it is refused
abbrev pub Unanswered : Bool → Pairs → ℕ → Pairs → Type 0
Unanswered true x byte y = (byte ≡ leaves_notes) × (y ≡ x)
Unanswered false x byte y = (byte ≡ refuses) × (y ≡ coded IssuerInoperative x)

-- an approval leaves notes, and a refusal refuses; an answer that memory was refused to note is none
abbrev pub Ends : Bool → Type 0 → Option PlainMessage → Pairs → ℕ → Pairs → Type 0
Ends has_stand_in refused None x byte y = Unanswered has_stand_in x byte y
Ends has_stand_in refused (Some m) x byte y =
    ((byte ≡ (if approves m then leaves_notes else refuses)) × (y ≡ answered m x))
    ⊎ (refused × Unanswered has_stand_in x byte y)

abbrev pub bytes_in : Option (List ℕ) → List ℕ
bytes_in None = []
bytes_in (Some bytes) = bytes

-- a preparation over a link: the link's state and the context before, answer byte, state and
-- context after
abbrev pub LinkStep : Type 1
LinkStep = List ℕ → Pairs → ℕ → List ℕ → Pairs → Type 0

-- what contracts see of a query: whether a stand-in decides where no answer comes, and its link
abbrev pub shown_query : Bool → List ℕ → List ℕ
shown_query true s = 1 ∷ s
shown_query false s = 0 ∷ s

-- over a link, and where memory may be refused to read and note what came; with a stand-in, or without
module _ (sends : Sending) (receives : Receiving) (starves : Starving) (refused : Type 0) (has_stand_in : Bool) where
  -- An authorization with a key is sent once, and an answer with its key is waited for.
  abbrev pub Asks : List ℕ → List ℕ → LinkStep
  Asks bytes k s x byte t y =
      (u : List ℕ) × (r : Option PlainMessage)
      × sends s bytes u × Hears receives starves refused 8 k u r t
      × Ends has_stand_in refused r (asking x) byte y

  -- one without a key is not sent, and refused with 96
  abbrev pub AsksByKey : Option (List ℕ) → List ℕ → LinkStep
  AsksByKey None bytes s x byte t y =
      (byte ≡ refuses) × (t ≡ s) × (y ≡ coded SystemMalfunction x)
  AsksByKey (Some k) bytes s x byte t y = Asks bytes k s x byte t y

  -- a request that is not an authorization is passed over
  abbrev pub QueriesByClass : Option Class → PlainMessage → List ℕ → LinkStep
  QueriesByClass (Some Authorization) m bytes s x byte t y =
      AsksByKey (key m) bytes s x byte t y
  QueriesByClass _ m bytes s x byte t y = (byte ≡ passes) × (t ≡ s) × (y ≡ x)

  -- a context without a request that can be read is passed over
  abbrev pub QueriesBy : Option PlainMessage → List ℕ → LinkStep
  QueriesBy None bytes s x byte t y = (byte ≡ passes) × (t ≡ s) × (y ≡ x)
  QueriesBy (Some m) bytes s x byte t y = QueriesByClass (class_of m.mti) m bytes s x byte t y

  -- query, as it prepares
  abbrev pub Queries : LinkStep
  Queries s x byte t y =
      QueriesBy (request_in x) (bytes_in (find (codes "request") x)) s x byte t y

-- the same by what contracts see of it, which tells whether it has a stand-in
abbrev pub QueriesAs : Sending → Receiving → Starving → Type 0 → LinkStep
QueriesAs sends receives starves refused o x byte p y =
    (has_stand_in : Bool) × (s : List ℕ) × (t : List ℕ)
    × (o ≡ shown_query has_stand_in s) × (p ≡ shown_query has_stand_in t)
    × Queries sends receives starves refused has_stand_in s x byte t y
