-- What came of an input, in its order: requests, messages that are passed over, and how it ended. Before each message of a frame is a header
-- of `n` bytes.
--
-- - *Came*: what the thread that reads may hand over: what its frames are, up to those that were read, and after the
--   last one how the input ended. *Heard* and *HeardAll*: what the thread that gets it knows of the input.
use Rattle.std.specs.Prelude.{◌≡◌, ℕ, ⊤, Bool, List, [], ◌∷◌, ◌++◌, map, Option, Some, None, Result, Ok, Err, option_to_list}
use Rattle.sw_context.specs.Pairs.{Pairs}
use Rattle.sw_frame.specs.Stream.{State}
use Rattle.run_input.specs.declared.arrival.Arrival.{Arrival}
use Rattle.run_input.specs.declared.arrival.Arrival.TheVariants.{Ended, Passed, Request}
use Rattle.run_input.specs.declared.arrival.PassedOver.{PassedOver}
use Rattle.run_input.specs.declared.arrival.ReadError.{ReadError}
use Rattle.run_input.specs.declared.frames.StreamEnd.{StreamEnd}
use Rattle.run_input.specs.Requests.{BeginsWith, EndsAs, ReadTo, Reading, Readable, Reads, Unreadable, headers_in, reading_of, readings, requests_in}

-- what was read of the frames that they came of
abbrev pub readings_of : List Arrival → List Reading
readings_of [] = []
readings_of (Request x ∷ list) = Readable x ∷ readings_of list
readings_of (Passed p ∷ list) = Unreadable p.header.items ∷ readings_of list
readings_of (Ended r ∷ list) = readings_of list

-- the contexts of the requests among them
abbrev pub requests_of : List Arrival → List Pairs
requests_of list = requests_in (readings_of list)

-- the headers of the messages among them that are passed over
abbrev pub headers_of : List Arrival → List (List ℕ)
headers_of list = headers_in (readings_of list)

-- all of them are messages
abbrev pub AreMessages : List Arrival → Type 0
AreMessages [] = ⊤
AreMessages (Request x ∷ list) = AreMessages list
AreMessages (Passed p ∷ list) = AreMessages list
AreMessages (Ended r ∷ list) = ⊥

-- only the last of them is no message, and this holds of how the input ended
abbrev pub EndWith : (StreamEnd → Type 0) → List Arrival → Type 0
EndWith fact [] = ⊤
EndWith fact (Request x ∷ list) = EndWith fact list
EndWith fact (Passed p ∷ list) = EndWith fact list
EndWith fact (Ended (Ok e) ∷ list) = (list ≡ []) × fact e
EndWith fact (Ended (Err e) ∷ list) = list ≡ []

-- a frame whose header has `n` bytes is this
pub record IsArrivalOf (n : ℕ) (frame : List ℕ) (a : Arrival) : Type 0 where
  pub reading : readings_of (a ∷ []) ≡ reading_of n frame ∷ []
  pub is_message : AreMessages (a ∷ [])

-- Of an input read so far these messages came, and then there are more frames.
pub record CameSo (n : ℕ) (input left : Option (List ℕ)) (s : State) (list : List Arrival) (more : List (List ℕ)) : Type 0 where
  pub frames : List (List ℕ)
  pub reads : Reads input left (frames ++ more) s
  pub readings_are : readings_of list ≡ readings n frames
  pub are_messages : AreMessages list

-- These came of an input, the oldest first. More of it may have been read, unless it has ended.
pub record Came (n : ℕ) (input : Option (List ℕ)) (list : List Arrival) : Type 0 where
  pub frames : List (List ℕ)
  pub later : List (List ℕ)
  pub left : Option (List ℕ)
  pub state : State
  pub reads : Reads input left (frames ++ later) state
  pub readings_are : readings_of list ≡ readings n frames
  pub ends : EndWith (λ e. (later ≡ []) × EndsAs e state left) list

-- an input begins with frames of which the first came so far
pub record Heard (n : ℕ) (input : Option (List ℕ)) (list : List Arrival) : Type 0 where
  pub frames : List (List ℕ)
  pub begins : BeginsWith input frames
  pub later : List Reading
  pub readings_are : readings n frames ≡ readings_of list ++ later

-- an input was read to its end, and these came of it
pub record HeardAll (n : ℕ) (input : Option (List ℕ)) (end : StreamEnd) (list : List Arrival) : Type 0 where
  pub frames : List (List ℕ)
  pub read : ReadTo end input frames
  pub readings_are : readings n frames ≡ readings_of list

-- the last of them is how the input ended
abbrev pub IsLast : Result StreamEnd ReadError → List Arrival → Type 0
IsLast r list = (before : List Arrival) × (list ≡ before ++ Ended r ∷ [])

-- what is known of the input once it has ended like this
abbrev pub HeardTo : ℕ → Option (List ℕ) → Result StreamEnd ReadError → List Arrival → Type 0
HeardTo n input (Ok e) list = HeardAll n input e list
HeardTo n input (Err e) list = ⊤

-- What a leg has heard: all that came till now, how many messages are passed over in it, how the input ended, if it did, and whether it
-- has answered that it gives no more.
pub record Hearing : Type 0 where
  pub got : List Arrival
  pub passed : ℕ
  pub end : Option (Result StreamEnd ReadError)
  pub ended : Bool

-- since these came, more came, of whose messages these are passed over
pub record CameSince (before after : List Arrival) (passed : List PassedOver) : Type 0 where
  pub came : List Arrival
  pub came_are : after ≡ before ++ came
  pub headers_are : map (λ p. p.header.items) passed ≡ headers_of came

-- how the input ended is the last that came
abbrev pub IfLast : Option (Result StreamEnd ReadError) → List Arrival → Type 0
IfLast None list = ⊤
IfLast (Some r) list = IsLast r list

-- how the input ended, as far as it is known after one more arrival
abbrev pub end_after : Option (Result StreamEnd ReadError) → Arrival → Option (Result StreamEnd ReadError)
end_after known (Request x) = known
end_after known (Passed p) = known
end_after known (Ended r) = Some r

-- the contexts in an answer: that of a request, or none
abbrev pub heard : Option (Option Pairs) → List Pairs
heard None = []
heard (Some next) = option_to_list next
