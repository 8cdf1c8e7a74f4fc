-- What an input gives, message by message.
-- for: reader::put_messages, reader::read_all, arrival::arrival_of
use Rattle.std.proofs.Common.{◌≡◌, ℕ, List, [], ◌∷◌, ◌++◌, length, map, Option, Some, None, Result, Ok, Err, refl, sym, ap, ◌∙◌, append_assoc, append-nil, ◌<◌, ◌+◌, drop, get_or, subst}
use Rattle.std.proofs.lemmas.Bool.{false≢true}
use Rattle.std.proofs.lemmas.List.{drop_more}
use Rattle.std.specs.Global.{Vec}
use Rattle.sw_frame.specs.Feeds.{messages}
use Rattle.sw_context.specs.Pairs.{Pairs}
use Rattle.sw_frame.specs.Stream.{State, blank}
use Rattle.iso_codec.specs.declared.error.DecodeError.{DecodeError}
use Rattle.iso_codec.specs.Reads.{read, type_of}
use Rattle.std.specs.Prelude.{is_some, true, IsErr}
use Rattle.run_input.specs.declared.arrival.Arrival.{Arrival}
use Rattle.run_input.specs.declared.arrival.Arrival.TheVariants.{Ended, Passed, Request}
use Rattle.run_input.specs.declared.arrival.PassedOver.{PassedOver}
use Rattle.run_input.specs.declared.arrival.ReadError.{ReadError}
use Rattle.run_input.specs.declared.frames.StreamEnd.{StreamEnd}
use Rattle.run_input.specs.Requests.{EndsAs, Readable, Reading, ReadsOn, Unreadable, header_of, headers_in, message_in, readings, request_of, requests_in}
use Rattle.run_input.specs.Arrivals.{AreMessages, Came, CameSince, CameSo, EndWith, IfLast, IsArrivalOf, end_after, headers_of, readings_of, requests_of}
use Rattle.run_input.proofs.Readings.{headers_in_append, nothing_read, readings_more, requests_in_append, typed_reading, unread_reading}

pub readings_of_append : (xs ys : List Arrival) → readings_of (xs ++ ys) ≡ readings_of xs ++ readings_of ys
readings_of_append [] ys = refl
readings_of_append (Request x ∷ xs) ys = ap (λ (l : List Reading). Readable x ∷ l) (readings_of_append xs ys)
readings_of_append (Passed p ∷ xs) ys = ap (λ (l : List Reading). Unreadable p.header.items ∷ l) (readings_of_append xs ys)
readings_of_append (Ended r ∷ xs) ys = readings_of_append xs ys

pub requests_of_append : (xs ys : List Arrival) → requests_of (xs ++ ys) ≡ requests_of xs ++ requests_of ys
requests_of_append xs ys = ap requests_in (readings_of_append xs ys) ∙ requests_in_append (readings_of xs) (readings_of ys)

pub headers_of_append : (xs ys : List Arrival) → headers_of (xs ++ ys) ≡ headers_of xs ++ headers_of ys
headers_of_append xs ys = ap headers_in (readings_of_append xs ys) ∙ headers_in_append (readings_of xs) (readings_of ys)

-- messages

messages_append : (xs ys : List Arrival) → AreMessages xs → AreMessages ys → AreMessages (xs ++ ys)
messages_append [] ys m n = n
messages_append (Request x ∷ xs) ys m n = messages_append xs ys m n
messages_append (Passed p ∷ xs) ys m n = messages_append xs ys m n
messages_append (Ended r ∷ xs) ys m n = absurd m

messages_end : (fact : StreamEnd → Type 0) (xs : List Arrival) → AreMessages xs → EndWith fact xs
messages_end fact [] m = tt
messages_end fact (Request x ∷ xs) m = messages_end fact xs m
messages_end fact (Passed p ∷ xs) m = messages_end fact xs m
messages_end fact (Ended r ∷ xs) m = absurd m

messages_then : (fact : StreamEnd → Type 0) (xs : List Arrival) (r : Result StreamEnd ReadError) → AreMessages xs → EndWith fact (Ended r ∷ []) → EndWith fact (xs ++ Ended r ∷ [])
messages_then fact [] r m e = e
messages_then fact (Request x ∷ xs) r m e = messages_then fact xs r m e
messages_then fact (Passed p ∷ xs) r m e = messages_then fact xs r m e
messages_then fact (Ended q ∷ xs) r m e = absurd m

-- a frame whose message has a type is a request
pub request_arrival : (n : ℕ) (frame : List ℕ) (x : Pairs) → is_some (type_of (read (message_in n frame))) ≡ true → x ≡ request_of n frame
    → IsArrivalOf n frame (Request x)
request_arrival n frame x typed is = record {
  reading = ap (λ (p : Pairs). Readable p ∷ []) is ∙ ap (λ (r : Reading). r ∷ []) (sym (typed_reading n (read (message_in n frame)) frame typed));
  is_message = tt;
}

-- one that cannot be read is passed over, with its header
pub passed_arrival : (n : ℕ) (frame : List ℕ) (e : DecodeError) (p : PassedOver) → read (message_in n frame) ≡ Err e → p.header.items ≡ header_of n frame
    → IsArrivalOf n frame (Passed p)
passed_arrival n frame e p is header = record {
  reading = ap (λ (h : List ℕ). Unreadable h ∷ []) header ∙ ap (λ (r : Reading). r ∷ []) (sym (unread_reading n (read (message_in n frame)) e frame is));
  is_message = tt;
}

-- what came so far

pub so_none : (n : ℕ) (input : Option (List ℕ)) (s : State) → s ≡ blank → CameSo n input input s [] []
so_none n input s same = record {
  frames = [];
  reads = nothing_read input s same;
  readings_are = refl;
  are_messages = tt;
}

-- before anything was read of the input
pub so_begins : (n : ℕ) (input left : Option (List ℕ)) (s : State) (got : List Arrival) → left ≡ input → s ≡ blank → got ≡ [] → CameSo n input left s got []
so_begins n input left s got at same none = rw (at, none) (so_none n input s same)

pub so_read : (n : ℕ) (input left then : Option (List ℕ)) (s t : State) (got : List Arrival) (more : List (List ℕ)) → CameSo n input left s got []
    → ReadsOn left s more then t → CameSo n input then t got more
so_read n input left then s t got more so reads = record {
  frames = so.frames;
  reads = reads input so.frames (rw append-nil at so.reads);
  readings_are = so.readings_are;
  are_messages = so.are_messages;
}

pub so_put : (n : ℕ) (input left : Option (List ℕ)) (s : State) (got : List Arrival) (message : List ℕ) (more : List (List ℕ)) (a : Arrival)
    → CameSo n input left s got (message ∷ more) → IsArrivalOf n message a → CameSo n input left s (got ++ a ∷ []) more
so_put n input left s got message more a so is = record {
  frames = so.frames ++ message ∷ [];
  reads = rw append_assoc so.reads;
  readings_are =
      readings_of_append got (a ∷ []) ∙ (ap (λ (l : List Reading). l ++ readings_of (a ∷ [])) so.readings_are
      ∙ (ap (λ (l : List Reading). readings n so.frames ++ l) is.reading ∙ sym (readings_more n so.frames message)));
  are_messages = messages_append got (a ∷ []) so.are_messages is.is_message;
}

-- what is left of a list of messages begins with the one at this place
dropped : (list : List (Vec ℕ)) (i : ℕ) (m : Vec ℕ) (bytes : List ℕ) → i < length list → m ≡ get_or list i m → bytes ≡ m.items
    → messages (drop i list) ≡ bytes ∷ messages (drop (i + 1) list)
dropped list i m bytes lt at is =
    let front : drop i list ≡ m ∷ drop (i + 1) list = drop_more list i m lt ∙ ap (λ (v : Vec ℕ). v ∷ drop (i + 1) list) (sym at) in
    ap messages front ∙ ap (λ (b : List ℕ). b ∷ messages (drop (i + 1) list)) (sym is)

pub so_next : (n : ℕ) (input left : Option (List ℕ)) (s : State) (got : List Arrival) (list : List (Vec ℕ)) (i : ℕ) (m : Vec ℕ) (bytes : List ℕ) (a : Arrival)
    → i < length list → m ≡ get_or list i m → bytes ≡ m.items → CameSo n input left s got (messages (drop i list)) → IsArrivalOf n bytes a
    → CameSo n input left s (got ++ a ∷ []) (messages (drop (i + 1) list))
so_next n input left s got list i m bytes a lt at is so arrival =
    so_put n input left s got bytes (messages (drop (i + 1) list)) a
    (subst (λ (l : List (List ℕ)). CameSo n input left s got l) (dropped list i m bytes lt at is) so) arrival

-- what was put

pub came_so : (n : ℕ) (input left : Option (List ℕ)) (s : State) (got : List Arrival) (more : List (List ℕ)) → CameSo n input left s got more → Came n input got
came_so n input left s got more so = record {
  frames = so.frames;
  later = more;
  left = left;
  state = s;
  reads = so.reads;
  readings_are = so.readings_are;
  ends = messages_end _ got so.are_messages;
}

pub came_none : (n : ℕ) (input : Option (List ℕ)) → Came n input []
came_none n input = came_so n input input blank [] [] (so_none n input blank refl)

-- of an input that was given up
pub came_failed : (n : ℕ) (input left : Option (List ℕ)) (s : State) (got : List Arrival) (more : List (List ℕ)) (e : ReadError) → CameSo n input left s got more
    → Came n input (got ++ Ended (Err e) ∷ [])
came_failed n input left s got more e so = record {
  frames = so.frames;
  later = more;
  left = left;
  state = s;
  reads = so.reads;
  readings_are = readings_of_append got (Ended (Err e) ∷ []) ∙ (append-nil (readings_of got) ∙ so.readings_are);
  ends = messages_then _ got (Err e) so.are_messages refl;
}

pub came_refused : (n : ℕ) (input left : Option (List ℕ)) (s : State) (got : List Arrival) (more : List (List ℕ)) (r : Result StreamEnd ReadError) → IsErr r
    → CameSo n input left s got more → Came n input (got ++ Ended r ∷ [])
came_refused n input left s got more (Err e) is so = came_failed n input left s got more e so
came_refused n input left s got more (Ok v) is so = absurd (false≢true is)

-- of an input that was read to its end
pub came_ended : (n : ℕ) (input left : Option (List ℕ)) (s : State) (got : List Arrival) (end : StreamEnd) → CameSo n input left s got [] → EndsAs end s left
    → Came n input (got ++ Ended (Ok end) ∷ [])
came_ended n input left s got end so ends = record {
  frames = so.frames;
  later = [];
  left = left;
  state = s;
  reads = so.reads;
  readings_are = readings_of_append got (Ended (Ok end) ∷ []) ∙ (append-nil (readings_of got) ∙ so.readings_are);
  ends = messages_then _ got (Ok end) so.are_messages (refl, (refl, ends));
}

-- the end is the last that came, if none was known before
pub last_after : (known : Option (Result StreamEnd ReadError)) (a : Arrival) (got : List Arrival) → known ≡ None → IfLast (end_after known a) (got ++ a ∷ [])
last_after None (Request x) got none = tt
last_after None (Passed p) got none = tt
last_after None (Ended r) got none = (got, refl)
last_after (Some r) a got none = absurd cc

-- after one more arrival

pub requests_after : (got new : List Arrival) (a : Arrival) (answer : List Pairs) → new ≡ got ++ a ∷ [] → answer ≡ requests_of (a ∷ [])
    → requests_of new ≡ requests_of got ++ answer
requests_after got new a answer is at =
    ap requests_of is ∙ (requests_of_append got (a ∷ []) ∙ ap (λ (l : List Pairs). requests_of got ++ l) (sym at))

pub since_none : (before : List Arrival) → CameSince before before []
since_none before = record { came = []; came_are = sym (append-nil before); headers_are = refl }

pub since_after : (before got new : List Arrival) (a : Arrival) (old fresh : List PassedOver) → CameSince before got old → new ≡ got ++ a ∷ []
    → map (λ p. p.header.items) fresh ≡ map (λ p. p.header.items) old ++ headers_of (a ∷ []) → CameSince before new fresh
since_after before got new a old fresh since is more = record {
  came = since.came ++ a ∷ [];
  came_are = is ∙ (ap (λ (l : List Arrival). l ++ a ∷ []) since.came_are ∙ append_assoc before since.came (a ∷ []));
  headers_are = more ∙ (ap (λ (l : List (List ℕ)). l ++ headers_of (a ∷ [])) since.headers_are ∙ sym (headers_of_append since.came (a ∷ [])));
}
