-- What is written where a switch ends with an error.
-- for: switch::Switch, stream, serving::Switch, serving::Begun, leg, streaming
use Rattle.std.proofs.Common.{◌≡◌, ◌<◌, ◌⊎◌, ℕ, ◌+◌, List, [], ◌∷◌, ◌++◌, length, take, drop, get_or, Option, Some, None, Result, Ok, Err, refl}
use Rattle.std.proofs.Common.{sym, ap, subst, ◌∙◌, append_assoc, append-nil, inl, inr}
use Rattle.std.specs.Global.{Vec}
use Rattle.std.specs.Prelude.{IfOk, OnErr, OnOk}
use Rattle.std.specs.Io.KnownBytes.{Appends}
use Rattle.std.specs.List.{AllByRecursion}
use Rattle.cli_io.specs.Written.{AppendsBeginning}
use Rattle.cli_io.proofs.Writing.{beginning_all, beginning_none}
use Rattle.sw_context.specs.Pairs.{Pairs}
use Rattle.sw_frame.specs.Feeds.{messages}
use Rattle.sw_frame.specs.Stream.{AreFramed, State}
use Rattle.tx_plant.specs.declared.turn.Outcome.{Outcome}
use Rattle.tx_plant.specs.declared.turn.Turn.TheVariants as turn
use Rattle.run_switch.specs.Points.{IsAtRest, IsReady, Point, unanswered}
use Rattle.run_responses.specs.Responses.{responses}
use Rattle.run_input.specs.Requests.{Readable, Reading, Reads, ReadsOn, Unreadable, headers_in, reading_of, readings, requests_in}
use Rattle.run_switch.specs.Rounds.{AreOfStream, Completed, Does, Drains, IsOfStream, IsRetry, Offered, Released, Returned, Round, RoundsFor, Serves, Streamed}
use Rattle.run_switch.specs.Rounds.{Transacts, Trimmed, answering, if_header, offered_in, returned_in, untrimmed}
use Rattle.run_responses.specs.declared.sink.ResponseOrder.{ResponseOrder}
use Rattle.run_switch.specs.Stopped.{DrainsSome, GivesSome, Halts, HaltsOn, HaltsToward, IsOfNext}
use Rattle.run_input.proofs.Readings.{headers_in_append, readings_front, readings_next, requests_in_append}
use Rattle.run_switch.specs.Traces.{Log}
use Rattle.run_switch.proofs.Rounds.{Empties, answering_append, gives_own, retries_append, serves_none, serves_offer, serves_then}

pub nothing_next : (rounds : List Round) (p : Point) → IsOfNext rounds p []
nothing_next [] p = refl
nothing_next (Offered x ∷ rounds) p = refl
nothing_next (Completed ∷ rounds) p = inl refl
nothing_next (Returned h ∷ rounds) p = inl refl
nothing_next (Released ∷ rounds) p = refl
nothing_next (Streamed order xs ∷ rounds) p = inl refl
nothing_next (Trimmed ∷ rounds) p = refl

-- none of them was done
pub halts_none : (rounds : List Round) (p : Point) (a : Option (List ℕ)) → Halts rounds p a a
halts_none rounds p a = record {
  done = [];
  rest = rounds;
  order = refl;
  at = p;
  between = a;
  serves = serves_none p a;
  next = [];
  is_next = nothing_next rounds p;
  written = beginning_none a [];
}

-- all of them were
pub halts_all : (rounds : List Round) (p q : Point) (a b : Option (List ℕ)) → Serves rounds p a q b → Halts rounds p a b
halts_all rounds p q a b serves = record {
  done = rounds;
  rest = [];
  order = sym (append-nil rounds);
  at = q;
  between = b;
  serves = serves;
  next = [];
  is_next = refl;
  written = beginning_none b [];
}

-- others were done before
pub halts_then : (ds bs : List Round) (p q : Point) (a b c : Option (List ℕ)) → Serves ds p a q b → Halts bs q b c → Halts (ds ++ bs) p a c
halts_then ds bs p q a b c serves h = record {
  done = ds ++ h.done;
  rest = h.rest;
  order = ap (λ (l : List Round). ds ++ l) h.order ∙ sym (append_assoc ds h.done h.rest);
  at = h.at;
  between = h.between;
  serves = serves_then ds h.done p q h.at a b h.between serves h.serves;
  next = h.next;
  is_next = h.is_next;
  written = h.written;
}

more_next : (rounds others : List Round) (p : Point) (text : List ℕ) → IsOfNext rounds p text → IsOfNext (rounds ++ others) p text
more_next [] others p text none = subst (IsOfNext others p) (sym none) (nothing_next others p)
more_next (Offered x ∷ rounds) others p text h = h
more_next (Completed ∷ rounds) others p text h = h
more_next (Returned n ∷ rounds) others p text h = h
more_next (Released ∷ rounds) others p text h = h
more_next (Streamed order xs ∷ rounds) others p text h = h
more_next (Trimmed ∷ rounds) others p text h = h

-- others were to come
pub halts_before : (ds bs : List Round) (p : Point) (a b : Option (List ℕ)) → Halts ds p a b → Halts (ds ++ bs) p a b
halts_before ds bs p a b h = record {
  done = h.done;
  rest = h.rest ++ bs;
  order = ap (λ (l : List Round). l ++ bs) h.order ∙ append_assoc h.done h.rest bs;
  at = h.at;
  between = h.between;
  serves = h.serves;
  next = h.next;
  is_next = more_next h.rest bs h.at h.next h.is_next;
  written = h.written;
}

pub halts_offer : (x : Pairs) (o : Outcome) (p w : Point) (ds : List Round) (a b : Option (List ℕ)) → IsReady p → Does (turn.Offer x) o p w →
    Halts ds w a b → Halts (Offered x ∷ ds) p a b
halts_offer x o p w ds a b ready does h = record {
  done = Offered x ∷ h.done;
  rest = h.rest;
  order = ap (λ (l : List Round). Offered x ∷ l) h.order;
  at = h.at;
  between = h.between;
  serves = serves_offer x o p w h.at h.done a h.between ready does h.serves;
  next = h.next;
  is_next = h.is_next;
  written = h.written;
}

-- a header was to be given back
pub halts_returned : (n : List ℕ) (p : Point) (text : List ℕ) (a b : Option (List ℕ)) → (text ≡ []) ⊎ AreFramed text (if_header n) → AppendsBeginning a b text
    → Halts (Returned n ∷ []) p a b
halts_returned n p text a b is written = record {
  done = [];
  rest = Returned n ∷ [];
  order = refl;
  at = p;
  between = a;
  serves = serves_none p a;
  next = text;
  is_next = is;
  written = written;
}

halts_next : (p : Point) (text : List ℕ) (a b : Option (List ℕ)) → IsOfNext (Completed ∷ []) p text → AppendsBeginning a b text → Halts (Completed ∷ []) p a b
halts_next p text a b is written = record {
  done = [];
  rest = Completed ∷ [];
  order = refl;
  at = p;
  between = a;
  serves = serves_none p a;
  next = text;
  is_next = is;
  written = written;
}

-- a transaction ran to its end, and its response was not written, or what comes after it failed
pub halts_gives : (own : Option Pairs) (p q : Point) (a b : Option (List ℕ)) → IsAtRest p → Transacts p own q → GivesSome q a b → Halts (Completed ∷ []) p a b
halts_gives own p q a b rest transacts (text, is, written) = halts_next p text a b (by_text is) written where
  by_text : (text ≡ []) ⊎ AreFramed text (responses (unanswered q)) → IsOfNext (Completed ∷ []) p text
  by_text (inl none) = inl none
  by_text (inr framed) = inr (record { own = own; ended = q; transacts = transacts; framed = gives_own p q own text rest transacts framed })

pub halts_given : (own : Option Pairs) (text : List ℕ) (p q : Point) (a b : Option (List ℕ)) → IsAtRest p → Transacts p own q →
    AreFramed text (responses (unanswered q)) → Appends a b text → Halts (Completed ∷ []) p a b
halts_given own text p q a b rest transacts framed written =
    halts_gives own p q a b rest transacts (text, inr framed, beginning_all a b text written)

-- what is read

pub halts_answering : (xs ys : List Reading) (p q : Point) (a b c : Option (List ℕ)) → Serves (answering xs) p a q b → Halts (answering ys) q b c →
    Halts (answering (xs ++ ys)) p a c
halts_answering xs ys p q a b c serves h =
    subst (λ (l : List Round). Halts l p a c) (sym (answering_append xs ys)) (halts_then (answering xs) (answering ys) p q a b c serves h)

pub halts_answers : (xs ys : List Reading) (p : Point) (a b : Option (List ℕ)) → Halts (answering xs) p a b → Halts (answering (xs ++ ys)) p a b
halts_answers xs ys p a b h =
    subst (λ (l : List Round). Halts l p a b) (sym (answering_append xs ys)) (halts_before (answering xs) (answering ys) p a b h)

-- in legs, or one after the other

pub offered_append : (rs ss : List Round) → offered_in (rs ++ ss) ≡ offered_in rs ++ offered_in ss
offered_append [] ss = refl
offered_append (Offered x ∷ rs) ss = ap (λ (l : List Pairs). x ∷ l) (offered_append rs ss)
offered_append (Completed ∷ rs) ss = offered_append rs ss
offered_append (Returned h ∷ rs) ss = offered_append rs ss
offered_append (Released ∷ rs) ss = offered_append rs ss
offered_append (Streamed order xs ∷ rs) ss = ap (λ (l : List Pairs). xs ++ l) (offered_append rs ss) ∙ sym (append_assoc xs (offered_in rs) (offered_in ss))
offered_append (Trimmed ∷ rs) ss = offered_append rs ss

pub returned_append : (rs ss : List Round) → returned_in (rs ++ ss) ≡ returned_in rs ++ returned_in ss
returned_append [] ss = refl
returned_append (Offered x ∷ rs) ss = returned_append rs ss
returned_append (Completed ∷ rs) ss = returned_append rs ss
returned_append (Returned h ∷ rs) ss = ap (λ (l : List (List ℕ)). h ∷ l) (returned_append rs ss)
returned_append (Released ∷ rs) ss = returned_append rs ss
returned_append (Streamed order xs ∷ rs) ss = returned_append rs ss
returned_append (Trimmed ∷ rs) ss = returned_append rs ss

pub of_stream_append : (order : ResponseOrder) (rs ss : List Round) → AllByRecursion (IsOfStream order) rs → AllByRecursion (IsOfStream order) ss
    → AllByRecursion (IsOfStream order) (rs ++ ss)
of_stream_append order [] ss h k = k
of_stream_append order (r ∷ rs) ss h k = (h.0, of_stream_append order rs ss h.1 k)

pub retries_are_of_stream : (order : ResponseOrder) (rs : List Round) → AllByRecursion IsRetry rs → AllByRecursion (IsOfStream order) rs
retries_are_of_stream order [] h = tt
retries_are_of_stream order (Offered x ∷ rs) h = absurd h.0
retries_are_of_stream order (Completed ∷ rs) h = (tt, retries_are_of_stream order rs h.1)
retries_are_of_stream order (Returned n ∷ rs) h = absurd h.0
retries_are_of_stream order (Released ∷ rs) h = (tt, retries_are_of_stream order rs h.1)
retries_are_of_stream order (Streamed own xs ∷ rs) h = absurd h.0
retries_are_of_stream order (Trimmed ∷ rs) h = absurd h.0

pub retries_offer_none : (rs : List Round) → AllByRecursion IsRetry rs → offered_in rs ≡ []
retries_offer_none [] h = refl
retries_offer_none (Offered x ∷ rs) h = absurd h.0
retries_offer_none (Completed ∷ rs) h = retries_offer_none rs h.1
retries_offer_none (Returned n ∷ rs) h = absurd h.0
retries_offer_none (Released ∷ rs) h = retries_offer_none rs h.1
retries_offer_none (Streamed order xs ∷ rs) h = absurd h.0
retries_offer_none (Trimmed ∷ rs) h = absurd h.0

pub retries_return_none : (rs : List Round) → AllByRecursion IsRetry rs → returned_in rs ≡ []
retries_return_none [] h = refl
retries_return_none (Offered x ∷ rs) h = absurd h.0
retries_return_none (Completed ∷ rs) h = retries_return_none rs h.1
retries_return_none (Returned n ∷ rs) h = absurd h.0
retries_return_none (Released ∷ rs) h = retries_return_none rs h.1
retries_return_none (Streamed order xs ∷ rs) h = absurd h.0
retries_return_none (Trimmed ∷ rs) h = absurd h.0

-- rounds of a stream, and further ones
pub stream_append : (order : ResponseOrder) (xs ys : List Pairs) (hs gs : List (List ℕ)) (rs ss : List Round) → AreOfStream order xs hs rs
    → AreOfStream order ys gs ss → AreOfStream order (xs ++ ys) (hs ++ gs) (rs ++ ss)
stream_append order xs ys hs gs rs ss is are = record {
  offered = offered_append rs ss ∙ (ap (λ (l : List Pairs). l ++ offered_in ss) is.offered ∙ ap (λ (l : List Pairs). xs ++ l) are.offered);
  returned = returned_append rs ss ∙ (ap (λ (l : List (List ℕ)). l ++ returned_in ss) is.returned ∙ ap (λ (l : List (List ℕ)). hs ++ l) are.returned);
  of_stream = of_stream_append order rs ss is.of_stream are.of_stream;
}

stream_none : (order : ResponseOrder) → AreOfStream order [] [] []
stream_none order = record { offered = refl; returned = refl; of_stream = tt }

-- retries offer nothing, and give nothing back
pub stream_retries : (order : ResponseOrder) (rs : List Round) → AllByRecursion IsRetry rs → AreOfStream order [] [] rs
stream_retries order rs h = record { offered = retries_offer_none rs h; returned = retries_return_none rs h; of_stream = retries_are_of_stream order rs h }

pub stream_trimmed : (order : ResponseOrder) → AreOfStream order [] [] (Trimmed ∷ [])
stream_trimmed order = record { offered = refl; returned = refl; of_stream = (tt, tt) }

pub untrimmed_append : (rs ss : List Round) → untrimmed (rs ++ ss) ≡ untrimmed rs ++ untrimmed ss
untrimmed_append [] ss = refl
untrimmed_append (Offered x ∷ rs) ss = ap (λ (l : List Round). Offered x ∷ l) (untrimmed_append rs ss)
untrimmed_append (Completed ∷ rs) ss = ap (λ (l : List Round). Completed ∷ l) (untrimmed_append rs ss)
untrimmed_append (Returned h ∷ rs) ss = ap (λ (l : List Round). Returned h ∷ l) (untrimmed_append rs ss)
untrimmed_append (Released ∷ rs) ss = ap (λ (l : List Round). Released ∷ l) (untrimmed_append rs ss)
untrimmed_append (Streamed order xs ∷ rs) ss = ap (λ (l : List Round). Streamed order xs ∷ l) (untrimmed_append rs ss)
untrimmed_append (Trimmed ∷ rs) ss = untrimmed_append rs ss

pub untrimmed_answering : (xs : List Reading) → untrimmed (answering xs) ≡ answering xs
untrimmed_answering [] = refl
untrimmed_answering (Readable x ∷ xs) = ap (λ (l : List Round). Offered x ∷ Completed ∷ l) (untrimmed_answering xs)
untrimmed_answering (Unreadable h ∷ xs) = ap (λ (l : List Round). Returned h ∷ l) (untrimmed_answering xs)

both_answering : (xs ys : List Reading) (rs ss : List Round) → untrimmed rs ≡ answering xs → untrimmed ss ≡ answering ys →
    untrimmed (rs ++ ss) ≡ answering (xs ++ ys)
both_answering xs ys rs ss is are = untrimmed_append rs ss ∙ (rw (is, are) (sym (answering_append xs ys)))

pub rounds_append : (threads : Option ResponseOrder) (xs ys : List Reading) (rs ss : List Round) → RoundsFor threads xs rs → RoundsFor threads ys ss →
    RoundsFor threads (xs ++ ys) (rs ++ ss)
rounds_append None xs ys rs ss is are = both_answering xs ys rs ss is are
rounds_append (Some order) xs ys rs ss is are =
    subst (λ (l : List Pairs). AreOfStream order l (headers_in (xs ++ ys)) (rs ++ ss)) (sym (requests_in_append xs ys))
    (subst (λ (l : List (List ℕ)). AreOfStream order (requests_in xs ++ requests_in ys) l (rs ++ ss)) (sym (headers_in_append xs ys))
    (stream_append order (requests_in xs) (requests_in ys) (headers_in xs) (headers_in ys) rs ss is are))

pub rounds_none : (threads : Option ResponseOrder) → RoundsFor threads [] []
rounds_none None = refl
rounds_none (Some order) = stream_none order

pub toward_none : (threads : Option ResponseOrder) (xs : List Reading) (p : Point) (a : Option (List ℕ)) → HaltsToward threads xs p a a
toward_none None xs p a = (answering xs, untrimmed_answering xs, halts_none (answering xs) p a)
toward_none (Some order) xs p a = ([], ([], [], requests_in xs, headers_in xs, refl, refl, stream_none order), halts_none [] p a)

-- these rounds were on the way to more than they answered
pub toward_stream : (order : ResponseOrder) (xs ys : List Reading) (rs : List Round) (p : Point) (a b : Option (List ℕ))
    → AreOfStream order (requests_in xs) (headers_in xs) rs → Halts rs p a b → HaltsToward (Some order) (xs ++ ys) p a b
toward_stream order xs ys rs p a b is h = (
  rs,
  (
    requests_in xs,
    headers_in xs,
    requests_in ys,
    headers_in ys,
    requests_in_append xs ys,
    headers_in_append xs ys,
    is,
  ),
  h,
)

-- one after the other
pub toward_answering : (xs : List Reading) (p : Point) (a b : Option (List ℕ)) → Halts (answering xs) p a b → HaltsToward None xs p a b
toward_answering xs p a b h = (answering xs, untrimmed_answering xs, h)

-- the queue and the shelf

pub drains_none : (p q : Point) (a b : Option (List ℕ)) (k l : Log) → Empties p a k q b l → DrainsSome p a b
drains_none p q a b k l e = record { rounds = e.rounds; retries = e.retries; halts = halts_all e.rounds p q a b e.reports.serves }

pub drains_next : (p q : Point) (a b c : Option (List ℕ)) (k l : Log) → Empties p a k q b l → Halts (Completed ∷ []) q b c → DrainsSome p a c
drains_next p q a b c k l e h = record {
  rounds = e.rounds ++ Completed ∷ [];
  retries = retries_append e.rounds (Completed ∷ []) e.retries (tt, tt);
  halts = halts_then e.rounds (Completed ∷ []) p q a b c e.reports.serves h;
}

pub drains_all : (p q : Point) (a b : Option (List ℕ)) → Drains p a q b → DrainsSome p a b
drains_all p q a b d = record { rounds = d.rounds; retries = d.retries; halts = halts_all d.rounds p q a b d.serves }

-- what follows of an Err

pub on_err : {T E : Type 0} {P Q : Type 0} (r : Result T E) → (P → Q) → OnErr r P → OnErr r Q
on_err (Ok x) f h = tt
on_err (Err e) f h = f h

pub on_ok_or_err : {T E : Type 0} {P Q R : Type 0} (r : Result T E) → (P → R) → (Q → R) → OnOk r P → OnErr r Q → OnErr r R
on_ok_or_err (Ok x) f g h k = tt
on_ok_or_err (Err e) f g h k = g k

-- of what was served, whatever came of the call after it
pub either_way : {T E : Type 0} {P : T → Type 0} {Q R : Type 0} (s r : Result T E) → IfOk s P → OnErr s Q → ((x : T) → P x → R) → (Q → R) → OnErr r R
either_way s (Ok y) h k f g = tt
either_way (Ok x) (Err e) h k f g = f x h
either_way (Err d) (Err e) h k f g = g k

pub on_err_of : {T E : Type 0} {P : Type 0} (r : Result T E) → P → OnErr r P
on_err_of (Ok x) h = tt
on_err_of (Err e) h = h

-- one message of a list, after those before it
pub halts_message : (header : ℕ) (list : List (Vec ℕ)) (i : ℕ) (m : Vec ℕ) (bytes : List ℕ) (read : List Reading) (p q : Point) (a b c : Option (List ℕ))
    → i < length list → m ≡ get_or list i m → bytes ≡ m.items → read ≡ reading_of header bytes ∷ []
    → Serves (answering (readings header (messages (take i list)))) p a q b → Halts (answering read) q b c →
    Halts (answering (readings header (messages list))) p a c
halts_message header list i m bytes read p q a b c lt at is same serves h =
    let first : Halts (answering (readings header (messages (take i list)) ++ read)) p a c =
    halts_answering (readings header (messages (take i list))) read p q a b c serves h in
    let here : Halts (answering (readings header (messages (take (i + 1) list)))) p a c =
    subst (λ (l : List Reading). Halts (answering l) p a c)
    (ap (λ (l : List Reading). readings header (messages (take i list)) ++ l) same ∙ sym (readings_next header list i m bytes lt at is)) first in
    subst (λ (l : List Reading). Halts (answering l) p a c) (sym (readings_front header list (i + 1)))
    (halts_answers (readings header (messages (take (i + 1) list))) (readings header (messages (drop (i + 1) list))) p a c here)

-- a piece of an input

pub halts_reads : (header : ℕ) (threads : Option ResponseOrder) (left then : Option (List ℕ)) (more : List (List ℕ)) (s t : State) (p : Point) (a b : Option (List ℕ)) →
    ReadsOn left s more then t → HaltsToward threads (readings header more) p a b → HaltsOn header threads left s p a b
halts_reads header threads left then more s t p a b on h = λ input frames reads. (more, record { left = then; state = t; reads = on input frames reads }, h)

pub halts_unread : (header : ℕ) (threads : Option ResponseOrder) (left : Option (List ℕ)) (s : State) (p : Point) (a : Option (List ℕ)) → HaltsOn header threads left s p a a
halts_unread header threads left s p a = λ input frames reads. (
  [],
  record { left = left; state = s; reads = subst (λ (l : List (List ℕ)). Reads input left l s) (sym (append-nil frames)) reads },
  toward_none threads [] p a,
)

-- nothing was done, and nothing written
pub drains_at_once : (p : Point) (a : Option (List ℕ)) → DrainsSome p a a
drains_at_once p a = record { rounds = []; retries = tt; halts = halts_none [] p a }
