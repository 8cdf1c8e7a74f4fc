-- What is known of an input from what came of it.
use Rattle.std.proofs.Common.{◌≡◌, ℕ, List, [], ◌∷◌, ◌++◌, Option, Result, Ok, Err, sym, ap, ◌∙◌, append_assoc, append-nil, subst}
use Rattle.tx_intake.specs.Rule.{LawfulAfter}
use Rattle.run_input.specs.declared.arrival.Arrival.{Arrival}
use Rattle.run_input.specs.declared.arrival.Arrival.TheVariants.{Ended, Passed, Request}
use Rattle.run_input.specs.declared.arrival.ReadError.{ReadError}
use Rattle.run_input.specs.declared.frames.StreamEnd.{StreamEnd}
use Rattle.run_input.specs.Requests.{EndsAs, Reading, Reads, readings}
use Rattle.run_input.specs.Arrivals.{Came, EndWith, Heard, HeardAll, HeardTo, IsLast, readings_of, requests_of}
use Rattle.run_input.proofs.Comings as comings
use Rattle.run_input.proofs.Readings.{readings_append}

-- what came, and then more

pub readings_of_append : (xs ys : List Arrival) → readings_of (xs ++ ys) ≡ readings_of xs ++ readings_of ys
readings_of_append xs ys = comings.readings_of_append xs ys

pub requests_of_append : (xs ys : List Arrival) → requests_of (xs ++ ys) ≡ requests_of xs ++ requests_of ys
requests_of_append xs ys = comings.requests_of_append xs ys

-- an input begins with frames of which the first came

pub came_so_far : (n : ℕ) (input : Option (List ℕ)) (got : List Arrival) → LawfulAfter (Came n input) got → Heard n input got
came_so_far n input got lawful =
    let held = lawful.0 in
    let came = lawful.1 in
    record {
      frames = came.frames ++ came.later;
      begins = record { left = came.left; state = came.state; reads = came.reads };
      later = readings_of held ++ readings n came.later;
      readings_are =
          readings_append n came.frames came.later
          ∙ (ap (λ (l : List Reading). l ++ readings n came.later) (sym came.readings_are ∙ readings_of_append got held)
          ∙ append_assoc (readings_of got) (readings_of held) (readings n came.later));
    }

-- nothing comes after the end

not_none : (xs : List Arrival) (a : Arrival) (ys : List Arrival) → (xs ++ a ∷ []) ++ ys ≡ [] → ⊥
not_none [] a ys is = cc
not_none (x ∷ xs) a ys is = cc

last_whole : (fact : StreamEnd → Type 0) (before held : List Arrival) (e : StreamEnd) → EndWith fact ((before ++ Ended (Ok e) ∷ []) ++ held)
    → (held ≡ []) × fact e
last_whole fact [] held e h = h
last_whole fact (Request x ∷ before) held e h = last_whole fact before held e h
last_whole fact (Passed p ∷ before) held e h = last_whole fact before held e h
last_whole fact (Ended (Ok d) ∷ before) held e h = absurd (not_none before (Ended (Ok e)) held h.0)
last_whole fact (Ended (Err d) ∷ before) held e h = absurd (not_none before (Ended (Ok e)) held h)

heard_all : (n : ℕ) (input : Option (List ℕ)) (e : StreamEnd) (got held : List Arrival) → Came n input (got ++ held) → IsLast (Ok e) got → HeardAll n input e got
heard_all n input e got held came last =
    let ends : EndWith (λ d. (came.later ≡ []) × EndsAs d came.state came.left) ((last.0 ++ Ended (Ok e) ∷ []) ++ held) =
    subst (λ (l : List Arrival). EndWith (λ d. (came.later ≡ []) × EndsAs d came.state came.left) (l ++ held)) last.1 came.ends in
    let known = last_whole (λ d. (came.later ≡ []) × EndsAs d came.state came.left) last.0 held e ends in
    let all : got ++ held ≡ got = ap (λ (l : List Arrival). got ++ l) known.0 ∙ append-nil got in
    let frames : came.frames ++ came.later ≡ came.frames = ap (λ (l : List (List ℕ)). came.frames ++ l) known.1.0 ∙ append-nil came.frames in
    record {
      frames = came.frames;
      read = record {
        left = came.left;
        state = came.state;
        reads = subst (λ (l : List (List ℕ)). Reads input came.left l came.state) frames came.reads;
        ends = known.1.1;
      };
      readings_are = sym came.readings_are ∙ ap readings_of all;
    }

-- once the end was got, the input was read to it, and all that came of it was got

pub came_to : (n : ℕ) (input : Option (List ℕ)) (r : Result StreamEnd ReadError) (got : List Arrival) → LawfulAfter (Came n input) got → IsLast r got
    → HeardTo n input r got
came_to n input (Ok e) got lawful last = heard_all n input e got lawful.0 lawful.1 last
came_to n input (Err e) got lawful last = tt
