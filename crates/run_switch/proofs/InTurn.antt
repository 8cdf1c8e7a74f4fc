-- What came alone, answered in turn, and what comes after it.
-- for: alone
use Rattle.std.proofs.Common.{◌≡◌, ℕ, List, [], ◌∷◌, ◌++◌, length, map, Option, Some, refl, sym, ap, subst, ◌∙◌, add-zero, append_assoc, append-nil}
use Rattle.std.specs.List.{AllByRecursion}
use Rattle.sw_context.specs.Pairs.{Pairs}
use Rattle.run_input.specs.declared.arrival.Arrival.{Arrival}
use Rattle.run_input.specs.declared.arrival.PassedOver.{PassedOver}
use Rattle.run_input.specs.Arrivals.{CameSince, Heard, headers_of, readings_of, requests_of}
use Rattle.run_input.proofs.Hearings.{readings_of_append}
use Rattle.run_responses.specs.declared.sink.ResponseOrder.{ResponseOrder}
use Rattle.run_switch.specs.Points.{Point}
use Rattle.run_switch.specs.Rounds.{AreOfStream, IsOfStream, Round, Serves, Trimmed, offered_in, offering, returned_in, returning}
use Rattle.run_switch.specs.Stopped.{DrainsSome, Halts, HaltsHeard, HaltsThen}
use Rattle.run_switch.specs.Traces.{Answered, Cuts, DrainsAll, InTurn, Log, PassesOver, Reports, Tells}
use Rattle.run_switch.proofs.LegRounds.{halts_since, led_are, reports_end, settles, stream_end, stream_returning}
use Rattle.run_switch.proofs.Rounds.{reports_both, serves_then}
use Rattle.run_switch.proofs.Shown.{reports_shown}
use Rattle.run_switch.proofs.Stops.{halts_before, halts_then, stream_append, stream_retries, toward_none}

-- requests that are answered in turn are rounds of a stream

offered_offering : (xs : List Pairs) → offered_in (offering xs) ≡ xs
offered_offering [] = refl
offered_offering (x ∷ xs) = ap (λ (l : List Pairs). x ∷ l) (offered_offering xs)

returned_offering : (xs : List Pairs) → returned_in (offering xs) ≡ []
returned_offering [] = refl
returned_offering (x ∷ xs) = returned_offering xs

offering_is_of_stream : (order : ResponseOrder) (xs : List Pairs) → AllByRecursion (IsOfStream order) (offering xs)
offering_is_of_stream order [] = tt
offering_is_of_stream order (x ∷ xs) = (tt, (tt, offering_is_of_stream order xs))

stream_offering : (order : ResponseOrder) (xs : List Pairs) → AreOfStream order xs [] (offering xs)
stream_offering order xs = record { offered = offered_offering xs; returned = returned_offering xs; of_stream = offering_is_of_stream order xs }

-- headers that are given back, requests, and what comes after them
stream_in_turn : (order : ResponseOrder) (xs : List Pairs) (hs : List (List ℕ)) (rs : List Round) → AreOfStream order [] [] rs
    → AreOfStream order xs hs (returning hs ++ (offering xs ++ rs))
stream_in_turn order xs hs rs are =
    subst (λ (ys : List Pairs). AreOfStream order ys hs (returning hs ++ (offering xs ++ rs))) (append-nil xs)
    (subst (λ (gs : List (List ℕ)). AreOfStream order (xs ++ []) gs (returning hs ++ (offering xs ++ rs))) (append-nil hs)
    (stream_append order [] (xs ++ []) hs [] (returning hs) (offering xs ++ rs) (stream_returning order hs)
    (stream_append order xs [] [] [] (offering xs) rs (stream_offering order xs) are)))

-- what was answered in turn

pub in_turn : (xs : List Pairs) (hs : List (List ℕ)) (p q r t : Point) (a b c d : Option (List ℕ)) (i j k l m : Log) → PassesOver hs a i b j
    → Reports (offering xs) 0 p b j q c k → DrainsAll q c k r d l → Cuts r l t m → InTurn xs hs p a i t d m
in_turn xs hs p q r t a b c d i j k l m passes reports drains cuts = record {
  given = b;
  noted = j;
  passes = passes;
  answered = q;
  between = c;
  then = k;
  reports = reports;
  ends = settles q r t c d k l m drains cuts;
}

pub alone_answered : (order : ResponseOrder) (got then : List Arrival) (xs : List Pairs) (passed : List PassedOver) (p q : Point) (a c : Option (List ℕ))
    (i k l : Log) → requests_of then ≡ requests_of got ++ xs → CameSince got then passed → InTurn xs (map (λ m. m.header.items) passed) p a i q c k
    → Tells [] 0 k l → Answered order got p a i then q c l
alone_answered order got then xs passed p q a c i k l heard since t shown =
    let hs = headers_of since.came in
    let last = t.ends.drains.drains.rounds ++ Trimmed ∷ [] in
    let all = returning hs ++ (offering xs ++ last) in
    let back : PassesOver hs a i t.given t.noted = subst (λ (l : List (List ℕ)). PassesOver l a i t.given t.noted) since.headers_are t.passes in
    let after : Reports (offering xs ++ last) 0 p t.given t.noted q c k =
    reports_both (offering xs) last 0 0 0 p t.answered q t.given t.between c t.noted t.then k refl t.reports
    (reports_end t.answered q t.between c t.then k t.ends) in
    let reports : Reports all (length hs) p a i q c k =
    reports_both (returning hs) (offering xs ++ last) (length hs) 0 (length hs) p p q a t.given c i t.noted k (sym (add-zero (length hs))) (back p) after in
    record {
      came = readings_of since.came;
      came_are = ap readings_of since.came_are ∙ readings_of_append got since.came;
      reports = record {
        rounds = all;
        answers = subst (λ (ys : List Pairs). AreOfStream order ys hs all) (led_are got then since.came xs since.came_are heard)
            (stream_in_turn order xs hs last (stream_end order t.answered q t.between c t.then k t.ends));
        reports = reports_shown all (length hs) p q a c i k l reports shown;
      };
    }

-- up to an error

pub halts_passing : (hs : List (List ℕ)) (xs : List Pairs) (p : Point) (a b : Option (List ℕ)) → Halts (returning hs) p a b
    → HaltsThen (returning hs ++ offering xs) p a b
halts_passing hs xs p a b h = record {
  retries = [];
  are_retries = tt;
  halts = halts_before (returning hs ++ offering xs) [] p a b (halts_before (returning hs) (offering xs) p a b h);
}

pub halts_one : (hs : List (List ℕ)) (xs : List Pairs) (p : Point) (a b c : Option (List ℕ)) (i j : Log) → PassesOver hs a i b j → Halts (offering xs) p b c
    → HaltsThen (returning hs ++ offering xs) p a c
halts_one hs xs p a b c i j passes h = record {
  retries = [];
  are_retries = tt;
  halts = halts_before (returning hs ++ offering xs) [] p a c (halts_then (returning hs) (offering xs) p p a b c (passes p).serves h);
}

pub halts_later : (hs : List (List ℕ)) (xs : List Pairs) (p q : Point) (a b c d : Option (List ℕ)) (i j : Log) → PassesOver hs a i b j
    → Serves (offering xs) p b q c → DrainsSome q c d → HaltsThen (returning hs ++ offering xs) p a d
halts_later hs xs p q a b c d i j passes serves drains = record {
  retries = drains.rounds;
  are_retries = drains.retries;
  halts = halts_then (returning hs ++ offering xs) drains.rounds p q a c d
      (serves_then (returning hs) (offering xs) p p q a b c (passes p).serves serves) drains.halts;
}

pub halts_unheard : (header : ℕ) (order : ResponseOrder) (input : Option (List ℕ)) (got : List Arrival) (p : Point) (a : Option (List ℕ)) → Heard header input got
    → HaltsHeard header order input got p a a
halts_unheard header order input got p a heard = record {
  frames = heard.frames;
  begins = heard.begins;
  later = heard.later;
  readings_are = heard.readings_are;
  halts = toward_none (Some order) heard.later p a;
}

pub halts_alone : (header : ℕ) (order : ResponseOrder) (input : Option (List ℕ)) (got then : List Arrival) (xs : List Pairs) (passed : List PassedOver) (p : Point)
    (a b : Option (List ℕ)) → Heard header input then → requests_of then ≡ requests_of got ++ xs → CameSince got then passed
    → HaltsThen (returning (map (λ m. m.header.items) passed) ++ offering xs) p a b → HaltsHeard header order input got p a b
halts_alone header order input got then xs passed p a b heard is since h =
    let hs = headers_of since.came in
    let rs = h.retries in
    let all = returning hs ++ (offering xs ++ rs) in
    let joined : Halts ((returning hs ++ offering xs) ++ rs) p a b =
    subst (λ (l : List (List ℕ)). Halts ((returning l ++ offering xs) ++ rs) p a b) since.headers_are h.halts in
    halts_since header order input got then since.came p a b all heard since.came_are
    (subst (λ (ys : List Pairs). AreOfStream order ys hs all) (led_are got then since.came xs since.came_are is)
    (stream_in_turn order xs hs rs (stream_retries order rs h.are_retries)))
    (subst (λ (l : List Round). Halts l p a b) (append_assoc (returning hs) (offering xs) rs) joined)
