-- A leg: what it leaves, and what it gives.
-- for: leg, switch::Switch::run_leg
use Rattle.std.proofs.Common.{◌≡◌, ◌<◌, ◌≤◌, ℕ, Bool, true, false, cond, List, [], ◌∷◌, ◌++◌, Option, refl, sym, ap, subst, arith, ◌∙◌}
use Rattle.std.proofs.Common.{add-zero, append_assoc, append-nil, length, map}
use Rattle.std.proofs.lemmas.List.{append_cancel_left}
use Rattle.std.specs.List.{AllByRecursion}
use Rattle.std.specs.Prelude.{◌&&◌}
use Rattle.std.specs.Ordering.{is_lt, nat_cmp}
use Rattle.std.proofs.lemmas.Map.Keys.{ge_from_not_lt}
use Rattle.sw_context.specs.Pairs.{Pairs}
use Rattle.sw_participant.specs.Chains.{Rule}
use Rattle.tx_plant.specs.Plant.{Whole}
use Rattle.tx_pool.specs.Drives.{Drove}
use Rattle.tx_locked.specs.Settled.{IsSettled}
use Rattle.tx_pool.specs.Went.{Grown, Offered}
use Rattle.tx_history.specs.declared.event.Event.{Event}
use Rattle.tx_history.specs.declared.event.Event.TheVariants as event
use Rattle.tx_history.specs.History.{takes}
use Rattle.tx_seats.specs.Drives.{Done}
use Rattle.tx_seats.specs.Seated.{Seated}
use Rattle.tx_seats.proofs.SeatedTurns.{all_seated}
use Rattle.tx_seats.proofs.SeatedCuts.{no_holder}
use Rattle.run_input.specs.declared.arrival.Arrival.{Arrival}
use Rattle.run_input.specs.declared.arrival.PassedOver.{PassedOver}
use Rattle.run_input.specs.Arrivals.{CameSince, Heard, headers_of, readings_of, requests_of}
use Rattle.run_input.specs.Requests.{Reading}
use Rattle.run_input.proofs.Hearings.{readings_of_append, requests_of_append}
use Rattle.run_responses.specs.declared.sink.ResponseOrder.{ResponseOrder}
use Rattle.run_responses.specs.Responses.{above, last_id}
use Rattle.run_switch.specs.declared.progress.Progress.{Progress}
use Rattle.run_switch.specs.Led.{Led}
use Rattle.run_switch.specs.Points.{IsAtRest, IsReady, Point, RestsGiven, all_answered, ended_at, next_at, unanswered, world_at}
use Rattle.run_switch.specs.Advices.{AdviceStep, PlainAdvisor}
use Rattle.run_switch.specs.Rounds.{AreOfStream, IsOfStream, Round, RoundsFor, Serves, Streamed, Together, Trimmed, offered_in, returned_in, returning}
use Rattle.run_switch.specs.Stopped.{GivesEnded, Halts, HaltsHeard, HaltsThen, ServesSome}
use Rattle.run_switch.specs.Traces.{Answered, Cuts, DrainsAll, Finishes, Log, PassesOver, Reports, Settles, Tells}
use Rattle.run_switch.proofs.Below.{EndedBelow, driven_below}
use Rattle.run_switch.proofs.Doings.{acts_once}
use Rattle.run_switch.proofs.Recoveries.{AreBelow}
use Rattle.run_switch.proofs.Rounds.{reports_both, seated_given, serves_none, serves_then, serves_trimmed}
use Rattle.run_switch.proofs.Shown.{reports_shown}
use Rattle.run_switch.proofs.Stops.{halts_then, stream_append, stream_retries, stream_trimmed, toward_stream}
use Rattle.run_switch.proofs.Tracing.{lines_then}

together_seated : (xs : List Pairs) (p q : Point) → Seated p.plant.core → Together xs p q → Seated q.plant.core
together_seated xs p q seated t = all_seated (Done t.turns t.outcomes ∷ []) t.acts.moved p.plant q.plant seated t.acts.driven

-- ids

takes_more : (new past : List Event) → takes past ≤ takes (new ++ past)
takes_more [] past = omega arith
takes_more (event.Taken s ∷ new) past = let ih = takes_more new past in omega (arith, ih)
takes_more (event.Offered c ∷ new) past = takes_more new past
takes_more (event.Answered s b c ∷ new) past = takes_more new past
takes_more (event.Chose s t ∷ new) past = takes_more new past
takes_more (event.Told s a ∷ new) past = takes_more new past
takes_more (event.Recovered s c ∷ new) past = takes_more new past
takes_more (event.Released ∷ new) past = takes_more new past
takes_more (event.Acked id place ∷ new) past = takes_more new past
takes_more (event.Broke n ∷ new) past = takes_more new past
takes_more (event.Cleared n ∷ new) past = takes_more new past
takes_more (event.LetGo s ∷ new) past = takes_more new past
takes_more (event.Closed id ∷ new) past = takes_more new past

next_more : (xs : List Pairs) (p q : Point) → Together xs p q → next_at p ≤ next_at q
next_more xs p q t =
    let more = takes_more t.grown.new (world_at p).past in
    let past : takes (world_at q).past ≡ takes (t.grown.new ++ (world_at p).past) = ap takes t.grown.past in
    let first : (world_at q).start.view.next_id ≡ (world_at p).start.view.next_id = ap (λ v. v.view.next_id) t.grown.from in
    omega (arith, more, past, first)

-- at rest the ids of those that ended are below the next id

rest_below_by : (a n : ℕ) (es : List (ℕ × Pairs)) → a < n → above a es ≡ [] → AreBelow n es
rest_below_by a n [] lt none = tt
rest_below_by a n (e ∷ es) lt none = by_test (is_lt (nat_cmp a e.0)) refl none (rest_below_by a n es lt) where
  cons_nil : (x : ℕ × Pairs) (xs : List (ℕ × Pairs)) → x ∷ xs ≡ [] → ⊥
  cons_nil x xs e = cc

  by_test : (b : Bool) → is_lt (nat_cmp a e.0) ≡ b → cond (b && true) (e ∷ above a es) (above a es) ≡ [] → (above a es ≡ [] → AreBelow n es) →
      AreBelow n (e ∷ es)
  by_test true is nothing ih = absurd (cons_nil e (above a es) nothing)
  by_test false is nothing ih = (let le : e.0 ≤ a = ge_from_not_lt a e.0 is in omega (arith, le, lt), ih nothing)

rest_below : (p : Point) → IsAtRest p → EndedBelow p.plant.core
rest_below p rest = rest_below_by p.answered.last (next_at p) (ended_at p) rest.below rest.given

above_below : (a n : ℕ) (es : List (ℕ × Pairs)) → AreBelow n es → AreBelow n (above a es)
above_below a n [] h = tt
above_below a n (e ∷ es) h = by_test (is_lt (nat_cmp a e.0)) (above_below a n es h.1) where
  by_test : (b : Bool) → AreBelow n (above a es) → AreBelow n (cond (b && true) (e ∷ above a es) (above a es))
  by_test true ih = (h.0, ih)
  by_test false ih = ih

last_below : (a n : ℕ) (es : List (ℕ × Pairs)) → a < n → AreBelow n es → last_id a es < n
last_below a n [] lt h = lt
last_below a n (e ∷ es) lt h = last_below e.0 n es h.0 h.1

driven_of : (xs : List Pairs) (p q : Point) → Seated p.plant.core → Together xs p q → EndedBelow p.plant.core → EndedBelow q.plant.core
driven_of xs p q seated t h =
    let (w, first, later, driven, (none, same), all) = t.acts.driven in
    subst (λ z. EndedBelow z.core) (sym same) (driven_below t.turns t.outcomes first p.plant w seated driven h)

pub together_rests : (xs : List Pairs) (p q : Point) → IsAtRest p → Together xs p q → RestsGiven q
together_rests xs p q rest t = let seated = together_seated xs p q rest.seated t in record {
  seated = seated_given q.plant.core seated;
  idle = λ s. no_holder q.plant.core s seated t.settled.idle;
  written = t.settled.written;
  given = refl;
  below = last_below q.answered.last (next_at q) (unanswered q)
      (let le = next_more xs p q t in let same = ap (λ (g : Progress). g.last) t.acts.answered in let lt = rest.below in omega (arith, le, same, lt))
      (above_below q.answered.last (next_at q) (ended_at q) (driven_of xs p q rest.seated t (rest_below p rest)));
}

-- what the pool promises of a run over a source
pub together_of : (rule : ℕ → Rule) (os ps : List (List ℕ)) (cs ds : List ℕ) (p q : Whole) (id : Progress) (given after : List Pairs) (ended : Bool)
    → Drove rule os cs p ps ds q → Grown p.core.world q.core.world → (o : Offered p.core.world q.core.world given after ended) → IsSettled q.core.world →
    Together o.given (record { plant = p; answered = id }) (record { plant = q; answered = id })
together_of rule os ps cs ds p q id given after ended drove grown offered settled =
    let (m, driven, led, counts) = drove.drives in
    record {
      turns = drove.turns;
      outcomes = drove.outcomes;
      acts = acts_once drove.turns drove.outcomes m p q id driven;
      grown = grown;
      offered = offered.offers;
      settled = settled;
    }

-- what comes after a leg

pub settles : (p q r : Point) (a b : Option (List ℕ)) (k l m : Log) → DrainsAll p a k q b l → Cuts q l r m → Settles p a k r b m
settles p q r a b k l m drains cuts = record { drained = q; then = l; drains = drains; cuts = cuts }

pub finished : (hs : List (List ℕ)) (p q r t : Point) (a b c : Option (List ℕ)) (i j k l : Log) → PassesOver hs a i b j → q ≡ all_answered p
    → DrainsAll q b j r c k → Cuts r k t l → Finishes hs p a i t c l
finished hs p q r t a b c i j k l passes same drains cuts = record {
  given = b;
  noted = j;
  passes = passes;
  ends = settles (all_answered p) r t b c j k l (subst (λ (z : Point). DrainsAll z b j r c k) same drains) cuts;
}

-- a leg as a round
abbrev led_round : (order : ResponseOrder) (gs hs : List Pairs) (p e : Point) (a b : Option (List ℕ)) → IsReady p → (l : Led order gs hs p e a b)
    → Serves (Streamed order l.requests ∷ []) p a (all_answered e) b
led_round order gs hs p e a b ready l = record {
  bytes = l.text;
  lines = [];
  goes = (
    ready,
    all_answered e,
    l.text,
    [],
    record { ended = e; together = l.together; list = l.list; ordered = l.ordered; gives = l.framed; answered = refl },
    (refl, refl, refl),
    sym (append-nil l.text),
  );
  appends = l.gives;
}

-- the requests that were heard are those that came since
pub led_are : (got then : List Arrival) (came : List Arrival) (xs : List Pairs) → then ≡ got ++ came → requests_of then ≡ requests_of got ++ xs
    → xs ≡ requests_of came
led_are got then came xs is heard =
    append_cancel_left (requests_of got) xs (requests_of came) (sym heard ∙ (ap requests_of is ∙ requests_of_append got came))

-- headers that are given back are rounds of a stream

returned_returning : (hs : List (List ℕ)) → returned_in (returning hs) ≡ hs
returned_returning [] = refl
returned_returning (h ∷ hs) = ap (λ (l : List (List ℕ)). h ∷ l) (returned_returning hs)

offered_returning : (hs : List (List ℕ)) → offered_in (returning hs) ≡ []
offered_returning [] = refl
offered_returning (h ∷ hs) = offered_returning hs

returning_is_of_stream : (order : ResponseOrder) (hs : List (List ℕ)) → AllByRecursion (IsOfStream order) (returning hs)
returning_is_of_stream order [] = tt
returning_is_of_stream order (h ∷ hs) = (tt, returning_is_of_stream order hs)

pub stream_returning : (order : ResponseOrder) (hs : List (List ℕ)) → AreOfStream order [] hs (returning hs)
stream_returning order hs = record { offered = offered_returning hs; returned = returned_returning hs; of_stream = returning_is_of_stream order hs }

stream_led : (order : ResponseOrder) (xs : List Pairs) → AreOfStream order xs [] (Streamed order xs ∷ [])
stream_led order xs = record { offered = append-nil xs; returned = refl; of_stream = (refl, tt) }

-- what comes at the end of a leg, as rounds
pub reports_end : (p q : Point) (a b : Option (List ℕ)) (k l : Log) → (s : Settles p a k q b l)
    → Reports (s.drains.drains.rounds ++ Trimmed ∷ []) 0 p a k q b l
reports_end p q a b k l s =
    let d = s.drains.drains in
    record {
      serves = serves_then d.rounds (Trimmed ∷ []) p s.drained q a b b d.serves (serves_trimmed s.drained q s.cuts.lines b s.cuts.cuts);
      tells = lines_then d.serves.lines s.cuts.lines 0 k s.then l s.drains.tells s.cuts.tells;
    }

pub stream_end : (order : ResponseOrder) (p q : Point) (a b : Option (List ℕ)) (k l : Log) → (s : Settles p a k q b l)
    → AreOfStream order [] [] (s.drains.drains.rounds ++ Trimmed ∷ [])
stream_end order p q a b k l s =
    let d = s.drains.drains in
    stream_append order [] [] [] [] d.rounds (Trimmed ∷ []) (stream_retries order d.rounds d.retries) (stream_trimmed order)

-- a leg, and what comes after it
pub leg_answered : (order : ResponseOrder) (got then : List Arrival) (passed : List PassedOver) (p e q : Point) (a b c : Option (List ℕ)) (i j k l : Log)
    → IsReady p → j ≡ i → Led order (requests_of got) (requests_of then) p e a b → CameSince got then passed
    → Finishes (map (λ m. m.header.items) passed) e b j q c k → Tells [] 0 k l → Answered order got p a i then q c l
leg_answered order got then passed p e q a b c i j k l ready same led since f shown =
    let hs = headers_of since.came in
    let last = f.ends.drains.drains.rounds ++ Trimmed ∷ [] in
    let back : PassesOver hs b j f.given f.noted = subst (λ (l : List (List ℕ)). PassesOver l b j f.given f.noted) since.headers_are f.passes in
    let first = Streamed order led.requests ∷ [] in
    let after : Reports (returning hs ++ last) (length hs) (all_answered e) b j q c k =
    reports_both (returning hs) last (length hs) 0 (length hs) (all_answered e) (all_answered e) q b f.given c j f.noted k (sym (add-zero (length hs)))
    (back (all_answered e)) (reports_end (all_answered e) q f.given c f.noted k f.ends) in
    let whole : Reports (first ++ (returning hs ++ last)) (length hs) p a i q c k = record {
      serves = serves_then first (returning hs ++ last) p (all_answered e) q a b c (led_round order (requests_of got) (requests_of then) p e a b ready led)
          after.serves;
      tells = subst (λ (z : Log). Tells after.serves.lines (length hs) z k) same after.tells;
    } in
    let are : AreOfStream order led.requests hs (first ++ (returning hs ++ last)) =
    subst (λ (xs : List Pairs). AreOfStream order xs hs (first ++ (returning hs ++ last))) (append-nil led.requests)
    (subst (λ (gs : List (List ℕ)). AreOfStream order (led.requests ++ []) gs (first ++ (returning hs ++ last))) (append-nil hs)
    (stream_append order led.requests [] [] (hs ++ []) first (returning hs ++ last) (stream_led order led.requests)
    (stream_append order [] [] hs [] (returning hs) last (stream_returning order hs) (stream_end order (all_answered e) q f.given c f.noted k f.ends)))) in
    record {
      came = readings_of since.came;
      came_are = ap readings_of since.came_are ∙ readings_of_append got since.came;
      reports = record {
        rounds = first ++ (returning hs ++ last);
        answers = subst (λ (xs : List Pairs). AreOfStream order xs hs (first ++ (returning hs ++ last)))
            (led_are got then since.came led.requests since.came_are led.heard) are;
        reports = reports_shown (first ++ (returning hs ++ last)) (length hs) p q a c i k l whole shown;
      };
    }

-- up to an error

pub halts_led : (header : ℕ) (order : ResponseOrder) (input : Option (List ℕ)) (got : List Arrival) (p : Point) (a b : Option (List ℕ)) → Heard header input got
    → GivesEnded p a b → HaltsHeard header order input got p a b
halts_led header order input got p a b heard (text, is, written) = record {
  frames = heard.frames;
  begins = heard.begins;
  later = heard.later;
  readings_are = heard.readings_are;
  halts = toward_stream order [] heard.later (Streamed order [] ∷ []) p a b (stream_led order []) (record {
    done = [];
    rest = Streamed order [] ∷ [];
    order = refl;
    at = p;
    between = a;
    serves = serves_none p a;
    next = text;
    is_next = is;
    written = written;
  });
}

-- of what came since, these rounds were on the way
pub halts_since : (header : ℕ) (order : ResponseOrder) (input : Option (List ℕ)) (got then came : List Arrival) (p : Point) (a b : Option (List ℕ)) (rs : List Round)
    → Heard header input then → then ≡ got ++ came → AreOfStream order (requests_of came) (headers_of came) rs → Halts rs p a b
    → HaltsHeard header order input got p a b
halts_since header order input got then came p a b rs heard is are h = record {
  frames = heard.frames;
  begins = heard.begins;
  later = readings_of came ++ heard.later;
  readings_are = heard.readings_are ∙ (ap (λ (l : List Reading). l ++ heard.later) (ap readings_of is ∙ readings_of_append got came)
      ∙ append_assoc (readings_of got) (readings_of came) heard.later);
  halts = toward_stream order (readings_of came) heard.later rs p a b are h;
}

pub halts_after : (header : ℕ) (order : ResponseOrder) (input : Option (List ℕ)) (got then : List Arrival) (passed : List PassedOver) (p e : Point)
    (a b c : Option (List ℕ)) → IsReady p → Led order (requests_of got) (requests_of then) p e a b → CameSince got then passed → Heard header input then
    → HaltsThen (returning (map (λ m. m.header.items) passed)) (all_answered e) b c → HaltsHeard header order input got p a c
halts_after header order input got then passed p e a b c ready led since heard t =
    let hs = headers_of since.came in
    let rs = t.retries in
    let first = Streamed order led.requests ∷ [] in
    let back : Halts (returning hs ++ rs) (all_answered e) b c =
    subst (λ (l : List (List ℕ)). Halts (returning l ++ rs) (all_answered e) b c) since.headers_are t.halts in
    let are : AreOfStream order led.requests hs (first ++ (returning hs ++ rs)) =
    subst (λ (xs : List Pairs). AreOfStream order xs hs (first ++ (returning hs ++ rs))) (append-nil led.requests)
    (subst (λ (gs : List (List ℕ)). AreOfStream order (led.requests ++ []) gs (first ++ (returning hs ++ rs))) (append-nil hs)
    (stream_append order led.requests [] [] (hs ++ []) first (returning hs ++ rs) (stream_led order led.requests)
    (stream_append order [] [] hs [] (returning hs) rs (stream_returning order hs) (stream_retries order rs t.are_retries)))) in
    halts_since header order input got then since.came p a c (first ++ (returning hs ++ rs)) heard since.came_are
    (subst (λ (xs : List Pairs). AreOfStream order xs hs (first ++ (returning hs ++ rs)))
    (led_are got then since.came led.requests since.came_are led.heard) are)
    (halts_then first (returning hs ++ rs) p (all_answered e) a b c (led_round order (requests_of got) (requests_of then) p e a b ready led) back)

-- with threads or without

pub for_these : (threads one : Option ResponseOrder) (xs : List Reading) (rounds : List Round) → threads ≡ one → RoundsFor one xs rounds
    → RoundsFor threads xs rounds
for_these threads one xs rounds is h = subst (λ (b : Option ResponseOrder). RoundsFor b xs rounds) (sym is) h

pub some_for : (header : ℕ) (step : AdviceStep) (threads one : Option ResponseOrder) (input : Option (List ℕ)) (p : Point) (s : PlainAdvisor) (a b : Option (List ℕ))
    → threads ≡ one → ServesSome header step one input p s a b → ServesSome header step threads input p s a b
some_for header step threads one input p s a b is h = subst (λ (t : Option ResponseOrder). ServesSome header step t input p s a b) (sym is) h
