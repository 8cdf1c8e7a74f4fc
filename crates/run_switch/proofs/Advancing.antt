-- Requests answered with advices sent between them.
-- for: stream::answer_input, streaming::answer_stream, advices::send_between
use Rattle.std.proofs.Common.{◌≡◌, ℕ, ◌+◌, false, List, [], ◌∷◌, ◌++◌, length, Option, Some, refl, sym, ap, subst, ◌∙◌, append_assoc, append-nil}
use Rattle.sw_frame.specs.Stream.{State, blank}
use Rattle.run_responses.specs.declared.sink.ResponseOrder.{ResponseOrder}
use Rattle.run_switch.specs.Advices.{AdviceStep, Between, PlainAdvisor, SendsAll, SendsBetween, due_between}
use Rattle.run_switch.specs.Legs.{Advances, AdvancesBy, AdvancesFor, AdvancesWith, Leg, Legs, Stage, lines_of, rounds_in, stage}
use Rattle.run_switch.specs.Lines.{Line}
use Rattle.run_switch.specs.Points.{Point, is_long, world_at}
use Rattle.run_input.specs.Requests.{Reading, Reads, headers_in, readings}
use Rattle.run_switch.specs.Rounds.{Round, Serves}
use Rattle.run_switch.specs.Stopped.{HaltsHeard, HaltsOn, StopsWithin}
use Rattle.run_switch.specs.Traces.{Answered, Cuts, Log, ReportsWith, Tells}
use Rattle.run_input.specs.declared.arrival.Arrival.{Arrival}
use Rattle.run_input.specs.declared.frames.StreamEnd.{StreamEnd}
use Rattle.run_input.specs.Arrivals.{Heard, HeardAll, readings_of}
use Rattle.run_input.proofs.Readings.{nothing_read, readings_append, unread_append}
use Rattle.run_switch.proofs.Resting.{may_keep}
use Rattle.run_switch.proofs.Rounds.{serves_none, serves_then}
use Rattle.run_switch.proofs.Stops.{rounds_append, rounds_none, toward_none}
use Rattle.run_switch.proofs.Tracing.{lines_then, tells_none, tells_then}

-- legs

legs_more : (step : AdviceStep) (legs : List (List Round)) (rs : List Round) (lines more : List Line) (x y z : Stage) → Legs step legs x lines y →
    Leg step rs y more z → Legs step (legs ++ rs ∷ []) x (lines ++ more) z
legs_more step [] rs lines more x y z (none, same) leg =
    let here : Leg step rs x more z = subst (λ (w : Stage). Leg step rs w more z) same leg in
    (more, [], z, here, (refl, refl), ap (λ (l : List Line). l ++ more) none ∙ sym (append-nil more))
legs_more step (r ∷ legs) rs lines more x y z (first, later, w, leg, others, are) next =
    (first, later ++ more, w, leg, legs_more step legs rs later more w y z others next, ap (λ (l : List Line). l ++ more) are ∙ append_assoc first later more)

rounds_in_more : (legs : List (List Round)) (rs : List Round) → rounds_in (legs ++ rs ∷ []) ≡ rounds_in legs ++ rs
rounds_in_more [] rs = append-nil rs
rounds_in_more (r ∷ legs) rs = ap (λ (l : List Round). r ++ l) (rounds_in_more legs rs) ∙ sym (append_assoc r (rounds_in legs) rs)

abbrev advances_none : (step : AdviceStep) (x : Stage) → Advances step [] x x
advances_none step x = record {
  legs = [];
  last = [];
  split = refl;
  lines = [];
  halfway = x;
  goes = (refl, refl);
  serves = serves_none x.point x.out;
  advisor = refl;
}

-- further rounds
abbrev advances_serves : (step : AdviceStep) (rs ss : List Round) (x y : Stage) (q : Point) (c : Option (List ℕ)) → Advances step rs x y →
    Serves ss y.point y.out q c → Advances step (rs ++ ss) x (stage y.advisor q c)
advances_serves step rs ss x y q c a s = record {
  legs = a.legs;
  last = a.last ++ ss;
  split = ap (λ (l : List Round). l ++ ss) a.split ∙ append_assoc (rounds_in a.legs) a.last ss;
  lines = a.lines;
  halfway = a.halfway;
  goes = a.goes;
  serves = serves_then a.last ss a.halfway.point y.point q a.halfway.out y.out c a.serves s;
  advisor = a.advisor;
}

-- and then advices
abbrev leg_of : (step : AdviceStep) (rs : List Round) (x y : Stage) (lines : List Line) (t : PlainAdvisor) (q : Point) →
    (s : Serves rs x.point x.out y.point y.out) → y.advisor ≡ x.advisor → Between step y.advisor y.point lines t q →
    Leg step rs x (s.lines ++ lines) (stage t q y.out)
leg_of step rs x y lines t q s same b = record {
  served = y.point;
  serves = s;
  cut = lines;
  between = subst (λ (a : PlainAdvisor). Between step a y.point lines t q) same b;
  lines_are = refl;
}

abbrev advances_sends : (step : AdviceStep) (rs : List Round) (x y : Stage) (lines : List Line) (t : PlainAdvisor) (q : Point) → Advances step rs x y →
    Between step y.advisor y.point lines t q → Advances step rs x (stage t q y.out)
advances_sends step rs x y lines t q a b = record {
  legs = a.legs ++ a.last ∷ [];
  last = [];
  split = a.split ∙ (sym (rounds_in_more a.legs a.last) ∙ sym (append-nil (rounds_in (a.legs ++ a.last ∷ []))));
  lines = a.lines ++ (a.serves.lines ++ lines);
  halfway = stage t q y.out;
  goes = legs_more step a.legs a.last a.lines (a.serves.lines ++ lines) x a.halfway (stage t q y.out) a.goes
      (leg_of step a.last a.halfway y lines t q a.serves a.advisor b);
  serves = serves_none q y.out;
  advisor = refl;
}

-- of what was read

pub advanced_none : (step : AdviceStep) (threads : Option ResponseOrder) (x : Stage) (l : Log) → AdvancesWith step threads [] x l x l
advanced_none step threads x l = record { rounds = []; answers = rounds_none threads; advances = advances_none step x; tells = tells_none l }

pub advanced_then : (step : AdviceStep) (threads : Option ResponseOrder) (xs ys : List Reading) (x y : Stage) (q : Point) (c : Option (List ℕ))
    (k l m : Log) → AdvancesWith step threads xs x k y l → ReportsWith threads ys y.point y.out l q c m →
    AdvancesWith step threads (xs ++ ys) x k (stage y.advisor q c) m
advanced_then step threads xs ys x y q c k l m a r =
    let i = length (headers_in xs) in
    let j = length (headers_in ys) in
    let lines = a.advances.lines ++ (a.advances.serves.lines ++ r.reports.serves.lines) in
    let both : Tells ((a.advances.lines ++ a.advances.serves.lines) ++ r.reports.serves.lines) (i + j) k m =
    tells_then (lines_of a.advances) r.reports.serves.lines i j k l m a.tells r.reports.tells in
    record {
      rounds = a.rounds ++ r.rounds;
      answers = rounds_append threads xs ys a.rounds r.rounds a.answers r.answers;
      advances = advances_serves step a.rounds r.rounds x y q c a.advances r.reports.serves;
      tells = subst (λ (n : ℕ). Tells lines n k m) (sym (unread_append xs ys))
          (subst (λ (ls : List Line). Tells ls (i + j) k m) (append_assoc a.advances.lines a.advances.serves.lines r.reports.serves.lines) both);
    }

pub advanced_sends : (step : AdviceStep) (threads : Option ResponseOrder) (xs : List Reading) (x y : Stage) (t : PlainAdvisor) (q : Point) (k l m : Log)
    → AdvancesWith step threads xs x k y l → SendsBetween step y.advisor y.point l t q m → AdvancesWith step threads xs x k (stage t q y.out) m
advanced_sends step threads xs x y t q k l m a b = record {
  rounds = a.rounds;
  answers = a.answers;
  advances = advances_sends step a.rounds x y b.lines t q a.advances b.between;
  tells = (let i = length (headers_in xs) in
      let both : Tells ((a.advances.lines ++ a.advances.serves.lines) ++ b.lines) i k m =
      lines_then (lines_of a.advances) b.lines i k l m a.tells b.tells in
      subst (λ (ls : List Line). Tells ls i k m) (append_assoc a.advances.lines a.advances.serves.lines b.lines
      ∙ sym (append-nil (a.advances.lines ++ (a.advances.serves.lines ++ b.lines)))) both);
}

-- the messages of further frames
pub advanced_frames : (header : ℕ) (step : AdviceStep) (threads : Option ResponseOrder) (frames more : List (List ℕ)) (x y : Stage) (q : Point) (c : Option (List ℕ))
    (k l m : Log) → AdvancesFor header step threads frames x k y l → ReportsWith threads (readings header more) y.point y.out l q c m →
    AdvancesFor header step threads (frames ++ more) x k (stage y.advisor q c) m
advanced_frames header step threads frames more x y q c k l m a r =
    subst (λ (read : List Reading). AdvancesWith step threads read x k (stage y.advisor q c) m) (sym (readings_append header frames more))
    (advanced_then step threads (readings header frames) (readings header more) x y q c k l m a r)

-- what came in a further leg
pub advanced_leg : (step : AdviceStep) (order : ResponseOrder) (got then : List Arrival) (x y : Stage) (q : Point) (c : Option (List ℕ)) (k l m : Log)
    → AdvancesBy step order got x k y l → Answered order got y.point y.out l then q c m → AdvancesBy step order then x k (stage y.advisor q c) m
advanced_leg step order got then x y q c k l m a s =
    subst (λ (read : List Reading). AdvancesWith step (Some order) read x k (stage y.advisor q c) m) (sym s.came_are)
    (advanced_then step (Some order) (readings_of got) s.came x y q c k l m a s.reports)

-- all that came of an input, which was read to its end
pub advanced_all : (header : ℕ) (step : AdviceStep) (order : ResponseOrder) (input : Option (List ℕ)) (end : StreamEnd) (got : List Arrival) (x y : Stage) (k l : Log)
    → (h : HeardAll header input end got) → AdvancesBy step order got x k y l → AdvancesFor header step (Some order) h.frames x k y l
advanced_all header step order input end got x y k l h a =
    subst (λ (read : List Reading). AdvancesWith step (Some order) read x k y l) (sym h.readings_are) a

-- up to an error

pub stops_fresh : (header : ℕ) (step : AdviceStep) (threads : Option ResponseOrder) (input : Option (List ℕ)) (s : State) (x : Stage) → s ≡ blank → StopsWithin header step threads input x x.out
stops_fresh header step threads input s x fresh = record {
  frames = [];
  begins = record { left = input; state = s; reads = nothing_read input s fresh };
  halts = record {
    first = [];
    later = [];
    order = refl;
    rounds = [];
    answers = rounds_none threads;
    reached = x;
    advances = advances_none step x;
    halts = toward_none threads [] x.point x.out;
  };
}

pub stops_on : (header : ℕ) (step : AdviceStep) (threads : Option ResponseOrder) (input left : Option (List ℕ)) (frames : List (List ℕ)) (s : State) (x y : Stage) (k l : Log)
    (c : Option (List ℕ)) → Reads input left frames s → AdvancesFor header step threads frames x k y l → HaltsOn header threads left s y.point y.out c →
    StopsWithin header step threads input x c
stops_on header step threads input left frames s x y k l c reads a on =
    let (more, begins, halts) = on input frames reads in
    record {
      frames = frames ++ more;
      begins = begins;
      halts = record {
        first = readings header frames;
        later = readings header more;
        order = readings_append header frames more;
        rounds = a.rounds;
        answers = a.answers;
        reached = y;
        advances = a.advances;
        halts = halts;
      };
    }

-- of what came of an input, and of what may come next
pub stops_by : (header : ℕ) (step : AdviceStep) (order : ResponseOrder) (input : Option (List ℕ)) (got : List Arrival) (x y : Stage) (k l : Log) (c : Option (List ℕ))
    → AdvancesBy step order got x k y l → HaltsHeard header order input got y.point y.out c → StopsWithin header step (Some order) input x c
stops_by header step order input got x y k l c a h = record {
  frames = h.frames;
  begins = h.begins;
  halts = record {
    first = readings_of got;
    later = h.later;
    order = h.readings_are;
    rounds = a.rounds;
    answers = a.answers;
    reached = y;
    advances = a.advances;
    halts = h.halts;
  };
}

-- nothing came after it
pub stops_heard : (header : ℕ) (step : AdviceStep) (order : ResponseOrder) (input : Option (List ℕ)) (got : List Arrival) (x y : Stage) (k l : Log)
    → AdvancesBy step order got x k y l → Heard header input got → StopsWithin header step (Some order) input x y.out
stops_heard header step order input got x y k l a h = stops_by header step order input got x y k l y.out a (record {
  frames = h.frames;
  begins = h.begins;
  later = h.later;
  readings_are = h.readings_are;
  halts = toward_none (Some order) h.later y.point y.out;
})

-- advices between two reads

pub none_between : (step : AdviceStep) (bs : List ((ℕ × ℕ) × List ℕ)) (s : PlainAdvisor) (p : Point) (l : Log) → bs ≡ due_between s p →
    length bs ≡ 0 → is_long (world_at p) ≡ false → SendsBetween step s p l s p l
none_between step bs s p l are none short = record {
  lines = [];
  between = record {
    sent = p;
    sends = subst (λ (cs : List ((ℕ × ℕ) × List ℕ)). SendsAll step cs s p s p) are (nothing bs none);
    cuts = may_keep p short;
  };
  tells = tells_none l;
} where
  nothing : (cs : List ((ℕ × ℕ) × List ℕ)) → length cs ≡ 0 → SendsAll step cs s p s p
  nothing [] h = (refl, refl)
  nothing (c ∷ cs) h = absurd (cc)

pub some_between : (step : AdviceStep) (bs : List ((ℕ × ℕ) × List ℕ)) (s t : PlainAdvisor) (p w q : Point) (l m : Log) → bs ≡ due_between s p →
    SendsAll step bs s p t w → Cuts w l q m → SendsBetween step s p l t q m
some_between step bs s t p w q l m are sends cuts = record {
  lines = cuts.lines;
  between = record { sent = w; sends = subst (λ (cs : List ((ℕ × ℕ) × List ℕ)). SendsAll step cs s p t w) are sends; cuts = cuts.cuts };
  tells = cuts.tells;
}
