-- Turns by which no session goes on leave a switch at rest.
-- for: switch::Switch, serving::Switch, advices::send_advices
use Rattle.std.proofs.Common.{◌≡◌, ◌<◌, ◌≤◌, ℕ, ◌+◌, false, List, [], ◌∷◌, ◌++◌, drop, length, Option, Some, None, Ok, refl, sym, ap, subst, arith, ◌∙◌, ◌⊎◌}
use Rattle.std.proofs.Common.{inl, inr}
use Rattle.std.proofs.lemmas.List.{drop_all, length-append, length-drop}
use Rattle.sw_context.specs.Pairs.{Pairs}
use Rattle.sw_context.specs.Spelling.{bytes_of}
use Rattle.tx_history.specs.declared.event.Entry.{Entry}
use Rattle.tx_history.specs.declared.event.Event.{Event}
use Rattle.tx_history.specs.declared.event.Event.TheVariants as event
use Rattle.tx_history.specs.declared.journal.WaitingContext.{WaitingContext}
use Rattle.tx_history.specs.History.{arrivals, recovering, takes}
use Rattle.tx_history.specs.Journal.{entries}
use Rattle.std.proofs.lemmas.Bool.Decides.{nat_tests}
use Rattle.tx_history.proofs.Sessions.{holds_recovered}
use Rattle.tx_engine.specs.declared.error.EngineError.{EngineError}
use Rattle.tx_engine.specs.World.{World, happened}
use Rattle.tx_engine.specs.Calls.{ack_refusal, held_id, offer_refusal, waits}
use Rattle.tx_engine.specs.Cuts.{cut_world}
use Rattle.tx_plant.specs.declared.turn.Outcome.{Outcome}
use Rattle.tx_plant.specs.declared.turn.Outcome.TheVariants as outcome
use Rattle.tx_plant.specs.declared.turn.Turn.TheVariants as turn
use Rattle.tx_plant.specs.Core.{Core, seat_of}
use Rattle.tx_plant.specs.Turns.{Cuts, Logs}
use Rattle.tx_seats.specs.Seated.{Seated, seat_id}
use Rattle.run_switch.specs.declared.progress.Progress.{Progress}
use Rattle.run_switch.specs.Points.{IsAllWritten, IsAtRest, IsReady, Point, ended_at, is_long, next_at, world_at}
use Rattle.run_responses.specs.Responses.{above}
use Rattle.run_switch.specs.Lines.{Line, lines_in}
use Rattle.run_switch.specs.Advices.{one_delivered}
use Rattle.run_switch.specs.Rounds.{Does, IsDone, IsEmptied, MayCut}
use Rattle.run_switch.proofs.Doings.{did, unraised}
use Rattle.tx_history.proofs.EntryCounts.{entries_length}

-- the world is another, and the rest of the plant's core is the same
pub record Apart (p q : Point) : Type 0 where
  pub core : q.plant.core ≡ record p.plant.core { world = world_at q }
  pub answered : q.answered ≡ p.answered

pub rest_kept : (p q : Point) → IsAtRest p → Apart p q → Seated q.plant.core → IsAllWritten (world_at q) → next_at p ≤ next_at q → IsAtRest q
rest_kept p q rest apart seated written le = record {
  seated = seated;
  idle = λ s. sym (seated.seats s) ∙ (ap (λ (c : Core). seat_id (seat_of c s)) apart.core ∙ (rest.seated.seats s ∙ rest.idle s));
  written = written;
  given = ap (λ (c : Core). above q.answered.last c.ended) apart.core ∙ (ap (λ (g : Progress). above g.last (ended_at p)) apart.answered ∙ rest.given);
  below = (let b = rest.below in let a = ap (λ (g : Progress). g.last) apart.answered in omega (arith, a, b, le));
}

-- nothing is recovered where session 0 is idle
none_recovered : (w : World) (o : Option ℕ) → recovering w.flow w.start w.past ≡ o → ((id : ℕ) → o ≡ Some id → held_id w 0 ≡ Some id) → held_id w 0 ≡ None →
    o ≡ None
none_recovered w None is holds free = refl
none_recovered w (Some id) is holds free = absurd (let h = holds id refl in cc)

pub at_rest_recovered : (p : Point) → IsAtRest p → recovering (world_at p).flow (world_at p).start (world_at p).past ≡ None
at_rest_recovered p rest =
    let w = world_at p in
    none_recovered w (recovering w.flow w.start w.past) refl (λ id is. holds_recovered w.flow w.start w.past id rest.seated.engine.start.view.ordered is)
    (rest.idle 0)

-- an event of the engine

pub record Happens (e : Event) (p q : Point) : Type 0 where
  pub apart : Apart p q
  pub mark : ℕ
  pub world : world_at q ≡ record (happened (world_at p) e) { mark = mark }

recorded_by : (e : Event) (refusal : Option EngineError) (w to : World) (o : Outcome) → Logs (Some e) refusal w (Ok o) to → IsDone o → to ≡ happened w e
recorded_by e refusal w to (outcome.Accepted n) h done = h.1.history
recorded_by e refusal w to (outcome.Refused x) h done = absurd done
recorded_by e refusal w to outcome.Idle h done = absurd h
recorded_by e refusal w to outcome.Unwritten h done = absurd h
recorded_by e refusal w to (outcome.Held c) h done = absurd h
recorded_by e refusal w to (outcome.Written n) h done = absurd h
recorded_by e refusal w to (outcome.Restarted n) h done = absurd h
recorded_by e refusal w to (outcome.Cut n) h done = absurd h

apart_marked : (p q : Point) (b : Core) (k : ℕ) → b ≡ record p.plant.core { world = b.world } →
    q.plant.core ≡ record b { world = record b.world { mark = k } } → q.answered ≡ p.answered → Apart p q
apart_marked p q b k core marked answered = record {
  core = (let world : world_at q ≡ record b.world { mark = k } = ap (λ (c : Core). c.world) marked in
      marked ∙ (ap (λ (c : Core). record c { world = record b.world { mark = k } }) core ∙ ap (λ (w : World). record p.plant.core { world = w }) (sym world)));
  answered = answered;
}

happens_by : (e : Event) (p q : Point) (b : Core) (k : ℕ) → Apart p q → b.world ≡ happened (world_at p) e →
    q.plant.core ≡ record b { world = record b.world { mark = k } } → Happens e p q
happens_by e p q b k apart is marked = record {
  apart = apart;
  mark = k;
  world = ap (λ (c : Core). c.world) marked ∙ ap (λ (w : World). record w { mark = k }) is;
}

pub offers : (x : Pairs) (o : Outcome) (p q : Point) → Does (turn.Offer x) o p q → Happens (event.Offered (bytes_of x)) p q
offers x o p q does =
    let d = did (turn.Offer x) o p q does in
    let b = d.between.core in
    let logs = unraised (λ y. Logs (Some (event.Offered (bytes_of x))) (offer_refusal (world_at p)) (world_at p) y b.world) o d.turned.2.0 d.turned.2.1
    d.turned.2.2 in
    happens_by _ p q b d.mark (apart_marked p q b d.mark d.turned.1 d.core does.acts.answered) (recorded_by _ _ _ _ o logs does.done) d.core

pub releases : (o : Outcome) (p q : Point) → Does turn.Release o p q → Happens event.Released p q
releases o p q does =
    let d = did turn.Release o p q does in
    let b = d.between.core in
    let logs = unraised (λ y. Logs (Some event.Released) (offer_refusal (world_at p)) (world_at p) y b.world) o d.turned.2.0 d.turned.2.1 d.turned.2.2 in
    happens_by _ p q b d.mark (apart_marked p q b d.mark d.turned.1 d.core does.acts.answered) (recorded_by _ _ _ _ o logs does.done) d.core

pub acknowledges : (id place : ℕ) (o : Outcome) (p q : Point) → Does (turn.Ack id place) o p q → Happens (event.Acked id place) p q
acknowledges id place o p q does =
    let d = did (turn.Ack id place) o p q does in
    let b = d.between.core in
    let logs = unraised (λ y. Logs (Some (event.Acked id place)) (ack_refusal (world_at p) (id, place)) (world_at p) y b.world) o d.turned.2.0 d.turned.2.1
    d.turned.2.2 in
    happens_by _ p q b d.mark (apart_marked p q b d.mark d.turned.1 d.core does.acts.answered) (recorded_by _ _ _ _ o logs does.done) d.core

-- a cut

pub record CutTo (p q : Point) : Type 0 where
  pub apart : Apart p q
  pub mark : ℕ
  pub world : world_at q ≡ record (cut_world (world_at p)) { mark = mark }

cut_by : (w to : World) (o : Outcome) → Cuts w (Ok o) to → IsDone o → to ≡ cut_world w
cut_by w to (outcome.Cut n) h done = h.2
cut_by w to (outcome.Refused x) h done = absurd done
cut_by w to (outcome.Accepted n) h done = absurd h
cut_by w to outcome.Idle h done = absurd h
cut_by w to outcome.Unwritten h done = absurd h
cut_by w to (outcome.Held c) h done = absurd h
cut_by w to (outcome.Written n) h done = absurd h
cut_by w to (outcome.Restarted n) h done = absurd h

pub cut_to : (o : Outcome) (p q : Point) → Does turn.Cut o p q → CutTo p q
cut_to o p q does =
    let d = did turn.Cut o p q does in
    let b = d.between.core in
    let cuts = unraised (λ y. Cuts (world_at p) y b.world) o d.turned.2.0 d.turned.2.1 d.turned.2.2 in
    record {
      apart = apart_marked p q b d.mark d.turned.1 d.core does.acts.answered;
      mark = d.mark;
      world = ap (λ (c : Core). c.world) d.core ∙ ap (λ (w : World). record w { mark = d.mark }) (cut_by (world_at p) b.world o cuts does.done);
    }

next_cut : (p q : Point) → CutTo p q → next_at p ≤ next_at q
next_cut p q cut = subst (λ (w : World). next_at p ≤ w.start.view.next_id + takes w.past) (sym cut.world) (omega arith)

pub cut_rest : (p q : Point) (o : Outcome) → IsAtRest p → Does turn.Cut o p q → Seated q.plant.core → IsAtRest q
cut_rest p q o rest does seated =
    let cut = cut_to o p q does in
    rest_kept p q rest cut.apart seated does.written (next_cut p q cut)

pub cut_short : (p q : Point) (o : Outcome) → Does turn.Cut o p q → is_long (world_at q) ≡ false
cut_short p q o does = let cut = cut_to o p q does in subst (λ (w : World). is_long w ≡ false) (sym cut.world) refl

-- no entry is left
pub cut_none : (p q : Point) (o : Outcome) → Does turn.Cut o p q → (world_at q).past ≡ []
cut_none p q o does = let cut = cut_to o p q does in subst (λ (w : World). w.past ≡ []) (sym cut.world) refl

pub may_cut : (p q : Point) (o : Outcome) → Does turn.Cut o p q → MayCut p (lines_in (world_at p)) q
may_cut p q o does = record { cuts = inr (o, does, refl); short = cut_short p q o does }

pub may_keep : (p : Point) → is_long (world_at p) ≡ false → MayCut p [] p
may_keep p short = record { cuts = inl (refl, refl); short = short }

-- the queue is the same after a cut
cut_waits : (p q : Point) → CutTo p q → waits (world_at q) ≡ waits (world_at p)
cut_waits p q cut = subst (λ (w : World). waits w ≡ waits (world_at p)) (sym cut.world) refl

cuts_waits_by : (p q : Point) (lines : List Line) → ((q ≡ p) × (lines ≡ [])) ⊎ ((o : Outcome) × Does turn.Cut o p q × (lines ≡ lines_in (world_at p))) →
    waits (world_at q) ≡ waits (world_at p)
cuts_waits_by p q lines (inl (same, none)) = ap (λ (z : Point). waits (world_at z)) same
cuts_waits_by p q lines (inr (o, does, are)) = cut_waits p q (cut_to o p q does)

pub cuts_waits : (p q : Point) (lines : List Line) → MayCut p lines q → waits (world_at q) ≡ waits (world_at p)
cuts_waits p q lines cuts = cuts_waits_by p q lines cuts.cuts

pub ready_cut : (p q : Point) (lines : List Line) → MayCut p lines q → IsAtRest q → waits (world_at q) ≡ [] → IsReady q
ready_cut p q lines cuts rest empty = record { rest = rest; recovered = at_rest_recovered q rest; empty = empty; short = cuts.short }

-- events at rest

pub offered_rest : (x : Pairs) (o : Outcome) (p q : Point) → IsAtRest p → Does (turn.Offer x) o p q → Seated q.plant.core → IsAtRest q
offered_rest x o p q rest does seated =
    let h = offers x o p q does in
    rest_kept p q rest h.apart seated does.written (subst (λ (w : World). next_at p ≤ w.start.view.next_id + takes w.past) (sym h.world) (omega arith))

pub released_rest : (o : Outcome) (p q : Point) → IsAtRest p → Does turn.Release o p q → Seated q.plant.core → IsAtRest q
released_rest o p q rest does seated =
    let h = releases o p q does in
    rest_kept p q rest h.apart seated does.written (subst (λ (w : World). next_at p ≤ w.start.view.next_id + takes w.past) (sym h.world) (omega arith))

pub acked_rest : (id place : ℕ) (o : Outcome) (p q : Point) → IsAtRest p → Does (turn.Ack id place) o p q → Seated q.plant.core → IsAtRest q
acked_rest id place o p q rest does seated =
    let h = acknowledges id place o p q does in
    rest_kept p q rest h.apart seated does.written (subst (λ (w : World). next_at p ≤ w.start.view.next_id + takes w.past) (sym h.world) (omega arith))

pub acked_emptied : (id place : ℕ) (o : Outcome) (p q : Point) → IsEmptied (world_at p) → Does (turn.Ack id place) o p q → IsEmptied (world_at q)
acked_emptied id place o p q emptied does =
    let h = acknowledges id place o p q does in
    subst IsEmptied (sym h.world) (record { queue = emptied.queue; shelf = emptied.shelf })

-- what was counted changes nothing of that
pub delivered_rest : (p : Point) → IsAtRest p → IsAtRest (one_delivered p)
delivered_rest p rest = record { seated = rest.seated; idle = rest.idle; written = rest.written; given = rest.given; below = rest.below }

-- one context is in the queue after an offer to an empty one
one_offered : (n : ℕ) (xs : List WaitingContext) (x : WaitingContext) → drop n xs ≡ [] → drop 1 (drop n (xs ++ x ∷ [])) ≡ []
one_offered n xs x none =
    let short : length xs ≤ n = (let a = length-drop n xs in let b : length (drop n xs) ≡ 0 = ap length none in omega (arith, a, b)) in
    drop_all 1 (drop n (xs ++ x ∷ [])) (let a = length-drop n (xs ++ x ∷ []) in let b = length-append xs (x ∷ []) in omega (arith, a, b, short))

pub offered_one : (x : Pairs) (o : Outcome) (p q : Point) → waits (world_at p) ≡ [] → Does (turn.Offer x) o p q → drop 1 (waits (world_at q)) ≡ []
offered_one x o p q none does =
    let h = offers x o p q does in
    let w = world_at p in
    subst (λ (z : World). drop 1 (waits z) ≡ []) (sym h.world) (one_offered (takes w.past) (arrivals w.flow w.start w.past) _ none)

-- whether a history is long

pub history_short : (w : World) (es : List Entry) (n : ℕ) → es ≡ entries w.flow w.start w.past → length es < n → n ≤ 524288 → is_long w ≡ false
history_short w es n is lt bound =
    let same : length es ≡ length w.past = ap length is ∙ entries_length w.flow w.start w.past in
    let less : length w.past < 524288 = omega (arith, same, lt, bound) in
    grind (arith, nat_tests)

none_of : (past : List Event) → length past < 1 → past ≡ []
none_of [] h = refl
none_of (e ∷ past) h = absurd (omega arith)

-- a history with fewer entries than one has none
pub history_none : (w : World) (es : List Entry) (n : ℕ) → es ≡ entries w.flow w.start w.past → length es < n → n ≡ 1 → w.past ≡ []
history_none w es n is lt one =
    let same : length es ≡ length w.past = ap length is ∙ entries_length w.flow w.start w.past in
    none_of w.past (omega (arith, same, lt, one))
