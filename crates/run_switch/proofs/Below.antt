-- The ids of the transactions that ended are below the next id, whatever turns are done.
-- for: leg::answer_leg
use Rattle.std.proofs.Common.{◌≡◌, ◌<◌, ◌≤◌, ℕ, ◌+◌, inl, inr, List, [], ◌∷◌, Option, Some, None, Result, Ok, Err, refl, sym, ap, subst, arith, ◌∙◌}
use Rattle.std.specs.declared.alloc.AllocError.{AllocError}
use Rattle.sw_context.specs.Pairs.{Pairs}
use Rattle.sw_participant.specs.declared.call.Reply.{Reply}
use Rattle.sw_participant.specs.declared.call.Reply.TheVariants as reply
use Rattle.tx_history.specs.declared.event.Event.{Event}
use Rattle.tx_history.specs.declared.journal.Row.{Row}
use Rattle.tx_history.specs.declared.journal.WaitingContext.{WaitingContext}
use Rattle.tx_history.specs.History.{next_id, takes}
use Rattle.tx_history.specs.Journal.{change}
use Rattle.tx_history.proofs.OwnItems.{holds_serves, serves_below}
use Rattle.tx_engine.specs.World.{World}
use Rattle.tx_engine.specs.Calls.{held_id}
use Rattle.tx_plant.specs.declared.seat.Seat.{Seat}
use Rattle.tx_plant.specs.declared.turn.Outcome.{Outcome}
use Rattle.tx_plant.specs.declared.turn.Outcome.TheVariants as outcome
use Rattle.tx_plant.specs.declared.turn.StepFault.{StepFault}
use Rattle.tx_plant.specs.declared.turn.PlantError.{PlantError}
use Rattle.tx_plant.specs.declared.turn.Turn.{Turn}
use Rattle.tx_plant.specs.declared.turn.Turn.TheVariants as turn
use Rattle.tx_plant.specs.Core.{Core, Same, Stepped, ended_by, fate_by, new_seat, newcomer, seat_of}
use Rattle.tx_plant.specs.Plant.{Driven, Logged, Stops, Turned, Whole}
use Rattle.tx_plant.specs.Steps.{Moved, event_of}
use Rattle.tx_plant.specs.Turns.{Takes, Taken}
use Rattle.tx_plant.proofs.Driving.{cut_still, logged_still, writes_next}
use Rattle.tx_seats.specs.Seated.{Seated, seat_id}
use Rattle.tx_seats.proofs.SeatedTurns.{turned_seated}
use Rattle.run_switch.proofs.Recoveries.{AreBelow, below_insert}
use Rattle.run_switch.proofs.SessionSteps.{Adds, Enters, gives_by, stepping_of}

pub below_more : (n m : ℕ) (es : List (ℕ × Pairs)) → n ≤ m → AreBelow n es → AreBelow m es
below_more n m [] le h = tt
below_more n m (e ∷ es) le h = (let lt = h.0 in omega (arith, lt, le), below_more n m es le h.1)

-- of a core: the ids of its transactions that ended
abbrev pub EndedBelow : Core → Type 0
EndedBelow p = AreBelow (next_id p.world.start p.world.past) p.ended

below_kept : (p q : Core) → EndedBelow p → q.ended ≡ p.ended → next_id p.world.start p.world.past ≤ next_id q.world.start q.world.past → EndedBelow q
below_kept p q h same le = subst (AreBelow (next_id q.world.start q.world.past)) (sym same) (below_more _ _ p.ended le h)

below_same : (p q : Core) → EndedBelow p → q ≡ p → EndedBelow q
below_same p q h same = subst EndedBelow (sym same) h

equal_at_most : (n m : ℕ) → m ≡ n → n ≤ m
equal_at_most n m e = omega (arith, e)

-- a take

below_fate : (row : Option (ℕ × Option Row)) (item : Option (ℕ × WaitingContext)) (n : ℕ) (t : Seat) (es : List (ℕ × Pairs)) → t.id < n → AreBelow n es →
    AreBelow n (ended_by (fate_by row item) t es)
below_fate None item n t es lt h = h
below_fate (Some (k, Some r)) item n t es lt h = h
below_fate (Some (k, None)) None n t es lt h = below_insert n t.id t.context es lt h
below_fate (Some (k, None)) (Some y) n t es lt h = h

taken_below : (p q : Core) (s k : ℕ) (m : List Moved) → Taken p s k m q → EndedBelow p → EndedBelow q
taken_below p q s k m t h =
    let n = next_id p.world.start p.world.past in
    let more : next_id q.world.start q.world.past ≡ n + 1 = ap (λ (w : World). next_id w.start w.past) t.recorded.history ∙ omega arith in
    let c = change q.world.flow q.world.start q.world.past in
    let own : t.id < next_id q.world.start q.world.past = (let is = t.id_is in omega (arith, more, is)) in
    let le : n ≤ next_id q.world.start q.world.past = omega (arith, more) in
    subst (AreBelow (next_id q.world.start q.world.past)) (sym (ap (λ (c : Core). c.ended) t.leaves))
    (below_fate c.row c.shelved _ (new_seat (t.id, t.context)) p.ended own (below_more _ _ p.ended le h))

takes_below : (p q : Core) (s : ℕ) (m : List Moved) (x : Result Outcome AllocError) → Takes p s m x q → EndedBelow p → EndedBelow q
takes_below p q s m (Ok (outcome.Accepted n)) t h = taken_below p q s n m t h
takes_below p q s m (Ok (outcome.Refused e)) t h = below_same p q h t.1.1
takes_below p q s m (Ok outcome.Idle) t h = absurd t
takes_below p q s m (Ok outcome.Unwritten) t h = absurd t
takes_below p q s m (Ok (outcome.Held c)) t h = absurd t
takes_below p q s m (Ok (outcome.Written n)) t h = absurd t
takes_below p q s m (Ok (outcome.Restarted n)) t h = absurd t
takes_below p q s m (Ok (outcome.Cut n)) t h = absurd t
takes_below p q s m (Err x) t h = below_same p q h t.1

-- a step

reply_next : (s : ℕ) (r : Reply) (x : Pairs) (past : List Event) → takes (event_of s r x ∷ past) ≡ takes past
reply_next s (reply.Answer byte) x past = refl
reply_next s (reply.Chosen text) x past = refl
reply_next s (reply.Told advice) x past = refl
reply_next s reply.Recovered x past = refl

entered_next : (s : ℕ) (w to : World) → Enters s w to → next_id to.start to.past ≡ next_id w.start w.past
entered_next s w to (inl same) = ap (λ (z : World). next_id z.start z.past) same
entered_next s w to (inr (r, x, is)) = ap (λ (z : World). next_id z.start z.past) is ∙ ap (λ (k : ℕ). w.start.view.next_id + k) (reply_next s r x w.past)

held_below : (p : Core) (s : ℕ) (l : Seat) → Seated p → seat_of p s ≡ Some l → l.id < next_id p.world.start p.world.past
held_below p s l seated there =
    let held : held_id p.world s ≡ Some l.id = sym (seated.seats s) ∙ ap seat_id there in
    let serves = (holds_serves p.world.flow p.world.start p.world.past s l.id held).0 in
    (serves_below p.world.flow p.world.start p.world.past s l.id seated.engine.start.view.ordered serves).1

adds_below : (p q : Core) (s : ℕ) → Seated p → next_id q.world.start q.world.past ≡ next_id p.world.start p.world.past → Adds s p q → EndedBelow p →
    EndedBelow q
adds_below p q s seated same (inl none) h = below_kept p q h none (equal_at_most _ _ same)
adds_below p q s seated same (inr (l, x, there, more)) h =
    subst (λ (n : ℕ). AreBelow n q.ended) (sym same) (subst (AreBelow (next_id p.world.start p.world.past)) (sym more)
    (below_insert _ l.id x p.ended (held_below p s l seated there) h))

stepped_below : (p q : Core) (s : ℕ) (m : List Moved) (x : Result Outcome StepFault) → Seated p → Stepped p s m x q → EndedBelow p → EndedBelow q
stepped_below p q s m x seated stepped h =
    let k = stepping_of s p q m x stepped in
    adds_below p q s seated (entered_next s p.world q.world k.enters) k.adds h

-- a write

world_below : (p q : Core) → q ≡ record p { world = q.world } → next_id q.world.start q.world.past ≡ next_id p.world.start p.world.past → EndedBelow p →
    EndedBelow q
world_below p q is same h = below_kept p q h (ap (λ (c : Core). c.ended) is) (equal_at_most _ _ same)

-- a stop

none_below : (n : ℕ) (es : List (ℕ × Pairs)) → es ≡ [] → AreBelow n es
none_below n es none = subst (AreBelow n) (sym none) tt

same_below : (m : List Moved) (p q : Core) → Same m p q → EndedBelow p → EndedBelow q
same_below m p q same h = below_same p q h same.1

stopped_below : (m : List Moved) (p q : Whole) (r : Result Outcome PlantError) → Stops m p r q → EndedBelow p.core → EndedBelow q.core
stopped_below m p q (Ok (outcome.Restarted u)) (view, stopped, opened, unfinished) h =
    none_below _ q.core.ended ((gives_by (seat_of opened.first 0) (newcomer opened.first) opened.first q.core opened.reseats).ended ∙ opened.is_fresh.ended)
stopped_below m p q (Ok (outcome.Refused e)) s h = same_below m p.core q.core s.0 h
stopped_below m p q (Ok (outcome.Accepted n)) s h = absurd s
stopped_below m p q (Ok outcome.Idle) s h = absurd s
stopped_below m p q (Ok outcome.Unwritten) s h = absurd s
stopped_below m p q (Ok (outcome.Held c)) s h = absurd s
stopped_below m p q (Ok (outcome.Written n)) s h = absurd s
stopped_below m p q (Ok (outcome.Cut n)) s h = absurd s
stopped_below m p q (Err e) s h = same_below m p.core q.core s.0 h

-- turns

logged_below : (t : Turn) (m : List Moved) (p q : Whole) (r : Result Outcome PlantError) → Logged t m p r q → EndedBelow p.core → EndedBelow q.core
logged_below t m p q r (none, core, (x, raised, logs, journal)) h = world_below p.core q.core core (logged_still p.core.world q.core.world t x logs).next h

turned_below : (t : Turn) (r : Result Outcome PlantError) (m : List Moved) (p q : Whole) → Seated p.core → Turned t r m p q → EndedBelow p.core →
    EndedBelow q.core
turned_below (turn.Take s) r m p q seated (x, raised, took, journal) h = takes_below p.core q.core s m x took h
turned_below (turn.Step s) r m p q seated (x, raised, stepped, journal) h = stepped_below p.core q.core s m x seated stepped h
turned_below (turn.Write most) r m p q seated (none, core, x, fault, writes) h =
    world_below p.core q.core core (writes_next most p.core.world q.core.world p.journal q.journal x writes) h
turned_below turn.Stop r m p q seated stops h = stopped_below m p q r stops h
turned_below turn.Cut r m p q seated (none, core, (x, raised, cuts, journal)) h =
    world_below p.core q.core core (cut_still p.core.world q.core.world x cuts).next h
turned_below (turn.Offer x) r m p q seated logged h = logged_below (turn.Offer x) m p q r logged h
turned_below turn.Release r m p q seated logged h = logged_below turn.Release m p q r logged h
turned_below (turn.Ack id place) r m p q seated logged h = logged_below (turn.Ack id place) m p q r logged h
turned_below (turn.Break name) r m p q seated logged h = logged_below (turn.Break name) m p q r logged h
turned_below (turn.Clear name) r m p q seated logged h = logged_below (turn.Clear name) m p q r logged h
turned_below (turn.LetGo s) r m p q seated logged h = logged_below (turn.LetGo s) m p q r logged h

pub driven_below : (ts : List Turn) (os : List Outcome) (m : List Moved) (p q : Whole) → Seated p.core → Driven ts os m p q → EndedBelow p.core →
    EndedBelow q.core
driven_below [] [] m p q seated (none, same) h = subst (λ (z : Whole). EndedBelow z.core) (sym same) h
driven_below (t ∷ ts) (o ∷ os) m p q seated (w, first, later, turned, driven, all, goes) h =
    driven_below ts os later w q (turned_seated t (Ok o) first p w seated goes turned) driven (turned_below t (Ok o) first p w seated turned h)
driven_below [] (o ∷ os) m p q seated driven h = absurd driven
driven_below (t ∷ ts) [] m p q seated driven h = absurd driven
