-- All calls of `drive` that a run makes, one after the other.
-- for: laws::runs_keep_the_law
use Rattle.std.proofs.Common.{◌≡◌, ◌⊎◌, ℕ, Bool, true, false, inl, inr, List, [], ◌∷◌, ◌++◌, Option, refl, sym, ap, subst}
use Rattle.flow_model.specs.declared.flow.Flow.{Flow}
use Rattle.sw_context.specs.Pairs.{Pairs}
use Rattle.sw_issuers.specs.Sending.{PlainSender}
use Rattle.tx_plant.specs.declared.turn.Outcome.{Outcome}
use Rattle.tx_plant.specs.declared.turn.Turn.{Turn}
use Rattle.tx_plant.specs.declared.turn.Turn.TheVariants as turn
use Rattle.tx_plant.specs.Plant.{Seen, Whole}
use Rattle.tx_plant.specs.Steps.{Moved}
use Rattle.tx_seats.specs.Drives.{AllDriven, Drive, TookEnded}
use Rattle.run_responses.specs.declared.sink.ResponseOrder.{ResponseOrder}
use Rattle.run_switch.specs.Advices.{Acks, AdviceStep, PlainAdvisor, SendsAll, begun_advisor}
use Rattle.run_switch.specs.Legs.{Advances, Leg, Legs, Stage, stage}
use Rattle.run_switch.specs.Lines.{Line, lines_in}
use Rattle.run_switch.specs.Points.{Point, all_answered, world_at}
use Rattle.run_switch.specs.Ran.{Begins, Ran, ServesAll}
use Rattle.run_switch.specs.Rounds.{Acts, Completed, Completes, Does, Goes, MayCut, Offered, Released, Returned, Round, Runs, Serves, Streamed, Trimmed}
use Rattle.tx_seats.proofs.Drives.{all_driven_append}

pub record Path (p q : Whole) : Type 0 where
  pub drives : List Drive
  pub moved : List Moved
  pub driven : AllDriven drives moved p q

path_none : (p q : Whole) → q ≡ p → Path p q
path_none p q same = record { drives = []; moved = []; driven = (refl, same) }

path_then : (p q r : Whole) → Path p q → Path q r → Path p r
path_then p q r a b = record {
  drives = a.drives ++ b.drives;
  moved = a.moved ++ b.moved;
  driven = all_driven_append a.drives b.drives a.moved b.moved p q r a.driven b.driven;
}

acts_path : (ds : List Drive) (p q : Point) → Acts ds p q → Path p.plant q.plant
acts_path ds p q a = record { drives = ds; moved = a.moved; driven = a.driven }

does_path : (t : Turn) (o : Outcome) (p q : Point) → Does t o p q → Path p.plant q.plant
does_path t o p q does = acts_path _ p q does.acts

cuts_by : (p q : Point) (lines : List Line) → ((q ≡ p) × (lines ≡ [])) ⊎ ((o : Outcome) × Does turn.Cut o p q × (lines ≡ lines_in (world_at p))) →
    Path p.plant q.plant
cuts_by p q lines (inl (same, none)) = path_none p.plant q.plant (ap (λ (z : Point). z.plant) same)
cuts_by p q lines (inr (o, does, are)) = does_path turn.Cut o p q does

cuts_path : (p q : Point) (lines : List Line) → MayCut p lines q → Path p.plant q.plant
cuts_path p q lines cuts = cuts_by p q lines cuts.cuts

-- the contexts of the transactions that ended are taken
given_path : (p q : Point) → Path p.plant q.plant → Path p.plant (all_answered q).plant
given_path p q path = path_then p.plant q.plant (all_answered q).plant path (record {
  drives = TookEnded ∷ [];
  moved = [];
  driven = ((all_answered q).plant, [], [], (refl, refl), (refl, refl), refl);
})

completes_path : (p q : Point) (bytes : List ℕ) (lines : List Line) → Completes p bytes lines q → Path p.plant q.plant
completes_path p q bytes lines c = path_then p.plant (all_answered c.ended).plant q.plant (given_path p c.ended (acts_path _ p c.ended c.transacts.acts))
    (cuts_path _ q lines c.cuts)

runs_path : (order : ResponseOrder) (xs : List Pairs) (p q : Point) (bytes : List ℕ) → Runs order xs p bytes q → Path p.plant q.plant
runs_path order xs p q bytes runs = subst (λ (z : Point). Path p.plant z.plant) (sym runs.answered)
    (given_path p runs.ended (acts_path _ p runs.ended runs.together.acts))

goes_path : (rounds : List Round) (p q : Point) (bytes : List ℕ) (lines : List Line) → Goes rounds p bytes lines q → Path p.plant q.plant
goes_path [] p q bytes lines (none, nothing, same) = path_none p.plant q.plant (ap (λ (z : Point). z.plant) same)
goes_path (Offered x ∷ rs) p q bytes lines (ready, o, w, does, more) = path_then p.plant w.plant q.plant (does_path (turn.Offer x) o p w does)
    (goes_path rs w q bytes lines more)
goes_path (Completed ∷ rs) p q bytes lines (w, first, later, cut, others, completes, more, all, these) =
    path_then p.plant w.plant q.plant (completes_path p w first cut completes) (goes_path rs w q later others more)
goes_path (Returned h ∷ rs) p q bytes lines (first, later, framed, more, all) = goes_path rs p q later lines more
goes_path (Released ∷ rs) p q bytes lines (o, w, does, more) =
    path_then p.plant w.plant q.plant (does_path turn.Release o p w does) (goes_path rs w q bytes lines more)
goes_path (Streamed order xs ∷ rs) p q bytes lines (ready, w, first, later, runs, more, all) =
    path_then p.plant w.plant q.plant (runs_path order xs p w first runs) (goes_path rs w q later lines more)
goes_path (Trimmed ∷ rs) p q bytes lines (w, cut, others, cuts, more, these) =
    path_then p.plant w.plant q.plant (cuts_path p w cut cuts) (goes_path rs w q bytes others more)

acks_path : (b : Bool) (place : ℕ × ℕ) (p q : Point) → Acks b place p q → Path p.plant q.plant
acks_path true place p q (o, w, does, same) = subst (λ (z : Point). Path p.plant z.plant) (sym same) (does_path (turn.Ack place.0 place.1) o p w does)
acks_path false place p q same = path_none p.plant q.plant (ap (λ (z : Point). z.plant) same)

sends_path : (step : AdviceStep) (xs : List ((ℕ × ℕ) × List ℕ)) (s t : PlainAdvisor) (p q : Point) → SendsAll step xs s p t q → Path p.plant q.plant
sends_path step [] s t p q (sent, same) = path_none p.plant q.plant (ap (λ (z : Point). z.plant) same)
sends_path step (a ∷ xs) s t p q (u, w, first, more) =
    path_then p.plant w.plant q.plant (acks_path first.accepted a.0 p w first.acks) (sends_path step xs u t w q more)

rounds_path : (rounds : List Round) (p q : Point) (a b : Option (List ℕ)) → Serves rounds p a q b → Path p.plant q.plant
rounds_path rounds p q a b s = goes_path rounds p q s.bytes s.lines s.goes

leg_path : (step : AdviceStep) (rounds : List Round) (x y : Stage) (lines : List Line) → Leg step rounds x lines y → Path x.point.plant y.point.plant
leg_path step rounds x y lines leg =
    let b = leg.between in
    path_then x.point.plant leg.served.plant y.point.plant (rounds_path rounds x.point leg.served x.out y.out leg.serves)
    (path_then leg.served.plant b.sent.plant y.point.plant (sends_path step _ x.advisor y.advisor leg.served b.sent b.sends)
    (cuts_path b.sent y.point leg.cut b.cuts))

legs_path : (step : AdviceStep) (legs : List (List Round)) (x y : Stage) (lines : List Line) → Legs step legs x lines y → Path x.point.plant y.point.plant
legs_path step [] x y lines (none, same) = path_none x.point.plant y.point.plant (ap (λ (z : Stage). z.point.plant) same)
legs_path step (rs ∷ legs) x y lines (first, later, w, leg, more, are) =
    path_then x.point.plant w.point.plant y.point.plant (leg_path step rs x w first leg) (legs_path step legs w y later more)

advances_path : (step : AdviceStep) (rounds : List Round) (x y : Stage) → Advances step rounds x y → Path x.point.plant y.point.plant
advances_path step rounds x y a =
    path_then x.point.plant a.halfway.point.plant y.point.plant (legs_path step a.legs x a.halfway a.lines a.goes)
    (rounds_path a.last a.halfway.point y.point a.halfway.out y.out a.serves)

serves_path : (step : AdviceStep) (rounds : List Round) (p : Point) (advisor : PlainAdvisor) (before after : Option (List ℕ)) →
    (s : ServesAll step rounds p advisor before after) → Path p.plant s.end.plant
serves_path step rounds p advisor before after s =
    path_then p.plant s.begun.plant s.end.plant (cuts_path p s.begun s.cut s.cuts)
    (path_then s.begun.plant s.served.point.plant s.end.plant (advances_path step rounds (stage advisor s.begun before) s.served s.serves)
    (path_then s.served.point.plant s.drained.plant s.end.plant (rounds_path s.drains.rounds s.served.point s.drained s.served.out after s.drains.serves)
    (sends_path step _ s.served.advisor s.sent s.drained s.end s.sends)))

pub begins_path : (f : Flow) (n : ℕ) (j : Seen) (p : Point) → (b : Begins f n j p) → Path b.made p.plant
begins_path f n j p b = acts_path _ _ p b.recovers.acts

pub ran_path : (f : Flow) (n : ℕ) (j : Seen) (step : AdviceStep) (sender : PlainSender) (most : ℕ) (rounds : List Round) (before after : Option (List ℕ)) →
    (r : Ran f n j step sender most rounds before after) → Path r.begins.made r.serves.end.plant
ran_path f n j step sender most rounds before after r =
    path_then r.begins.made r.recovered.plant r.serves.end.plant (begins_path f n j r.recovered r.begins)
    (serves_path step rounds r.recovered (begun_advisor sender most r.begins.view.next_id) before after r.serves)
