-- Turns, one after the other, are moves of the outcome law's plant.
-- for: laws::turns_are_moves, laws::plants_keep_the_law
use Rattle.std.proofs.Common.{◌≡◌, ◌≤◌, inl, inr, List, [], ◌∷◌, ◌++◌, Result, Ok, Err, refl, sym, ◌∙◌, ap, subst, arith, append_assoc, append-nil}
use Rattle.sqlite_trees.specs.View.{doubt}
use Rattle.sw_participant.specs.Chains.{Began, Called as CalledOne, Stopped}
use Rattle.flow_model.specs.declared.flow.Flow.{Flow}
use Rattle.outcome_calls.specs.Core.{Halted, PlantDeed}
use Rattle.outcome_calls.specs.Plant.{AbstractPlant}
use Rattle.outcome_calls.proofs.Turns.{IsRunOf, then_small}
use Rattle.outcome_history.specs.Looked.{id_view}
use Rattle.tx_plant.specs.declared.turn.DriveFault.{DriveFault}
use Rattle.tx_plant.specs.declared.turn.Outcome.{Outcome}
use Rattle.tx_plant.specs.declared.turn.PlantError.{PlantError}
use Rattle.tx_plant.specs.declared.turn.Turn.{Turn}
use Rattle.tx_plant.specs.declared.turn.Turn.TheVariants as turn
use Rattle.tx_plant.specs.Core.{without_ended}
use Rattle.tx_plant.specs.Steps.{Moved}
use Rattle.tx_plant.specs.Plant.{Driven, Faulted, GoesOn, IsClean, Turned, Whole}
use Rattle.outcome_plant.specs.Deeds.{called, deed_at, deeds}
use Rattle.outcome_plant.specs.Mirrors.{StandsFor}
use Rattle.outcome_plant.specs.Lives.{Moves}
use Rattle.tx_seats.specs.Drives.{AllDriven, Broken, Done, Drive, DrivenBy, TookEnded}
use Rattle.outcome_plant.proofs.Growth.{Follows, logged}
use Rattle.outcome_plant.proofs.Steps.{stepped}
use Rattle.outcome_plant.proofs.Takes.{takes}
use Rattle.outcome_plant.proofs.Writing.{writes}
use Rattle.outcome_plant.proofs.Cutting.{cuts}
use Rattle.outcome_plant.proofs.Stopping.{stops}

-- one turn

was_clean : (t : Turn) (p q : Whole) → GoesOn t p q → IsClean q.journal → IsClean p.journal
was_clean t p q g c = let le = g.clean in omega (arith, c, le)

pub turned : (t : Turn) (r : Result Outcome PlantError) (m : List Moved) (p q : Whole) (a : AbstractPlant) → StandsFor a p → GoesOn t p q →
    IsClean q.journal → Turned t r m p q → Follows p q m a
turned (turn.Take s) r m p q a h g c k = takes p q a s m k.0 h g.engine k.3 k.2
turned (turn.Step s) r m p q a h g c k = stepped p q a s m k.0 h g.engine k.3 k.2
turned (turn.Write most) r m p q a h g c k = writes p q a m most k.2 h g.engine k.0 k.1 g.clean g.journal.failed k.4
turned turn.Stop r m p q a h g c k = stops p q a m r h g.engine c (was_clean turn.Stop p q g) g.journal.failed (g.journal.tables refl) k
turned turn.Cut r m p q a h g c k = cuts p q a m k.2.0 h g.engine k.0 k.1 k.2.3 k.2.2
turned (turn.Offer x) r m p q a h g c k = logged p q a (turn.Offer x) r m h g.engine k
turned turn.Release r m p q a h g c k = logged p q a turn.Release r m h g.engine k
turned (turn.Ack id place) r m p q a h g c k = logged p q a (turn.Ack id place) r m h g.engine k
turned (turn.Break name) r m p q a h g c k = logged p q a (turn.Break name) r m h g.engine k
turned (turn.Clear name) r m p q a h g c k = logged p q a (turn.Clear name) r m h g.engine k
turned (turn.LetGo s) r m p q a h g c k = logged p q a (turn.LetGo s) r m h g.engine k

pub as_moves : (p q : Whole) (m : List Moved) (a : AbstractPlant) → Follows p q m a → Moves p q m a
as_moves p q m a k = record { to = k.to; moves = k.run.turns; run = k.run.run; calls = k.run.calls; stands = k.stands; flow = k.flow }

-- one after the other

append_none : (xs : List PlantDeed) → xs ++ [] ≡ xs
append_none xs = rw append-nil refl

pub deeds_more : (f : Flow) (m n : List Moved) → deeds f (m ++ n) ≡ deeds f n ++ deeds f m
deeds_more f [] n = sym (append_none (deeds f n))
deeds_more f (Began id x ∷ m) n = deeds_more f m n
deeds_more f (CalledOne call place reply ∷ m) n =
    ap (λ (l : List PlantDeed). l ++ called call.id (deed_at call place reply)) (deeds_more f m n) ∙ append_assoc (deeds f n) (deeds f m)
    (called call.id (deed_at call place reply))
deeds_more f (Stopped view ∷ m) n =
    ap (λ (l : List PlantDeed). l ++ Halted (id_view f view) ∷ []) (deeds_more f m n) ∙ append_assoc (deeds f n) (deeds f m) (Halted (id_view f view) ∷ [])

pub nothing : (p q : Whole) (m : List Moved) (a : AbstractPlant) → StandsFor a p → m ≡ [] → q ≡ p → Follows p q m a
nothing p q m a h none same = record {
  to = a;
  run = record { turns = []; run = refl; calls = ap (λ (m : List Moved). deeds p.core.world.flow m ++ a.calls) (sym none) };
  stands = subst (StandsFor a) (sym same) h;
  flow = ap (λ (z : Whole). z.core.world.flow) same;
}

pub then_follows : (p w q : Whole) (m first later : List Moved) (a : AbstractPlant) → (k : Follows p w first a) → Follows w q later k.to →
    m ≡ first ++ later → Follows p q m a
then_follows p w q m first later a k n is =
    let f : Flow = p.core.world.flow in
    let last : IsRunOf f (deeds f later) k.to n.to = subst (λ (f : Flow). IsRunOf f (deeds f later) k.to n.to) k.flow n.run in
    let both : IsRunOf f (deeds f later ++ deeds f first) a n.to = then_small f (deeds f first) (deeds f later) a k.to n.to k.run last in
    record {
      to = n.to;
      run = subst (λ (new : List PlantDeed). IsRunOf f new a n.to) (sym (ap (deeds f) is ∙ deeds_more f first later)) both;
      stands = n.stands;
      flow = n.flow ∙ k.flow;
    }

driven_clean : (ts : List Turn) (os : List Outcome) (m : List Moved) (p q : Whole) → Driven ts os m p q → doubt p.journal.is_clean ≤ doubt q.journal.is_clean
driven_clean [] [] m p q k = subst (λ (z : Whole). doubt p.journal.is_clean ≤ doubt z.journal.is_clean) (sym k.1) (omega arith)
driven_clean (t ∷ ts) (o ∷ os) m p q k = let a = k.6.clean in let b = driven_clean ts os k.2 k.0 q k.4 in omega (arith, a, b)
driven_clean [] (o ∷ os) m p q k = absurd k
driven_clean (t ∷ ts) [] m p q k = absurd k

earlier_clean : (p q : Whole) → doubt p.journal.is_clean ≤ doubt q.journal.is_clean → IsClean q.journal → IsClean p.journal
earlier_clean p q le c = omega (arith, le, c)

pub driven : (ts : List Turn) (os : List Outcome) (m : List Moved) (p q : Whole) (a : AbstractPlant) → StandsFor a p → IsClean q.journal →
    Driven ts os m p q → Follows p q m a
driven [] [] m p q a h c k = nothing p q m a h k.0 k.1
driven (t ∷ ts) (o ∷ os) m p q a h c k =
    let w = k.0 in
    let now = turned t (Ok o) k.1 p w a h k.6 (earlier_clean w q (driven_clean ts os k.2 w q k.4) c) k.3 in
    then_follows p w q m k.1 k.2 a now (driven ts os k.2 w q now.to now.stands c k.4) k.5
driven [] (o ∷ os) m p q a h c k = absurd k
driven (t ∷ ts) [] m p q a h c k = absurd k

faulted : (ts : List Turn) (f : DriveFault) (m : List Moved) (p q : Whole) (a : AbstractPlant) → StandsFor a p → IsClean q.journal → Faulted ts f m p q →
    Follows p q m a
faulted ts f m p q a h c (inr k) = nothing p q m a h k.1 k.2
faulted ts f m p q a h c (inl k) =
    let first = driven _ k.outcomes k.first p k.between a h (was_clean k.turn k.between q k.goes c) k.driven in
    then_follows p k.between q m k.first k.last a first (turned k.turn (Err f.cause) k.last k.between q first.to first.stands k.goes c k.failed) k.all

faulted_clean : (ts : List Turn) (f : DriveFault) (m : List Moved) (p q : Whole) → Faulted ts f m p q → doubt p.journal.is_clean ≤ doubt q.journal.is_clean
faulted_clean ts f m p q (inr k) = subst (λ (z : Whole). doubt p.journal.is_clean ≤ doubt z.journal.is_clean) (sym k.2) (omega arith)
faulted_clean ts f m p q (inl k) = let a = driven_clean _ k.outcomes k.first p k.between k.driven in let b = k.goes.clean in omega (arith, a, b)

once_clean : (d : Drive) (m : List Moved) (p q : Whole) → DrivenBy d m p q → doubt p.journal.is_clean ≤ doubt q.journal.is_clean
once_clean (Done ts os) m p q k = driven_clean ts os m p q k
once_clean (Broken ts f) m p q k = faulted_clean ts f m p q k
once_clean TookEnded m p q k = subst (λ (z : Whole). doubt p.journal.is_clean ≤ doubt z.journal.is_clean) (sym k.1) (omega arith)

once : (d : Drive) (m : List Moved) (p q : Whole) (a : AbstractPlant) → StandsFor a p → IsClean q.journal → DrivenBy d m p q → Follows p q m a
once (Done ts os) m p q a h c k = driven ts os m p q a h c k
once (Broken ts f) m p q a h c k = faulted ts f m p q a h c k
once TookEnded m p q a h c k =
    let n = nothing (record p { core = without_ended p.core }) q m a h k.0 k.1 in
    record { to = n.to; run = n.run; stands = n.stands; flow = n.flow }

all_clean : (ds : List Drive) (m : List Moved) (p q : Whole) → AllDriven ds m p q → doubt p.journal.is_clean ≤ doubt q.journal.is_clean
all_clean [] m p q k = subst (λ (z : Whole). doubt p.journal.is_clean ≤ doubt z.journal.is_clean) (sym k.1) (omega arith)
all_clean (d ∷ ds) m p q k = let a = once_clean d k.1 p k.0 k.3 in let b = all_clean ds k.2 k.0 q k.4 in omega (arith, a, b)

pub all_driven : (ds : List Drive) (m : List Moved) (p q : Whole) (a : AbstractPlant) → StandsFor a p → IsClean q.journal → AllDriven ds m p q
    → Follows p q m a
all_driven [] m p q a h c k = nothing p q m a h k.0 k.1
all_driven (d ∷ ds) m p q a h c k =
    let w = k.0 in
    let now = once d k.1 p w a h (earlier_clean w q (all_clean ds k.2 w q k.4) c) k.3 in
    then_follows p w q m k.1 k.2 a now (all_driven ds k.2 w q now.to now.stands c k.4) k.5

pub was_clean_all : (ds : List Drive) (m : List Moved) (p q : Whole) → IsClean q.journal → AllDriven ds m p q → IsClean p.journal
was_clean_all ds m p q c k = earlier_clean p q (all_clean ds m p q k) c
