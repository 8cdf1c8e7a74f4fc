-- Runs of small steps of a plant.
-- for: whoever shows that turns are such runs, in crates above
use Rattle.std.proofs.Common.{◌≡◌, ℕ, List, [], ◌∷◌, ◌++◌, Option, refl, sym, ◌∙◌, ap, subst, append_assoc}
use Rattle.flow_model.specs.declared.flow.Flow.{Flow}
use Rattle.outcome_calls.specs.One.{FullReply}
use Rattle.outcome_calls.specs.Core.{IdView, PlantDeed}
use Rattle.outcome_calls.specs.Plant.{SessionEvent, Taken, Replied, Plain, AbstractPlant, view, shut_ids, made_on, PlantMove, PlantMoves, PlantRun}
use Rattle.outcome_calls.specs.Plant as small
use Rattle.outcome_calls.specs.Runs.{Stays, Wrote}
use Rattle.outcome_calls.proofs.PlantMoves.{append_nothing}

-- a run of small turns that adds these calls
pub record IsRunOf (f : Flow) (new : List PlantDeed) (p q : AbstractPlant) : Type 0 where
  pub turns : List PlantMove
  pub run : PlantRun f turns p q
  pub calls : q.calls ≡ new ++ p.calls

pub run_append : (f : Flow) (ts us : List PlantMove) (p m q : AbstractPlant) → PlantRun f ts p m → PlantRun f us m q → PlantRun f (ts ++ us) p q
run_append f [] us p m q h k = subst (λ (p : AbstractPlant). PlantRun f us p q) h k
run_append f (t ∷ ts) us p m q h k = (h.0, h.1, run_append f ts us h.0 m q h.2 k)

pub then_small : (f : Flow) (first later : List PlantDeed) (p m q : AbstractPlant) → IsRunOf f first p m → IsRunOf f later m q → IsRunOf f (later ++ first) p q
then_small f first later p m q a b = record {
  turns = a.turns ++ b.turns;
  run = run_append f a.turns b.turns p m q a.run b.run;
  calls = b.calls ∙ ap (λ (ms : List PlantDeed). later ++ ms) a.calls ∙ sym (append_assoc later first p.calls);
}

pub none_small : (f : Flow) (new : List PlantDeed) (p q : AbstractPlant) → Stays new p q → IsRunOf f new p q
none_small f new p q h = record {
  turns = [];
  run = h.1;
  calls = ap (λ (z : AbstractPlant). z.calls) h.1 ∙ ap (λ (ms : List PlantDeed). ms ++ p.calls)
      (sym h.0);
}

pub one_small : (f : Flow) (t : PlantMove) (new : List PlantDeed) (p q : AbstractPlant) → PlantMoves f t p q → q.calls ≡ new ++ p.calls → IsRunOf f new p q
one_small f t new p q h calls = record { turns = t ∷ []; run = (q, h, refl); calls = calls }

-- entries are written one by one, the oldest first
pub puts : (f : Flow) (v : IdView) (l w gone : List SessionEvent) (mark : ℕ) (kept : ℕ → Option FullReply) (calls : List PlantDeed)
    → IsRunOf f [] (record { start = v; late = l ++ w; gone = gone; mark = mark; kept = kept; calls = calls })
    (record { start = v; late = l; gone = w ++ gone; mark = mark; kept = kept; calls = calls })
puts f v l [] gone mark kept calls =
    none_small f [] (record { start = v; late = l ++ []; gone = gone; mark = mark; kept = kept; calls = calls })
    (record { start = v; late = l; gone = gone; mark = mark; kept = kept; calls = calls })
    (refl, ap (λ (late : List SessionEvent). record { start = v; late = late; gone = gone; mark = mark; kept = kept; calls = calls }) (sym (append_nothing l)))
puts f v l (e ∷ w) gone mark kept calls =
    let before = puts f v (l ++ e ∷ []) w gone mark kept calls in
    let last : IsRunOf f [] (record { start = v; late = l ++ e ∷ []; gone = w ++ gone; mark = mark; kept = kept; calls = calls })
    (record { start = v; late = l; gone = e ∷ (w ++ gone); mark = mark; kept = kept; calls = calls }) =
    one_small f small.Put [] _ _ (l, e, refl, refl) refl in
    let both = then_small f [] [] _ _ _ before last in
    subst (λ (late : List SessionEvent). IsRunOf f [] (record { start = v; late = late; gone = gone; mark = mark; kept = kept; calls = calls })
    (record { start = v; late = l; gone = e ∷ (w ++ gone); mark = mark; kept = kept; calls = calls }))
    (append_assoc l (e ∷ []) w) both

pub wrote_small : (f : Flow) (n : ℕ) (new : List PlantDeed) (p q : AbstractPlant) → Wrote n new p q → IsRunOf f new p q
wrote_small f n new p q h =
    let l = h.0 in
    let w = h.1 in
    let put_all : IsRunOf f [] (record p { late = l ++ w }) (record p { late = l; gone = w ++ p.gone }) = puts f p.start l w p.gone p.mark p.kept p.calls in
    let from : IsRunOf f [] p (record p { late = l; gone = w ++ p.gone }) =
    subst (λ (late : List SessionEvent). IsRunOf f [] (record p { late = late }) (record p { late = l; gone = w ++ p.gone })) (sym h.2) put_all in
    let noted : IsRunOf f [] (record p { late = l; gone = w ++ p.gone }) q =
    one_small f (small.Note n) [] _ q (h.3, h.4, h.6) (ap (λ (z : AbstractPlant). z.calls) h.6) in
    subst (λ (ms : List PlantDeed). IsRunOf f ms p q) (sym h.5) (then_small f [] [] p (record p { late = l; gone = w ++ p.gone }) q from noted)
