-- What is counted, one after the other.
-- for: given::count_above, advices::send_advice
use Rattle.std.proofs.Common.{◌≡◌, ℕ, true, Some, List, [], ◌∷◌, ◌++◌, map, refl, sym, ap, subst, ◌∙◌}
use Rattle.std.proofs.lemmas.List.{map-append}
use Rattle.std.specs.Borrow.{Bor}
use Rattle.sw_context.specs.Pairs.{Pairs}
use Rattle.sw_stats.specs.Tallies.{Tally, tallied, with_context, with_delivered}
use Rattle.tx_plant.specs.declared.turn.Outcome.{Outcome}
use Rattle.tx_plant.specs.declared.turn.Turn.TheVariants as turn
use Rattle.run_switch.specs.Advices.{AdviceStep, PlainAdvisor, Sends, is_repeat, last_with}
use Rattle.run_switch.specs.Points.{IsAtRest, Point}
use Rattle.run_switch.specs.Rounds.{Does}
use Rattle.run_switch.proofs.Resting.{delivered_rest}

-- contexts

tallied_more : (t : Tally) (es : List (ℕ × Pairs)) (e : ℕ × Pairs) → tallied t (es ++ e ∷ []) ≡ with_context e.1 (tallied t es)
tallied_more t [] e = refl
tallied_more t (d ∷ es) e = tallied_more (with_context d.1 t) es e

abbrev pub plain_entry : Bor ℕ × Bor Pairs → ℕ × Pairs
plain_entry e = (e.0.now, e.1.now)

pub tallied_next : (t u v : Tally) (es : List (Bor ℕ × Bor Pairs)) (e : Bor ℕ × Bor Pairs) → u ≡ tallied t (map plain_entry es) →
    v ≡ with_context e.1.now u → v ≡ tallied t (map plain_entry (es ++ e ∷ []))
tallied_next t u v es e so_far counted =
    counted ∙ (ap (with_context e.1.now) so_far ∙ (sym (tallied_more t (map plain_entry es) (plain_entry e))
    ∙ ap (tallied t) (sym (map-append plain_entry es (e ∷ [])))))

-- an advice that was accepted

abbrev pub with_counts : Point → Tally → Point
with_counts p t = record p { answered = record p.answered { counts = t } }

pub counted_rest : (w : Point) (n : Tally) → n ≡ with_delivered w.answered.counts → IsAtRest w → IsAtRest (with_counts w n)
counted_rest w n is rest = subst (λ (t : Tally). IsAtRest (with_counts w t)) (sym is) (delivered_rest w rest)

pub sent_one : (step : AdviceStep) (a : (ℕ × ℕ) × List ℕ) (s t : PlainAdvisor) (p w : Point) (o : Outcome) (n : Tally) →
    step a.1 (is_repeat s a.0) s.sender true t.sender → t ≡ record s { sender = t.sender; last = last_with s a.0; reached = Some a.0 }
    → Does (turn.Ack a.0.0 a.0.1) o p w → n ≡ with_delivered w.answered.counts → Sends step a s p t (with_counts w n)
sent_one step a s t p w o n sent noted does counted = record {
  accepted = true;
  sent = sent;
  noted = noted;
  acks = (o, w, does, ap (with_counts w) counted);
}
