-- A whole run that ends with an error.
-- for: serving::Begun, serving::run
use Rattle.std.proofs.Common.{◌≡◌, ℕ, List, Option, Some, None, sym, subst, inl, inr}
use Rattle.std.specs.Prelude.{option_map}
use Rattle.cli_io.specs.Written.{AppendsBeginning}
use Rattle.flow_model.specs.declared.flow.Flow.{Flow}
use Rattle.sw_issuers.specs.Sending.{PlainSender}
use Rattle.tx_plant.specs.Plant.{Seen}
use Rattle.run_input.specs.declared.frames.StreamEnd.{StreamEnd}
use Rattle.run_responses.specs.declared.sink.ResponseOrder.{ResponseOrder}
use Rattle.run_switch.specs.Advices.{AdviceStep, PlainAdvisor}
use Rattle.run_reports.specs.declared.ready.Recovered.{Recovered}
use Rattle.run_switch.specs.declared.reporter.LineForm.TheVariants.{Text}
use Rattle.run_switch.specs.Lines.{lines_in, written_as}
use Rattle.run_switch.specs.Points.{Point, world_at}
use Rattle.run_switch.specs.Ran.{HasBegun, ServesAll}
use Rattle.run_input.specs.Requests.{ReadTo, readings}
use Rattle.run_switch.specs.Rounds.{Round, RoundsFor}
use Rattle.run_switch.specs.Stopped.{GoesOnSome, IsStopped, ServesSome, Serving}
use Rattle.run_switch.proofs.Stops.{drains_all}

-- all was served, and what comes after it failed
pub served_all : (header : ℕ) (threads : Option ResponseOrder) (step : AdviceStep) (p : Point) (advisor : PlainAdvisor) (input a b : Option (List ℕ)) (end : StreamEnd)
    (frames : List (List ℕ)) (rounds : List Round) → ReadTo end input frames → RoundsFor threads (readings header frames) rounds →
    ServesAll step rounds p advisor a b → Serving header step threads input p advisor a b
served_all header threads step p advisor input a b end frames rounds read are serves = record {
  begun = serves.begun;
  cut = serves.cut;
  cuts = serves.cuts;
  ready = serves.ready;
  serves = inr (record {
    end = end;
    frames = frames;
    read = read;
    rounds = rounds;
    answers = are;
    served = serves.served;
    advances = serves.serves;
    drains = drains_all serves.served.point serves.drained serves.served.out b serves.drains;
  });
}

-- without an input, and with one

pub goes_none : {R : Type 0} (header : ℕ) (step : AdviceStep) (threads : Option ResponseOrder) (remaining : R → Option (List ℕ)) (o : Option R) (p : Point) (advisor : PlainAdvisor)
    (a b : Option (List ℕ)) → o ≡ None → AppendsBeginning a b (written_as Text (lines_in (world_at p)))
    → GoesOnSome header step threads (option_map remaining o) p advisor a b
goes_none {R} header step threads remaining o p advisor a b is h =
    subst (λ (z : Option R). GoesOnSome header step threads (option_map remaining z) p advisor a b) (sym is) h

pub goes_some : {R : Type 0} (header : ℕ) (step : AdviceStep) (threads : Option ResponseOrder) (remaining : R → Option (List ℕ)) (o : Option R) (x : R) (p : Point)
    (advisor : PlainAdvisor) (a b : Option (List ℕ)) → o ≡ Some x → ServesSome header step threads (remaining x) p advisor a b
    → GoesOnSome header step threads (option_map remaining o) p advisor a b
goes_some {R} header step threads remaining o x p advisor a b is h =
    subst (λ (z : Option R). GoesOnSome header step threads (option_map remaining z) p advisor a b) (sym is) h

-- the run of a plant that has recovered
pub stopped : (header : ℕ) (f : Flow) (n : ℕ) (j : Seen) (sender : PlainSender) (most : ℕ) (r : Point) (advisor : PlainAdvisor) (unfinished : Recovered)
    (step : AdviceStep) (threads : Option ResponseOrder) (input : Option (Option (List ℕ))) (a b : Option (List ℕ)) → HasBegun f n j sender most r advisor unfinished
    → GoesOnSome header step threads input r advisor a b → IsStopped header step sender most threads input f n j a b
stopped header f n j sender most r advisor unfinished step threads None a b h written = inr (record { recovered = r; begins = h.begins; written = written })
stopped header f n j sender most r advisor unfinished step threads (Some input) a b h (inl keeps) = inl keeps
stopped header f n j sender most r advisor unfinished step threads (Some input) a b h (inr serves) = inr (record {
  recovered = r;
  begins = h.begins;
  serves = subst (λ (s : PlainAdvisor). Serving header step threads input r s a b) h.advisor_is serves;
})
