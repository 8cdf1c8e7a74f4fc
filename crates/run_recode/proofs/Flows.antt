-- What of a stream was recoded and handed on.
-- for: flow::Flow::new, flow::Flow::feed, flow::Flow::end
use Rattle.std.proofs.Common.{◌≡◌, ◌∙◌, sym, ap, refl, arith, ℕ, ◌<◌, false, List, [], ◌∷◌, ◌++◌, length, append-nil, append_assoc}
use Rattle.dialect_toml.specs.declared.frame.Frame.{Frame}
use Rattle.cli_recode.specs.declared.message.Recoding.{Recoding}
use Rattle.cli_recode.specs.Progress.{IsAfter, RecodesPiece}
use Rattle.run_recode.specs.declared.flow.Flow.{Flow}
use Rattle.run_recode.specs.Flows.{FeedsOn, IsHandedOn, tail_of}

-- where nothing waits, what was handed on is what was written
all_handed : (out queue text : List ℕ) → out ++ queue ≡ text ++ [] → queue ≡ [] → out ≡ text
all_handed out queue text h none = sym (append-nil out) ∙ ap (λ (z : List ℕ). out ++ z) (sym none) ∙ h ∙ append-nil text

-- nothing has come yet
pub begun_flow : (form : Frame) (job : Recoding) (f : Flow) → IsAfter form job [] [] [] f.recoder → f.queue ≡ [] → IsHandedOn form job [] [] [] f
begun_flow form job f h none = record { messages = []; text = []; recoded = h; whole = none }

-- a piece, where nothing waits
pub fed : (job : Recoding) (f g : Flow) (piece text : List ℕ) → f.queue ≡ [] → RecodesPiece job f.recoder piece g.recoder text → g.queue ≡ text
    → FeedsOn job f piece g
fed job f g piece text none goes same form bytes out h =
    let more = goes form bytes h.text h.messages h.recoded in
    record {
      messages = h.messages ++ more.0;
      text = h.text ++ text;
      recoded = more.1;
      whole = ap (λ (z : List ℕ). out ++ z) same ∙ ap (λ (z : List ℕ). z ++ text) (all_handed out f.queue h.text h.whole none)
          ∙ sym (append-nil (h.text ++ text));
    }

-- the tail of a stream that has ended, where nothing waits
pub ended : (form : Frame) (job : Recoding) (bytes out tail : List ℕ) (f g : Flow) → f.queue ≡ [] → g.recoder ≡ f.recoder → g.queue ≡ tail
    → IsHandedOn form job bytes out [] f → IsHandedOn form job bytes out tail g
ended form job bytes out tail f g none same waits h = record {
  messages = h.messages;
  text = h.text;
  recoded = rw same h.recoded;
  whole = ap (λ (z : List ℕ). out ++ z) waits ∙ ap (λ (z : List ℕ). z ++ tail) (all_handed out f.queue h.text h.whole none);
}

-- the first of what waits is handed on
pub handed_more : (form : Frame) (job : Recoding) (bytes out tail sent left : List ℕ) (f g : Flow) → g.recoder ≡ f.recoder → g.queue ≡ left
    → f.queue ≡ sent ++ left → IsHandedOn form job bytes out tail f → IsHandedOn form job bytes (out ++ sent) tail g
handed_more form job bytes out tail sent left f g same waits parts h = record {
  messages = h.messages;
  text = h.text;
  recoded = rw same h.recoded;
  whole = append_assoc out sent g.queue ∙ ap (λ (z : List ℕ). out ++ (sent ++ z)) waits ∙ ap (λ (z : List ℕ). out ++ z) (sym parts) ∙ h.whole;
}

-- whether there is an unfinished frame
pub tail_none : (pending : List ℕ) → length pending ≡ 0 → tail_of false pending ≡ []
tail_none [] e = refl
tail_none (b ∷ pending) e = absurd (omega (arith, e))

pub tail_some : (pending : List ℕ) → 0 < length pending → tail_of false pending ≡ 48 ∷ []
tail_some [] e = absurd (omega (arith, e))
tail_some (b ∷ pending) e = refl
