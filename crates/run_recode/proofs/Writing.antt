-- What a writer takes and writes.
-- for: writer::WriteSide::write, writer::WriteSide::flush
use Rattle.std.proofs.Common.{◌≡◌, ◌∙◌, inl, inr, sym, ap, refl, subst, ℕ, true, List, [], ◌++◌, Option, append-nil}
use Rattle.std.specs.Arc.{arc_value}
use Rattle.std.specs.Io.KnownBytes.{Keeps}
use Rattle.std.proofs.KnownBytes.{Appends-kept, Appends-nil}
use Rattle.cli_recode.specs.declared.message.Recoding.{Recoding}
use Rattle.run_recode.specs.declared.writer.WriteSide.{WriteSide}
use Rattle.run_recode.specs.Flows.{FeedsOn}
use Rattle.run_recode.specs.Queues.{HandsOn}
use Rattle.run_recode.specs.Writers.{IsWrittenSo, Sends, SendsOrBreaks, Takes}
use Rattle.run_recode.proofs.Flows.{handed_more}

-- nothing is written inside
pub rests : {E : Type 0} (a : Option (List ℕ)) (s : WriteSide E) → Sends a s a s
rests a s form job bytes out h =
    ([], Appends-nil a, subst (λ (z : List ℕ). IsWrittenSo form job bytes z s) (sym (append-nil out)) h)

-- the first of what waits is
pub sent : {E : Type 0} (a b : Option (List ℕ)) (s t : WriteSide E) → t.recoding ≡ s.recoding → t.flow.recoder ≡ s.flow.recoder
    → HandsOn a b s.flow.queue t.flow.queue → Sends a s b t
sent a b s t job_same same hands form job bytes out h = (
  hands.0,
  hands.2,
  record {
    same = ap (λ (x : _). arc_value x) job_same ∙ h.same;
    handed = handed_more form job bytes out [] hands.0 t.flow.queue s.flow t.flow same refl hands.1 h.handed;
  },
)

-- the writer inside then keeps what it has
pub kept_on : {E : Type 0} (a b c : Option (List ℕ)) (s t : WriteSide E) → Sends a s b t → Keeps b c → Sends a s c t
kept_on a b c s t one k form job bytes out h = let x = one form job bytes out h in (x.0, Appends-kept a b c x.0 x.1 k, x.2)

pub unbroken : {E : Type 0} (a b : Option (List ℕ)) (s t : WriteSide E) → Sends a s b t → SendsOrBreaks a s b t
unbroken a b s t one form job bytes out h = let x = one form job bytes out h in (x.0, x.1, inl x.2)

pub broke : {E : Type 0} (a b : Option (List ℕ)) (s t r : WriteSide E) → Sends a s b t → r.flow.broken ≡ true → SendsOrBreaks a s b r
broke a b s t r one is form job bytes out h = let x = one form job bytes out h in (x.0, x.1, inr is)

-- then more is taken
pub taken : {E : Type 0} (a b : Option (List ℕ)) (s t r : WriteSide E) (buf : List ℕ) → Sends a s b t → r.recoding ≡ t.recoding
    → FeedsOn (arc_value t.recoding) t.flow buf r.flow → Takes a s b r buf
taken a b s t r buf one job_same goes form job bytes out h =
    let x = one form job bytes out h in (
      x.0,
      x.1,
      record {
        same = ap (λ (z : _). arc_value z) job_same ∙ x.2.same;
        handed = (subst (λ (j : Recoding). FeedsOn j t.flow buf r.flow) x.2.same goes) form bytes (out ++ x.0) x.2.handed;
      },
    )
