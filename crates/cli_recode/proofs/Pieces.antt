-- What a piece adds to what was recoded.
-- for: recoder::Recoder::new, recoder::Recoder::piece
use Rattle.std.proofs.Common.{◌≡◌, ◌∙◌, inl, sym, ap, subst, refl, ℕ, Bool, false, List, [], ◌++◌, Option}
use Rattle.std.specs.Prelude.{◌||◌}
use Rattle.std.specs.Io.KnownBytes.{Keeps}
use Rattle.std.proofs.KnownBytes.{Keeps-refl}
use Rattle.std.proofs.lemmas.List.{append-nil}
use Rattle.dialect_toml.specs.declared.frame.Frame.{Frame}
use Rattle.sw_frame.specs.Stream.{State}
use Rattle.dialect_frame.specs.Stream.{Framing, Stream, begun}
use Rattle.dialect_frame.proofs.Frames.{nothing-partial}
use Rattle.cli_recode.specs.declared.message.Recoding.{Recoding}
use Rattle.cli_recode.specs.declared.recoder.Recoder.{Recoder}
use Rattle.cli_recode.specs.Progress.{IsAfter, IsQuietStep}
use Rattle.cli_recode.specs.Recodings.{AreWritten}
use Rattle.cli_recode.proofs.Written.{AreWritten-append, or-left, or-right}

-- before the first piece
pub begun_after : (form : Frame) (job : Recoding) (r : Recoder) → r.framer ≡ begun form → r.refused ≡ false → IsAfter form job [] [] [] r
begun_after form job r is refused = record {
  same = ap (λ (g : Framing). g.form) is;
  stream = subst (λ (s : State). Stream form [] [] s) (sym (ap (λ (g : Framing). g.has) is))
      (record { text = []; rest = []; whole = refl; frames = refl; ends = inl (nothing-partial form, refl) });
  recoded = (refl, refused);
}

-- after a piece that made these messages whole
pub went : (form : Frame) (job : Recoding) (bytes out piece text : List ℕ) (ms ns : List (List ℕ)) (r s : Recoder) (left : Bool)
    → IsAfter form job bytes out ms r → (Stream r.framer.form bytes ms r.framer.has → Stream r.framer.form (bytes ++ piece) (ms ++ ns) s.framer.has)
    → s.framer.form ≡ r.framer.form → AreWritten job ns text left → s.refused ≡ (r.refused || left)
    → IsAfter form job (bytes ++ piece) (out ++ text) (ms ++ ns) s
went form job bytes out piece text ms ns r s left h goes same written refused = record {
  same = same ∙ h.same;
  stream = subst (λ (f : Frame). Stream f (bytes ++ piece) (ms ++ ns) s.framer.has) h.same
      (goes (subst (λ (f : Frame). Stream f bytes ms r.framer.has) (sym h.same) h.stream));
  recoded = subst (λ b. AreWritten job (ms ++ ns) (out ++ text) b) (sym refused) (AreWritten-append job ms ns out text r.refused left h.recoded written);
}

-- after a piece that made no message whole
pub stayed : (form : Frame) (job : Recoding) (bytes out piece text : List ℕ) (ms : List (List ℕ)) (r s : Recoder)
    → IsAfter form job bytes out ms r → (Stream r.framer.form bytes ms r.framer.has → Stream r.framer.form (bytes ++ piece) ms s.framer.has)
    → s.framer.form ≡ r.framer.form → text ≡ [] → s.refused ≡ r.refused
    → IsAfter form job (bytes ++ piece) (out ++ text) (ms ++ []) s
stayed form job bytes out piece text ms r s h goes same none refused = record {
  same = same ∙ h.same;
  stream = subst (λ (f : Frame). Stream f (bytes ++ piece) (ms ++ []) s.framer.has) h.same
      (subst (λ (ns : List (List ℕ)). Stream r.framer.form (bytes ++ piece) ns s.framer.has) (sym (append-nil ms))
      (goes (subst (λ (f : Frame). Stream f bytes ms r.framer.has) (sym h.same) h.stream)));
  recoded = subst (λ (ns : List (List ℕ)). AreWritten job ns (out ++ text) s.refused) (sym (append-nil ms))
      (subst (λ (z : List ℕ). AreWritten job ms z s.refused) (sym (ap (λ (z : List ℕ). out ++ z) none ∙ append-nil out))
      (subst (λ b. AreWritten job ms out b) (sym refused) h.recoded));
}

-- nothing was refused before, nor of these messages
pub quiet_after : (before left after : Bool) (e0 e1 : Option (List ℕ)) → after ≡ (before || left) → (left ≡ false → Keeps e0 e1) →
    IsQuietStep before after e0 e1
quiet_after before left after e0 e1 is quiet e = (or-left before left (sym is ∙ e), quiet (or-right before left (sym is ∙ e)))

pub quiet_same : (before after : Bool) (e0 : Option (List ℕ)) → after ≡ before → IsQuietStep before after e0 e0
quiet_same before after e0 is e = (sym is ∙ e, Keeps-refl e0)
