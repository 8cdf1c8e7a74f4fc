-- A stream, piece after piece.
-- for: stream::recode_piece, stream::recode_by
use Rattle.std.proofs.Common.{◌≡◌, ◌∙◌, ◌⊎◌, inl, inr, sym, ap, subst, refl, ℕ, Bool, true, false, not, List, [], ◌++◌, Option, Some, None}
use Rattle.std.specs.Prelude.{◌||◌}
use Rattle.std.specs.Io.KnownBytes.{Appends, Consumes, IsAtEnd, Keeps}
use Rattle.std.proofs.KnownBytes.{Appends-nil, Appends-trans, Consumes-nil, Consumes-trans, Keeps-refl, Keeps-trans}
use Rattle.std.proofs.lemmas.List.{append-nil}
use Rattle.sw_frame.specs.Stream.{State}
use Rattle.dialect_toml.specs.declared.frame.Frame.{Frame}
use Rattle.dialect_frame.specs.Stream.{Stream, begun}
use Rattle.dialect_frame.proofs.Frames.{Stream-failed}
use Rattle.cli_recode.specs.declared.message.Recoding.{Recoding}
use Rattle.cli_recode.specs.declared.recoder.Recoder.{Recoder}
use Rattle.cli_recode.specs.Progress.{IsQuietStep, IsSoFar, Moment, RecodesPiece}
use Rattle.cli_recode.specs.Streams.{IsRecodedBy, is_cut}
use Rattle.cli_recode.proofs.Pieces.{begun_after}
use Rattle.cli_recode.proofs.Written.{or-left}

pub not_false : (b : Bool) → not b ≡ false → b ≡ true
not_false true h = refl
not_false false h = absurd (cc)

-- one more piece
pub turned : (form : Frame) (job : Recoding) (first m n : Moment) (r s : Recoder) (piece text : List ℕ) → Consumes m.unread n.unread piece
    → RecodesPiece job r piece s text → Appends m.written n.written text → IsQuietStep r.refused s.refused m.reported n.reported
    → IsSoFar form job first m r → IsSoFar form job first n s
turned form job first m n r s piece text took goes wrote quiet h =
    let g = goes form h.bytes h.out h.messages h.recoded in
    record {
      bytes = h.bytes ++ piece;
      out = h.out ++ text;
      messages = h.messages ++ g.0;
      consumed = Consumes-trans first.unread m.unread n.unread h.bytes piece h.consumed took;
      recoded = g.1;
      written = Appends-trans first.written m.written n.written h.out text h.written wrote;
      quiet = λ e. Keeps-trans first.reported m.reported n.reported (h.quiet (quiet e).0) (quiet e).1;
    }

-- a read that gave nothing
pub rested : (form : Frame) (job : Recoding) (first m n : Moment) (r : Recoder) (piece : List ℕ) → Consumes m.unread n.unread piece → piece ≡ []
    → n.written ≡ m.written → n.reported ≡ m.reported → IsSoFar form job first m r → IsSoFar form job first n r
rested form job first m n r piece took none same_out same_err h =
    let whole : Consumes first.unread n.unread (h.bytes ++ piece) = Consumes-trans first.unread m.unread n.unread h.bytes piece h.consumed took in
    record {
      bytes = h.bytes;
      out = h.out;
      messages = h.messages;
      consumed = subst (Consumes first.unread n.unread) (ap (λ ys. h.bytes ++ ys) none ∙ append-nil h.bytes) whole;
      recoded = h.recoded;
      written = subst (λ w. Appends first.written w h.out) (sym same_out) h.written;
      quiet = λ e. subst (λ w. Keeps first.reported w) (sym same_err) (h.quiet e);
    }

-- before the first read
pub started : (form : Frame) (job : Recoding) (m : Moment) (r : Recoder) → r.framer ≡ begun form → r.refused ≡ false → IsSoFar form job m m r
started form job m r is refused = record {
  bytes = [];
  out = [];
  messages = [];
  consumed = Consumes-nil m.unread;
  recoded = begun_after form job r is refused;
  written = Appends-nil m.written;
  quiet = λ e. Keeps-refl m.reported;
}

at_end : (form : Frame) (xs bytes ys : List ℕ) (ms : List (List ℕ)) (s : State) → xs ≡ bytes ++ ys → (ys ≡ []) ⊎ (s.failed ≡ true) → Stream form bytes ms s
    → Stream form xs ms s
at_end form xs bytes ys ms s e why h =
    elim why [
      | inl none ↦ subst (λ zs. Stream form zs ms s) (sym (e ∙ ap (λ zs. bytes ++ zs) none ∙ append-nil bytes)) h
      | inr f ↦ subst (λ zs. Stream form zs ms s) (sym e) (Stream-failed form bytes ys ms s f h)
    ]

ended_at : (form : Frame) (job : Recoding) (u v w0 w1 e0 e1 : Option (List ℕ)) (r : Recoder) (refused : Bool)
    → IsSoFar form job (record { unread = u; written = w0; reported = e0 }) (record { unread = v; written = w1; reported = e1 }) r
    → IsAtEnd v ⊎ (r.framer.has.failed ≡ true) → refused ≡ (r.refused || is_cut r.framer.has) → IsRecodedBy form job u w0 w1 refused
ended_at form job None v w0 w1 e0 e1 r refused h why is = tt
ended_at form job (Some xs) None w0 w1 e0 e1 r refused h why is = absurd h.consumed
ended_at form job (Some xs) (Some ys) w0 w1 e0 e1 r refused h why is = (
  h.messages,
  r.framer.has,
  h.out,
  r.refused,
  at_end form xs h.bytes ys h.messages r.framer.has h.consumed why h.recoded.stream,
  h.recoded.recoded,
  h.written,
  is,
)

-- the end of the stream
pub ended : (form : Frame) (job : Recoding) (first now : Moment) (r : Recoder) (refused : Bool) → IsSoFar form job first now r
    → IsAtEnd now.unread ⊎ (r.framer.has.failed ≡ true) → refused ≡ (r.refused || is_cut r.framer.has)
    → IsRecodedBy form job first.unread first.written now.written refused
ended form job first now r refused h why is =
    ended_at form job first.unread now.unread first.written now.written first.reported now.reported r refused h why is

-- nothing was reported in the end either
pub quiet_end : (form : Frame) (job : Recoding) (first now : Moment) (r : Recoder) (refused : Bool) (e1 : Option (List ℕ)) → IsSoFar form job first now r
    → refused ≡ (r.refused || is_cut r.framer.has) → (refused ≡ false → Keeps now.reported e1) → refused ≡ false → Keeps first.reported e1
quiet_end form job first now r refused e1 h is last e =
    Keeps-trans first.reported now.reported e1 (h.quiet (or-left r.refused (is_cut r.framer.has) (sym is ∙ e))) (last e)
