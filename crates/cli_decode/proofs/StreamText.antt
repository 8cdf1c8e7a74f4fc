-- A stream, piece after piece.
-- for: stream::decode_stream
use Rattle.std.proofs.Common.{◌≡◌, ℕ, ◌+◌, ◌*◌, ◌^◌, ◌<◌, ◌≤◌, ◌⊎◌, inl, inr, Bool, true, false, List, [], ◌∷◌, ◌++◌, length, take, not, Option, Some, None}
use Rattle.std.proofs.Common.{IfSome, refl, sym, ap, ◌∙◌, subst, arith, append-nil, append_assoc, length-append, length-take-le}
use Rattle.std.specs.Prelude.{◌||◌}
use Rattle.std.specs.Io.KnownBytes.{Consumes, Appends, IsAtEnd}
use Rattle.std.proofs.KnownBytes.{Consumes-nil, Consumes-trans, Appends-nil, Appends-trans}
use Rattle.std.proofs.lemmas.List.{take-append-le}
use Rattle.sw_frame.specs.Stream.{State, Stream, Ends}
use Rattle.sw_base.specs.Digits.{number_of}
use Rattle.cli_decode.specs.declared.decoder.Decoder.{Decoder}
use Rattle.cli_decode.specs.Decoded.{frames_text, styled_text, end_text, is_cut, stream_text, has_refusal}
use Rattle.cli_decode.specs.Progress.{IsSoFar}
use Rattle.cli_decode.specs.Steps.{DecodesPiece}
use Rattle.cli_decode.specs.declared.style.FrameStyle.{FrameStyle}

pub take_short : (n : ℕ) (old new : List ℕ) → length old ≡ 65536 → length new ≡ length old → n ≤ length new → length (take n new) ≤ 65536
take_short n old new long same within = let e : length (take n new) ≡ n = length-take-le n new within in omega arith

pub not_false : (b : Bool) → not b ≡ false → b ≡ true
not_false true h = refl
not_false false h = absurd (cc)

module _ (k : FrameStyle) where
  frames_text-append : (n : ℕ) (fs gs : List (List ℕ)) → frames_text k n (fs ++ gs) ≡ frames_text k n fs ++ frames_text k (length fs + n) gs
  frames_text-append n [] gs = ap (λ (j : ℕ). frames_text k j gs) (let e : n ≡ 0 + n = omega arith in e)
  frames_text-append n (f ∷ fs) gs =
      ap (λ ys. styled_text k n f ++ ys) (frames_text-append (n + 1) fs gs)
      ∙ ap (λ (j : ℕ). styled_text k n f ++ (frames_text k (n + 1) fs ++ frames_text k j gs)) (let e : length fs + (n + 1) ≡ length (f ∷ fs) + n =
      omega arith in e)
      ∙ sym (append_assoc (styled_text k n f) (frames_text k (n + 1) fs) (frames_text k (length (f ∷ fs) + n) gs))

  -- one more piece
  pub turned : (first r0 r1 start w0 w1 : Option (List ℕ)) (reads0 reads1 : ℕ) (d e : Decoder) (piece text : List ℕ)
      → Consumes r0 r1 piece → length piece ≤ 65536 → reads0 < reads1 → reads1 ≤ 1048576 → DecodesPiece k d piece e [] text → Appends w0 w1 text
      → IsSoFar k first r0 start w0 reads0 d → IsSoFar k first r1 start w1 reads1 e
  turned first r0 r1 start w0 w1 reads0 reads1 d e piece text took short counted bounded goes wrote h =
      let all : length (h.bytes ++ piece) ≡ length h.bytes + length piece = length-append h.bytes piece in
      let so_far : length h.bytes ≤ 65536 * reads0 = h.few in
      let few : length (h.bytes ++ piece) ≤ 65536 * reads1 = omega arith in
      let small : length (h.bytes ++ piece) < 2 ^ 63 = omega arith in
      let g = goes h.bytes h.frames h.decoded small in
      let printed : Appends start w1 (frames_text k 1 h.frames ++ text) = Appends-trans start w0 w1 (frames_text k 1 h.frames) text h.printed wrote in
      let same : frames_text k 1 h.frames ++ text ≡ frames_text k 1 (h.frames ++ g.0) =
      ap (λ ys. frames_text k 1 h.frames ++ ys) g.2 ∙ sym (frames_text-append 1 h.frames g.0) in
      record {
        bytes = h.bytes ++ piece;
        frames = h.frames ++ g.0;
        consumed = Consumes-trans first r0 r1 h.bytes piece h.consumed took;
        few = few;
        decoded = g.1;
        printed = subst (Appends start w1) same printed;
      }

  -- a read that gave nothing
  pub rested : (first r0 r1 start w0 : Option (List ℕ)) (reads0 reads1 : ℕ) (d : Decoder) (piece : List ℕ)
      → Consumes r0 r1 piece → piece ≡ [] → reads0 < reads1 → IsSoFar k first r0 start w0 reads0 d → IsSoFar k first r1 start w0 reads1 d
  rested first r0 r1 start w0 reads0 reads1 d piece took none counted h =
      let so_far : length h.bytes ≤ 65536 * reads0 = h.few in
      let whole : Consumes first r1 (h.bytes ++ piece) = Consumes-trans first r0 r1 h.bytes piece h.consumed took in
      record {
        bytes = h.bytes;
        frames = h.frames;
        consumed = subst (Consumes first r1) (ap (λ ys. h.bytes ++ ys) none ∙ append-nil h.bytes) whole;
        few = omega arith;
        decoded = h.decoded;
        printed = h.printed;
      }

  -- before the first read
  pub begun : (r w : Option (List ℕ)) (d : Decoder) (reads : ℕ) → Stream [] [] d.framer → d.count ≡ 0 → d.refused ≡ false → IsSoFar k r r w w reads d
  begun r w d reads stream count refused = record {
    bytes = [];
    frames = [];
    consumed = Consumes-nil r;
    few = omega arith;
    decoded = record { stream = stream; counted = count; refused = refused };
    printed = Appends-nil w;
  }

  failed_rest : (rest more : List ℕ) (s : State) → s.failed ≡ true → Ends rest s → Ends (rest ++ more) s
  failed_rest rest more s f h =
      elim h [
        | inl p ↦ absurd (let no_ : false ≡ true = sym (ap (λ (t : State). t.failed) p.1) ∙ f in cc)
        | inr p ↦
            let four : 4 ≤ length rest = p.0.0 in
            let long : length (rest ++ more) ≡ length rest + length more = length-append rest more in
            let same : take 4 (rest ++ more) ≡ take 4 rest = take-append-le 4 rest more four in
            inr (((let l : 4 ≤ length (rest ++ more) = omega arith in l), ap number_of same ∙ p.0.1), p.1)
      ]

  -- what follows a fault changes nothing
  failed_more : (bytes more : List ℕ) (fs : List (List ℕ)) (s : State) → s.failed ≡ true → Stream bytes fs s → Stream (bytes ++ more) fs s
  failed_more bytes more fs s f h = record {
    text = h.text;
    rest = h.rest ++ more;
    whole = ap (λ ys. ys ++ more) h.whole ∙ append_assoc h.text h.rest more;
    frames = h.frames;
    ends = failed_rest h.rest more s f h.ends;
  }

  at_end : (xs bytes ys : List ℕ) (fs : List (List ℕ)) (s : State) → xs ≡ bytes ++ ys → (ys ≡ []) ⊎ (s.failed ≡ true) → Stream bytes fs s → Stream xs fs s
  at_end xs bytes ys fs s e why h =
      elim why [
        | inl none ↦ subst (λ zs. Stream zs fs s) (sym (e ∙ ap (λ zs. bytes ++ zs) none ∙ append-nil bytes)) h
        | inr f ↦ subst (λ zs. Stream zs fs s) (sym e) (failed_more bytes ys fs s f h)
      ]

  pub ended : (first r start w0 w1 : Option (List ℕ)) (reads : ℕ) (d : Decoder) (refused : Bool)
      → IsSoFar k first r start w0 reads d → IsAtEnd r ⊎ (d.framer.failed ≡ true) → Appends w0 w1 (end_text d.framer)
      → refused ≡ (d.refused || is_cut d.framer)
      → IfSome first (λ bytes. (fs : List (List ℕ)) × (s : State) × Stream bytes fs s × Appends start w1 (stream_text k fs s) × (refused ≡ has_refusal k fs s))
  ended None r start w0 w1 reads d refused h why wrote is = tt
  ended (Some xs) None start w0 w1 reads d refused h why wrote is = absurd h.consumed
  ended (Some xs) (Some ys) start w0 w1 reads d refused h why wrote is = (
    h.frames,
    d.framer,
    at_end xs h.bytes ys h.frames d.framer h.consumed why h.decoded.stream,
    Appends-trans start w0 w1 (frames_text k 1 h.frames) (end_text d.framer) h.printed wrote,
    is ∙ ap (λ b. b || is_cut d.framer) h.decoded.refused,
  )
