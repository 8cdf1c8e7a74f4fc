-- What a piece adds to what was decoded.
-- for: decoder::Decoder::piece
use Rattle.std.proofs.Common.{◌≡◌, ℕ, ◌+◌, ◌-◌, ◌^◌, ◌<◌, ◌≤◌, min, Bool, List, [], ◌∷◌, ◌++◌, length, sym, ap, ◌∙◌, subst, arith, append-nil, append_assoc}
use Rattle.std.proofs.Common.{length-append}
use Rattle.std.specs.Prelude.{◌||◌}
use Rattle.std.specs.List.{list_any}
use Rattle.std.specs.Global.{Vec}
use Rattle.std.proofs.lemmas.List.{length-map}
use Rattle.std.proofs.lemmas.List.Folds.{list_any-append}
use Rattle.sw_frame.specs.Stream.{State, Stream, AreFramed}
use Rattle.sw_frame.specs.Feeds.{messages}
use Rattle.cli_decode.specs.declared.decoder.Decoder.{Decoder}
use Rattle.cli_decode.specs.Decoded.{frames_text, is_refused_in}
use Rattle.cli_decode.specs.Progress.{IsDecoded}
use Rattle.cli_decode.specs.declared.style.FrameStyle.{FrameStyle}

-- three texts, one after the other
pub appended : (old first second new a b e : List ℕ) → first ≡ old ++ a → second ≡ first ++ b → new ≡ second ++ e → new ≡ old ++ (a ++ (b ++ e))
appended old first second new a b e one two three =
    three ∙ ap (λ xs. xs ++ e) (two ∙ ap (λ xs. xs ++ b) one) ∙ append_assoc (old ++ a) b e ∙ append_assoc old a (b ++ e)

module _ (k : FrameStyle) where
  -- each frame has bytes
  frames_short : (text : List ℕ) (fs : List (List ℕ)) → AreFramed text fs → length fs ≤ length text
  frames_short text [] h = omega arith
  frames_short text (f ∷ fs) h =
      let all : length text ≡ length h.0 + length h.1 = ap length h.2 ∙ length-append h.0 h.1 in
      let first : length h.0 ≡ length h.3.0 + length f = ap length h.3.1 ∙ length-append h.3.0 f in
      let four : length h.3.0 ≡ 4 = h.3.2 in
      let more : length fs ≤ length h.1 = frames_short h.1 fs h.4 in
      omega arith

  stream_short : (bytes : List ℕ) (fs : List (List ℕ)) (s : State) → Stream bytes fs s → length fs ≤ length bytes
  stream_short bytes fs s h =
      let all : length bytes ≡ length h.text + length h.rest = ap length h.whole ∙ length-append h.text h.rest in
      let some : length fs ≤ length h.text = frames_short h.text fs h.frames in
      omega arith

  -- after a piece that made these messages whole
  pub went : (bytes piece : List ℕ) (fs : List (List ℕ)) (ms xs : List (Vec ℕ)) (d e : Decoder) (old new : List ℕ) (first : ℕ) (any : Bool)
      → IsDecoded k bytes fs d → length (bytes ++ piece) < 2 ^ 63 → Stream (bytes ++ piece) (fs ++ messages ms) e.framer
      → xs ≡ ms → first ≡ min (d.count + 1) (2 ^ 64 - 1) → e.count ≡ min (d.count + length xs) (2 ^ 64 - 1)
      → any ≡ list_any (is_refused_in k) (messages xs) → e.refused ≡ (d.refused || any)
      → (first + length xs < 2 ^ 64 → new ≡ old ++ frames_text k first (messages xs))
      → IsDecoded k (bytes ++ piece) (fs ++ messages ms) e × (new ≡ old ++ frames_text k (length fs + 1) (messages ms))
  went bytes piece fs ms xs d e old new first any h few stream is number count refused whole text =
      let long : length xs ≡ length ms = ap length is in
      let short : length (fs ++ messages ms) ≤ length (bytes ++ piece) = stream_short (bytes ++ piece) (fs ++ messages ms) e.framer stream in
      let parts : length (fs ++ messages ms) ≡ length fs + length (messages ms) = length-append fs (messages ms) in
      let same : length (messages ms) ≡ length ms = length-map ms (λ (v : Vec ℕ). v.items) in
      let counted : d.count ≡ length fs = h.counted in
      let begins : first ≡ length fs + 1 = omega arith in
      let small : first + length xs < 2 ^ 64 = omega arith in
      let ends : e.count ≡ length (fs ++ messages ms) = omega arith in (
        record {
          stream = stream;
          counted = ends;
          refused = whole ∙ ap (λ b. b || any) h.refused
              ∙ ap (λ b. list_any (is_refused_in k) fs || b) (refused ∙ ap (λ ys. list_any (is_refused_in k) (messages ys)) is)
              ∙ sym (list_any-append (is_refused_in k) fs (messages ms));
        },
        text small ∙ ap (λ ys. old ++ frames_text k first (messages ys)) is ∙ ap (λ n. old ++ frames_text k n (messages ms)) begins,
      )

  -- after a piece that made no message whole
  pub stayed : (bytes piece : List ℕ) (fs : List (List ℕ)) (d e : Decoder) (old : List ℕ)
      → IsDecoded k bytes fs d → Stream (bytes ++ piece) fs e.framer → e.count ≡ d.count → e.refused ≡ d.refused
      → IsDecoded k (bytes ++ piece) (fs ++ []) e × (old ≡ old ++ frames_text k (length fs + 1) [])
  stayed bytes piece fs d e old h stream count refused =
      let none : fs ++ [] ≡ fs = append-nil fs in (
        record {
          stream = subst (λ gs. Stream (bytes ++ piece) gs e.framer) (sym none) stream;
          counted = count ∙ h.counted ∙ sym (ap length none);
          refused = refused ∙ h.refused ∙ sym (ap (list_any (is_refused_in k)) none);
        },
        sym (append-nil old),
      )
