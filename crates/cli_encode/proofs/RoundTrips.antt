-- `decode` of what `encode` writes, and the other way round.
-- for: laws
use Rattle.std.proofs.Common.{◌≡◌, ◌∙◌, ◌+◌, inl, inr, ℕ, true, false, List, [], ◌∷◌, ◌++◌, length, map, take, drop, Ok, refl, sym, ap, subst, arith, append-nil}
use Rattle.std.specs.List.{All}
use Rattle.std.proofs.Math.Seq.{drop-append_seam}
use Rattle.std.proofs.lemmas.List.Elements.{All-head, All-tail}
use Rattle.iso_msg.specs.Messages.{PlainMessage, IsMessage}
use Rattle.iso_codec.specs.Reads.{read}
use Rattle.iso_codec.specs.Spelling.{spelling}
use Rattle.iso_codec.proofs.Encoding.{merged_is, written}
use Rattle.iso_codec.proofs.MessageReads.{read_again}
use Rattle.sw_frame.specs.Stream.{AreFramed, Ends, State, blank}
use Rattle.cli_forms.specs.declared.masking.Masking.TheVariants.{Off}
use Rattle.cli_decode.specs.Decoded.{headed_text, frames_text, message_text, outcome_text, stream_text, styled_text}
use Rattle.cli_encode.specs.declared.encoder.Stage.TheVariants.{Between, Headed}
use Rattle.cli_encode.specs.Lines.{PlainLine, text_of_lines}
use Rattle.cli_encode.specs.Reading.{Point, closed, run, start}
use Rattle.cli_encode.proofs.Cuts.{front_of}
use Rattle.cli_encode.proofs.Runs.{few_messages, lines_of, lines_valid, no_more, point_is, run_all, split, texts_are}
use Rattle.cli_encode.specs.Laws.{AreDecodedBack, AreEncodedBack, AreOne, plain}
use Rattle.cli_encode.specs.Texts.{Sent, IsSent, content_of, messages_text}

spelling_read : (m : PlainMessage) → IsMessage m → read (spelling m) ≡ Ok m
spelling_read m v = ap read (sym (merged_is m v)) ∙ read_again _ m (written m v)

frame_is : (size n : ℕ) (x : Sent) → IsSent size x → styled_text (plain size) n (content_of x) ≡ message_text n x.0 x.1
unfolding headed_text
frame_is size n x v =
    let bytes = content_of x in
    ap (λ k. outcome_text Off n (take k bytes) (read (drop k bytes))) (sym v.0.0)
    ∙ ap (λ (h : List ℕ). outcome_text Off n h (read (drop (length x.0) bytes))) (front_of x.0 (spelling x.1))
    ∙ ap (λ (b : List ℕ). outcome_text Off n x.0 (read b)) (drop-append_seam x.0 (spelling x.1))
    ∙ ap (outcome_text Off n x.0) (spelling_read x.1 v.1)

frames_are : (size n : ℕ) (xs : List Sent) → All (IsSent size) xs → frames_text (plain size) n (map content_of xs) ≡ messages_text n xs
frames_are size n [] v = refl
frames_are size n (x ∷ xs) v =
    ap (λ (t : List ℕ). t ++ frames_text (plain size) (n + 1) (map content_of xs)) (frame_is size n x (All-head (IsSent size) x xs v))
    ∙ ap (λ (t : List ℕ). message_text n x.0 x.1 ++ t) (frames_are size (n + 1) xs (All-tail (IsSent size) x xs v))

text_is : (size : ℕ) (xs : List Sent) → All (IsSent size) xs → stream_text (plain size) (map content_of xs) blank ≡ messages_text 1 xs
text_is size xs v = append-nil (frames_text (plain size) 1 (map content_of xs)) ∙ frames_are size 1 xs v

pub decoded_back : AreDecodedBack
decoded_back size xs frames v framed = (
  record { text = frames; rest = []; whole = sym (append-nil frames); frames = framed; ends = inl (inl (omega arith), refl) },
  text_is size xs v,
)

pending_of : (rest : List ℕ) → Ends rest blank → rest ≡ []
pending_of rest ends =
    elim ends [
      | inl p ↦ sym (ap (λ (t : State). t.pending) p.1)
      | inr p ↦ absurd (let no_ : false ≡ true = ap (λ (t : State). t.failed) p.1 in cc)
    ]

-- all bytes are of the frames, where none are pending
pub encoded_back : AreEncodedBack
encoded_back size frames fs s spelled =
    let all : frames ≡ s.text = s.whole ∙ ap (λ (t : List ℕ). s.text ++ t) (pending_of s.rest s.ends) ∙ append-nil s.text in (
      spelled.0,
      spelled.1,
      ap (λ (gs : List (List ℕ)). stream_text (plain size) gs blank) spelled.2 ∙ text_is size spelled.0 spelled.1,
      subst (λ (gs : List (List ℕ)). AreFramed frames gs) spelled.2 (subst (λ (t : List ℕ). AreFramed t fs) (sym all) s.frames),
    )

-- ---- a text has one list of messages

not_headed : Between ≡ Headed → ⊥
not_headed k = absurd cc

pub are_one : AreOne
are_one size ms ks v w small e =
    let few = few_messages 1 ms in
    let also = few_messages 1 ks in
    let long : length (messages_text 1 ms) ≡ length (messages_text 1 ks) = ap length e in
    let a = lines_valid size 1 ms (omega (arith, few, small)) v in
    let b = lines_valid size 1 ks (omega (arith, also, long, small)) w in
    let same : text_of_lines (lines_of 1 ms) ≡ text_of_lines (lines_of 1 ks) ++ [] =
    sym (texts_are 1 ms) ∙ e ∙ texts_are 1 ks ∙ sym (append-nil (text_of_lines (lines_of 1 ks))) in
    let sp = split (lines_of 1 ks) (lines_of 1 ms) [] b a same in
    let lines : lines_of 1 ms ≡ lines_of 1 ks = sp.1 ∙ ap (λ (l : List PlainLine). lines_of 1 ks ++ l) (no_more sp.0 sp.2) ∙ append-nil (lines_of 1 ks) in
    let x = run_all ms (start size) not_headed v in
    let y = run_all ks (start size) not_headed w in
    let here : x.0 ≡ y.0 = point_is x.0 y.0 (sym x.1 ∙ ap (run (start size)) lines ∙ y.1) in
    sym x.3 ∙ ap (λ (p : Point). (closed p).done) here ∙ y.3
