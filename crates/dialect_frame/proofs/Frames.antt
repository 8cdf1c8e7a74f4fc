-- Frames one after the other.
-- for: framer::Framer, walk::take_frames, pieces::read_pieces
use Rattle.std.proofs.Common.{◌≡◌, cond, inl, inr, ℕ, ◌<◌, ◌≤◌, ◌+◌, Bool, true, false, List, [], ◌∷◌, ◌++◌, length, get_or, take, drop}
use Rattle.std.proofs.Common.{Some, Result, Ok, Err, refl, sym, ap, subst, ◌∙◌, append_assoc, arith, lit<}
use Rattle.std.proofs.lemmas.List.{append-nil, length-drop, length-take, length-append, take-append-drop, take-append-le, take_at, drop-drop}
use Rattle.std.proofs.Math.Seq.{take-add}
use Rattle.std.specs.Global.{Vec}
use Rattle.dialect_toml.specs.declared.frame.Frame.{Frame}
use Rattle.dialect_toml.specs.declared.words.FrameLength.{FrameLength}
use Rattle.dialect_toml.specs.declared.words.FrameLength.TheVariants.{Ascii4, Binary2, Binary4, Packed2}
use Rattle.sw_frame.specs.Feeds.{joined, messages}
use Rattle.sw_frame.specs.Stream.{State, blank}
use Rattle.sw_frame.proofs.Frames.{joined-more}
use Rattle.dialect_frame.specs.declared.error.StreamError.{StreamError}
use Rattle.dialect_frame.specs.declared.error.StreamError.TheVariants.{OutOfMemory, BadLength}
use Rattle.dialect_frame.specs.Forms.{Framed, IsBad, IsLengthOf, IsPartial, beside, lead_in, number_in, start, width}
use Rattle.dialect_frame.specs.Stream.{AreFramed, Stream, Ends}
use Rattle.dialect_frame.specs.Writings.{AreWritten}
use Rattle.dialect_frame.specs.Feeds.{IsRest, IsHeld, IsAnswerFor, IsFault, StreamGoesOn}

pub AreFramed-push : (f : Frame) (text : List ℕ) (ms : List (List ℕ)) (last m : List ℕ) → AreFramed f text ms → Framed f last m
    → AreFramed f (text ++ last) (ms ++ m ∷ [])
AreFramed-push f text [] last m a p = (last, [], rw a (sym (append-nil last)), p, refl)
AreFramed-push f text (k ∷ ms) last m a p =
    (a.0, a.1 ++ last, ap (λ (t : List ℕ). t ++ last) a.2 ∙ append_assoc a.0 a.1 last, a.3, AreFramed-push f a.1 ms last m a.4 p)

pub AreFramed-append : (f : Frame) (text : List ℕ) (ms : List (List ℕ)) (more : List ℕ) (ns : List (List ℕ)) → AreFramed f text ms → AreFramed f more ns
    → AreFramed f (text ++ more) (ms ++ ns)
AreFramed-append f text [] more ns a b = rw a b
AreFramed-append f text (m ∷ ms) more ns a b =
    (a.0, a.1 ++ more, ap (λ (t : List ℕ). t ++ more) a.2 ∙ append_assoc a.0 a.1 more, a.3, AreFramed-append f a.1 ms more ns a.4 b)

-- bytes that begin with the length of a message of n bytes, and have no others, are its frame
framed-at : (f : Frame) (text : List ℕ) (n : ℕ) → length text ≡ start f + n → IsLengthOf f (lead_in f text) n → Framed f text (drop (start f) text)
framed-at f text n long is =
    let w = width f.length in
    let h = length f.header in
    let body = drop w text in
    let sized : length (drop (w + h) text) ≡ n = omega (arith, long, length-drop (w + h) text) in
    let whole : text ≡ take w text ++ (take h body ++ drop (w + h) text) =
    sym (take-append-drop w text)
    ∙ ap (λ (z : List ℕ). take w text ++ z) (sym (take-append-drop h body) ∙ ap (λ (z : List ℕ). take h body ++ z) (drop-drop h w text)) in
    let lead : IsLengthOf f (take w text) (length (drop (w + h) text)) = subst (λ (k : ℕ). IsLengthOf f (take w text) k) (sym sized) is in
    (take w text, take h body, whole, lead, omega (arith, long, length-take h body, length-drop w text))

-- the first bytes of a part that has them
same-lead : (f : Frame) (first rest bytes : List ℕ) → bytes ≡ first ++ rest → width f.length ≤ length first → lead_in f bytes ≡ lead_in f first
same-lead f first rest bytes e long = ap (take (width f.length)) e ∙ take-append-le (width f.length) first rest long

-- the next frame of the bytes, after a text and those taken before
pub AreFramed-next : (f : Frame) (text bytes : List ℕ) (t len : ℕ) (ms : List (List ℕ)) (rest : List ℕ) → rest ≡ drop t bytes
    → IsLengthOf f (lead_in f rest) len → start f + len ≤ length rest → AreFramed f (text ++ take t bytes) ms
    → AreFramed f (text ++ take (t + (start f + len)) bytes) (ms ++ drop (start f) (take (start f + len) rest) ∷ [])
AreFramed-next f text bytes t len ms rest e is fits a =
    let k = start f + len in
    let first = take k rest in
    let long : length first ≡ k = omega (arith, fits, length-take k rest) in
    let lead = same-lead f first (drop k rest) rest (sym (take-append-drop k rest)) (omega (arith, long)) in
    let one = framed-at f first len long (subst (λ (z : List ℕ). IsLengthOf f z len) lead is) in
    let last : (text ++ take t bytes) ++ take k rest ≡ text ++ take (t + k) bytes =
    append_assoc text (take t bytes) (take k rest)
    ∙ ap (λ (x : List ℕ). text ++ (take t bytes ++ take k x)) e
    ∙ ap (λ (x : List ℕ). text ++ x) (sym (take-add t k bytes)) in
    subst (λ (x : List ℕ). AreFramed f x (ms ++ drop (start f) first ∷ [])) last (AreFramed-push f (text ++ take t bytes) ms first (drop (start f) first) a one)

-- ---- what was answered to earlier pieces, and what is answered to the next

IsBad-append : (f : Frame) (rest piece : List ℕ) → IsBad f rest → IsBad f (rest ++ piece)
IsBad-append f rest piece b = (
  omega (arith, b.0, length-append rest piece),
  λ n is. b.1 n (subst (λ (z : List ℕ). IsLengthOf f z n) (same-lead f rest piece (rest ++ piece) refl b.0) is),
)

no-both : (b : Bool) → b ≡ true → b ≡ false → ⊥
no-both b h k = cc

pub Stream-append : (f : Frame) (before piece : List ℕ) (ms ns : List (List ℕ)) (s t : State) → s.failed ≡ false → Stream f before ms s →
    Stream f (s.pending ++ piece) ns t → Stream f (before ++ piece) (ms ++ ns) t
Stream-append f before piece ms ns s t is p q =
    elim p.ends [
      | inl w ↦
          let rest : s.pending ≡ p.rest = ap (λ (x : State). x.pending) w.1 in
          let next : p.rest ++ piece ≡ q.text ++ q.rest = ap (λ (x : List ℕ). x ++ piece) (sym rest) ∙ q.whole in
          record {
            text = p.text ++ q.text;
            rest = q.rest;
            whole = ap (λ (x : List ℕ). x ++ piece) p.whole ∙ append_assoc p.text p.rest piece ∙ ap (λ (x : List ℕ). p.text ++ x) next
                ∙ sym (append_assoc p.text q.text q.rest);
            frames = AreFramed-append f p.text ms q.text ns p.frames q.frames;
            ends = q.ends;
          }
      | inr w ↦ let h : s.failed ≡ true = ap (λ (x : State). x.failed) w.1 in absurd (no-both s.failed h is)
    ]

pub Stream-failed : (f : Frame) (before piece : List ℕ) (ms : List (List ℕ)) (s : State) → s.failed ≡ true → Stream f before ms s →
    Stream f (before ++ piece) ms s
Stream-failed f before piece ms s is p =
    elim p.ends [
      | inl w ↦ let h : s.failed ≡ false = ap (λ (x : State). x.failed) w.1 in absurd (no-both s.failed is h)
      | inr w ↦ record {
        text = p.text;
        rest = p.rest ++ piece;
        whole = ap (λ (x : List ℕ). x ++ piece) p.whole ∙ append_assoc p.text p.rest piece;
        frames = p.frames;
        ends = inr (IsBad-append f p.rest piece w.0, w.1);
      }
    ]

-- ---- the frames of a stream are determined

same-front : (a b x y : List ℕ) → length a ≡ length b → a ++ x ≡ b ++ y → (a ≡ b) × (x ≡ y)
same-front [] [] x y l e = (refl, e)
same-front [] (c ∷ b) x y l e = absurd cc
same-front (c ∷ a) [] x y l e = absurd cc
same-front (c ∷ a) (d ∷ b) x y l e =
    let h : c ≡ d = cc in
    let t : a ++ x ≡ b ++ y = cc in
    let r = same-front a b x y (omega arith) t in
    (ap (λ n. n ∷ a) h ∙ ap (λ (z : List ℕ). d ∷ z) r.0, r.1)

some-same : (x y : ℕ) → Some x ≡ Some y → x ≡ y
some-same x y e = cc

-- a length is that of messages of one size
one-length : (f : Frame) (lead other : List ℕ) (n m : ℕ) → lead ≡ other → IsLengthOf f lead n → IsLengthOf f other m → n ≡ m
one-length f lead other n m e p q =
    let h = some-same (beside f + n) (beside f + m) (sym p.1 ∙ ap (number_in f.length) e ∙ q.1) in
    omega (arith, h)

-- the parts of a frame before other bytes
parts : (a lead header m x : List ℕ) → a ≡ lead ++ (header ++ m) → a ++ x ≡ lead ++ ((header ++ m) ++ x)
parts a lead header m x e = ap (λ (z : List ℕ). z ++ x) e ∙ append_assoc lead (header ++ m) x

-- a frame at the front of bytes, and what follows it
one-frame : (f : Frame) (a b m k x y : List ℕ) → Framed f a m → Framed f b k → a ++ x ≡ b ++ y → (m ≡ k) × (x ≡ y)
one-frame f a b m k x y p q e =
    let e2 = sym (parts a p.0 p.1 m x p.2) ∙ e ∙ parts b q.0 q.1 k y q.2 in
    let d = same-front p.0 q.0 ((p.1 ++ m) ++ x) ((q.1 ++ k) ++ y) (p.3.0 ∙ sym q.3.0) e2 in
    let l : length m ≡ length k = one-length f p.0 q.0 (length m) (length k) d.0 p.3 q.3 in
    let h : length (p.1 ++ m) ≡ length (q.1 ++ k) = omega (arith, length-append p.1 m, length-append q.1 k, l, p.4, q.4) in
    let g = same-front (p.1 ++ m) (q.1 ++ k) x y h d.1 in
    let i = same-front p.1 q.1 m k (p.4 ∙ sym q.4) g.0 in
    (i.1, g.1)

-- the length and the size of bytes that begin with a frame
begins : (f : Frame) (rest a m x : List ℕ) → Framed f a m → rest ≡ a ++ x
    → (start f + length m ≤ length rest) × IsLengthOf f (lead_in f rest) (length m)
begins f rest a m x p e =
    let whole : rest ≡ p.0 ++ ((p.1 ++ m) ++ x) = e ∙ parts a p.0 p.1 m x p.2 in
    let front : lead_in f rest ≡ p.0 = ap (take (width f.length)) whole ∙ take_at p.0 ((p.1 ++ m) ++ x) (width f.length) p.3.0 in
    let long : length rest ≡ length p.0 + (length p.1 + length m + length x) =
    omega (arith, ap length whole, length-append p.0 ((p.1 ++ m) ++ x), length-append (p.1 ++ m) x, length-append p.1 m) in
    (omega (arith, long, p.3.0, p.4), subst (λ (z : List ℕ). IsLengthOf f z (length m)) (sym front) p.3)

-- a rest has no whole frame at its front
no-frame-in-rest : (f : Frame) (rest a m x : List ℕ) (s : State) → Ends f rest s → Framed f a m → rest ≡ a ++ x → ⊥
no-frame-in-rest f rest a m x s w p e =
    let b = begins f rest a m x p e in
    elim w [
      | inl u ↦ elim u.0 [
        | inl short ↦ omega (arith, short, b.0)
        | inr v ↦ let n : v.0 ≡ length m = one-length f (lead_in f rest) (lead_in f rest) v.0 (length m) refl v.1 b.1 in omega (arith, v.2, b.0, n)
      ]
      | inr u ↦ u.0.1 (length m) b.1
    ]

not-both : (f : Frame) (rest : List ℕ) → IsPartial f rest → IsBad f rest → ⊥
not-both f rest (inl short) b = omega (arith, short, b.0)
not-both f rest (inr v) b = b.1 v.0 v.1

same-ends : (f : Frame) (rest : List ℕ) (s t : State) → Ends f rest s → Ends f rest t → s ≡ t
same-ends f rest s t (inl p) (inl q) = p.1 ∙ sym q.1
same-ends f rest s t (inr p) (inr q) = p.1 ∙ sym q.1
same-ends f rest s t (inl p) (inr q) = absurd (not-both f rest p.0 q.0)
same-ends f rest s t (inr p) (inl q) = absurd (not-both f rest q.0 p.0)

same-from : (f : Frame) (ms ns : List (List ℕ)) (a b x y : List ℕ) (s t : State) → AreFramed f a ms → AreFramed f b ns → a ++ x ≡ b ++ y → Ends f x s →
    Ends f y t → (ms ≡ ns) × (s ≡ t)
same-from f [] [] a b x y s t p q e u v =
    let h : x ≡ y = ap (λ (z : List ℕ). z ++ x) (sym p) ∙ e ∙ ap (λ (z : List ℕ). z ++ y) q in
    (refl, same-ends f x s t u (subst (λ z. Ends f z t) (sym h) v))
same-from f [] (n ∷ ns) a b x y s t p q e u v =
    let h : x ≡ q.0 ++ (q.1 ++ y) = ap (λ (z : List ℕ). z ++ x) (sym p) ∙ e ∙ ap (λ (z : List ℕ). z ++ y) q.2 ∙ append_assoc q.0 q.1 y in
    absurd (no-frame-in-rest f x q.0 n (q.1 ++ y) s u q.3 h)
same-from f (m ∷ ms) [] a b x y s t p q e u v =
    let h : y ≡ p.0 ++ (p.1 ++ x) = ap (λ (z : List ℕ). z ++ y) (sym q) ∙ sym e ∙ ap (λ (z : List ℕ). z ++ x) p.2 ∙ append_assoc p.0 p.1 x in
    absurd (no-frame-in-rest f y p.0 m (p.1 ++ x) t v p.3 h)
same-from f (m ∷ ms) (n ∷ ns) a b x y s t p q e u v =
    let h : p.0 ++ (p.1 ++ x) ≡ q.0 ++ (q.1 ++ y) = sym (append_assoc p.0 p.1 x) ∙ ap (λ (z : List ℕ). z ++ x) (sym p.2) ∙ e ∙ ap (λ (z : List ℕ). z ++ y)
    q.2 ∙ append_assoc q.0 q.1 y in
    let o = one-frame f p.0 q.0 m n (p.1 ++ x) (q.1 ++ y) p.3 q.3 h in
    let r = same-from f ms ns p.1 q.1 x y s t p.4 q.4 o.1 u v in
    (ap (λ (z : List ℕ). z ∷ ms) o.0 ∙ ap (λ (zs : List (List ℕ)). n ∷ zs) r.0, r.1)

pub same-stream : (f : Frame) (bytes : List ℕ) (ms ns : List (List ℕ)) (s t : State) → Stream f bytes ms s → Stream f bytes ns t → (ms ≡ ns) × (s ≡ t)
same-stream f bytes ms ns s t p q =
    same-from f ms ns p.text q.text p.rest q.rest s t p.frames q.frames (sym p.whole ∙ q.whole) p.ends q.ends

-- bytes that begin with no length
bad-stream : (f : Frame) (bytes : List ℕ) (t : State) → IsBad f bytes → t ≡ record { pending = []; failed = true } → Stream f bytes [] t
bad-stream f bytes t bad is = record { text = []; rest = bytes; whole = refl; frames = refl; ends = inr (bad, is) }

pub so-far : (f : Frame) (before : List ℕ) (ms : List (List ℕ)) (piece : List ℕ) (r : Result (Vec (Vec ℕ)) StreamError) (s t : State) →
    Stream f before ms s → IsAnswerFor f s piece r t → StreamGoesOn f before ms piece r s t
so-far f before ms piece (Ok out) s t p a = Stream-append f before piece ms (messages out.items) s t a.0 p a.1
so-far f before ms piece (Err OutOfMemory) s t p a = a.1
so-far f before ms piece (Err BadLength) s t p a = by s.failed refl a
  where
    by : (b : Bool) → s.failed ≡ b → IsFault f b (s.pending ++ piece) s t → Stream f (before ++ piece) ms t
    by true e h = subst (λ (x : State). Stream f (before ++ piece) ms x) (sym h) (Stream-failed f before piece ms s e p)
    by false e h = subst (λ (ns : List (List ℕ)). Stream f (before ++ piece) ns t) (append-nil ms)
        (Stream-append f before piece ms [] s t e p (bad-stream f (s.pending ++ piece) t h.0 h.1))

-- ---- one feed

-- a piece makes the first frame whole
pub first-framed : (f : Frame) (held piece : List ℕ) (n k : ℕ) → length held + k ≡ start f + n → k ≤ length piece → IsLengthOf f (lead_in f (held ++ piece)) n
    → Framed f (held ++ take k piece) (drop (start f) (held ++ take k piece))
first-framed f held piece n k whole within is =
    let first = held ++ take k piece in
    let long : length first ≡ start f + n = omega (arith, whole, within, length-append held (take k piece), length-take k piece) in
    let joined : held ++ piece ≡ first ++ drop k piece = ap (λ (z : List ℕ). held ++ z) (sym (take-append-drop k piece))
    ∙ sym (append_assoc held (take k piece) (drop k piece)) in
    let lead = same-lead f first (drop k piece) (held ++ piece) joined (omega (arith, long)) in
    framed-at f first n long (subst (λ (z : List ℕ). IsLengthOf f z n) lead is)

-- what is held is less than the frame
pub held-below : (f : Frame) (held piece : List ℕ) (n : ℕ) → IsPartial f held → IsLengthOf f (lead_in f (held ++ piece)) n → length held < start f + n
held-below f held piece n (inl short) is = omega (arith, short)
held-below f held piece n (inr v) is =
    let w = width f.length in
    let long : w ≤ length held = omega (arith, v.1.0, length-take w held) in
    let same : v.0 ≡ n = one-length f (lead_in f held) (lead_in f (held ++ piece)) v.0 n (sym (take-append-le w held piece long)) v.1 is in
    omega (arith, v.2, same)

-- a whole first frame, the frames after it, and what follows them
pub finished : (f : Frame) (held piece : List ℕ) (k taken : ℕ) (bad : Bool) (ms : List (List ℕ)) (rest : List ℕ)
    → AreFramed f ((held ++ take k piece) ++ take taken (drop k piece)) ms → IsRest f bad (drop taken (drop k piece)) →
    rest ≡ cond bad [] (drop taken (drop k piece))
    → Stream f (held ++ piece) ms (record { pending = rest; failed = bad })
finished f held piece k taken bad ms rest framed follows is = record {
  text = (held ++ take k piece) ++ take taken (drop k piece);
  rest = drop taken (drop k piece);
  whole = whole;
  frames = framed;
  ends = ends bad follows is;
}
  where
    whole : held ++ piece ≡ ((held ++ take k piece) ++ take taken (drop k piece)) ++ drop taken (drop k piece)
    whole =
        ap (λ (z : List ℕ). held ++ z) (sym (take-append-drop k piece))
        ∙ sym (append_assoc held (take k piece) (drop k piece))
        ∙ ap (λ (z : List ℕ). (held ++ take k piece) ++ z) (sym (take-append-drop taken (drop k piece)))
        ∙ sym (append_assoc (held ++ take k piece) (take taken (drop k piece)) (drop taken (drop k piece)))

    ends : (b : Bool) → IsRest f b (drop taken (drop k piece)) → rest ≡ cond b [] (drop taken (drop k piece)) →
        Ends f (drop taken (drop k piece)) (record { pending = rest; failed = b })
    ends true g h = inr (g, λ i. record { pending = h i; failed = true })
    ends false g h = inl (g, λ i. record { pending = h i; failed = false })

-- bytes that begin with a frame begin with a length
pub framed-not-bad : (f : Frame) (held piece : List ℕ) (k : ℕ) (m : List ℕ) → Framed f (held ++ take k piece) m → IsBad f (held ++ piece) → ⊥
framed-not-bad f held piece k m framed bad =
    let joined : held ++ piece ≡ (held ++ take k piece) ++ drop k piece = ap (λ (z : List ℕ). held ++ z) (sym (take-append-drop k piece))
    ∙ sym (append_assoc held (take k piece) (drop k piece)) in
    bad.1 (length m) (begins f (held ++ piece) (held ++ take k piece) m (drop k piece) framed joined).1

-- ---- what is held

pub open-partial : (f : Frame) (failed : Bool) (held : List ℕ) → IsHeld f failed held → failed ≡ false → IsPartial f held
open-partial f true held h e = absurd cc
open-partial f false held h e = h

pub IsHeld-after : (f : Frame) (bytes : List ℕ) (ms : List (List ℕ)) (held : List ℕ) (failed : Bool) →
    Stream f bytes ms (record { pending = held; failed = failed }) → IsHeld f failed held
IsHeld-after f bytes ms held failed p =
    elim p.ends [
      | inl w ↦ subst (λ (s : State). IsHeld f s.failed s.pending) (sym w.1) w.0
      | inr w ↦ subst (λ (s : State). IsHeld f s.failed s.pending) (sym w.1) refl
    ]

-- no bytes are less than a frame
pub nothing-partial : (f : Frame) → IsPartial f []
nothing-partial f = inl (some f.length)
  where
    some : (l : FrameLength) → 0 < width l
    some Ascii4 = lit< tt
    some Binary2 = lit< tt
    some Binary4 = lit< tt
    some Packed2 = lit< tt

-- ---- a list of pieces

-- what was read so far goes on with a piece
pub reading-on : (f : Frame) (pieces : List (Vec ℕ)) (i : ℕ) (piece : Vec ℕ) (ms : List (List ℕ)) (t : State) → i < length pieces
    → piece ≡ get_or pieces i piece → Stream f (joined (take i pieces) ++ piece.items) ms t → Stream f (joined (take (i + 1) pieces)) ms t
reading-on f pieces i piece ms t low is p = subst (λ (z : List ℕ). Stream f z ms t) (sym (joined-more pieces i piece low is)) p

-- ---- what is written

written-framed : (f : Frame) (text : List ℕ) (ms : List (List ℕ)) → AreWritten f text ms → AreFramed f text ms
written-framed f text [] a = a
written-framed f text (m ∷ ms) a = (a.0, a.1, a.2, (a.3.0, f.header, a.3.1, a.3.2, refl), written-framed f a.1 ms a.4)

pub written-read : (f : Frame) (text : List ℕ) (ms ns : List (List ℕ)) (s : State) → AreWritten f text ms → Stream f text ns s → (ns ≡ ms) × (s ≡ blank)
written-read f text ms ns s a p =
    same-stream f text ns ms s blank p (record {
      text = text;
      rest = [];
      whole = sym (append-nil text);
      frames = written-framed f text ms a;
      ends = inl (nothing-partial f, refl);
    })
