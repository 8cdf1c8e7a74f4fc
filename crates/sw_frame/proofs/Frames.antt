-- Frames one after the other.
-- for: framer::Framer, walk::take_frames, pieces::read_pieces
use Rattle.std.proofs.Common.{◌≡◌, cond, inl, inr, ℕ, ◌<◌, ◌≤◌, ◌+◌, Bool, true, false, List, [], ◌∷◌, ◌++◌, length, get_or, take, drop}
use Rattle.std.proofs.Common.{Some, None, Result, Ok}
use Rattle.std.proofs.Common.{Err, refl, sym, ap, subst, ◌∙◌, append_assoc, arith}
use Rattle.std.proofs.lemmas.List.{append-nil, take_more, length-drop, length-take, length-append, take-append-drop, take-append-le, take_at}
use Rattle.std.proofs.Math.Seq.{take-add}
use Rattle.sw_frame.specs.Stream.{Framed, AreFramed, IsPartial, IsBad, State, Stream, Ends}
use Rattle.sw_base.specs.Digits.{number_of}
use Rattle.std.proofs.lemmas.List.Concat.{flat_map-append}
use Rattle.sw_frame.specs.Feeds.{joined, IsRest, IsHeld, messages, IsAnswer, IsFault, StreamGoesOn}
use Rattle.std.specs.Global.{Vec}
use Rattle.sw_frame.specs.declared.error.FrameError.{FrameError}
use Rattle.sw_frame.specs.declared.error.FrameError.TheVariants.{OutOfMemory, BadLength, TooLong}

pub AreFramed-push : (text : List ℕ) (fs : List (List ℕ)) (last f : List ℕ) → AreFramed text fs → Framed last f → AreFramed (text ++ last) (fs ++ f ∷ [])
AreFramed-push text [] last f a p = (last, [], rw a (sym (append-nil last)), p, refl)
AreFramed-push text (g ∷ fs) last f a p =
    (a.0, a.1 ++ last, ap (λ (t : List ℕ). t ++ last) a.2 ∙ append_assoc a.0 a.1 last, a.3, AreFramed-push a.1 fs last f a.4 p)

pub AreFramed-append : (text : List ℕ) (fs : List (List ℕ)) (more : List ℕ) (gs : List (List ℕ)) → AreFramed text fs → AreFramed more gs →
    AreFramed (text ++ more) (fs ++ gs)
AreFramed-append text [] more gs a b = rw a b
AreFramed-append text (f ∷ fs) more gs a b =
    (a.0, a.1 ++ more, ap (λ (t : List ℕ). t ++ more) a.2 ∙ append_assoc a.0 a.1 more, a.3, AreFramed-append a.1 fs more gs a.4 b)

-- the next frame of the bytes, after a text and those taken before
pub AreFramed-next : (text bytes : List ℕ) (t len : ℕ) (fs : List (List ℕ)) (rest : List ℕ) → rest ≡ drop t bytes → 4 ≤ length rest →
    number_of (take 4 rest) ≡ Some len → len ≤ length (drop 4 rest)
    → AreFramed (text ++ take t bytes) fs → AreFramed (text ++ take (t + (4 + len)) bytes) (fs ++ take len (drop 4 rest) ∷ [])
AreFramed-next text bytes t len fs rest e four n fits a =
    let whole : take (4 + len) rest ≡ take 4 rest ++ take len (drop 4 rest) = take-add 4 len rest in
    let sized : length (take len (drop 4 rest)) ≡ len = omega (arith, fits, length-take len (drop 4 rest)) in
    let one : Framed (take (4 + len) rest) (take len (drop 4 rest)) = (take 4 rest, whole, omega (arith, four, length-take 4 rest), n ∙ ap Some (sym sized)) in
    let last : (text ++ take t bytes) ++ take (4 + len) rest ≡ text ++ take (t + (4 + len)) bytes =
    append_assoc text (take t bytes) (take (4 + len) rest)
    ∙ ap (λ (x : List ℕ). text ++ (take t bytes ++ take (4 + len) x)) e
    ∙ ap (λ (x : List ℕ). text ++ x) (sym (take-add t (4 + len) bytes)) in
    subst (λ (x : List ℕ). AreFramed x (fs ++ take len (drop 4 rest) ∷ [])) last
    (AreFramed-push (text ++ take t bytes) fs (take (4 + len) rest) (take len (drop 4 rest)) a one)

-- ---- what was answered to earlier pieces, and what is answered to the next

IsBad-append : (rest piece : List ℕ) → IsBad rest → IsBad (rest ++ piece)
IsBad-append rest piece b = (omega (arith, b.0, length-append rest piece), ap number_of (take-append-le 4 rest piece b.0) ∙ b.1)

pub Stream-append : (before piece : List ℕ) (fs gs : List (List ℕ)) (s t : State) → s.failed ≡ false → Stream before fs s →
    Stream (s.pending ++ piece) gs t → Stream (before ++ piece) (fs ++ gs) t
Stream-append before piece fs gs s t f p q =
    elim p.ends [
      | inl w ↦
          let rest : s.pending ≡ p.rest = ap (λ (x : State). x.pending) w.1 in
          let next : p.rest ++ piece ≡ q.text ++ q.rest = ap (λ (x : List ℕ). x ++ piece) (sym rest) ∙ q.whole in
          record {
            text = p.text ++ q.text;
            rest = q.rest;
            whole = ap (λ (x : List ℕ). x ++ piece) p.whole ∙ append_assoc p.text p.rest piece ∙ ap (λ (x : List ℕ). p.text ++ x) next
                ∙ sym (append_assoc p.text q.text q.rest);
            frames = AreFramed-append p.text fs q.text gs p.frames q.frames;
            ends = q.ends;
          }
      | inr w ↦ let h : s.failed ≡ true = ap (λ (x : State). x.failed) w.1 in absurd (no-both s.failed h f)
    ]
  where
    no-both : (b : Bool) → b ≡ true → b ≡ false → ⊥
    no-both b h k = cc

pub Stream-failed : (before piece : List ℕ) (fs : List (List ℕ)) (s : State) → s.failed ≡ true → Stream before fs s → Stream (before ++ piece) fs s
Stream-failed before piece fs s f p =
    elim p.ends [
      | inl w ↦ let h : s.failed ≡ false = ap (λ (x : State). x.failed) w.1 in absurd (no-both s.failed f h)
      | inr w ↦ record {
        text = p.text;
        rest = p.rest ++ piece;
        whole = ap (λ (x : List ℕ). x ++ piece) p.whole ∙ append_assoc p.text p.rest piece;
        frames = p.frames;
        ends = inr (IsBad-append p.rest piece w.0, w.1);
      }
    ]
  where
    no-both : (b : Bool) → b ≡ true → b ≡ false → ⊥
    no-both b h k = cc

-- ---- the frames of a stream are determined

same-front : (a b x y : List ℕ) → length a ≡ length b → a ++ x ≡ b ++ y → (a ≡ b) × (x ≡ y)
same-front [] [] x y l e = (refl, e)
same-front [] (c ∷ b) x y l e = absurd cc
same-front (c ∷ a) [] x y l e = absurd cc
same-front (c ∷ a) (d ∷ b) x y l e =
    let h : c ≡ d = cc in
    let t : a ++ x ≡ b ++ y = cc in
    let r = same-front a b x y (omega arith) t in
    (ap (λ n. n ∷ a) h ∙ ap (λ (z : List ℕ). d ∷ z) r.0, r.1)

some-same : (x y : ℕ) → Some x ≡ Some y → x ≡ y
some-same x y e = cc

-- a frame at the front of bytes, and what follows it
one-frame : (a b f g x y : List ℕ) → Framed a f → Framed b g → a ++ x ≡ b ++ y → (f ≡ g) × (x ≡ y)
one-frame a b f g x y p q e =
    let e2 : p.0 ++ (f ++ x) ≡ q.0 ++ (g ++ y) = sym (append_assoc p.0 f x) ∙ ap (λ (z : List ℕ). z ++ x) (sym p.1) ∙ e ∙ ap (λ (z : List ℕ). z ++ y) q.1
    ∙ append_assoc q.0 g y in
    let d = same-front p.0 q.0 (f ++ x) (g ++ y) (p.2 ∙ sym q.2) e2 in
    let l : length f ≡ length g = some-same (length f) (length g) (sym p.3 ∙ ap number_of d.0 ∙ q.3) in
    same-front f g x y l d.1

-- a rest has no whole frame at its front
no-frame-in-rest : (rest a f x : List ℕ) (s : State) → Ends rest s → Framed a f → rest ≡ a ++ x → ⊥
no-frame-in-rest rest a f x s w p e =
    let whole : rest ≡ p.0 ++ (f ++ x) = e ∙ ap (λ (z : List ℕ). z ++ x) p.1 ∙ append_assoc p.0 f x in
    let front : take 4 rest ≡ p.0 = ap (take 4) whole ∙ take_at p.0 (f ++ x) 4 p.2 in
    let long : length rest ≡ 4 + (length f + length x) = omega (arith, ap length whole, length-append p.0 (f ++ x), length-append f x, p.2) in
    elim w [
      | inl u ↦ elim u.0 [
        | inl short ↦ omega (arith, short, long)
        | inr v ↦ let n : v.0 ≡ length f = some-same v.0 (length f) (sym v.2 ∙ ap number_of front ∙ p.3) in omega (arith, v.3, long, n)
      ]
      | inr u ↦ some-none (length f) (sym p.3 ∙ ap number_of (sym front) ∙ u.0.1)
    ]
  where
    some-none : (n : ℕ) → Some n ≡ None → ⊥
    some-none n h = cc

some-none : (n : ℕ) → Some n ≡ None → ⊥
some-none n h = cc

not-both : (rest : List ℕ) → IsPartial rest → IsBad rest → ⊥
not-both rest (inl short) b = omega (arith, short, b.0)
not-both rest (inr v) b = some-none v.0 (sym v.2 ∙ b.1)

same-ends : (rest : List ℕ) (s t : State) → Ends rest s → Ends rest t → s ≡ t
same-ends rest s t (inl p) (inl q) = p.1 ∙ sym q.1
same-ends rest s t (inr p) (inr q) = p.1 ∙ sym q.1
same-ends rest s t (inl p) (inr q) = absurd (not-both rest p.0 q.0)
same-ends rest s t (inr p) (inl q) = absurd (not-both rest q.0 p.0)

same-from : (fs gs : List (List ℕ)) (a b x y : List ℕ) (s t : State) → AreFramed a fs → AreFramed b gs → a ++ x ≡ b ++ y → Ends x s → Ends y t →
    (fs ≡ gs) × (s ≡ t)
same-from [] [] a b x y s t p q e u v =
    let h : x ≡ y = ap (λ (z : List ℕ). z ++ x) (sym p) ∙ e ∙ ap (λ (z : List ℕ). z ++ y) q in
    (refl, same-ends x s t u (subst (λ z. Ends z t) (sym h) v))
same-from [] (g ∷ gs) a b x y s t p q e u v =
    let h : x ≡ q.0 ++ (q.1 ++ y) = ap (λ (z : List ℕ). z ++ x) (sym p) ∙ e ∙ ap (λ (z : List ℕ). z ++ y) q.2 ∙ append_assoc q.0 q.1 y in
    absurd (no-frame-in-rest x q.0 g (q.1 ++ y) s u q.3 h)
same-from (f ∷ fs) [] a b x y s t p q e u v =
    let h : y ≡ p.0 ++ (p.1 ++ x) = ap (λ (z : List ℕ). z ++ y) (sym q) ∙ sym e ∙ ap (λ (z : List ℕ). z ++ x) p.2 ∙ append_assoc p.0 p.1 x in
    absurd (no-frame-in-rest y p.0 f (p.1 ++ x) t v p.3 h)
same-from (f ∷ fs) (g ∷ gs) a b x y s t p q e u v =
    let h : p.0 ++ (p.1 ++ x) ≡ q.0 ++ (q.1 ++ y) = sym (append_assoc p.0 p.1 x) ∙ ap (λ (z : List ℕ). z ++ x) (sym p.2) ∙ e ∙ ap (λ (z : List ℕ). z ++ y)
    q.2 ∙ append_assoc q.0 q.1 y in
    let o = one-frame p.0 q.0 f g (p.1 ++ x) (q.1 ++ y) p.3 q.3 h in
    let r = same-from fs gs p.1 q.1 x y s t p.4 q.4 o.1 u v in
    (ap (λ (z : List ℕ). z ∷ fs) o.0 ∙ ap (λ (zs : List (List ℕ)). g ∷ zs) r.0, r.1)

pub same-stream : (bytes : List ℕ) (fs gs : List (List ℕ)) (s t : State) → Stream bytes fs s → Stream bytes gs t → (fs ≡ gs) × (s ≡ t)
same-stream bytes fs gs s t p q = same-from fs gs p.text q.text p.rest q.rest s t p.frames q.frames (sym p.whole ∙ q.whole) p.ends q.ends

-- bytes that begin with no length
bad-stream : (bytes : List ℕ) (t : State) → IsBad bytes → t ≡ record { pending = []; failed = true } → Stream bytes [] t
bad-stream bytes t bad is = record { text = []; rest = bytes; whole = refl; frames = refl; ends = inr (bad, is) }

pub so-far : (before : List ℕ) (fs : List (List ℕ)) (piece : List ℕ) (r : Result (Vec (Vec ℕ)) FrameError) (s t : State) → Stream before fs s →
    IsAnswer s piece r t → StreamGoesOn before fs piece r s t
so-far before fs piece (Ok out) s t p a = Stream-append before piece fs (messages out.items) s t a.0 p a.1
so-far before fs piece (Err OutOfMemory) s t p a = a.1
so-far before fs piece (Err TooLong) s t p a = absurd a
so-far before fs piece (Err BadLength) s t p a = by s.failed refl a
  where
    by : (b : Bool) → s.failed ≡ b → IsFault b (s.pending ++ piece) s t → Stream (before ++ piece) fs t
    by true e h = subst (λ (x : State). Stream (before ++ piece) fs x) (sym h) (Stream-failed before piece fs s e p)
    by false e h = subst (λ (gs : List (List ℕ)). Stream (before ++ piece) gs t) (append-nil fs)
        (Stream-append before piece fs [] s t e p (bad-stream (s.pending ++ piece) t h.0 h.1))

-- ---- one feed

-- a piece makes the first frame whole
pub first-framed : (held piece : List ℕ) (n k : ℕ) → length held + k ≡ 4 + n → k ≤ length piece → number_of (take 4 (held ++ piece)) ≡ Some n
    → Framed (held ++ take k piece) (drop 4 (held ++ take k piece))
first-framed held piece n k whole within number =
    let first = held ++ take k piece in
    let long : length first ≡ 4 + n = omega (arith, whole, within, length-append held (take k piece), length-take k piece) in
    let joined : held ++ piece ≡ first ++ drop k piece = ap (λ (z : List ℕ). held ++ z) (sym (take-append-drop k piece))
    ∙ sym (append_assoc held (take k piece) (drop k piece)) in
    let four : 4 ≤ length first = omega (arith, long) in
    let digits : take 4 (held ++ piece) ≡ take 4 first = ap (take 4) joined ∙ take-append-le 4 first (drop k piece) four in
    let size : length (drop 4 first) ≡ n = omega (arith, long, length-drop 4 first) in
    (take 4 first, sym (take-append-drop 4 first), omega (arith, four, length-take 4 first), ap number_of (sym digits) ∙ number ∙ ap Some (sym size))

-- what is held is less than the frame
pub held-below : (held piece : List ℕ) (n : ℕ) → IsPartial held → number_of (take 4 (held ++ piece)) ≡ Some n → length held < 4 + n
held-below held piece n (inl short) number = omega (arith, short)
held-below held piece n (inr v) number =
    let same : v.0 ≡ n = some-same v.0 n (sym v.2 ∙ ap number_of (sym (take-append-le 4 held piece v.1)) ∙ number) in
    omega (arith, v.3, same)

-- a whole first frame, the frames after it, and what follows them
pub finished : (held piece : List ℕ) (k taken : ℕ) (bad : Bool) (fs : List (List ℕ)) (rest : List ℕ)
    → AreFramed ((held ++ take k piece) ++ take taken (drop k piece)) fs → IsRest bad (drop taken (drop k piece)) →
    rest ≡ cond bad [] (drop taken (drop k piece))
    → Stream (held ++ piece) fs (record { pending = rest; failed = bad })
finished held piece k taken bad fs rest framed follows is = record {
  text = (held ++ take k piece) ++ take taken (drop k piece);
  rest = drop taken (drop k piece);
  whole = whole;
  frames = framed;
  ends = ends bad follows is;
}
  where
    whole : held ++ piece ≡ ((held ++ take k piece) ++ take taken (drop k piece)) ++ drop taken (drop k piece)
    whole =
        ap (λ (z : List ℕ). held ++ z) (sym (take-append-drop k piece))
        ∙ sym (append_assoc held (take k piece) (drop k piece))
        ∙ ap (λ (z : List ℕ). (held ++ take k piece) ++ z) (sym (take-append-drop taken (drop k piece)))
        ∙ sym (append_assoc (held ++ take k piece) (take taken (drop k piece)) (drop taken (drop k piece)))

    ends : (b : Bool) → IsRest b (drop taken (drop k piece)) → rest ≡ cond b [] (drop taken (drop k piece)) →
        Ends (drop taken (drop k piece)) (record { pending = rest; failed = b })
    ends true f h = inr (f, λ i. record { pending = h i; failed = true })
    ends false f h = inl (f, λ i. record { pending = h i; failed = false })

-- bytes that begin with a frame begin with a length
pub whole-not-bad : (first rest message : List ℕ) → Framed first message → IsBad (first ++ rest) → ⊥
whole-not-bad first rest message framed bad =
    let long : 4 ≤ length first = omega (arith, ap length framed.1, length-append framed.0 message, framed.2) in
    let front : take 4 (first ++ rest) ≡ framed.0 = take-append-le 4 first rest long ∙ ap (take 4) framed.1 ∙ take_at framed.0 message 4 framed.2 in
    some-none (length message) (sym framed.3 ∙ ap number_of (sym front) ∙ bad.1)

pub framed-not-bad : (held piece : List ℕ) (k : ℕ) (message : List ℕ) → Framed (held ++ take k piece) message → IsBad (held ++ piece) → ⊥
framed-not-bad held piece k message framed bad =
    whole-not-bad (held ++ take k piece) (drop k piece) message framed
    (subst (λ (z : List ℕ). IsBad z) (ap (λ (z : List ℕ). held ++ z) (sym (take-append-drop k piece))
    ∙ sym (append_assoc held (take k piece) (drop k piece))) bad)

-- ---- what is held

pub open-partial : (failed : Bool) (held : List ℕ) → IsHeld failed held → failed ≡ false → IsPartial held
open-partial true held h e = absurd cc
open-partial false held h e = h

pub IsHeld-after : (bytes : List ℕ) (fs : List (List ℕ)) (held : List ℕ) (failed : Bool) → Stream bytes fs (record { pending = held; failed = failed }) →
    IsHeld failed held
IsHeld-after bytes fs held failed p =
    elim p.ends [
      | inl w ↦ subst (λ (s : State). IsHeld s.failed s.pending) (sym w.1) w.0
      | inr w ↦ subst (λ (s : State). IsHeld s.failed s.pending) (sym w.1) refl
    ]

-- ---- a list of pieces

pub joined-more : (pieces : List (Vec ℕ)) (i : ℕ) (piece : Vec ℕ) → i < length pieces → piece ≡ get_or pieces i piece →
    joined (take (i + 1) pieces) ≡ joined (take i pieces) ++ piece.items
joined-more pieces i piece low is =
    ap joined (take_more pieces i piece low)
    ∙ flat_map-append (λ (v : Vec ℕ). v.items) (take i pieces) (get_or pieces i piece ∷ [])
    ∙ ap (λ (v : Vec ℕ). joined (take i pieces) ++ (v.items ++ [])) (sym is)
    ∙ ap (λ (z : List ℕ). joined (take i pieces) ++ z) (append-nil piece.items)

-- what was read so far goes on with a piece
pub reading-on : (pieces : List (Vec ℕ)) (i : ℕ) (piece : Vec ℕ) (fs : List (List ℕ)) (t : State) → i < length pieces → piece ≡ get_or pieces i piece
    → Stream (joined (take i pieces) ++ piece.items) fs t → Stream (joined (take (i + 1) pieces)) fs t
reading-on pieces i piece fs t low is p = subst (λ (z : List ℕ). Stream z fs t) (sym (joined-more pieces i piece low is)) p
