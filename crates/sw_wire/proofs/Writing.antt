-- What is written to a host, one turn after another.
use Rattle.std.proofs.Common.{◌≡◌, ℕ, Bool, true, false, List, [], ◌∷◌, ◌++◌, drop, Option, Some, None, refl, sym, ap, subst, ◌∙◌}
use Rattle.std.proofs.Common.{append-nil, append_assoc}
use Rattle.std.specs.Prelude.{IfSome, IsTrue, option_to_list}
use Rattle.std.proofs.lemmas.List.{map-append}
use Rattle.std.proofs.lemmas.List.Concat.{flat_map-append}
use Rattle.std.specs.Io.KnownBytes.{Appends}
use Rattle.cli_io.specs.Written.{AppendsBeginning}
use Rattle.sw_frame.specs.Stream.{AreFramed, Framed}
use Rattle.sw_frame.proofs.Frames.{AreFramed-append}
use Rattle.sw_wire.specs.declared.frame.Frame.{Frame}
use Rattle.sw_wire.specs.Echoes.{IsEcho}
use Rattle.sw_wire.specs.Wanted.{is_timely}
use Rattle.sw_wire.specs.Writing.{Outbound, handed, test, bytes_of, frame_in, frames_in, text_of, messages_of, IsSound, AreSound, WritesFrames, WritesGiven, Gives, given}
use Rattle.sw_wire.proofs.Framing.{framed_drop, frame_is_framed}

-- ---- bytes

pub appends_none : (o : Option (List ℕ)) → Appends o o []
appends_none None = tt
appends_none (Some xs) = sym (append-nil xs)

pub appends_then : (o p q : Option (List ℕ)) (t u : List ℕ) → Appends o p t → Appends p q u → Appends o q (t ++ u)
appends_then None p q t u h k = tt
appends_then (Some xs) None q t u h k = absurd h
appends_then (Some xs) (Some ys) None t u h k = absurd k
appends_then (Some xs) (Some ys) (Some zs) t u h k = k ∙ ap (λ l. l ++ u) h ∙ append_assoc xs t u

nothing_first : (first rest : List ℕ) → [] ≡ first ++ rest → first ≡ []
nothing_first [] rest e = refl
nothing_first (x ∷ first) rest e = absurd (cc)

-- ---- one after the other

sound_then : (os ps : List Outbound) → AreSound os → AreSound ps → AreSound (os ++ ps)
sound_then [] ps h k = k
sound_then (o ∷ os) ps (here, more) k = (here, sound_then os ps more k)

-- nothing is written, and the direction stays open or not
pub writes_none : (o : Option (List ℕ)) (open' : Bool) → WritesFrames [] o o open'
writes_none o open' = record {
  whole = [];
  last = None;
  handed_over = refl;
  sound = (tt, tt);
  framed = refl;
  first = [];
  rest = [];
  begun = refl;
  written = appends_none o;
  stays = λ _. refl;
}

-- what was written of the first ones, all whole
all_written : (fs : List Frame) (a b : Option (List ℕ)) (w : WritesFrames fs a b true) → (frames_in w.whole ≡ fs) × Appends a b (text_of w.whole)
all_written fs a b w =
    let none = w.stays refl in
    let first : w.first ≡ [] = nothing_first w.first w.rest (ap (λ (o : Option Outbound). text_of (option_to_list o)) (sym none) ∙ w.begun) in (
      sym (append-nil (frames_in w.whole)) ∙ ap (λ (o : Option Outbound). frames_in w.whole ++ frames_in (option_to_list o)) (sym none) ∙ w.handed_over,
      subst (Appends a b) (ap (λ (l : List ℕ). text_of w.whole ++ l) first ∙ append-nil (text_of w.whole)) w.written,
    )

-- and then more
pub writes_then : (fs gs : List Frame) (a b c : Option (List ℕ)) (open' : Bool) → WritesFrames fs a b true → WritesFrames gs b c open' → WritesFrames (fs ++ gs) a c open'
writes_then fs gs a b c open' w v =
    let (frames, written) = all_written fs a b w in
    let texts : text_of (w.whole ++ v.whole) ≡ text_of w.whole ++ text_of v.whole = flat_map-append bytes_of w.whole v.whole in
    record {
      whole = w.whole ++ v.whole;
      last = v.last;
      handed_over = ap (λ (l : List Frame). l ++ frames_in (option_to_list v.last)) (flat_map-append frame_in w.whole v.whole)
          ∙ append_assoc (frames_in w.whole) (frames_in v.whole) (frames_in (option_to_list v.last))
          ∙ ap (λ (l : List Frame). frames_in w.whole ++ l) v.handed_over ∙ ap (λ (l : List Frame). l ++ gs) frames;
      sound = (sound_then w.whole v.whole w.sound.0 v.sound.0, v.sound.1);
      framed = subst (λ (l : List ℕ). AreFramed l (messages_of (w.whole ++ v.whole))) (sym texts)
          (subst (AreFramed (text_of w.whole ++ text_of v.whole)) (sym (map-append (λ o. drop 4 (bytes_of o)) w.whole v.whole))
          (AreFramed-append (text_of w.whole) (messages_of w.whole) (text_of v.whole) (messages_of v.whole) w.framed v.framed));
      first = v.first;
      rest = v.rest;
      begun = v.begun;
      written = subst (Appends a c) (sym (ap (λ (l : List ℕ). l ++ v.first) texts ∙ append_assoc (text_of w.whole) (text_of v.whole) v.first))
          (appends_then a b c (text_of w.whole) (text_of v.whole ++ v.first) written v.written);
      stays = v.stays;
    }

-- one is written, or a beginning of it
pub writes_one : (o : Outbound) (a b : Option (List ℕ)) (open' : Bool) → IsSound o → Framed (bytes_of o) (drop 4 (bytes_of o))
    → (open' ≡ true → Appends a b (bytes_of o)) → AppendsBeginning a b (bytes_of o) → WritesFrames (frame_in o) a b open'
writes_one o a b true sound framed all some = record {
  whole = o ∷ [];
  last = None;
  handed_over = append-nil (frame_in o ++ []) ∙ append-nil (frame_in o);
  sound = ((sound, tt), tt);
  framed = (bytes_of o, [], refl, framed, refl);
  first = [];
  rest = [];
  begun = refl;
  written = subst (Appends a b) (sym (append-nil (bytes_of o ++ []) ∙ append-nil (bytes_of o))) (all refl);
  stays = λ _. refl;
}
writes_one o a b false sound framed all (first, rest, is, written) = record {
  whole = [];
  last = Some o;
  handed_over = append-nil (frame_in o);
  sound = (tt, (sound, tt));
  framed = refl;
  first = first;
  rest = rest;
  begun = append-nil (bytes_of o) ∙ is;
  written = written;
  stays = λ e. absurd (cc);
}

-- ---- what a source gave

gives_then : {S : Type 0} (gives : S → ℕ → Option Frame → S → Type 0) (s t u : S) (os ps : List (Option Frame)) → Gives gives s os t → Gives gives t ps u
    → Gives gives s (os ++ ps) u
gives_then gives s t u [] ps h k = subst (λ v. Gives gives v ps u) h k
gives_then gives s t u (o ∷ os) ps (now, v, here, timely, more) k = (now, v, here, timely, gives_then gives v t u os ps more k)

-- no call, and nothing written
pub given_none : {S : Type 0} (gives : S → ℕ → Option Frame → S → Type 0) (s : S) (a : Option (List ℕ)) (open' : Bool) → WritesGiven gives s s a a open'
given_none gives s a open' = record { calls = []; gave = refl; writes = writes_none a open' }

-- one call, and what was written then
pub given_one : {S : Type 0} (gives : S → ℕ → Option Frame → S → Type 0) (s t : S) (now : ℕ) (call : Option Frame) (a b : Option (List ℕ)) (open' : Bool)
    → gives s now call t → IfSome call (λ f. IsTrue (is_timely now f)) → WritesFrames (option_to_list call) a b open' → WritesGiven gives s t a b open'
given_one gives s t now call a b open' gave timely writes = record {
  calls = call ∷ [];
  gave = (now, t, gave, timely, refl);
  writes = subst (λ fs. WritesFrames fs a b open') (sym (append-nil (option_to_list call))) writes;
}

pub given_then : {S : Type 0} (gives : S → ℕ → Option Frame → S → Type 0) (s t u : S) (a b c : Option (List ℕ)) (open' : Bool)
    → WritesGiven gives s t a b true → WritesGiven gives t u b c open' → WritesGiven gives s u a c open'
given_then gives s t u a b c open' w v = record {
  calls = w.calls ++ v.calls;
  gave = gives_then gives s t u w.calls v.calls w.gave v.gave;
  writes = subst (λ fs. WritesFrames fs a c open') (sym (flat_map-append option_to_list w.calls v.calls))
      (writes_then (given w.calls) (given v.calls) a b c open' w.writes v.writes);
}

-- ---- a frame, and an echo test

pub writes_frame : (f : Frame) (a b : Option (List ℕ)) (open' : Bool) → (open' ≡ true → Appends a b f.bytes.items)
    → AppendsBeginning a b f.bytes.items → WritesFrames (f ∷ []) a b open'
writes_frame f a b open' all some = writes_one (handed f) a b open' tt (frame_is_framed f.bytes.items f.framed) all some

pub writes_test : (seconds stan : ℕ) (bytes : List ℕ) (a b : Option (List ℕ)) (open' : Bool) → IsEcho seconds stan bytes
    → (open' ≡ true → Appends a b bytes) → AppendsBeginning a b bytes → WritesFrames [] a b open'
writes_test seconds stan bytes a b open' echo all some =
    writes_one (test bytes) a b open' (seconds, stan, echo) (framed_drop bytes _ echo.4) all some
