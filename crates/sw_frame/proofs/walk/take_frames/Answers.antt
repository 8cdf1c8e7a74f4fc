use Rattle.std.proofs.Common.{◌≡◌, ◌∙◌, sym, ap, subst, List, ℕ, length, take, drop, ◌+◌, ◌-◌, ◌≤◌, Some, ◌++◌, ◌∷◌, [], arith}
use Rattle.std.specs.Global.{Vec}
use Rattle.std.proofs.lemmas.List.{length-drop, drop-drop, map_push}
use Rattle.sw_frame.specs.Stream.{AreFramed}
use Rattle.sw_base.specs.Digits.{number_of}
use Rattle.sw_frame.specs.Feeds.{messages}
use Rattle.sw_frame.proofs.Frames.{AreFramed-next}
use Rattle.sw_frame.proofs.walk.take_frames.Goals as goal

pub loop-rest-preserved : goal.loop-rest-preserved
loop-rest-preserved c =
    let rest = c.loop-rest.rest.now in
    let bytes = c.args.bytes.now in
    let t = c.loop-rest.walk.taken in
    let len = c.in-Length.length in
    let inv = c.loop-rest.invariant in
    let old = c.loop-rest.walk.messages.items in
    let long : length rest ≡ length bytes - t = ap length inv.rest ∙ length-drop t bytes in
    let fits : len ≤ length (drop 4 rest) = subst (λ (x : List ℕ). len ≤ length x) c.split_at.ensures.back c.if-after-length.false in
    let number : number_of (take 4 rest) ≡ Some len = c.in-Length.ensures.1 in
    let message = c.in_ok-from_slice.ensures.items ∙ c.split_at-in-loop-rest.ensures.front ∙ ap (take len) c.split_at.ensures.back in
    let pushed = ap (λ (x : List (Vec ℕ)). messages x) c.in_ok-push.ensures.items ∙ map_push (λ (v : Vec ℕ). v.items) old c.in_ok-from_slice.field-0
    ∙ ap (λ (x : List ℕ). messages old ++ x ∷ []) message in
    record {
      within = omega (arith, long, fits, inv.within, c.loop-rest-test.true, length-drop 4 rest);
      rest = c.split_at-in-loop-rest.ensures.back ∙ ap (drop len) (c.split_at.ensures.back ∙ ap (drop 4) inv.rest) ∙ ap (drop len) (drop-drop 4 t bytes)
          ∙ drop-drop len (t + 4) bytes ∙ ap (λ k. drop k bytes) (omega arith);
      good = inv.good;
      framed = λ text a.
          subst (λ (x : List (List ℕ)). AreFramed (text ++ take (t + (4 + len)) bytes) x) (sym pushed)
          (AreFramed-next text bytes t len (messages old) rest inv.rest c.loop-rest-test.true number fits (inv.framed text a));
    }
