use Rattle.std.proofs.Common.{◌≡◌, ◌∙◌, sym, ap, subst, List, ℕ, length, take, drop, ◌+◌, ◌-◌, ◌≤◌, ◌++◌, ◌∷◌, [], arith}
use Rattle.std.specs.Global.{Vec}
use Rattle.std.proofs.lemmas.List.{length-drop, drop-drop, map_push}
use Rattle.sw_frame.specs.Feeds.{messages}
use Rattle.dialect_frame.specs.Forms.{start}
use Rattle.dialect_frame.specs.Stream.{AreFramed}
use Rattle.dialect_frame.proofs.Frames.{AreFramed-next}
use Rattle.dialect_frame.proofs.walk.take_frames.Goals as goal

pub loop-rest-preserved : goal.loop-rest-preserved
loop-rest-preserved c =
    let f = c.args.form.now in
    let rest = c.loop-rest.rest.now in
    let bytes = c.args.bytes.now in
    let t = c.loop-rest.walk.taken in
    let len = c.in-Message.length in
    let inv = c.loop-rest.invariant in
    let old = c.loop-rest.walk.messages.items in
    let k = c.start-start.result + c.from.result in
    let is : k ≡ start f + len = ap (λ (n : ℕ). n + c.from.result) inv.before ∙ ap (λ (n : ℕ). start f + n) c.from.ensures in
    let long : length rest ≡ length bytes - t = ap length inv.rest ∙ length-drop t bytes in
    let fits : k ≤ length rest = c.if-rest-whole.false in
    let message = c.in_ok-from_slice-in-Message.ensures.items ∙ c.split_at-in-Message.ensures.back ∙ ap (λ (n : ℕ). drop n c.split_at.result.0.now) inv.before
    ∙ ap (drop (start f)) (c.split_at.ensures.front ∙ ap (λ (n : ℕ). take n rest) is) in
    let pushed = ap (λ (x : List (Vec ℕ)). messages x) c.in_ok-push-in-Message.ensures.items
    ∙ map_push (λ (v : Vec ℕ). v.items) old c.in_ok-from_slice-in-Message.field-0
    ∙ ap (λ (x : List ℕ). messages old ++ x ∷ []) message in
    let fits2 : start f + len ≤ length rest = subst (λ (n : ℕ). n ≤ length rest) is fits in
    record {
      within = omega (arith, long, fits, inv.within);
      rest = c.split_at.ensures.back ∙ ap (drop k) inv.rest ∙ drop-drop k t bytes;
      good = inv.good;
      before = inv.before;
      framed = λ text a.
          subst (λ (x : List (List ℕ)). AreFramed f (text ++ take (t + k) bytes) x) (sym pushed)
          (subst (λ (n : ℕ). AreFramed f (text ++ take (t + n) bytes) (messages old ++ drop (start f) (take (start f + len) rest) ∷ [])) (sym is)
          (AreFramed-next f text bytes t len (messages old) rest inv.rest c.in-Message.ensures.1 fits2 (inv.framed text a)));
    }
