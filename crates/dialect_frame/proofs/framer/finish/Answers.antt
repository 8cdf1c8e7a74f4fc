use Rattle.std.proofs.Common.{◌≡◌, ◌∙◌, sym, ap, subst, List, ℕ, cond, [], ◌∷◌, ◌++◌, take, drop, refl}
use Rattle.std.specs.Global.{Vec}
use Rattle.std.proofs.lemmas.List.{append-nil}
use Rattle.sw_frame.specs.Feeds.{messages}
use Rattle.dialect_frame.specs.Forms.{start}
use Rattle.dialect_frame.specs.Stream.{AreFramed}
use Rattle.dialect_frame.specs.Feeds.{IsRest}
use Rattle.dialect_frame.proofs.Frames.{finished}
use Rattle.dialect_frame.proofs.framer.finish.Goals.{then-walk, else-walk+in_ok-held}
use Rattle.dialect_frame.proofs.framer.finish.Goals as goal

pub returns : goal.returns
returns c =
    let f = c.args.form.now in
    let held = c.args.held.now in
    let piece = c.args.piece.now in
    let k = c.args.missing in
    let walk = c.in_ok-walk.walk in
    let text = held ++ take k piece in
    let m = drop (start f) text in
    let rest : c.split_at.result.1.now ≡ drop k piece = c.split_at.ensures.back in
    let first : messages c.push.new.self.items ≡ m ∷ [] =
    ap messages (c.in_ok-push.ensures.items ∙ ap (λ (z : List (Vec ℕ)). z ++ c.in_ok-first_message.field-0 ∷ []) c.new-messages.ensures.items)
    ∙ ap (λ (z : List ℕ). z ∷ [])
    (c.in_ok-first_message.ensures ∙ ap (λ (n : ℕ). drop n (held ++ c.split_at.result.0.now)) c.start.ensures.result
    ∙ ap (λ (z : List ℕ). drop (start f) (held ++ z)) c.split_at.ensures.front) in
    let one : AreFramed f text (m ∷ []) = (text, [], sym (append-nil text), c.requires.whole, refl) in
    let framed : AreFramed f (text ++ take walk.taken (drop k piece)) (messages walk.messages.items) =
    subst (λ (z : List ℕ). AreFramed f (text ++ take walk.taken z) (messages walk.messages.items)) rest
    (c.in_ok-walk.ensures.framed text (subst (λ (z : List (List ℕ)). AreFramed f text z) (sym first) one)) in
    let follows : IsRest f walk.bad (drop walk.taken (drop k piece)) =
    subst (λ (z : List ℕ). IsRest f walk.bad (drop walk.taken z)) rest c.in_ok-walk.ensures.rest in
    let kept : c.if-walk.held.items ≡ cond walk.bad [] (drop walk.taken (drop k piece)) =
    elim c.if-walk.branch [
      | then-walk w ↦ ap (λ (v : Vec ℕ). v.items) w.held-is ∙ w.new-held.ensures.items
          ∙ sym (ap (λ b. cond b [] (drop walk.taken (drop k piece))) w.if-walk.true)
      | else-walk+in_ok-held w ↦
          ap (λ (v : Vec ℕ). v.items) w.held-is ∙ w.in_ok-held.ensures.items ∙ c.split_at-2.ensures.back ∙ ap (drop walk.taken) rest
          ∙ sym (ap (λ b. cond b [] (drop walk.taken (drop k piece))) w.if-walk.false)
    ] in
    finished f held piece k walk.taken walk.bad (messages walk.messages.items) c.if-walk.held.items framed follows kept
