use Rattle.std.proofs.Common.{◌≡◌, ◌∙◌, sym, ap, subst, List, ℕ, cond, [], ◌∷◌, ◌++◌, take, drop, refl}
use Rattle.std.specs.Global.{Vec}
use Rattle.std.proofs.lemmas.List.{append-nil}
use Rattle.sw_frame.specs.Stream.{AreFramed}
use Rattle.sw_frame.specs.Feeds.{messages, IsRest}
use Rattle.sw_frame.proofs.Frames.{finished}
use Rattle.sw_frame.proofs.framer.finish.Goals.{then-walk, else-walk+in_ok-held}
use Rattle.sw_frame.proofs.framer.finish.Goals as goal

pub returns : goal.returns
returns c =
    let held = c.args.held.now in
    let piece = c.args.piece.now in
    let k = c.args.missing in
    let walk = c.in_ok-walk.walk in
    let text = held ++ take k piece in
    let rest : c.split_at.result.1.now ≡ drop k piece = c.split_at.ensures.back in
    let first : messages c.push.new.self.items ≡ drop 4 text ∷ [] =
    ap messages (c.in_ok-push.ensures.items ∙ ap (λ (z : List (Vec ℕ)). z ++ c.in_ok-first_message.field-0 ∷ []) c.new-messages.ensures.items)
    ∙ ap (λ (z : List ℕ). z ∷ []) (c.in_ok-first_message.ensures ∙ ap (λ (z : List ℕ). drop 4 (held ++ z)) c.split_at.ensures.front) in
    let one : AreFramed text (drop 4 text ∷ []) = (text, [], sym (append-nil text), c.requires.whole, refl) in
    let framed : AreFramed (text ++ take walk.taken (drop k piece)) (messages walk.messages.items) =
    subst (λ (z : List ℕ). AreFramed (text ++ take walk.taken z) (messages walk.messages.items)) rest
    (c.in_ok-walk.ensures.framed text (subst (λ (z : List (List ℕ)). AreFramed text z) (sym first) one)) in
    let follows : IsRest walk.bad (drop walk.taken (drop k piece)) =
    subst (λ (z : List ℕ). IsRest walk.bad (drop walk.taken z)) rest c.in_ok-walk.ensures.rest in
    let kept : c.if-walk.held.items ≡ cond walk.bad [] (drop walk.taken (drop k piece)) =
    elim c.if-walk.branch [
      | then-walk w ↦ ap (λ (v : Vec ℕ). v.items) w.held-is ∙ w.new-held.ensures.items
          ∙ sym (ap (λ b. cond b [] (drop walk.taken (drop k piece))) w.if-walk.true)
      | else-walk+in_ok-held w ↦
          ap (λ (v : Vec ℕ). v.items) w.held-is ∙ w.in_ok-held.ensures.items ∙ c.split_at-2.ensures.back ∙ ap (drop walk.taken) rest
          ∙ sym (ap (λ b. cond b [] (drop walk.taken (drop k piece))) w.if-walk.false)
    ] in
    finished held piece k walk.taken walk.bad (messages walk.messages.items) c.if-walk.held.items framed follows kept
