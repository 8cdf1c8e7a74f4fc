-- The first link of a group, by its index.
-- for: sender::deliver_to, sender::Sender::send
use Rattle.std.proofs.Common.{◌≡◌, ℕ, zero, suc, ◌+◌, ◌<◌, ◌≤◌, Bool, true, false, List, [], ◌∷◌, length, get_or, set, Some, Result, Ok}
use Rattle.std.proofs.Common.{Err, IfOk, OnErr, refl}
use Rattle.std.proofs.Common.{sym, ap, subst, ◌∙◌, arith}
use Rattle.std.specs.Str.{bytes_eq}
use Rattle.iso_msg.specs.Messages.{PlainMessage}
use Rattle.iso_codec.specs.Reads.{read}
use Rattle.sw_mux.specs.Keys.{key}
use Rattle.sw_parts.specs.declared.route.Routing.{Routing}
use Rattle.sw_parts.specs.Queries.{Sending, Receiving, Starving}
use Rattle.sw_messages.specs.Requests.{ok_of}
use Rattle.sw_parts.specs.Routes.{route_of}
use Rattle.sw_issuers.specs.Delivery.{Delivers}
use Rattle.sw_issuers.specs.declared.sender.GroupLink.{GroupLink}
use Rattle.sw_issuers.specs.Sending.{LinkStates, link_state, link_states, Delivering, DeliversAt, DeliversTo, PlainSender, repeated, SendsBy, SendsMessage}
use Rattle.sw_issuers.specs.Sending.{SendsAdvice}

pub if_ok : {X E : Type 0} (r : Result X E) (P Q : X → Type 0) → ((x : X) → P x → Q x) → IfOk r P → IfOk r Q
if_ok (Ok x) P Q f h = f x h
if_ok (Err e) P Q f h = h

pub on_err : {X E : Type 0} (r : Result X E) (P Q : Type 0) → (P → Q) → OnErr r P → OnErr r Q
on_err (Ok x) P Q f h = h
on_err (Err e) P Q f h = f h

module _ {X : Type 0} where
  -- no link before the index is of the group
  abbrev pub NoneBefore : List ℕ → ℕ → List (GroupLink X) → Type 0
  NoneBefore group zero gs = Unit {0}
  NoneBefore group (suc i) [] = Unit {0}
  NoneBefore group (suc i) (g ∷ gs) = (bytes_eq g.group group ≡ false) × NoneBefore group i gs

  one_more : (group : List ℕ) (i : ℕ) (gs : List (GroupLink X)) (x : GroupLink X) → x ≡ get_or gs i x → NoneBefore group i gs →
      bytes_eq x.group group ≡ false → NoneBefore group (suc i) gs
  one_more group zero [] x is n e = tt
  one_more group zero (g ∷ gs) x is n e = (ap (λ (z : GroupLink X). bytes_eq z.group group) (sym is) ∙ e, tt)
  one_more group (suc i) [] x is n e = tt
  one_more group (suc i) (g ∷ gs) x is n e = (n.0, one_more group i gs x is n.1 e)

  pub next_one : (group : List ℕ) (i : ℕ) (gs : List (GroupLink X)) (x : GroupLink X) → x ≡ get_or gs i x → NoneBefore group i gs →
      bytes_eq x.group group ≡ false → NoneBefore group (i + 1) gs
  next_one group i gs x is n e = let next : suc i ≡ i + 1 = omega arith in subst (λ k. NoneBefore group k gs) next (one_more group i gs x is n e)

  pub same_at : (i : ℕ) (gs : List (GroupLink X)) (x w : GroupLink X) → i < length gs → x ≡ get_or gs i x → w ≡ get_or gs i w → x ≡ w
  same_at i [] x w h is it = absurd (omega (arith, h))
  same_at zero (g ∷ gs) x w h is it = is ∙ sym it
  same_at (suc i) (g ∷ gs) x w h is it = same_at i gs x w (omega (arith, h)) is it

  module _ (state : X → List ℕ) where
    pub none_sent : (D : Delivering) (group : List ℕ) (i : ℕ) (gs : List (GroupLink X)) → length gs ≤ i → NoneBefore group i gs →
        DeliversTo D group (link_states state gs) false (link_states state gs)
    none_sent D group i [] h n = (refl, refl)
    none_sent D group zero (g ∷ gs) h n = absurd (omega (arith, h))
    none_sent D group (suc i) (g ∷ gs) h n =
        let ls : LinkStates = link_states state gs in
        subst (λ b. DeliversAt D b (link_state state g) ls false (link_state state g ∷ ls) (λ us. DeliversTo D group ls false us)) (sym n.0)
        (ls, none_sent D group i gs (omega (arith, h)) n.1, refl)

    pub sent_at : (D : Delivering) (group : List ℕ) (i : ℕ) (gs : List (GroupLink X)) (x y : GroupLink X) (accepted : Bool) → i < length gs →
        x ≡ get_or gs i x → y.group ≡ x.group
        → NoneBefore group i gs → bytes_eq x.group group ≡ true → D (state x.link) accepted (state y.link)
        → DeliversTo D group (link_states state gs) accepted (link_states state (set gs i y))
    sent_at D group i [] x y accepted h is own n e m = absurd (omega (arith, h))
    sent_at D group zero (g ∷ gs) x y accepted h is own n e m =
        let ls : LinkStates = link_states state gs in
        subst (λ b. DeliversAt D b (link_state state g) ls accepted (link_state state y ∷ ls) (λ us. DeliversTo D group ls accepted us))
        (sym (ap (λ (z : GroupLink X). bytes_eq z.group group) (sym is) ∙ e)) (
          state y.link,
          subst (λ (z : GroupLink X). D (state z.link) accepted (state y.link)) is m,
          ap (λ (z : List ℕ). (z, state y.link) ∷ ls) (own ∙ ap (λ (z : GroupLink X). z.group) is),
        )
    sent_at D group (suc i) (g ∷ gs) x y accepted h is own n e m =
        let ls : LinkStates = link_states state gs in
        subst (λ b. DeliversAt D b (link_state state g) ls accepted (link_state state g ∷ link_states state (set gs i y))
        (λ us. DeliversTo D group ls accepted us)) (sym n.0)
        (link_states state (set gs i y), sent_at D group i gs x y accepted (omega (arith, h)) is own n.1 e m, refl)

    pub kept_at : (i : ℕ) (gs : List (GroupLink X)) (x y : GroupLink X) → x ≡ get_or gs i x → y.group ≡ x.group → state y.link ≡ state x.link →
        link_states state (set gs i y) ≡ link_states state gs
    kept_at i [] x y is own e = refl
    kept_at zero (g ∷ gs) x y is own e =
        let ls : LinkStates = link_states state gs in
        let made : link_state state y ≡ link_state state g =
        (λ j. ((own ∙ ap (λ (z : GroupLink X). z.group) is) j, (e ∙ ap (λ (z : GroupLink X). state z.link) is) j)) in
        ap (λ (z : List ℕ × List ℕ). z ∷ ls) made
    kept_at (suc i) (g ∷ gs) x y is own e = ap (λ (z : LinkStates). link_state state g ∷ z) (kept_at i gs x y is own e)

module _ (S : Sending) (R : Receiving) (V : Starving) (F : Type 0) where
  pub sends_ok : (advice : List ℕ) (repeat : Bool) (s : PlainSender) (accepted : Bool) (t : PlainSender) (m : PlainMessage) (r : Routing) →
      read advice ≡ Ok m → route_of m s.routes ≡ Some r
      → DeliversTo (Delivers S R V F (repeated repeat advice) (key m)) r.group s.links accepted t.links → t.routes ≡ s.routes →
      SendsAdvice S R V F advice repeat s accepted t
  sends_ok advice repeat s accepted t m r is route d same =
      subst (λ z. SendsMessage S R V F (ok_of z) (repeated repeat advice) s accepted t) (sym is)
      (subst (λ z. SendsBy S R V F z (repeated repeat advice) m s accepted t) (sym route) (d, same))
