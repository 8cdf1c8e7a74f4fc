-- What is written for messages, one after the other.
-- for: recoder::recode_messages, recoder::Recoder::piece
use Rattle.std.proofs.Common.{◌≡◌, ◌∙◌, sym, ap, subst, refl, ℕ, ◌+◌, ◌<◌, Bool, true, false, List, [], ◌∷◌, ◌++◌, length, get_or, take, append_assoc}
use Rattle.std.specs.Prelude.{◌||◌}
use Rattle.std.specs.Global.{Vec}
use Rattle.std.proofs.lemmas.List.{append-nil, map_push, take_more}
use Rattle.sw_frame.specs.Feeds.{messages}
use Rattle.cli_recode.specs.declared.message.Recoding.{Recoding}
use Rattle.cli_recode.specs.Recodings.{AreWritten, IsWritten}

pub or-false : (b : Bool) → b ≡ (b || false)
or-false true = refl
or-false false = refl

or-assoc : (a b c : Bool) → ((a || b) || c) ≡ (a || (b || c))
or-assoc true b c = refl
or-assoc false b c = refl

pub or-left : (a b : Bool) → (a || b) ≡ false → a ≡ false
or-left true b e = e
or-left false b e = refl

pub or-right : (a b : Bool) → (a || b) ≡ false → b ≡ false
or-right true b e = absurd (cc)
or-right false b e = e

-- the messages before one and it
pub messages-more : (vs : List (Vec ℕ)) (i : ℕ) (v : Vec ℕ) → i < length vs → v ≡ get_or vs i v
    → messages (take (i + 1) vs) ≡ messages (take i vs) ++ v.items ∷ []
messages-more vs i v low is =
    ap messages (take_more vs i v low) ∙ map_push (λ (w : Vec ℕ). w.items) (take i vs) (get_or vs i v)
    ∙ ap (λ (w : Vec ℕ). messages (take i vs) ++ w.items ∷ []) (sym is)

AreWritten-push : (job : Recoding) (ms : List (List ℕ)) (m out one : List ℕ) (r left : Bool) → AreWritten job ms out r → IsWritten job m one left
    → AreWritten job (ms ++ m ∷ []) (out ++ one) (r || left)
AreWritten-push job [] m out one r left a w =
    (one, [], left, false, ap (λ (z : List ℕ). z ++ one) a.0 ∙ sym (append-nil one), ap (λ b. b || left) a.1 ∙ or-false left, w, (refl, refl))
AreWritten-push job (k ∷ ms) m out one r left a w = (
  a.0,
  a.1 ++ one,
  a.2,
  a.3 || left,
  ap (λ (z : List ℕ). z ++ one) a.4 ∙ append_assoc a.0 a.1 one,
  ap (λ b. b || left) a.5 ∙ or-assoc a.2 a.3 left,
  a.6,
  AreWritten-push job ms m a.1 one a.3 left a.7 w,
)

pub AreWritten-append : (job : Recoding) (ms ns : List (List ℕ)) (out more : List ℕ) (r s : Bool) → AreWritten job ms out r → AreWritten job ns more s
    → AreWritten job (ms ++ ns) (out ++ more) (r || s)
AreWritten-append job [] ns out more r s a b =
    subst (λ (z : List ℕ). AreWritten job ns (z ++ more) (r || s)) (sym a.0) (subst (λ c. AreWritten job ns more (c || s)) (sym a.1) b)
AreWritten-append job (k ∷ ms) ns out more r s a b = (
  a.0,
  a.1 ++ more,
  a.2,
  a.3 || s,
  ap (λ (z : List ℕ). z ++ more) a.4 ∙ append_assoc a.0 a.1 more,
  ap (λ b. b || s) a.5 ∙ or-assoc a.2 a.3 s,
  a.6,
  AreWritten-append job ms ns a.1 more a.3 s a.7 b,
)

-- the next message of a list
pub added : (job : Recoding) (vs : List (Vec ℕ)) (i : ℕ) (v : Vec ℕ) (out one new : List ℕ) (r left : Bool) → i < length vs → v ≡ get_or vs i v
    → AreWritten job (messages (take i vs)) out r → IsWritten job v.items one left → new ≡ out ++ one
    → AreWritten job (messages (take (i + 1) vs)) new (r || left)
added job vs i v out one new r left low is a w e =
    subst (λ (ms : List (List ℕ)). AreWritten job ms new (r || left)) (sym (messages-more vs i v low is))
    (subst (λ (z : List ℕ). AreWritten job (messages (take i vs) ++ v.items ∷ []) z (r || left)) (sym e)
    (AreWritten-push job (messages (take i vs)) v.items out one r left a w))
