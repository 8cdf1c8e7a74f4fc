-- Texts that are added one after the other.
-- for: auto::auto, auto::auto_step, actions::run_action, script::run_actions
use Rattle.std.proofs.Common.{◌≡◌, ◌∷◌, ◌++◌, ◌∙◌, [], ℕ, Result, Ok, Err, OnErr, OnOk, ◌+◌, List, length, inl, inr, true, false, refl, ap, append-nil}
use Rattle.std.proofs.Common.{append_assoc, length-append, sym}
use Rattle.std.specs.Bool.{⊤}
use Rattle.tx_plant.specs.declared.turn.Outcome.{Outcome}
use Rattle.tx_plant.specs.declared.turn.Outcome.TheVariants as outcome
use Rattle.tx_engine.specs.World.{World}
use Rattle.tx_trace.specs.Trace.{Text}
use Rattle.cli_step.specs.TurnLines.{turn_line, whole_line}
use Rattle.cli_step.specs.Auto.{AreAccepted, Round, Rounds, Then, ToEnd, is_accepted, is_idle, is_refused, quiet_text, step_text}
use Rattle.cli_step.specs.Doing.{Adds, Point}

pub adds_then : (First Second : Point → Text → Point → Type 0) (p w q : Point) (x y z : Text)
    → Adds (λ t. First p t w) x y → Adds (λ t. Second w t q) y z → Adds (λ t. Then First Second p t q) x z
adds_then First Second p w q x y z a b =
    (a.0 ++ b.0, (w, a.0, b.0, a.1, b.1, refl), b.2 ∙ ap (λ l. l ++ b.0) a.2 ∙ append_assoc x a.0 b.0)

pub any_same : (x y : Text) → y ≡ x → Adds (λ t. ⊤) x y
any_same x y same = ([], tt, same ∙ sym (append-nil x))

pub any_then : {First Second : Text → Type 0} (x y z : Text) → Adds First x y → Adds Second y z → Adds (λ t. ⊤) x z
any_then x y z a b = (a.0 ++ b.0, tt, b.2 ∙ ap (λ l. l ++ b.0) a.2 ∙ append_assoc x a.0 b.0)

pub any_still : {First : Text → Type 0} (x y z : Text) → Adds First x y → z ≡ y → Adds (λ t. ⊤) x z
any_still x y z a same = (a.0, tt, same ∙ a.2)

round_more : (os : List Outcome) (o : Outcome) (p w q : Point) (text more : Text) → Rounds os p text w → Round o w more q
    → Rounds (os ++ o ∷ []) p (text ++ more) q
round_more [] o p w q text more done round =
    (q, more, [], rw done.1 at round, (refl, refl), rw done.0 (sym (append-nil more)))
round_more (x ∷ os) o p w q text more done round =
    (done.0, done.1, done.2 ++ more, done.3, round_more os o done.0 w q done.2 more done.4 round, ap (λ t. t ++ more) done.5 ∙ append_assoc done.1 done.2 more)

accepted_more : (os : List Outcome) (o : Outcome) → AreAccepted os → is_accepted o ≡ true → AreAccepted (os ++ o ∷ [])
accepted_more [] o all one = (one, tt)
accepted_more (x ∷ os) o all one = (all.0, accepted_more os o all.1 one)

-- this many steps were accepted
abbrev pub Going : ℕ → Point → Text → Point → Type 0
Going n p text q = (os : List Outcome) × AreAccepted os × (length os ≡ n) × Rounds os p text q

pub none_gone : (p : Point) (x : Text) → Adds (λ t. Going 0 p t p) x x
none_gone p x = ([], ([], tt, refl, (refl, refl)), sym (append-nil x))

pub goes_on : (n : ℕ) (o : Outcome) (p w q : Point) (x y z : Text) → Adds (λ t. Going n p t w) x y → is_accepted o ≡ true
    → Adds (λ t. Round o w t q) y z → Adds (λ t. Going (n + 1) p t q) x z
goes_on n o p w q x y z (text, (os, all, count, rounds), grown) one (more, round, more_grown) = (
  text ++ more,
  (
    os ++ o ∷ [],
    accepted_more os o all one,
    length-append os (o ∷ []) ∙ ap (λ k. k + 1) count,
    round_more os o p w q text more rounds round,
  ),
  more_grown ∙ ap (λ l. l ++ more) grown ∙ append_assoc x text more,
)

pub ends : (n : ℕ) (o : Outcome) (p w q : Point) (x y z : Text) → Adds (λ t. Going n p t w) x y → is_accepted o ≡ false
    → Adds (λ t. Round o w t q) y z → Adds (λ t. ToEnd p t q) x z
ends n o p w q x y z (text, (os, all, count, rounds), grown) last (more, round, more_grown) = (
  text ++ more,
  (os ++ o ∷ [], inl (os, o, all, last, refl), round_more os o p w q text more rounds round),
  more_grown ∙ ap (λ l. l ++ more) grown
      ∙ append_assoc x text more,
)

pub gives_up : (p q : Point) (x y : Text) → Adds (λ t. Going 1048577 p t q) x y → Adds (λ t. ToEnd p t q) x y
gives_up p q x y (text, (os, all, count, rounds), grown) = (text, (os, inr (all, count), rounds), grown)

pub on_ok : {E : Type 0} {First Second : Type 0} (r : Result Unit E) → (First → Second) → OnOk r First → OnOk r Second
on_ok (Ok u) f holds = f holds
on_ok (Err e) f holds = tt

pub idle_ends : (o : Outcome) → is_idle o ≡ true → is_accepted o ≡ false
idle_ends (outcome.Accepted n) idle = cc
idle_ends outcome.Idle idle = refl
idle_ends (outcome.Refused e) idle = refl
idle_ends outcome.Unwritten idle = refl
idle_ends (outcome.Held call) idle = refl
idle_ends (outcome.Written n) idle = refl
idle_ends (outcome.Restarted n) idle = refl
idle_ends (outcome.Cut n) idle = refl

pub on_err : {E : Type 0} {First Second : Type 0} (r : Result Unit E) → (First → Second) → OnErr r First → OnErr r Second
on_err (Ok u) f holds = tt
on_err (Err e) f holds = f holds

pub idle_text : (w : World) (o : Outcome) → is_idle o ≡ true → [] ≡ step_text w o
idle_text w o idle = rw idle refl

pub told_text : (w : World) (o : Outcome) → is_idle o ≡ false → whole_line (turn_line w 0 o) ≡ step_text w o
told_text w o idle = rw idle refl

pub still_text : (w : World) (o : Outcome) → is_refused o ≡ false → [] ≡ quiet_text w o
still_text w o refused = rw refused refl

pub both_ok : {E : Type 0} {First Second Third : Type 0} (r : Result Unit E) → (First → Second → Third) → OnOk r First → OnOk r Second → OnOk r Third
both_ok (Ok u) f one other = f one other
both_ok (Err e) f one other = tt
