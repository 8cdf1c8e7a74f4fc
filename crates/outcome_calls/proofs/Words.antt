-- The order of calls, and their outcome, in plain words.
-- for: laws::clauses
use Rattle.std.proofs.Common.{◌≡◌, ℕ, Bool, true, false, List, [], ◌∷◌, ◌++◌, Option, Some, refl, ap, subst, arith}
use Rattle.std.proofs.lemmas.Bool.Decides.{nat_tests}
use Rattle.tx_machine.specs.Row.{Row}
use Rattle.outcome_calls.specs.Trail.{Deed, Answered, Chose, Told, Recovered, Stopped, has_open_call, may_tell, may_recover, is_unstopped, InOrder, is_committing}
use Rattle.outcome_calls.specs.Trail.{last_row, FollowsRows, IsOutcomeOf}
use Rattle.flow_model.specs.declared.flow.Flow.{Flow}
use Rattle.outcome_calls.specs.Core.{Called, Halted}
use Rattle.outcome_calls.specs.Plant.{AbstractPlant, PlantMove, Take, Call, Record, Acking, Quiet, Put, Note, Stop, Cut, PlantMoves, view}
use Rattle.outcome_calls.specs.Words.{has_untold, has_stop, is_open_call, with_calls, Adds}

pub ordered_after : (a t : List Deed) → InOrder (a ++ t) → InOrder t
ordered_after [] t h = h
ordered_after (Answered p b ∷ a) t h = ordered_after a t h.2
ordered_after (Chose p ∷ a) t h = ordered_after a t h.2
ordered_after (Told c p n x ∷ a) t h = ordered_after a t h.1
ordered_after (Recovered p n ∷ a) t h = ordered_after a t h.1
ordered_after (Stopped r ∷ a) t h = ordered_after a t h

pub may_tell_between : (n p : ℕ) (c : Bool) (x : Option (List ℕ)) (b d : List Deed) → may_tell n (b ++ Told c p n x ∷ d) ≡ true → has_untold n b ≡ true
may_tell_between n p c x [] d h = absurd (grind (arith, nat_tests, h))
may_tell_between n p c x (Answered q y ∷ b) d h = may_tell_between n p c x b d h
may_tell_between n p c x (Chose q ∷ b) d h = may_tell_between n p c x b d h
may_tell_between n p c x (Told e q m y ∷ b) d h = may_tell_between n p c x b d (grind (arith, h))
may_tell_between n p c x (Recovered q m ∷ b) d h = may_tell_between n p c x b d h
may_tell_between n p c x (Stopped r ∷ b) d h = grind (arith, h, may_tell_between n p c x b d)

pub told_again : (n p q : ℕ) (c e : Bool) (x y : Option (List ℕ)) (a b d : List Deed) → InOrder (a ++ (Told c p n x ∷ (b ++ (Told e q n y ∷ d)))) →
    has_untold n b ≡ true
told_again n p q c e x y a b d h = may_tell_between n q e y b d (ordered_after a (Told c p n x ∷ (b ++ (Told e q n y ∷ d))) h).0

pub may_recover_between : (n p : ℕ) (b d : List Deed) → may_recover n (b ++ Recovered p n ∷ d) ≡ true → has_untold n b ≡ true
may_recover_between n p [] d h = absurd (grind (arith, nat_tests, h))
may_recover_between n p (Answered q y ∷ b) d h = may_recover_between n p b d h
may_recover_between n p (Chose q ∷ b) d h = may_recover_between n p b d h
may_recover_between n p (Told e q m y ∷ b) d h = may_recover_between n p b d (grind (arith, h))
may_recover_between n p (Recovered q m ∷ b) d h = may_recover_between n p b d (grind (arith, h))
may_recover_between n p (Stopped r ∷ b) d h = grind (arith, h, may_recover_between n p b d)

pub restored_again : (n p q : ℕ) (a b d : List Deed) → InOrder (a ++ (Recovered p n ∷ (b ++ (Recovered q n ∷ d)))) → has_untold n b ≡ true
restored_again n p q a b d h = may_recover_between n q b d (ordered_after a (Recovered p n ∷ (b ++ (Recovered q n ∷ d))) h).0

pub doing_in : (b d : List Deed) (k : Deed) → is_open_call k ≡ true → has_open_call (b ++ k ∷ d) ≡ true
doing_in [] d (Answered p x) h = refl
doing_in [] d (Chose p) h = refl
doing_in [] d (Told c p n x) h = absurd (grind (arith, h))
doing_in [] d (Recovered p n) h = absurd (grind (arith, h))
doing_in [] d (Stopped r) h = absurd (grind (arith, h))
doing_in (Answered p x ∷ b) d k h = refl
doing_in (Chose p ∷ b) d k h = refl
doing_in (Told c p n x ∷ b) d k h = doing_in b d k h
doing_in (Recovered p n ∷ b) d k h = doing_in b d k h
doing_in (Stopped r ∷ b) d k h = doing_in b d k h

pub unstopped_between : (b d : List Deed) (k : Deed) → is_open_call k ≡ true → is_unstopped (b ++ k ∷ d) ≡ true → has_stop b ≡ false
unstopped_between [] d k is h = refl
unstopped_between (Answered p x ∷ b) d k is h = unstopped_between b d k is h
unstopped_between (Chose p ∷ b) d k is h = unstopped_between b d k is h
unstopped_between (Told c p n x ∷ b) d k is h = unstopped_between b d k is h
unstopped_between (Recovered p n ∷ b) d k is h = unstopped_between b d k is h
unstopped_between (Stopped r ∷ b) d k is h = absurd (grind (arith, h, doing_in b d k is))

pub no_stop_in : (a b d : List Deed) (m k : Deed) → is_open_call m ≡ true → is_open_call k ≡ true → InOrder (a ++ (m ∷ (b ++ (k ∷ d)))) → has_stop b ≡ false
no_stop_in a b d (Answered p x) k h is o = unstopped_between b d k is (ordered_after a (Answered p x ∷ (b ++ (k ∷ d))) o).0
no_stop_in a b d (Chose p) k h is o = unstopped_between b d k is (ordered_after a (Chose p ∷ (b ++ (k ∷ d))) o).0
no_stop_in a b d (Told c p n x) k h is o = absurd (grind (arith, h))
no_stop_in a b d (Recovered p n) k h is o = absurd (grind (arith, h))
no_stop_in a b d (Stopped r) k h is o = absurd (grind (arith, h))

-- calls added to any calls
pub adds : (f : Flow) (t : PlantMove) (p q : AbstractPlant) → PlantMoves f t p q → Adds f t p q
adds f (Take s hd) p q h = ([], ap (λ (z : AbstractPlant). z.calls) h.2, λ ms. (h.0, h.1, ap (λ (z : AbstractPlant). with_calls z ms) h.2))
adds f (Call s x m) p q h = (
  Called h.0 m ∷ [],
  ap (λ (z : AbstractPlant). z.calls) h.7,
  λ ms. (h.0, h.1, h.2, h.3, h.4, h.5, h.6, ap (λ (z : AbstractPlant). with_calls z (Called h.0 m ∷ ms)) h.7),
)
adds f (Record s) p q h = ([], ap (λ (z : AbstractPlant). z.calls) h.2, λ ms. (h.0, h.1, ap (λ (z : AbstractPlant). with_calls z ms) h.2))
adds f (Acking i n) p q h = ([], ap (λ (z : AbstractPlant). z.calls) h, λ ms. ap (λ (z : AbstractPlant). with_calls z ms) h)
adds f Quiet p q h = ([], ap (λ (z : AbstractPlant). z.calls) h, λ ms. ap (λ (z : AbstractPlant). with_calls z ms) h)
adds f Put p q h = ([], ap (λ (z : AbstractPlant). z.calls) h.3, λ ms. (h.0, h.1, h.2, ap (λ (z : AbstractPlant). with_calls z ms) h.3))
adds f (Note n) p q h = ([], ap (λ (z : AbstractPlant). z.calls) h.2, λ ms. (h.0, h.1, ap (λ (z : AbstractPlant). with_calls z ms) h.2))
adds f Cut p q h = ([], ap (λ (z : AbstractPlant). z.calls) h.3, λ ms. (h.0, h.1, h.2, ap (λ (z : AbstractPlant). with_calls z ms) h.3))
adds f (Stop cs) p q h = (
  Halted (view f p) ∷ [],
  ap (λ (z : AbstractPlant). z.calls) h.1,
  λ ms. (h.0, ap (λ (z : AbstractPlant). with_calls z (Halted (view f p) ∷ ms)) h.1),
)

-- whoever is notified after a stop is notified of the outcome that the row had

follows_later : (a t : List Deed) → FollowsRows (a ++ t) → FollowsRows t
follows_later [] t h = h
follows_later (Told c p n x ∷ a) t h = follows_later a t h.1
follows_later (Answered p b ∷ a) t h = follows_later a t h
follows_later (Chose p ∷ a) t h = follows_later a t h
follows_later (Recovered p n ∷ a) t h = follows_later a t h
follows_later (Stopped row ∷ a) t h = follows_later a t h

last_since : (b d : List Deed) (row : Option Row) → has_stop b ≡ false → last_row (b ++ (Stopped row ∷ d)) ≡ row
last_since [] d row h = refl
last_since (Told c p n x ∷ b) d row h = last_since b d row h
last_since (Answered p x ∷ b) d row h = last_since b d row h
last_since (Chose p ∷ b) d row h = last_since b d row h
last_since (Recovered p n ∷ b) d row h = last_since b d row h
last_since (Stopped r ∷ b) d row h = absurd (cc)

pub told_way : (r : Row) (c : Bool) (p n : ℕ) (x : Option (List ℕ)) (a b d : List Deed) → FollowsRows (a ++ (Told c p n x ∷ (b ++ (Stopped (Some r) ∷ d))))
    → has_stop b ≡ false → c ≡ is_committing r.phase
told_way r c p n x a b d h none = subst (λ (o : Option Row). IsOutcomeOf o c) (last_since b d (Some r) none)
    (follows_later a (Told c p n x ∷ (b ++ (Stopped (Some r) ∷ d))) h).0
