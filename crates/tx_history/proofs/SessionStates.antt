-- What one event changes of what the sessions serve, and of where that stands.
-- for: whoever keeps of each session whom it serves and where that stands
use Rattle.std.proofs.Common.{◌≡◌, ◌≢◌, ℕ, Bool, true, false, List, ◌∷◌, Option, Some, None, refl, ◌∙◌, ap, arith}
use Rattle.std.specs.Prelude.{if◌then◌else◌, ◌==◌}
use Rattle.std.proofs.lemmas.Bool.Decides.{nat_tests}
use Rattle.flow_model.specs.declared.flow.Flow.{Flow}
use Rattle.tx_machine.specs.declared.values.Item.{Item}
use Rattle.tx_machine.specs.Table.{next}
use Rattle.tx_history.specs.declared.event.Event.{Event}
use Rattle.tx_history.specs.declared.event.Event.TheVariants.{Offered, Taken, Released}
use Rattle.tx_history.specs.History.{Start, taken, or_taken, serves, recovering, state_of}
use Rattle.tx_history.specs.Journal.{IsLawful}
use Rattle.tx_history.specs.Views.{IsOrdered}
use Rattle.tx_history.proofs.OwnItems.{taken_from, serves_below}
use Rattle.tx_history.proofs.GivenItems.{Gave, state_other}
use Rattle.tx_history.specs.Held.{session_state, state_of_served}
use Rattle.tx_history.proofs.Sessions.{served_once, serves_other, state_given, state_more, state_released, recovering_other}

placed_same : (f : Flow) (v : Start) (past : List Event) (e : Event) (o : Option ℕ) →
    ((j : ℕ) → o ≡ Some j → state_of f v (e ∷ past) j ≡ state_of f v past j) → state_of_served f v (e ∷ past) o ≡ state_of_served f v past o
placed_same f v past e None h = refl
placed_same f v past e (Some j) h = rw (h j refl) refl

-- an item of one session leaves the others
pub held_other : (f : Flow) (v : Start) (past : List Event) (e : Event) (id s t : ℕ) (x : Item) → IsOrdered v.view → Gave f v past e id x →
    serves f v past s ≡ Some id → s ≢ t → taken v (e ∷ past) t ≡ taken v past t
    → session_state f v (e ∷ past) t ≡ session_state f v past t
held_other f v past e id s t x o g h d same =
    ap (state_of_served f v (e ∷ past)) (serves_other f v past e id s t x o g h d same)
    ∙ placed_same f v past e (serves f v past t) (λ j k. state_other f v past e id x j g (λ z. d (served_once f v past s t id o h (k ∙ ap Some z))))

-- and its own transaction goes on, while no journalled one is recovered
pub held_given : (f : Flow) (v : Start) (past : List Event) (e : Event) (id s : ℕ) (x : Item) → IsOrdered v.view → Gave f v past e id x →
    recovering f v past ≡ None → taken v past s ≡ Some id → taken v (e ∷ past) s ≡ taken v past s
    → session_state f v (e ∷ past) s ≡ Some (id, next f (state_of f v past id) x)
held_given f v past e id s x o g none h same =
    let who : serves f v (e ∷ past) s ≡ Some id = by (s == 0) (recovering f v (e ∷ past)) (recovering_other f v past e id x o g (taken_from v past s id h)
    ∙ none) in
    ap (state_of_served f v (e ∷ past)) who ∙ (rw (state_given f v past e id x g) refl)
  where
    by : (b : Bool) (r : Option ℕ) → r ≡ None → (if b then or_taken r (taken v (e ∷ past) s) else taken v (e ∷ past) s) ≡ Some id
    by true None z = same ∙ h
    by true (Some k) z = absurd (cc)
    by false r z = same ∙ h

pub held_offered : (f : Flow) (v : Start) (past : List Event) (c : List ℕ) (t : ℕ) → IsOrdered v.view → IsLawful f v past →
    session_state f v (Offered c ∷ past) t ≡ session_state f v past t
held_offered f v past c t o law = placed_same f v past (Offered c) (serves f v past t) (λ j k. state_more f v past c j o law (serves_below f v past t j o k).1)

pub held_released : (f : Flow) (v : Start) (past : List Event) (t : ℕ) → IsOrdered v.view → IsLawful f v past →
    session_state f v (Released ∷ past) t ≡ session_state f v past t
held_released f v past t o law = placed_same f v past Released (serves f v past t) (λ j k. state_released f v past j o law (serves_below f v past t j o k).1)

-- a take of another session
pub held_taken : (f : Flow) (v : Start) (past : List Event) (s t : ℕ) → s ≢ t → session_state f v (Taken s ∷ past) t ≡ session_state f v past t
held_taken f v past s t d = let no : (s == t) ≡ false = grind (arith, nat_tests) in rw no refl
