-- The replies that seats keep, as seats are set and emptied.
-- for: laws::turns_are_moves
use Rattle.std.proofs.Common.{◌≡◌, ℕ, ◌≤◌, ◌==◌, Bool, true, false, inl, inr, List, length, get_or, slice_set, Option, Some}
use Rattle.std.proofs.Common.{None, refl, sym, ◌∙◌, ap}
use Rattle.std.proofs.Common.{subst, arith}
use Rattle.std.proofs.lemmas.Bool.{cases_lt}
use Rattle.std.proofs.lemmas.Bool.Decides.{nat_tests}
use Rattle.std.proofs.lemmas.List.{length-set}
use Rattle.std.proofs.Math.ListN.{get_or-eq_default}
use Rattle.sw_context.specs.Pairs.{Pairs}
use Rattle.tx_engine.specs.World.{World}
use Rattle.tx_plant.specs.declared.seat.Seat.{Seat}
use Rattle.tx_plant.specs.Core.{Core, Leaves, Reseats, ReseatsBy, left, left_by, new_seat, newcomer, newest_fate, seat_of}
use Rattle.tx_plant.proofs.SeatFates.{leaves_by, left_cases}
use Rattle.outcome_plant.specs.Deeds.{kept_in, kept_reply}
use Rattle.tx_seats.proofs.SeatSets.{seat_within, set_here, set_there}

-- one seat

pub none_set : (seats : List (Option Seat)) (s : ℕ) (o : Option Seat) → kept_reply o ≡ None → kept_reply (get_or (slice_set seats s o) s None) ≡ None
none_set seats s o none = elim (cases_lt s (length seats)) [
  | inl low ↦ ap kept_reply (set_here seats s o low) ∙ none
  | inr high ↦ (let far : length (slice_set seats s o) ≤ s = subst (λ (n : ℕ). n ≤ s) (sym (length-set seats s o)) high in
      ap kept_reply (get_or-eq_default (slice_set seats s o) None far))
]

-- a new seat where there was none

reseated_if : (seats : List (Option Seat)) (x : ℕ × Pairs) (t : ℕ) → get_or seats 0 None ≡ None → (b : Bool) → (0 == t) ≡ b →
    kept_reply (get_or (slice_set seats 0 (Some (new_seat x))) t None) ≡ kept_reply (get_or seats t None)
reseated_if seats x t none true e =
    let same : 0 ≡ t = grind (arith, nat_tests) in
    subst (λ (t : ℕ). kept_reply (get_or (slice_set seats 0 (Some (new_seat x))) t None) ≡ kept_reply (get_or seats t None)) same
    (none_set seats 0 (Some (new_seat x)) refl ∙ sym (ap kept_reply none))
reseated_if seats x t none false e = let other : 0 ≡ t → ⊥ = (λ (s : 0 ≡ t). grind (arith, nat_tests)) in
    ap kept_reply (set_there seats 0 t (Some (new_seat x)) other)

reseats_by : (o : Option Seat) (n : Option (ℕ × Pairs)) (p q : Core) (t : ℕ) → seat_of p 0 ≡ o → ReseatsBy o n p q →
    kept_reply (seat_of q t) ≡ kept_reply (seat_of p t)
reseats_by None (Some x) p q t e h = ap (λ (c : Core). kept_reply (seat_of c t)) h.0 ∙ reseated_if p.seats x t e (0 == t) refl
reseats_by None None p q t e h = ap (λ (c : Core). kept_reply (seat_of c t)) h
reseats_by (Some l) n p q t e h = ap (λ (c : Core). kept_reply (seat_of c t)) h

pub reseats : (p q : Core) (t : ℕ) → Reseats p q → kept_reply (seat_of q t) ≡ kept_reply (seat_of p t)
reseats p q t h = reseats_by (seat_of p 0) (newcomer p) p q t refl h

-- after an entry of a session

pub left_none : (w : World) (t : Seat) → t.kept ≡ None → kept_reply (left_by (newest_fate w) t) ≡ None
left_none w t h = left_cases (newest_fate w) t (λ (o : Option Seat). kept_reply o ≡ None) (ap (kept_in t) h) refl

leaves : (w : World) (p q : Core) (t : ℕ) → Leaves (newest_fate w) p q → kept_reply (seat_of q t) ≡ kept_reply (seat_of p t)
leaves w p q t h = leaves_by (newest_fate w) p q (kept_reply (seat_of q t) ≡ kept_reply (seat_of p t)) h
    (λ e. ap (λ (c : Core). kept_reply (seat_of c t)) e) (reseats p q t)

pub left_there : (p q : Core) (s t : ℕ) (w to : World) (seat : Seat) → Leaves (newest_fate w) (left p s (newest_fate w) seat to) q → (s ≡ t → ⊥) →
    kept_reply (seat_of q t) ≡ kept_reply (seat_of p t)
left_there p q s t w to seat h other = leaves w (left p s (newest_fate w) seat to) q t h
    ∙ ap kept_reply (set_there p.seats s t (left_by (newest_fate w) seat) other)

pub left_here : (p q : Core) (s : ℕ) (before seat : Seat) (w to : World) → seat_of p s ≡ Some before →
    Leaves (newest_fate w) (left p s (newest_fate w) seat to) q → kept_reply (seat_of q s) ≡ kept_reply (left_by (newest_fate w) seat)
left_here p q s before seat w to h k = leaves w (left p s (newest_fate w) seat to) q s k
    ∙ ap kept_reply (set_here p.seats s (left_by (newest_fate w) seat) (seat_within p.seats s before h))

-- a seat is set, and nothing else

abbrev pub seated : Core → ℕ → Seat → World → Core
seated p s t to = record { world = to; seats = slice_set p.seats s (Some t); waiting = p.waiting; ended = p.ended }

pub seated_there : (p q : Core) (s t : ℕ) (seat : Seat) (to : World) → q ≡ seated p s seat to → (s ≡ t → ⊥) →
    kept_reply (seat_of q t) ≡ kept_reply (seat_of p t)
seated_there p q s t seat to h other = ap (λ (c : Core). kept_reply (seat_of c t)) h ∙ ap kept_reply (set_there p.seats s t (Some seat) other)

pub seated_here : (p q : Core) (s : ℕ) (before seat : Seat) (to : World) → seat_of p s ≡ Some before → q ≡ seated p s seat to →
    kept_reply (seat_of q s) ≡ kept_reply (Some seat)
seated_here p q s before seat to h k = ap (λ (c : Core). kept_reply (seat_of c s)) k
    ∙ ap kept_reply (set_here p.seats s (Some seat) (seat_within p.seats s before h))
