-- Seats that are set, and the plant that they leave.
-- for: laws::seats_are_held
use Rattle.std.proofs.Common.{◌≡◌, ◌≢◌, ℕ, ◌<◌, ◌==◌, Bool, true, false, inl, inr, List, length, get_or, slice_set, Option, Some}
use Rattle.std.proofs.Common.{None, sym, ap}
use Rattle.std.proofs.Common.{arith}
use Rattle.std.proofs.lemmas.Bool.{cases_lt}
use Rattle.std.proofs.lemmas.Bool.Decides.{nat_tests}
use Rattle.std.proofs.lemmas.List.{get_or-set_same, get_or-set_other}
use Rattle.std.proofs.Math.ListN.{get_or-eq_default}
use Rattle.sw_context.specs.Pairs.{Pairs}
use Rattle.tx_plant.specs.declared.seat.Seat.{Seat}
use Rattle.tx_plant.specs.Core.{Core, Reseats, ReseatsBy, newcomer, seat_of}

pub seat_within : (seats : List (Option Seat)) (s : ℕ) (l : Seat) → get_or seats s None ≡ Some l → s < length seats
seat_within seats s l h = elim (cases_lt s (length seats)) [
  | inl low ↦ low
  | inr high ↦ absurd (let none : get_or seats s None ≡ None = get_or-eq_default seats None high in cc)
]

pub set_here : (seats : List (Option Seat)) (s : ℕ) (o : Option Seat) → s < length seats → get_or (slice_set seats s o) s None ≡ o
set_here seats s o lt = get_or-set_same seats s o None lt

pub set_there : (seats : List (Option Seat)) (s t : ℕ) (o : Option Seat) → (s ≡ t → ⊥) → get_or (slice_set seats s o) t None ≡ get_or seats t None
set_there seats s t o other = let d : t ≢ s = (λ e. other (sym e)) in get_or-set_other seats s t o None d

reseats_world_by : (o : Option Seat) (n : Option (ℕ × Pairs)) (p q : Core) → ReseatsBy o n p q → q.world ≡ p.world
reseats_world_by None (Some x) p q h = ap (λ (c : Core). c.world) h.0
reseats_world_by None None p q h = ap (λ (c : Core). c.world) h
reseats_world_by (Some l) n p q h = ap (λ (c : Core). c.world) h

pub reseats_world : (p q : Core) → Reseats p q → q.world ≡ p.world
reseats_world p q h = reseats_world_by (seat_of p 0) (newcomer p) p q h

-- by whether it is the session's
pub by_session : (s t : ℕ) (A : Type 0) → (s ≡ t → A) → ((s ≡ t → ⊥) → A) → (b : Bool) → (s == t) ≡ b → A
by_session s t A here there true e = here (grind (arith, nat_tests))
by_session s t A here there false e = there (λ (h : s ≡ t). grind (arith, nat_tests))
