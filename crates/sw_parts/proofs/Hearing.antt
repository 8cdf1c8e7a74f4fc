-- What was heard.
-- for: query::hear
use Rattle.std.proofs.Common.{◌≡◌, ℕ, zero, suc, ◌+◌, ◌-◌, ◌<◌, ◌≤◌, List, Option, Some, None, refl, subst, inl, inr, arith}
use Rattle.iso_msg.specs.Messages.{PlainMessage}
use Rattle.sw_parts.specs.Queries.{Receiving, Starving, Hears, Came, Taken, answer_in}

module _ (R : Receiving) (S : Starving) (F : Type 0) where
  -- all receives were made
  pub ended : (i : ℕ) (k s : List ℕ) → 8 ≤ i → Hears R S F (8 - i) k s None s
  ended i k s all =
      let e : zero ≡ 8 - i = omega arith in
      subst (λ (n : ℕ). Hears R S F n k s None s) e (refl, refl)

  -- memory is refused to a receive
  pub starved : (i : ℕ) (k s t : List ℕ) → i < 8 → S s → t ≡ s → Hears R S F (8 - i) k s None t
  starved i k s t lt h same =
      let e : suc (8 - (i + 1)) ≡ 8 - i = omega arith in
      subst (λ (n : ℕ). Hears R S F n k s None t) e (inl (h, (refl, same)))

  pub came : (i : ℕ) (k s : List ℕ) (a : Option (List ℕ)) (u : List ℕ) (r : Option PlainMessage) (t : List ℕ) → i < 8 → R s a u
      → Came F k a u r t (Hears R S F (8 - (i + 1)) k u r t) → Hears R S F (8 - i) k s r t
  came i k s a u r t lt h c =
      let e : suc (8 - (i + 1)) ≡ 8 - i = omega arith in
      subst (λ (n : ℕ). Hears R S F n k s r t) e (inr (a, u, h, c))

module _ (F : Type 0) (k bytes u : List ℕ) where
  -- not the answer
  pub later : (r : Option PlainMessage) (t : List ℕ) (P : Type 0) → None ≡ answer_in k bytes → P → Came F k (Some bytes) u r t P
  later r t P is p = inr (subst (λ (z : Option PlainMessage). Taken z u r t P) is p)

  -- the answer
  pub heard : (m : PlainMessage) (P : Type 0) → Some m ≡ answer_in k bytes → Came F k (Some bytes) u (Some m) u P
  heard m P is = inr (subst (λ (z : Option PlainMessage). Taken z u (Some m) u P) is (refl, refl))

  -- memory is refused to read it
  pub unread : (P : Type 0) → F → Came F k (Some bytes) u None u P
  unread P f = inl (f, (refl, refl))
