-- What a chain leaves as it is, and what it counts.
-- for: laws::others_stay, laws::calls_are_counted
use Rattle.std.proofs.Common.{◌≡◌, ℕ, ◌<◌, ◌≤◌, ◌+◌, ◌-◌, ◌^◌, ◌==◌, ◌∙◌, Bool, true, false, List, [], ◌∷◌, length, get_or, min, refl, sym, ap, arith}
use Rattle.std.proofs.Common.{if◌then◌else◌, slice_set}
use Rattle.std.proofs.lemmas.Bool.Decides.{nat_tests}
use Rattle.std.proofs.lemmas.List.{get_or-set_same, get_or-set_other, length-set}
use Rattle.sw_participant.specs.Chains.{Rule, Contexts, with_context, ChainItem, Began, Called, Stopped, Chain, counted, counts_after, calls_to}

-- there are as many objects at the end
pub chain_length : {V : Type 0} (recovered : V → Contexts) (rule : ℕ → Rule) (m : List (ChainItem V)) (os : List (List ℕ)) (live : Contexts)
    (ps : List (List ℕ)) (now : Contexts) → Chain recovered rule os live m ps now → length ps ≡ length os
chain_length recovered rule [] os live ps now (e, f) = ap length e
chain_length recovered rule (Began i x ∷ m) os live ps now (f, c) = chain_length recovered rule m os (with_context live i x) ps now c
chain_length recovered rule (Called call place r ∷ m) os live ps now (x, qs, y, l, (p, h, e), c) =
    chain_length recovered rule m qs (with_context live call.id y) ps now c ∙ (ap length e ∙ length-set os call.participant p)
chain_length recovered rule (Stopped v ∷ m) os live ps now c = chain_length recovered rule m os (recovered v) ps now c

none_here : (b : Bool) (n : ℕ) → (if b then n + 1 else n) ≡ 0 → (b ≡ false) × (n ≡ 0)
none_here true n h = absurd (omega arith)
none_here false n h = (refl, h)

other_seat : {X : Type 0} (xs : List X) (i k : ℕ) (x d : X) → (i == k) ≡ false → get_or (slice_set xs i x) k d ≡ get_or xs k d
other_seat xs i k x d h = get_or-set_other xs i k x d (λ e. grind (arith, nat_tests))

same_seat : {X : Type 0} (xs : List X) (i k : ℕ) (x d : X) → k < length xs → (i == k) ≡ true → get_or (slice_set xs i x) k d ≡ x
same_seat xs i k x d l h =
    let e : k ≡ i = grind (arith, nat_tests) in ap (λ j. get_or (slice_set xs i x) j d) e ∙ get_or-set_same xs i x d (rw (sym e) l)

-- a participant that is not called keeps its object
pub chain_others : {V : Type 0} (recovered : V → Contexts) (rule : ℕ → Rule) (m : List (ChainItem V)) (os : List (List ℕ)) (live : Contexts)
    (ps : List (List ℕ)) (now : Contexts) (k : ℕ) → calls_to k m ≡ 0 → Chain recovered rule os live m ps now → get_or ps k [] ≡ get_or os k []
chain_others recovered rule [] os live ps now k z (e, f) = ap (λ (a : List (List ℕ)). get_or a k []) e
chain_others recovered rule (Began i x ∷ m) os live ps now k z (f, c) = chain_others recovered rule m os (with_context live i x) ps now k z c
chain_others recovered rule (Called call place r ∷ m) os live ps now k z (x, qs, y, l, (p, h, e), c) =
    let (b, w) = none_here (call.participant == k) (calls_to k m) z in
    chain_others recovered rule m qs (with_context live call.id y) ps now k w c
    ∙ (ap (λ (a : List (List ℕ)). get_or a k []) e ∙ other_seat os call.participant k p [] b)
chain_others recovered rule (Stopped v ∷ m) os live ps now k z c = chain_others recovered rule m os (recovered v) ps now k z c

one_count : (cs : List ℕ) (i k : ℕ) (b : Bool) → k < length cs → (i == k) ≡ b →
    get_or (counted cs i) k 0 ≡ (if b then min (get_or cs k 0 + 1) (2 ^ 64 - 1) else get_or cs k 0)
one_count cs i k true l h =
    same_seat cs i k (min (get_or cs i 0 + 1) (2 ^ 64 - 1)) 0 l h ∙ ap (λ j. min (get_or cs j 0 + 1) (2 ^ 64 - 1)) (let e : i ≡ k =
    grind (arith, nat_tests) in e)
one_count cs i k false l h = other_seat cs i k (min (get_or cs i 0 + 1) (2 ^ 64 - 1)) 0 h

small : (b : Bool) (a : ℕ) → a ≤ 2 ^ 64 - 1 → (if b then min (a + 1) (2 ^ 64 - 1) else a) ≤ 2 ^ 64 - 1
small true a h = omega arith
small false a h = h

one_more : (b : Bool) (a n : ℕ) → a ≤ 2 ^ 64 - 1 → min ((if b then min (a + 1) (2 ^ 64 - 1) else a) + n) (2 ^ 64 - 1) ≡ min (a + (if b then n + 1 else n))
    (2 ^ 64 - 1)
one_more true a n h = omega arith
one_more false a n h = refl

top : (a : ℕ) → a ≤ 2 ^ 64 - 1 → a ≡ min (a + 0) (2 ^ 64 - 1)
top a h = omega arith

-- a count goes up by the number of calls, up to its limit
pub counts_up : {V : Type 0} (cs : List ℕ) (m : List (ChainItem V)) (k : ℕ) → k < length cs → get_or cs k 0 ≤ 2 ^ 64 - 1 →
    get_or (counts_after cs m) k 0 ≡ min (get_or cs k 0 + calls_to k m) (2 ^ 64 - 1)
counts_up cs [] k l h = top (get_or cs k 0) h
counts_up cs (Began i x ∷ m) k l h = counts_up cs m k l h
counts_up cs (Called call place r ∷ m) k l h =
    let i = call.participant in
    let e = one_count cs i k (i == k) l refl in
    let l1 : k < length (counted cs i) = rw (length-set cs i (min (get_or cs i 0 + 1) (2 ^ 64 - 1))) l in
    counts_up (counted cs i) m k l1 (rw e (small (i == k) (get_or cs k 0) h))
    ∙ (ap (λ n. min (n + calls_to k m) (2 ^ 64 - 1)) e ∙ one_more (i == k) (get_or cs k 0) (calls_to k m) h)
counts_up cs (Stopped v ∷ m) k l h = counts_up cs m k l h
