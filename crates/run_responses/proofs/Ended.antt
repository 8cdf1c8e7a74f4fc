-- The contexts of the transactions that ended, above an id.
-- for: given::text_above, given::last_above
use Rattle.std.proofs.Common.{◌≡◌, ℕ, ◌<◌, ◌≤◌, ◌==◌, Bool, true, false, cond, List, [], ◌∷◌, ◌++◌, length, Option, Some, None, refl, sym, ap, subst, arith}
use Rattle.std.proofs.Common.{◌∙◌, suc, zero, append-nil}
use Rattle.std.specs.Prelude.{slice_get, All, nat_lt, ◌&&◌}
use Rattle.std.specs.Ordering.{is_lt, nat_cmp}
use Rattle.std.specs.declared.cmp.Ordering.TheVariants.{Equal, Greater}
use Rattle.std.specs.Map.{keys_of}
use Rattle.std.proofs.lemmas.Bool.Decides.{nat_tests}
use Rattle.std.proofs.lemmas.List.Elements.{All-head, All-tail}
use Rattle.std.proofs.lemmas.Map.Keys.{ge_from_not_lt}
use Rattle.sw_context.specs.Pairs.{Pairs}
use Rattle.sw_frame.specs.Stream.{AreFramed, Framed}
use Rattle.sw_frame.proofs.Frames.{AreFramed-append}
use Rattle.run_responses.specs.Responses.{above, last_id, response, responses, with_response}

pub is_above : (a b : ℕ) → a < b → is_lt (nat_cmp a b) ≡ true
is_above a b h = let t : nat_lt a b ≡ true = grind (arith, nat_tests) in rw t refl

pub not_above : (a b : ℕ) → b ≤ a → is_lt (nat_cmp a b) ≡ false
not_above a b h = let t : nat_lt a b ≡ false = grind (arith, nat_tests) in rw t (either (a == b)) where
  either : (c : Bool) → is_lt (cond c Equal Greater) ≡ false
  either true = refl
  either false = refl

-- no context is above the greatest
pub none_above : (id : ℕ) (es : List (ℕ × Pairs)) → All (λ q. is_lt (nat_cmp id q) ≡ false) (keys_of es) → above id es ≡ []
none_above id [] h = refl
none_above id (e ∷ es) h =
    let first : is_lt (nat_cmp id e.0) ≡ false = All-head (λ q. is_lt (nat_cmp id q) ≡ false) e.0 (keys_of es) h in
    rw first (none_above id es (All-tail (λ q. is_lt (nat_cmp id q) ≡ false) e.0 (keys_of es) h))

-- nor above what is not below the greatest
pub none_above_more : (low id : ℕ) (ks : List ℕ) → low ≤ id → All (λ q. is_lt (nat_cmp low q) ≡ false) ks → All (λ q. is_lt (nat_cmp id q) ≡ false) ks
none_above_more low id ks le h k d lt =
    let below = ge_from_not_lt low _ (h k d lt) in
    not_above id _ (omega (arith, le, below))

last_of_any : (a b n : ℕ) (es : List (ℕ × Pairs)) → a < n → last_id a es ≡ n → last_id b es ≡ n
last_of_any a b n [] lt h = absurd (omega (arith, lt, h))
last_of_any a b n (e ∷ es) lt h = h

-- the last context is the last above an id, if it is above
pub last_is_above : (id : ℕ) (es : List (ℕ × Pairs)) (k n : ℕ) (x : Pairs) → suc k ≡ length es → slice_get es k ≡ Some (n, x) → id < n →
    last_id id (above id es) ≡ n
last_is_above id [] k n x long h lt = absurd (cc)
last_is_above id (e ∷ es) zero n x long h lt =
    let same : e ≡ (n, x) = cc in
    let number : e.0 ≡ n = ap (λ (z : ℕ × Pairs). z.0) same in
    let up : is_lt (nat_cmp id e.0) ≡ true = is_above id e.0 (omega (arith, lt, number)) in
    let alone : es ≡ [] = no_more es (omega (arith, long)) in
    rw (up, alone) number where
      no_more : (fs : List (ℕ × Pairs)) → length fs ≡ 0 → fs ≡ []
      no_more [] h = refl
      no_more (f ∷ fs) h = absurd (cc)
last_is_above id (e ∷ es) (suc k) n x long h lt = passed (is_lt (nat_cmp id e.0)) (last_is_above id es k n x (omega (arith, long)) h lt) where
  passed : (b : Bool) → last_id id (above id es) ≡ n → last_id id (cond (b && true) (e ∷ above id es) (above id es)) ≡ n
  passed true ih = last_of_any id e.0 n (above id es) lt ih
  passed false ih = ih

pub with_response_before : (o : Option (List ℕ)) (rs ss : List (List ℕ)) → with_response o (rs ++ ss) ≡ with_response o rs ++ ss
with_response_before None rs ss = refl
with_response_before (Some r) rs ss = refl

responses_more : (es : List (ℕ × Pairs)) (e : ℕ × Pairs) → responses (es ++ e ∷ []) ≡ responses es ++ with_response (response e.1) []
responses_more [] e = refl
responses_more (f ∷ es) e = ap (with_response (response f.1)) (responses_more es e) ∙ with_response_before (response f.1) (responses es)
    (with_response (response e.1) [])

pub one_frame : (o : Option (List ℕ)) (r text : List ℕ) → o ≡ Some r → Framed text r → AreFramed text (with_response o [])
one_frame o r text is framed = rw is (text, [], sym (append-nil text), framed, refl)

pub no_frame : (o : Option (List ℕ)) → o ≡ None → AreFramed [] (with_response o [])
no_frame o is = rw is refl

-- the frame of one more context's response
pub framed_more : (text framed : List ℕ) (es : List (ℕ × Pairs)) (e : ℕ × Pairs) → AreFramed text (responses es) →
    AreFramed framed (with_response (response e.1) []) → AreFramed (text ++ framed) (responses (es ++ e ∷ []))
framed_more text framed es e h k = subst (AreFramed (text ++ framed)) (sym (responses_more es e))
    (AreFramed-append text (responses es) framed (with_response (response e.1) []) h k)

pub last_more : (id : ℕ) (es : List (ℕ × Pairs)) (e : ℕ × Pairs) → last_id id (es ++ e ∷ []) ≡ e.0
last_more id [] e = refl
last_more id (f ∷ es) e = last_more f.0 es e
