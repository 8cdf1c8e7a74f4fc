-- Looking lines over one after the other, as a loop does.
-- for: look::look_items
use Rattle.std.specs.Bool.{then_some}
use Rattle.std.specs.Option.{option_or}
use Rattle.std.proofs.Common.{◌≡◌, ℕ, suc, ◌-◌, ◌+◌, ◌≤◌, ◌<◌, Bool, true, false, List, ◌∷◌, Option, Some, None, Result, Ok, Err, refl, sym, ap, ◌∙◌, cond}
use Rattle.std.proofs.Common.{arith}
use Rattle.flow_load.specs.declared.error.LoadError.{LoadError}
use Rattle.flow_load.specs.Image.{Text}
use Rattle.flow_load.specs.Reads.{◌>>=◌}
use Rattle.flow_load.specs.Forms.{line_at, items_at}
use Rattle.flow_load.specs.Load.{first_marked}
use Rattle.flow_load.specs.LookOver.{line_over}
use Rattle.flow_load.proofs.LineSpelling.{same_value}

module _ {A : Type 0} (form : LoadError → Text → Result (ℕ × A) LoadError) (mark : A → Bool) where
  -- what was found before, or is found in items that begin on that line
  abbrev pub with_earlier : Option ℕ → ℕ → Result (List A × Text) LoadError → Result (Option ℕ × Text) LoadError
  with_earlier before at read = read >>= λ x. Ok (option_or before (first_marked mark at x.0), x.1)

  abbrev looked : A × Text → Result (Bool × Text) LoadError
  looked x = Ok (mark x.0, x.1)

  abbrev joined : A → List A × Text → Result (List A × Text) LoadError
  joined x xs = Ok (x ∷ xs.0, xs.1)

  or_next : (before : Option ℕ) (b : Bool) (at : ℕ) (later : Option ℕ) →
      option_or before (cond b (Some at) later) ≡ option_or (option_or before (then_some b at)) later
  or_next (Some n) b at later = refl
  or_next None true at later = refl
  or_next None false at later = refl

  regroup : (before : Option ℕ) (at : ℕ) (x : A) (read : Result (List A × Text) LoadError) →
      with_earlier before at (read >>= joined x) ≡ with_earlier (option_or before (then_some (mark x) at)) (at + 1) read
  regroup before at x (Ok xs) = ap (λ (o : Option ℕ). let r : Result (Option ℕ × Text) LoadError = Ok (o, xs.1) in r)
      (or_next before (mark x) at (first_marked mark (at + 1) xs.0))
  regroup before at x (Err e) = refl

  step : (before : Option ℕ) (at : ℕ) (line : Result (A × Text) LoadError) (later : Text → Result (List A × Text) LoadError) (recovers : Bool)
      (after : Text) → (line >>= looked) ≡ Ok (recovers, after)
      → with_earlier before at (line >>= λ x. later x.1 >>= joined x.0) ≡ with_earlier (option_or before (then_some recovers at)) (at + 1) (later after)
  step before at (Err e) later recovers after h = absurd (cc)
  step before at (Ok x) later recovers after h =
      let same = same_value (mark x.0, x.1) (recovers, after) h in
      let b : mark x.0 ≡ recovers = ap (λ (p : Bool × Text). p.0) same in
      let t : x.1 ≡ after = ap (λ (p : Bool × Text). p.1) same in
      regroup before at x.0 (later x.1) ∙ ap (λ c. with_earlier (option_or before (then_some c at)) (at + 1) (later x.1)) b
      ∙ ap (λ s. with_earlier (option_or before (then_some recovers at)) (at + 1) (later s)) t

  pub goes_over : (before : Option ℕ) (count k at : ℕ) (bytes : Text) (recovers : Bool) (after : Text) (total : Result (Option ℕ × Text) LoadError) →
      k < count → line_over form mark k (at + k) bytes ≡ Ok (recovers, after)
      → with_earlier before (at + k) (items_at form (count - k) k (at + k) bytes) ≡ total →
      with_earlier (option_or before (then_some recovers (at + k))) (at + (k + 1)) (items_at form (count - (k + 1)) (k + 1) (at + (k + 1)) after) ≡ total
  unfolding items_at
  goes_over before count k at bytes recovers after total lt h so_far =
      let n : count - k ≡ suc (count - (k + 1)) = omega arith in
      let m : at + k + 1 ≡ at + (k + 1) = omega arith in
      let one = step before (at + k) (line_at form k (at + k) bytes) (λ rest. items_at form (count - (k + 1)) (k + 1) (at + k + 1) rest) recovers after h in
      let two : with_earlier before (at + k) (items_at form (suc (count - (k + 1))) k (at + k) bytes)
      ≡ with_earlier (option_or before (then_some recovers (at + k))) (at + k + 1) (items_at form (count - (k + 1)) (k + 1) (at + k + 1) after) = one in
      sym (ap (λ i. with_earlier before (at + k) (items_at form i k (at + k) bytes)) n ∙ two
      ∙ ap (λ i. with_earlier (option_or before (then_some recovers (at + k))) i (items_at form (count - (k + 1)) (k + 1) i after)) m) ∙ so_far

  fails : (e : LoadError) (before : Option ℕ) (at : ℕ) (line : Result (A × Text) LoadError) (later : Text → Result (List A × Text) LoadError) →
      (line >>= looked) ≡ Err e → with_earlier before at (line >>= λ x. later x.1 >>= joined x.0) ≡ Err e
  fails e before at (Ok x) later h = absurd (cc)
  fails e before at (Err d) later h = let same : d ≡ e = cc in ap (λ (x : LoadError). let r : Result (Option ℕ × Text) LoadError = Err x in r) same

  pub stops_over : (e : LoadError) (before : Option ℕ) (count k at : ℕ) (bytes : Text) (total : Result (Option ℕ × Text) LoadError) → k < count →
      line_over form mark k (at + k) bytes ≡ Err e
      → with_earlier before (at + k) (items_at form (count - k) k (at + k) bytes) ≡ total → total ≡ Err e
  unfolding items_at
  stops_over e before count k at bytes total lt h so_far =
      let n : count - k ≡ suc (count - (k + 1)) = omega arith in
      let one : with_earlier before (at + k) (items_at form (suc (count - (k + 1))) k (at + k) bytes) ≡ Err e =
      fails e before (at + k) (line_at form k (at + k) bytes) (λ rest. items_at form (count - (k + 1)) (k + 1) (at + k + 1) rest) h in
      sym so_far ∙ ap (λ i. with_earlier before (at + k) (items_at form i k (at + k) bytes)) n ∙ one

  or_none : (before : Option ℕ) → option_or before None ≡ before
  or_none None = refl
  or_none (Some n) = refl

  pub is_over : (before : Option ℕ) (count k at : ℕ) (bytes : Text) (total : Result (Option ℕ × Text) LoadError) → count ≤ k →
      with_earlier before (at + k) (items_at form (count - k) k (at + k) bytes) ≡ total → total ≡ Ok (before, bytes)
  unfolding items_at
  is_over before count k at bytes total le so_far =
      let n : count - k ≡ 0 = omega arith in
      sym so_far ∙ ap (λ i. with_earlier before (at + k) (items_at form i k (at + k) bytes)) n
      ∙ ap (λ (o : Option ℕ). let r : Result (Option ℕ × Text) LoadError = Ok (o, bytes) in r) (or_none before)
