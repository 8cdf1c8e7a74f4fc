-- Sessions that no transaction uses.
-- for: laws::seats_are_held
use Rattle.std.proofs.Common.{◌≡◌, ℕ, ◌+◌, ◌<◌, Bool, true, false, [], ◌∷◌, length, get_or, Option, Some, None, refl, ◌∙◌, ap, arith, ◌-◌, ◌≤◌}
use Rattle.std.specs.Prelude.{is_some, nat_lt, ◌||◌}
use Rattle.std.specs.List.{list_any, range_with_len}
use Rattle.std.proofs.lemmas.List.Folds.{list_any_at}
use Rattle.std.proofs.lemmas.List.FromFn.{get_or-range_with_len, length-range_with_len}
use Rattle.sw_base.specs.Refusals.{first_of, refused_if}
use Rattle.tx_engine.specs.declared.error.EngineError.TheVariants.{InUse, NotWritten, BadSessions}
use Rattle.tx_engine.specs.World.{World}
use Rattle.tx_engine.specs.Calls.{held_id}
use Rattle.tx_engine.specs.Cuts.{is_in_use}
use Rattle.std.proofs.lemmas.Bool.Decides.{nat_tests}
use Rattle.tx_engine.specs.declared.error.EngineError.{EngineError}
use Rattle.tx_plant.specs.Plant.{late}

pub some_session : (n : ℕ) (b : Bool) (later : Option EngineError) → (nat_lt n 1 || nat_lt 16 n) ≡ b → first_of (refused_if b BadSessions ∷ later ∷ [])
    ≡ None → 1 ≤ n
some_session n true later e h = absurd (cc)
some_session n false later e h = grind (arith, nat_tests)

pub allowed_by : (used late : Bool) → first_of (refused_if used InUse ∷ refused_if late NotWritten ∷ []) ≡ None → (used ≡ false) × (late ≡ false)
allowed_by true late h = absurd (cc)
allowed_by false true h = absurd (cc)
allowed_by false false h = (refl, refl)

idle_if : (b : Bool) (o : Option ℕ) → is_some o ≡ b → b ≡ false → o ≡ None
idle_if b None e h = refl
idle_if b (Some id) e h = absurd (cc)

not_any : (P : ℕ → Bool) (n s : ℕ) → list_any P (range_with_len 0 n) ≡ false → s < n → (b : Bool) → P s ≡ b → b ≡ false
not_any P n s none lt false e = refl
not_any P n s none lt true e =
    let at : get_or (range_with_len 0 n) s 0 ≡ s = get_or-range_with_len 0 n s 0 lt ∙ (let z : 0 + s ≡ s = omega arith in z) in
    let long : s < length (range_with_len 0 n) = omega (arith, lt, length-range_with_len 0 n) in
    let some : list_any P (range_with_len 0 n) ≡ true = list_any_at P (range_with_len 0 n) s 0 long (ap P at ∙ e) in
    absurd (cc)

pub free_session : (w : World) (s : ℕ) → is_in_use w ≡ false → s < w.sessions → held_id w s ≡ None
free_session w s none lt = idle_if (is_some (held_id w s)) (held_id w s) refl
    (not_any (λ s. is_some (held_id w s)) w.sessions s none lt (is_some (held_id w s)) refl)
