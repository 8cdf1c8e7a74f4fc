use Rattle.std.proofs.Common.{◌≡◌, ◌∙◌, ℕ, ap, sym}
use Rattle.std.specs.Option.{unwrap_or}
use Rattle.flow_asm.specs.Places.{place_at}
use Rattle.flow_asm.proofs.StepPlaces.{call_step_is, pick_step_is}
use Rattle.tx_machine.specs.declared.values.Spot.{Spot}
use Rattle.tx_machine.proofs.places.spot.Goals as goal

-- a spot by its parts
same_spot : (k m g h i j p q : ℕ) → k ≡ m → g ≡ h → i ≡ j → p ≡ q → record { step = k; group = g; index = i; participant = p }
    ≡ (let s : Spot = record { step = m; group = h; index = j; participant = q } in s)
same_spot k m g h i j p q a b c d = cc

pub returns-clause-call : goal.returns-clause-call
returns-clause-call c s at p =
    let place : c.unwrap_or-group.result ≡ (s.group, s.index) =
    c.unwrap_or-group.ensures ∙ ap (λ o. unwrap_or o (0, 0)) (c.place.ensures.value ∙ ap place_at at) in
    same_spot _ _ _ _ _ _ _ _ (sym (call_step_is c.args.code.now c.args.step s at)) (ap (λ (at : ℕ × ℕ). at.0) place) (ap (λ (at : ℕ × ℕ). at.1) place) (sym p)

pub returns-clause-pick : goal.returns-clause-pick
returns-clause-pick c s at p =
    let place : c.unwrap_or-group.result ≡ (s.group, s.index) =
    c.unwrap_or-group.ensures ∙ ap (λ o. unwrap_or o (0, 0)) (c.place.ensures.value ∙ ap place_at at) in
    same_spot _ _ _ _ _ _ _ _ (sym (pick_step_is c.args.code.now c.args.step s at)) (ap (λ (at : ℕ × ℕ). at.0) place) (ap (λ (at : ℕ × ℕ). at.1) place) (sym p)
