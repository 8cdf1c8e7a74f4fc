-- One turn of the thread that writes.
-- for: threads::HostThread::take_turn
use Rattle.std.proofs.Common.{◌≡◌, ℕ, Bool, List, [], ◌∷◌, Option, Some, None, subst}
use Rattle.std.specs.Prelude.{IfSome, IsTrue}
use Rattle.sw_wire.specs.declared.frame.Frame.{Frame}
use Rattle.sw_wire.specs.Wanted.{is_timely}
use Rattle.sw_wire.specs.Writing.{WritesFrames, WritesGiven}
use Rattle.sw_wire.proofs.Writing.{given_one}

module _ {S : Type 0} (gives : S → ℕ → Option Frame → S → Type 0) (s t : S) (now : ℕ) where
  -- a frame was given, and written
  pub turn_frame : (call : Option Frame) (f : Frame) (a b : Option (List ℕ)) (open' : Bool) → call ≡ Some f → gives s now call t
      → IfSome call (λ g. IsTrue (is_timely now g)) → WritesFrames (f ∷ []) a b open' → WritesGiven gives s t a b open'
  turn_frame call f a b open' is gave timely writes =
      given_one gives s t now (Some f) a b open' (subst (λ o. gives s now o t) is gave)
      (subst (λ o. IfSome o (λ g. IsTrue (is_timely now g))) is timely) writes

  -- none was given
  pub turn_none : (call : Option Frame) (a b : Option (List ℕ)) (open' : Bool) → call ≡ None → gives s now call t → WritesFrames [] a b open'
      → WritesGiven gives s t a b open'
  turn_none call a b open' is gave writes = given_one gives s t now None a b open' (subst (λ o. gives s now o t) is gave) tt writes
