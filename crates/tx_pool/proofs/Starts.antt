-- The start of a run.
-- for: running::run_parts
use Rattle.std.proofs.Common.{◌≡◌, zero, suc, ℕ, List, [], ◌∷◌, map, sym, ap, subst}
use Rattle.sw_participant.specs.Chains.{Rule, rule_at}
use Rattle.tx_locked.specs.AllStations.{AreReady}

-- stations are ready for a run by their own rules, from their own objects and counts
pub ready_own : {S : Type 0} (own : S → Rule) (object : S → List ℕ) (count : S → ℕ) (name : S → List ℕ) (ss : List S) →
    AreReady (rule_at own ss) (map object ss) (map count ss) (map name ss) own object count name ss
ready_own own object count name [] k s h = absurd (cc)
ready_own own object count name (x ∷ ss) zero s h =
    let e : x ≡ s = cc in
    record {
      within = λ id act o y reply p z r. subst (λ t. own t id act o y reply p z) (sym e) r;
      object = ap object (sym e);
      count =
          ap count (sym e);
      named = ap name (sym e);
    }
ready_own own object count name (x ∷ ss) (suc k) s h = ready_own own object count name ss k s h
