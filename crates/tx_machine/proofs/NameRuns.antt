-- A text that begins with a name: the run before its first gap, and what follows.
-- for: names::first_name
use Rattle.std.proofs.Common.{◌≡◌, ℕ, ◌+◌, Bool, true, false, not, List, [], ◌∷◌, take, drop, refl, ap, inl, inr, arith, if◌then◌else◌, suc}
use Rattle.std.proofs.lemmas.Bool.{cases_Bool}
use Rattle.tx_machine.specs.Names.{is_gap, begins_with_name, before_first, names_of}
use Rattle.tx_machine.specs.Runs.{run_of}

not_gap : (b : Bool) → not b ≡ true → b ≡ false
not_gap true h = absurd (cc)
not_gap false h = refl

gap : (b : Bool) → not b ≡ false → b ≡ true
gap true h = refl
gap false h = absurd (cc)

none_begun : (cs : List ℕ) → begins_with_name cs ≡ false → run_of cs ≡ 0
none_begun [] h = refl
none_begun (c ∷ cs) h = rw (gap (is_gap c) h) refl

-- the first name is the run, and the others are those after it
pub names_of_run : (cs : List ℕ) → begins_with_name cs ≡ true → names_of cs ≡ take (run_of cs) cs ∷ names_of (drop (run_of cs) cs)
names_of_run [] h = absurd (cc)
names_of_run (c ∷ cs) h =
    let here : is_gap c ≡ false = not_gap (is_gap c) h in
    let run : (if is_gap c then 0 else run_of cs + 1) ≡ suc (run_of cs) = rw here (let e : run_of cs + 1 ≡ suc (run_of cs) = omega arith in e) in
    rw (run, here) (elim (cases_Bool (begins_with_name cs)) [
      | inl more ↦ rw more (ap (before_first c) (names_of_run cs more))
      | inr done ↦ rw (done, none_begun cs done) refl
    ])
