-- There are such runs.
-- for: laws::some_run
use Rattle.std.proofs.Common.{◌≡◌, Bool, true, false, [], ◌∷◌, Option, None, Some, refl, ap, ◌∙◌, arith}
use Rattle.std.specs.Prelude.{codes, if◌then◌else◌, ◌==◌}
use Rattle.tx_machine.specs.Row.{Row}
use Rattle.outcome_calls.specs.Trail.{listed}
use Rattle.outcome_calls.specs.One.{Answer, Chosen, Advice, Restored, standing_row}
use Rattle.outcome_calls.specs.States.{FullState, begin}
use Rattle.outcome_calls.specs.Core.{standing_of, later, reopened}
use Rattle.outcome_calls.specs.Example.{SomeRun, ShelvingRun, two, left}
use Rattle.outcome_calls.proofs.TableStates.{some_is}

abbrev taken_state : Bool → Option FullState
taken_state b = if b then Some (begin two (3, 5 ∷ [])) else None

abbrev first_row : Bool → Option Row
first_row b = standing_row (standing_of two (if b then later two (Answer 1 (9 ∷ [])) (taken_state b) else taken_state b))

abbrev second_row : Bool → Option Row
second_row b = standing_row (standing_of two (if b then later two Restored (reopened (first_row b)) else reopened (first_row b)))

someone : (r : Row) → Some left ≡ Some r → listed r ≡ [] → ⊥
someone r is none = let e : listed left ≡ [] = ap listed (some_is left r is) ∙ none in grind (arith, e)

covers_one : (b : Bool) (r : Row) → first_row b ≡ Some r → listed r ≡ [] → ⊥
covers_one true r is none = someone r is none
covers_one false r is none = grind (arith, is)

covers_two : (b : Bool) (r : Row) → second_row b ≡ Some r → listed r ≡ [] → ⊥
covers_two true r is none = someone r is none
covers_two false r is none = grind (arith, is)

pub runs : SomeRun
runs = (
  _,
  (
    _,
    (refl, λ id h. absurd (grind (arith, h)), refl),
    (
      _,
      ([], _, refl, refl),
      (
        _,
        (omega arith, omega arith, refl),
        (
          _,
          (1, _, refl, refl, omega arith, refl, refl, refl),
          (
            _,
            (Answer 1 (9 ∷ []), refl, refl),
            (
              _,
              ([], _, refl, refl),
              (
                _,
                (omega arith, omega arith, refl),
                (
                  _,
                  ((tt, λ id r is none. absurd (covers_one (1 == id) r is none)), refl),
                  (
                    _,
                    (1, _, refl, refl, omega arith, refl, refl, refl),
                    (
                      _,
                      (Restored, refl, refl),
                      (
                        _,
                        ([], _, refl, refl),
                        (
                          _,
                          (omega arith, omega arith, refl),
                          (
                            _,
                            (1, _, refl, refl, omega arith, refl, refl, refl),
                            (
                              _,
                              (Advice None, refl, refl),
                              (
                                _,
                                ((tt, λ id r is none. absurd (covers_two (1 == id) r is none)), refl),
                                (_, (1, _, refl, refl, omega arith, refl, refl, refl), refl),
                              ),
                            ),
                          ),
                        ),
                      ),
                    ),
                  ),
                ),
              ),
            ),
          ),
        ),
      ),
    ),
  ),
  refl,
)

pub shelves : ShelvingRun
shelves = (
  _,
  (
    _,
    (refl, λ id h. absurd (grind (arith, h)), refl),
    (
      _,
      ([], _, refl, refl),
      (
        _,
        (omega arith, omega arith, refl),
        (
          _,
          (1, _, refl, refl, omega arith, refl, refl, refl),
          (
            _,
            (Answer 65 [], refl, refl),
            (
              _,
              ([], _, refl, refl),
              (
                _,
                (omega arith, omega arith, refl),
                (
                  _,
                  (1, _, refl, refl, omega arith, refl, refl, refl),
                  (
                    _,
                    (Chosen (codes "card"), refl, refl),
                    (
                      _,
                      ([], _, refl, refl),
                      (
                        _,
                        (omega arith, omega arith, refl),
                        (
                          _,
                          (1, _, refl, refl, omega arith, refl, refl, refl),
                          (
                            _,
                            (Answer 2 [], refl, refl),
                            (
                              _,
                              ([], _, refl, refl),
                              (
                                _,
                                (omega arith, omega arith, refl),
                                (
                                  _,
                                  (1, _, refl, refl, omega arith, refl, refl, refl),
                                  (
                                    _,
                                    (Advice (Some (7 ∷ [])), refl, refl),
                                    (_, ([], _, refl, refl), (_, (omega arith, omega arith, refl), refl)),
                                  ),
                                ),
                              ),
                            ),
                          ),
                        ),
                      ),
                    ),
                  ),
                ),
              ),
            ),
          ),
        ),
      ),
    ),
  ),
  refl,
  refl,
  refl,
)
