-- The station of a participant that has one is found after those that are seated, and goes to its index.
-- for: seating::has_name, seating::check_doubles, seating::find_from, seating::seat_one, seating::seat
use Rattle.std.proofs.Common.{◌≡◌, ℕ, suc, zero, ◌+◌, ◌<◌, ◌≤◌, Bool, true, false, ◌||◌, not, ◌⊎◌, inl, inr, ⊎_elim, List, [], ◌∷◌, ◌++◌, length, get_or, take}
use Rattle.std.proofs.Common.{drop, set, swap, map, Option, None, Some, Result, Ok, refl, sym, ap, ◌∙◌, arith, true≢false}
use Rattle.std.specs.List.{list_any}
use Rattle.std.specs.Str.{bytes_eq}
use Rattle.std.proofs.lemmas.Bool.{cases_Bool, cases_lt, or_right}
use Rattle.std.proofs.lemmas.List.{take-append-drop, take_more, take_more_set, drop_more, take-set-le, map-set, get_or-map, length-set}
use Rattle.std.proofs.lemmas.List.{length-map}
use Rattle.std.proofs.lemmas.List.Edits.{swap_is}
use Rattle.std.proofs.lemmas.List.Folds.{list_any-append, list_any_more}
use Rattle.flow_model.specs.declared.numbering.Part.{Part}
use Rattle.flow_model.specs.Places.{number_in}
use Rattle.flow_model.proofs.Numbers.{number_cons, number_here}
use Rattle.sw_base.specs.Refusals.{first_at, or_else, refused, refused_if}
use Rattle.sw_base.proofs.Unrefused.{left_none, right_none}
use Rattle.sw_seating.specs.declared.seating.SeatingError.{SeatingError}
use Rattle.sw_seating.specs.declared.seating.SeatingError.TheVariants.{DoubleStation, NoStation}
use Rattle.sw_seating.specs.Seating.{AreNumbered, HaveStations, double_station, is_among, no_station, part_names}

-- a name among the first ones has a number among the first
early : (ps : List Part) (k : ℕ) (name : List ℕ) → is_among name (take k (part_names ps)) ≡ true → number_in ps name < k
early [] zero name h = absurd (true≢false (sym h))
early [] (suc k) name h = absurd (true≢false (sym h))
early (p ∷ ps) zero name h = absurd (true≢false (sym h))
early (p ∷ ps) (suc k) name h =
    ⊎_elim
    (λ (e : bytes_eq p.name name ≡ true). (let l : number_in (p ∷ ps) name < suc k = omega (arith, number_here p ps name e) in l))
    (λ (e : bytes_eq p.name name ≡ false).
    let low = early ps k name (sym (ap (λ b. b || is_among name (take k (part_names ps))) e) ∙ h) in
    (let l : number_in (p ∷ ps) name < suc k = omega (arith, number_cons p ps name e, low) in l))
    (cases_Bool (bytes_eq p.name name))

or_false : (b : Bool) → (b || false) ≡ true → b ≡ true
or_false true h = refl
or_false false h = h

pub not_after : (names : List (List ℕ)) (ps : List Part) (k : ℕ) (p : Part) → AreNumbered ps → k < length ps → HaveStations names ps
    → take k names ≡ take k (part_names ps) → is_among (get_or ps k p).name (drop k names) ≡ false → ⊥
not_after names ps k p numbered low has seated absent =
    let name = (get_or ps k p).name in
    let test : List ℕ → Bool = λ n. bytes_eq n name in
    let all = ap (list_any test) (take-append-drop k names) ∙ has k p low in
    let either = sym (list_any-append test (take k names) (drop k names)) ∙ all in
    let front = or_false (list_any test (take k names)) (sym (ap (λ b. list_any test (take k names) || b) absent) ∙ either) in
    let first = early ps k name (sym (ap (list_any test) seated) ∙ front) in
    omega (arith, first, numbered k p low)

-- what a swap does to the names up to the index k, if the other index is not before it
swapped_at : (ns : List (List ℕ)) (k at : ℕ) (name : List ℕ) → k ≤ at → at < length ns → get_or ns at [] ≡ name
    → take (k + 1) (set (set ns k (get_or ns at [])) at (get_or ns k [])) ≡ take k ns ++ name ∷ []
swapped_at ns k at name up low is =
    elim (cases_lt k at) [
      | inl below ↦
          take-set-le (k + 1) (set ns k (get_or ns at [])) at (get_or ns k []) (omega (arith, below))
          ∙ take_more_set ns k (get_or ns at []) (omega (arith, below, low)) ∙ ap (λ n. take k ns ++ n ∷ []) is
      | inr same ↦
          let equal : at ≡ k = omega (arith, up, same) in
          swapped_here ns k at name low equal is
    ]
  where
    swapped_here : (ns : List (List ℕ)) (k at : ℕ) (name : List ℕ) → at < length ns → at ≡ k → get_or ns at [] ≡ name
        → take (k + 1) (set (set ns k (get_or ns at [])) at (get_or ns k [])) ≡ take k ns ++ name ∷ []
    swapped_here ns k at name low equal is =
        ap (λ j. take (k + 1) (set (set ns k (get_or ns at [])) j (get_or ns k []))) equal
        ∙ take_more_set (set ns k (get_or ns at [])) k (get_or ns k []) (omega (arith, low, equal, length-set ns k (get_or ns at [])))
        ∙ ap (λ xs. xs ++ get_or ns k [] ∷ []) (take-set-le k ns k (get_or ns at []) (omega arith))
        ∙ ap (λ n. take k ns ++ n ∷ []) (ap (λ j. get_or ns j []) (sym equal) ∙ is)

-- the names of a list in which two were swapped
swapped_names : {X : Type 0} (f : X → List ℕ) (xs : List X) (k at : ℕ) → k < length xs → at < length xs
    → map f (swap xs k at) ≡ set (set (map f xs) k (get_or (map f xs) at [])) at (get_or (map f xs) k [])
swapped_names f [] k at low there = absurd (omega (arith, low))
swapped_names f (x ∷ xs) k at low there =
    let all = x ∷ xs in
    ap (map f) (sym (swap_is all k at x low there))
    ∙ map-set f (set all k (get_or all at x)) at (get_or all k x)
    ∙ ap (λ ns. set ns at (f (get_or all k x))) (map-set f all k (get_or all at x))
    ∙ ap (λ n. set (set (map f all) k n) at (f (get_or all k x))) (sym (get_or-map f all at x [] there))
    ∙ ap (λ n. set (set (map f all) k (get_or (map f all) at [])) at n) (sym (get_or-map f all k x [] low))

pub seated_more : {X : Type 0} (f : X → List ℕ) (xs zs : List X) (ps : List Part) (k at : ℕ) (p : Part) → zs ≡ swap xs k at
    → k ≤ at → at < length xs → k < length ps → get_or (map f xs) at [] ≡ (get_or ps k p).name
    → take k (map f xs) ≡ take k (part_names ps) → take (k + 1) (map f zs) ≡ take (k + 1) (part_names ps)
seated_more f xs zs ps k at p is up there low named seated =
    ap (λ ys. take (k + 1) (map f ys)) is
    ∙ ap (take (k + 1)) (swapped_names f xs k at (omega (arith, up, there)) there)
    ∙ swapped_at (map f xs) k at (get_or ps k p).name up (omega (arith, there, length-map xs f)) named
    ∙ ap (λ ns. ns ++ (get_or ps k p).name ∷ []) seated
    ∙ ap (λ n. take k (part_names ps) ++ n ∷ []) (sym (get_or-map (λ (q : Part). q.name) ps k p [] low))
    ∙ sym (take_more (part_names ps) k [] (omega (arith, low, length-map ps (λ (q : Part). q.name))))

-- if no participant is refused, each has a station
has_station : (names : List (List ℕ)) (n : ℕ) (q : Part) → no_station names n q ≡ None → is_among q.name names ≡ true
has_station names n q h =
    ⊎_elim
    (λ (e : is_among q.name names ≡ true). e)
    (λ (e : is_among q.name names ≡ false). absurd (is_some (NoStation n) (sym (ap (λ b. refused_if (not b) (NoStation n)) e) ∙ h)))
    (cases_Bool (is_among q.name names))
  where
    is_some : (e : SeatingError) → Some e ≡ None → ⊥
    is_some e h = cc

pub none_missing : (names : List (List ℕ)) (n : ℕ) (ps : List Part) → first_at (no_station names) n ps ≡ None → HaveStations names ps
none_missing names n [] h k p low = absurd (omega (arith, low))
none_missing names n (q ∷ ps) h zero p low = has_station names n q (left_none (no_station names n q) (first_at (no_station names) (n + 1) ps) h)
none_missing names n (q ∷ ps) h (suc k) p low =
    none_missing names (n + 1) ps (right_none (no_station names n q) (first_at (no_station names) (n + 1) ps) h) k p (omega (arith, low))

-- a loop over the names

pub among_here : (names : List (List ℕ)) (k end : ℕ) (name : List ℕ) → k < end → end ≤ length names → bytes_eq (get_or names k []) name ≡ true
    → is_among name (take end names) ≡ true
among_here names k zero name low fits here = absurd (omega (arith, low))
among_here [] k (suc end) name low fits here = absurd (omega (arith, fits))
among_here (n ∷ names) zero (suc end) name low fits here = ap (λ b. b || is_among name (take end names)) here
among_here (n ∷ names) (suc k) (suc end) name low fits here =
    ap (λ b. bytes_eq n name || b) (among_here names k end name (omega (arith, low)) (omega (arith, fits)) here) ∙ or_right (bytes_eq n name) true refl

pub among_next : (names : List (List ℕ)) (k : ℕ) (name : List ℕ) → k < length names → is_among name (take k names) ≡ false
    → bytes_eq (get_or names k []) name ≡ false → is_among name (take (k + 1) names) ≡ false
among_next names k name low before other =
    list_any_more (λ n. bytes_eq n name) names k [] low ∙ ap (λ b. b || bytes_eq (get_or names k []) name) before ∙ other

pub absent_next : (names : List (List ℕ)) (k : ℕ) (name : List ℕ) → k < length names → bytes_eq (get_or names k []) name ≡ false
    → is_among name (drop k names) ≡ is_among name (drop (k + 1) names)
absent_next names k name low other =
    ap (is_among name) (drop_more names k [] low) ∙ ap (λ b. b || is_among name (drop (k + 1) names)) other

abbrev pub refused_at : List (List ℕ) → ℕ → Option SeatingError
refused_at names k = double_station names k (get_or names k [])

pub double_step : (names : List (List ℕ)) (k : ℕ) → k < length names
    → first_at (double_station names) k (drop k names) ≡ or_else (refused_at names k) (first_at (double_station names) (k + 1) (drop (k + 1) names))
double_step names k low = ap (first_at (double_station names) k) (drop_more names k [] low)

pub double_here : (names : List (List ℕ)) (k : ℕ) → k < length names → is_among (get_or names k []) (take k names) ≡ true
    → first_at (double_station names) k (drop k names) ≡ Some (DoubleStation k)
double_here names k low here =
    double_step names k low
    ∙ ap (λ b. or_else (refused_if b (DoubleStation k)) (first_at (double_station names) (k + 1) (drop (k + 1) names))) here

pub double_next : (names : List (List ℕ)) (k : ℕ) → k < length names → is_among (get_or names k []) (take k names) ≡ false
    → first_at (double_station names) k (drop k names) ≡ first_at (double_station names) (k + 1) (drop (k + 1) names)
double_next names k low absent =
    double_step names k low
    ∙ ap (λ b. or_else (refused_if b (DoubleStation k)) (first_at (double_station names) (k + 1) (drop (k + 1) names))) absent

-- a test that passed refused nothing
pub passed : (r : Result (Unit {0}) SeatingError) (t : Option SeatingError) → r ≡ refused t → r ≡ Ok tt → t ≡ None
passed r None is ok = refl
passed r (Some e) is ok = absurd (cc)
