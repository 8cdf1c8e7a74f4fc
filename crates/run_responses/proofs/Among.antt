-- Transactions among others, and found under their ids.
-- for: sink::Responses, sink::are_given
use Rattle.std.proofs.Common.{◌≡◌, ◌⊎◌, ℕ, Bool, true, false, cond, List, [], ◌∷◌, ◌++◌, length, map, Some, refl, sym, ap, subst, ◌∙◌, inl, inr}
use Rattle.std.proofs.Common.{append_assoc}
use Rattle.std.specs.Prelude.{slice_get, ◌&&◌}
use Rattle.std.specs.Ordering.{is_lt, nat_cmp}
use Rattle.std.specs.declared.cmp.Ordering.{Ordering}
use Rattle.std.specs.declared.cmp.Ordering.TheVariants.{Less, Equal, Greater}
use Rattle.std.specs.Ordering.{match_ordering}
use Rattle.std.specs.Map.{keys_of}
use Rattle.std.specs.BTreeMap.{insert_entry}
use Rattle.std.specs.List.Sorted.{IsStrictlySortedBy}
use Rattle.std.proofs.lemmas.Cmp.{eq_by_cmp_equiv, nat_cmp_total}
use Rattle.std.proofs.lemmas.Map.Entries.{lookup_from_place}
use Rattle.std.proofs.lemmas.Map.Keys.{IsDistinct-from_sorted}
use Rattle.std.proofs.lemmas.Map.Lookups.{exact_unsigned}
use Rattle.sw_context.specs.Pairs.{Pairs}
use Rattle.tx_plant.specs.Core.{find}
use Rattle.run_responses.specs.Responses.{above}
use Rattle.run_responses.specs.Giving.{AreAmong, AreFound, IsAmong}

-- ---- among more

pub is_left : (e : ℕ × Pairs) (xs ys : List (ℕ × Pairs)) → IsAmong e xs → IsAmong e (xs ++ ys)
is_left e xs ys (before, after, is) = (before, after ++ ys, rw is (append_assoc before (e ∷ after) ys))

pub is_right : (e : ℕ × Pairs) (xs ys : List (ℕ × Pairs)) → IsAmong e ys → IsAmong e (xs ++ ys)
is_right e xs ys (before, after, is) = (xs ++ before, after, rw is (sym (append_assoc xs before (e ∷ after))))

pub is_first : (e : ℕ × Pairs) (xs : List (ℕ × Pairs)) → IsAmong e (e ∷ xs)
is_first e xs = ([], xs, refl)

pub is_later : (e x : ℕ × Pairs) (xs : List (ℕ × Pairs)) → IsAmong e xs → IsAmong e (x ∷ xs)
is_later e x xs h = is_right e (x ∷ []) xs h

-- what is among a list is its first, or among the others
pub first_or_later : (e x : ℕ × Pairs) (xs : List (ℕ × Pairs)) → IsAmong e (x ∷ xs) → (e ≡ x) ⊎ IsAmong e xs
first_or_later e x xs ([], after, is) = inl (cc)
first_or_later e x xs (b ∷ before, after, is) = inr (before, after, cc)

pub are_left : (es xs ys : List (ℕ × Pairs)) → AreAmong es xs → AreAmong es (xs ++ ys)
are_left [] xs ys h = tt
are_left (e ∷ es) xs ys (here, rest) = (is_left e xs ys here, are_left es xs ys rest)

pub are_right : (es xs ys : List (ℕ × Pairs)) → AreAmong es ys → AreAmong es (xs ++ ys)
are_right [] xs ys h = tt
are_right (e ∷ es) xs ys (here, rest) = (is_right e xs ys here, are_right es xs ys rest)

pub are_later : (es : List (ℕ × Pairs)) (x : ℕ × Pairs) (xs : List (ℕ × Pairs)) → AreAmong es xs → AreAmong es (x ∷ xs)
are_later es x xs h = are_right es (x ∷ []) xs h

pub are_all : (es : List (ℕ × Pairs)) → AreAmong es es
are_all [] = tt
are_all (e ∷ es) = (is_first e es, are_later es e es (are_all es))

-- one of them is one of those
pub one_of : (e : ℕ × Pairs) (es xs : List (ℕ × Pairs)) → AreAmong es xs → IsAmong e es → IsAmong e xs
one_of e [] xs h ([], after, is) = absurd (cc)
one_of e [] xs h (b ∷ before, after, is) = absurd (cc)
one_of e (f ∷ es) xs (here, rest) is =
    elim (first_or_later e f es is) [ inl same ↦ subst (λ z. IsAmong z xs) (sym same) here | inr later ↦ one_of e es xs rest later ]

pub are_through : (es xs ys : List (ℕ × Pairs)) → AreAmong es xs → AreAmong xs ys → AreAmong es ys
are_through [] xs ys h k = tt
are_through (e ∷ es) xs ys (here, rest) k = (one_of e xs ys k here, are_through es xs ys rest k)

pub are_both : (ps qs xs : List (ℕ × Pairs)) → AreAmong ps xs → AreAmong qs xs → AreAmong (ps ++ qs) xs
are_both [] qs xs h k = k
are_both (a ∷ ps) qs xs (here, rest) k = (here, are_both ps qs xs rest k)

-- ---- an entry more in a map

-- an insertion keeps the others, and adds this one
pub inserted : (es : List (ℕ × Pairs)) (id : ℕ) (x : Pairs) → AreAmong (insert_entry nat_cmp es id x) (es ++ (id, x) ∷ [])
inserted [] id x = (is_first (id, x) [], tt)
inserted (e ∷ es) id x = by_order (nat_cmp id e.0) refl (inserted es id x) where
  by_order : (r : Ordering) → nat_cmp id e.0 ≡ r → AreAmong (insert_entry nat_cmp es id x) (es ++ (id, x) ∷ []) →
      AreAmong (match_ordering r ((id, x) ∷ e ∷ es) ((e.0, x) ∷ es) (e ∷ insert_entry nat_cmp es id x)) (e ∷ es ++ (id, x) ∷ [])
  by_order Less is more = (is_right (id, x) (e ∷ es) ((id, x) ∷ []) (is_first (id, x) []), are_left (e ∷ es) (e ∷ es) ((id, x) ∷ []) (are_all (e ∷ es)))
  by_order Equal is more =
      let same : id ≡ e.0 = exact_unsigned id e.0 is in
      let here : IsAmong (id, x) (e ∷ es ++ (id, x) ∷ []) = is_right (id, x) (e ∷ es) ((id, x) ∷ []) (is_first (id, x) []) in (
        subst (λ (n : ℕ). IsAmong (n, x) (e ∷ es ++ (id, x) ∷ [])) same here,
        are_later es e (es ++ (id, x) ∷ []) (are_left es es ((id, x) ∷ []) (are_all es)),
      )
  by_order Greater is more = (is_first e (es ++ (id, x) ∷ []), are_later (insert_entry nat_cmp es id x) e (es ++ (id, x) ∷ []) more)

-- ---- found under their ids

pub one_found : (ended : List (ℕ × Pairs)) (e : ℕ × Pairs) (all : List (ℕ × Pairs)) → AreFound ended all → IsAmong e all → find e.0 ended ≡ Some e.1
one_found ended e [] h ([], after, is) = absurd (cc)
one_found ended e [] h (b ∷ before, after, is) = absurd (cc)
one_found ended e (f ∷ all) (here, rest) is =
    elim (first_or_later e f all is) [
      | inl same ↦ subst (λ (z : ℕ × Pairs). find z.0 ended ≡ Some z.1) (sym same) here
      | inr later ↦ one_found ended e all rest later
    ]

place_of : (before : List (ℕ × Pairs)) (e : ℕ × Pairs) (after : List (ℕ × Pairs)) → slice_get (before ++ e ∷ after) (length before) ≡ Some e
place_of [] e after = refl
place_of (b ∷ before) e after = place_of before e after

-- in a map each is found
pub found_in_map : (ended : List (ℕ × Pairs)) (e : ℕ × Pairs) → IsStrictlySortedBy nat_cmp (keys_of ended) → IsAmong e ended → find e.0 ended ≡ Some e.1
found_in_map ended e sorted (before, after, is) =
    lookup_from_place (eq_by_cmp_equiv nat_cmp_total) ended (length before) e.0 e.1 (IsDistinct-from_sorted nat_cmp (keys_of ended) sorted)
    (subst (λ es. slice_get es (length before) ≡ Some e) (sym is) (place_of before e after))

pub all_found : (ended es : List (ℕ × Pairs)) → IsStrictlySortedBy nat_cmp (keys_of ended) → AreAmong es ended → AreFound ended es
all_found ended [] sorted h = tt
all_found ended (e ∷ es) sorted (here, rest) = (found_in_map ended e sorted here, all_found ended es sorted rest)

-- those above an id are among all
pub above_among : (id : ℕ) (es : List (ℕ × Pairs)) → AreAmong (above id es) es
above_among id [] = tt
above_among id (e ∷ es) = either (is_lt (nat_cmp id e.0)) (above_among id es) where
  either : (b : Bool) → AreAmong (above id es) es → AreAmong (cond (b && true) (e ∷ above id es) (above id es)) (e ∷ es)
  either true more = (is_first e es, are_later (above id es) e es more)
  either false more = are_later (above id es) e es more

-- what is found under the same ids is the same
pub same_found : (ended ps qs : List (ℕ × Pairs)) → map (λ e. e.0) ps ≡ map (λ e. e.0) qs → AreFound ended ps → AreFound ended qs → ps ≡ qs
same_found ended [] [] ids h k = refl
same_found ended [] (b ∷ qs) ids h k = absurd (cc)
same_found ended (a ∷ ps) [] ids h k = absurd (cc)
same_found ended ((i, x) ∷ ps) ((j, y) ∷ qs) ids (here, h) (there, k) =
    let id : i ≡ j = cc in
    let rest : ps ≡ qs = same_found ended ps qs (cc) h k in
    let one : Some x ≡ Some y = sym here ∙ ap (λ n. find n ended) id ∙ there in
    let context : x ≡ y = cc in
    cc

-- one function after another, at each
pub map_twice : {A B C : Type 0} (f : A → B) (g : B → C) (xs : List A) → map g (map f xs) ≡ map (λ x. g (f x)) xs
map_twice f g [] = refl
map_twice f g (x ∷ xs) = ap (λ l. g (f x) ∷ l) (map_twice f g xs)
