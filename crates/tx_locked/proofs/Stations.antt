-- What the comparisons make of what came out of the locks.
-- for: comparing::are_there, moving, ending::conclude
use Rattle.std.proofs.Common.{◌≡◌, ◌⊎◌, ◌<◌, ◌≤◌, ◌==◌, ℕ, zero, suc, false, List, [], ◌∷◌, ◌++◌, length, map, get_or, Option, Some, None}
use Rattle.std.proofs.Common.{refl, sym, ap, subst}
use Rattle.std.proofs.Common.{arith, ◌∙◌, inl, inr}
use Rattle.std.specs.Prelude.{slice_get}
use Rattle.std.proofs.lemmas.Bool.Decides.{nat_tests}
use Rattle.std.proofs.lemmas.List.{get_or_past, length-map}
use Rattle.std.proofs.lemmas.List.Elements.{filter-append}
use Rattle.sw_participant.specs.Chains.{Rule}
use Rattle.tx_locked.specs.declared.station.MadeCall.{MadeCall}
use Rattle.tx_locked.specs.Linked.{Linked, count_up}
use Rattle.tx_locked.specs.AllStations.{AllBack, AllLinked, AllThere, AreCalls, AreReady, IsReady, calls_at, is_at}
use Rattle.tx_locked.proofs.Calls.{one_out}
use Rattle.sw_base.proofs.Lists.{get_last}

pub there_more : (n : ℕ) (ms : List MadeCall) (m : MadeCall) → AllThere n ms → m.call.participant < n → AllThere n (ms ++ m ∷ [])
there_more n [] m a h = (h, tt)
there_more n (x ∷ ms) m (b, a) h = (b, there_more n ms m a h)

-- one more station

get_end : {A : Type 0} (xs : List A) (x y : A) (k : ℕ) → slice_get (xs ++ x ∷ []) k ≡ Some y → (slice_get xs k ≡ Some y) ⊎ ((k ≡ length xs) × (x ≡ y))
get_end [] x y zero h = let e : x ≡ y = cc in inr (refl, e)
get_end [] x y (suc k) h = absurd (cc)
get_end (z ∷ xs) x y zero h = inl h
get_end (z ∷ xs) x y (suc k) h = up (get_end xs x y k h) where
  up : (slice_get xs k ≡ Some y) ⊎ ((k ≡ length xs) × (x ≡ y)) → (slice_get xs k ≡ Some y) ⊎ ((suc k ≡ suc (length xs)) × (x ≡ y))
  up (inl a) = inl a
  up (inr (a, b)) = inr (ap suc a, b)

pub get_below : {A : Type 0} (xs : List A) (y : A) (k : ℕ) → slice_get xs k ≡ Some y → k < length xs
get_below [] y k h = absurd (cc)
get_below (x ∷ xs) y zero h = omega arith
get_below (x ∷ xs) y (suc k) h = let i = get_below xs y k h in omega (arith, i)

pub both_push : {S L : Type 0} (P : ℕ → S → L → Type 0) (ss ts : List S) (ls ms : List L) (s0 : S) (l0 : L) → length ls ≡ length ss →
    ((k : ℕ) (s : S) (l : L) → slice_get ss k ≡ Some s → slice_get ls k ≡ Some l → P k s l) → P (length ss) s0 l0 → ts ≡ ss ++ s0 ∷ [] → ms ≡ ls ++ l0 ∷ []
    → (k : ℕ) (s : S) (l : L) → slice_get ts k ≡ Some s → slice_get ms k ≡ Some l → P k s l
both_push {S} {L} P ss ts ls ms s0 l0 long before here e f k s l at by =
    each (get_end ss s0 s k (ap (λ z. slice_get z k) (sym e) ∙ at)) (get_end ls l0 l k (ap (λ z. slice_get z k) (sym f) ∙ by))
  where
    each : (slice_get ss k ≡ Some s) ⊎ ((k ≡ length ss) × (s0 ≡ s)) → (slice_get ls k ≡ Some l) ⊎ ((k ≡ length ls) × (l0 ≡ l)) → P k s l
    each (inl a) (inl b) = before k s l a b
    each (inl a) (inr (i, b)) = let h = get_below ss s k a in absurd (omega (arith, h, i, long))
    each (inr (i, a)) (inl b) = let h = get_below ls l k b in absurd (omega (arith, h, i, long))
    each (inr (i, a)) (inr (j, b)) = subst (λ z. P z s l) (sym i) (subst (λ z. P (length ss) z l) a (subst (λ z. P (length ss) s0 z) b here))

-- all stations

none_there : (n k : ℕ) (ms : List MadeCall) → n ≤ k → AllThere n ms → calls_at k ms ≡ []
none_there n k [] h a = refl
none_there n k (m ∷ ms) h (b, a) =
    let e : (m.call.participant == k) ≡ false = grind (arith, nat_tests, h, b) in
    filter-append (is_at k) (m ∷ []) ms ∙ (ap (λ z. z ++ calls_at k ms) (one_out k m e) ∙ none_there n k ms h a)

get_map : {S A : Type 0} (f : S → A) (d : A) (ss : List S) (k : ℕ) (s : S) → slice_get ss k ≡ Some s → get_or (map f ss) k d ≡ f s
get_map f d [] k s h = absurd (cc)
get_map f d (x ∷ ss) zero s h = let e : x ≡ s = cc in ap f e
get_map f d (x ∷ ss) (suc k) s h = get_map f d ss k s h

none_past : {A : Type 0} (xs : List A) (k : ℕ) → slice_get xs k ≡ None → length xs ≤ k
none_past [] k h = omega arith
none_past (x ∷ xs) zero h = absurd (cc)
none_past (x ∷ xs) (suc k) h = let i = none_past xs k h in omega (arith, i)

pub linked_by : {S L : Type 0} (rule : ℕ → Rule) (os : List (List ℕ)) (cs : List ℕ) (ns : List (List ℕ)) (object : S → List ℕ) (count : S → ℕ) (name : S →
    List ℕ) (calls : L → List MadeCall) (ss : List S) (ls : List L) (ms : List MadeCall) → length cs ≡ length os →
    AllBack rule os cs ns object count name calls ss ls → AreCalls calls ms ls → AllLinked rule os cs ms (map object ss) (map count ss)
linked_by {S} {L} rule os cs ns object count name calls ss ls ms c a b = record {
  long = length-map ss object ∙ a.long;
  counted = length-map ss count ∙ a.long;
  there = subst (λ z. AllThere z ms) (a.logged ∙ a.long) b.there;
  linked = λ k. each k (slice_get ss k) refl (slice_get ls k) refl;
  counts = λ k. count_of k (slice_get ss k) refl (slice_get ls k) refl;
}
  where
    none_at : (k : ℕ) → slice_get ss k ≡ None → calls_at k ms ≡ []
    none_at k at = let h = none_past ss k at in none_there (length ls) k ms (omega (arith, h, a.logged)) b.there

    each : (k : ℕ) (s : Option S) → slice_get ss k ≡ s → (l : Option L) → slice_get ls k ≡ l →
        Linked (rule k) (get_or os k []) (calls_at k ms) (get_or (map object ss) k [])
    each k (Some s) at (Some l) by = subst (λ z. Linked (rule k) (get_or os k []) z (get_or (map object ss) k [])) (sym (b.own k l by))
        (subst (λ z. Linked (rule k) (get_or os k []) (calls l) z) (sym (get_map object [] ss k s at)) (a.each k s l at by).linked)
    each k (Some s) at None by = let h = get_below ss s k at in let i = none_past ls k by in absurd (omega (arith, h, i, a.logged))
    each k None at l by =
        let h = none_past ss k at in
        let j : length os ≤ k = omega (arith, h, a.long) in
        let m : length (map object ss) ≤ k = omega (arith, h, length-map ss object) in
        subst (λ z. Linked (rule k) (get_or os k []) z (get_or (map object ss) k [])) (sym (none_at k at))
        (get_or_past (map object ss) k [] m ∙ sym (get_or_past os k [] j))

    count_of : (k : ℕ) (s : Option S) → slice_get ss k ≡ s → (l : Option L) → slice_get ls k ≡ l →
        get_or (map count ss) k 0 ≡ count_up (get_or cs k 0) (calls_at k ms)
    count_of k (Some s) at (Some l) by = get_map count 0 ss k s at ∙ ((a.each k s l at by).counts ∙ ap (count_up (get_or cs k 0)) (sym (b.own k l by)))
    count_of k (Some s) at None by = let h = get_below ss s k at in let i = none_past ls k by in absurd (omega (arith, h, i, a.logged))
    count_of k None at l by =
        let h = none_past ss k at in
        let j : length cs ≤ k = omega (arith, h, a.long, c) in
        let m : length (map count ss) ≤ k = omega (arith, h, length-map ss count) in
        get_or_past (map count ss) k 0 m ∙ (sym (get_or_past cs k 0 j) ∙ ap (count_up (get_or cs k 0)) (sym (none_at k at)))

same_names : (ns ms : List (List ℕ)) → length ms ≡ length ns → ((k : ℕ) → get_or ms k [] ≡ get_or ns k []) → ms ≡ ns
same_names [] [] h e = refl
same_names [] (m ∷ ms) h e = absurd (omega (arith, h))
same_names (n ∷ ns) [] h e = absurd (omega (arith, h))
same_names (n ∷ ns) (m ∷ ms) h e = let h1 : length ms ≡ length ns = omega (arith, h) in
    ap (λ z. z ∷ ms) (e 0) ∙ ap (λ z. n ∷ z) (same_names ns ms h1 (λ k. e (suc k)))

pub names_back : {S L : Type 0} (rule : ℕ → Rule) (os : List (List ℕ)) (cs : List ℕ) (ns : List (List ℕ)) (object : S → List ℕ) (count : S → ℕ) (name : S →
    List ℕ) (calls : L → List MadeCall) (ss : List S) (ls : List L) → length ns ≡ length os → AllBack rule os cs ns object count name calls ss ls →
    map name ss ≡ ns
names_back {S} {L} rule os cs ns object count name calls ss ls n a =
    same_names ns (map name ss) (length-map ss name ∙ (a.long ∙ sym n)) (λ k. each k (slice_get ss k) refl (slice_get ls k) refl)
  where
    each : (k : ℕ) (s : Option S) → slice_get ss k ≡ s → (l : Option L) → slice_get ls k ≡ l → get_or (map name ss) k [] ≡ get_or ns k []
    each k (Some s) at (Some l) by = get_map name [] ss k s at ∙ (a.each k s l at by).named
    each k (Some s) at None by = let h = get_below ss s k at in let i = none_past ls k by in absurd (omega (arith, h, i, a.logged))
    each k None at l by =
        let h = none_past ss k at in
        let j : length ns ≤ k = omega (arith, h, a.long, n) in
        let m : length (map name ss) ≤ k = omega (arith, h, length-map ss name) in
        get_or_past (map name ss) k [] m ∙ sym (get_or_past ns k [] j)

-- the last station, and those before it

get_more : {A : Type 0} (xs : List A) (x y : A) (k : ℕ) → slice_get xs k ≡ Some y → slice_get (xs ++ x ∷ []) k ≡ Some y
get_more [] x y k h = absurd (cc)
get_more (z ∷ xs) x y zero h = h
get_more (z ∷ xs) x y (suc k) h = get_more xs x y k h

pub ready_last : {S : Type 0} (rule : ℕ → Rule) (os : List (List ℕ)) (cs : List ℕ) (ns : List (List ℕ)) (own : S → Rule) (object : S → List ℕ) (count : S →
    ℕ) (name : S → List ℕ) (ss ts : List S) (s : S) (n : ℕ) → AreReady rule os cs ns own object count name ts → ts ≡ ss ++ s ∷ [] → length ss ≡ n →
    IsReady (rule n) (own s) (get_or os n []) (object s) (get_or cs n 0) (count s) (get_or ns n []) (name s)
ready_last {S} rule os cs ns own object count name ss ts s n r e f =
    subst (λ z. IsReady (rule z) (own s) (get_or os z []) (object s) (get_or cs z 0) (count s) (get_or ns z []) (name s)) f
    (r (length ss) s (ap (λ z. slice_get z (length ss)) e ∙ get_last ss s))

pub ready_less : {S : Type 0} (rule : ℕ → Rule) (os : List (List ℕ)) (cs : List ℕ) (ns : List (List ℕ)) (own : S → Rule) (object : S → List ℕ) (count : S →
    ℕ) (name : S → List ℕ) (ss ts : List S) (s : S) → AreReady rule os cs ns own object count name ts → ts ≡ ss ++ s ∷ [] →
    AreReady rule os cs ns own object count name ss
ready_less {S} rule os cs ns own object count name ss ts s r e = λ k x h. r k x (ap (λ z. slice_get z k) e ∙ get_more ss s x k h)
