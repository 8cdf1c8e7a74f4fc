-- Keys by deadline and number: one put, one taken out, and those that are due.
-- for: mux::Mux::request, mux::Mux::take, mux::Mux::due
use Rattle.std.proofs.Common.{◌≡◌, ℕ, ◌+◌, ◌<◌, ◌≤◌, Bool, true, false, cond, nat_le, not, ◌&&◌, ◌||◌, le-leb, leb-true, slice_index_or, nat_cmp, is_eq, is_gt}
use Rattle.std.proofs.Common.{Ordering, Less, Equal, Greater, List, [], ◌∷◌, map, filter, Option, Some, None, is_some, unwrap_or, true≢false, refl, sym, ap}
use Rattle.std.proofs.Common.{subst, ◌∙◌, arith}
use Rattle.std.specs.BTreeMap.{BTreeMap, is_at, get, IsFromIterResult}
use Rattle.std.specs.BTreeMap.Range.{IsEntryInRange, range_contains}
use Rattle.std.specs.Cmp.{nat_cmp_is, ranks, ranked, nat_cmp_total}
use Rattle.std.specs.List.{All, AllByRecursion}
use Rattle.std.specs.List.Sorted.{IsStrictlySortedBy}
use Rattle.std.specs.Map.{lookup, keys_of, values_of, update_all}
use Rattle.std.specs.Option.{IfSome}
use Rattle.std.specs.Ordering.{eq_by_cmp, ordering_then, is_lt, MatchOrdering}
use Rattle.std.specs.Set.{is_member}
use Rattle.std.specs.declared.ops.Bound.TheVariants.{Included, Unbounded}
use Rattle.std.proofs.lemmas.Cmp.{eq_by_cmp_equiv}
use Rattle.std.proofs.lemmas.List.Elements.{All-map}
use Rattle.std.proofs.lemmas.Map.Lookups.{exact_unsigned}
use Rattle.std.proofs.lemmas.Map.Made.{is_some-update_all, IfSome-update_all}
use Rattle.sw_mux.specs.declared.key.Key.{Key}
use Rattle.sw_mux.specs.Waiting.{due, is_due}
use Rattle.sw_mux.specs.Numbered.{Numbered, Rise, pair_cmp, request_at, key_by, number_of, key_eq}
use Rattle.sw_mux.specs.Times.{Timed, until, by_number}
use Rattle.sw_mux.proofs.Numbers.{rise_reaches}
use Rattle.std.proofs.lemmas.Bool.{or_right}

abbrev pub no_key : Option Key
no_key = None

abbrev pub no_request : Option (Key × ℕ)
no_request = None

-- a choice before and after a key is read
spread : (d : ℕ) (c : Bool) (r s : Option (Key × ℕ)) → cond c (key_by d r) (key_by d s) ≡ key_by d (cond c r s)
spread d true r s = refl
spread d false r s = refl

-- one more is put
pub timed_put : (d n : ℕ) (k : Key) (q : ℕ × ℕ) (r : Option (Key × ℕ)) → (is_eq (nat_cmp n q.1) ≡ true → r ≡ None)
    → cond (is_eq (pair_cmp (d, n) q)) (Some k) (key_by q.0 r) ≡ key_by q.0 (cond (is_eq (nat_cmp n q.1)) (Some (k, d)) r)
timed_put d n k q r none = by (nat_cmp d q.0) (nat_cmp n q.1) none ∙ spread q.0 (is_eq (nat_cmp n q.1)) (Some (k, d)) r
  where
    by : (a b : Ordering) → (is_eq b ≡ true → r ≡ None)
        → cond (is_eq (ordering_then a b)) (Some k) (key_by q.0 r) ≡ cond (is_eq b) (cond (is_eq a) (Some k) no_key) (key_by q.0 r)
    by Less Less none = refl
    by Less Equal none = ap (key_by q.0) (none refl)
    by Less Greater none = refl
    by Equal Less none = refl
    by Equal Equal none = refl
    by Equal Greater none = refl
    by Greater Less none = refl
    by Greater Equal none = ap (key_by q.0) (none refl)
    by Greater Greater none = refl

-- one is taken out
pub timed_out : (d n : ℕ) (k : Key) (q : ℕ × ℕ) (r : Option (Key × ℕ)) → (is_eq (nat_cmp n q.1) ≡ true → r ≡ Some (k, d))
    → cond (is_eq (pair_cmp (d, n) q)) no_key (key_by q.0 r) ≡ key_by q.0 (cond (is_eq (nat_cmp n q.1)) no_request r)
timed_out d n k q r is = by (nat_cmp d q.0) refl (nat_cmp n q.1) is ∙ spread q.0 (is_eq (nat_cmp n q.1)) no_request r
  where
    other : (a : Ordering) → nat_cmp d q.0 ≡ a → is_eq a ≡ false → r ≡ Some (k, d) → key_by q.0 r ≡ no_key
    other a e f h = ap (key_by q.0) h ∙ ap (λ z. cond (is_eq z) (Some k) no_key) e ∙ ap (λ z. cond z (Some k) no_key) f

    by : (a : Ordering) → nat_cmp d q.0 ≡ a → (b : Ordering) → (is_eq b ≡ true → r ≡ Some (k, d))
        → cond (is_eq (ordering_then a b)) no_key (key_by q.0 r) ≡ cond (is_eq b) no_key (key_by q.0 r)
    by Less e Less is = refl
    by Less e Equal is = other Less e refl (is refl)
    by Less e Greater is = refl
    by Equal e Less is = refl
    by Equal e Equal is = refl
    by Equal e Greater is = refl
    by Greater e Less is = refl
    by Greater e Equal is = other Greater e refl (is refl)
    by Greater e Greater is = refl

-- put and taken out again: as before
pub timed_back : (d n : ℕ) (k : Key) (q : ℕ × ℕ) (r : Option (Key × ℕ)) → (is_eq (nat_cmp n q.1) ≡ true → r ≡ None)
    → cond (is_eq (pair_cmp (d, n) q)) no_key (cond (is_eq (pair_cmp (d, n) q)) (Some k) (key_by q.0 r)) ≡ key_by q.0 r
timed_back d n k q r none = by (nat_cmp d q.0) (nat_cmp n q.1) none
  where
    by : (a b : Ordering) → (is_eq b ≡ true → r ≡ None)
        → cond (is_eq (ordering_then a b)) no_key (cond (is_eq (ordering_then a b)) (Some k) (key_by q.0 r)) ≡ key_by q.0 r
    by Less b none = refl
    by Equal Less none = refl
    by Equal Equal none = sym (ap (key_by q.0) (none refl))
    by Equal Greater none = refl
    by Greater b none = refl

equal : (o : Ordering) → is_eq o ≡ true → o ≡ Equal
equal Less h = absurd cc
equal Equal h = refl
equal Greater h = absurd cc

pub one_number : (n m : ℕ) → is_eq (nat_cmp n m) ≡ true → n ≡ m
one_number n m h = exact_unsigned n m (equal (nat_cmp n m) h)

-- the next number has no request yet
pub none_next : (low n : ℕ) (es : Numbered) → Rise low es n → request_at n es ≡ None
none_next low n [] r = refl
none_next low n (e ∷ es) r =
    let above : e.0 + 1 ≤ n = rise_reaches (e.0 + 1) n es r.1 in
    ap (λ o. cond (is_eq o) (Some e.1) (request_at n es)) (sym (nat_cmp_is n e.0 Greater (omega (arith, above))))
    ∙ none_next (e.0 + 1) n es r.1

pub none_at : (n m : ℕ) (es : Numbered) → Rise 0 es n → is_eq (nat_cmp n m) ≡ true → request_at m es ≡ None
none_at n m es r h = ap (λ z. request_at z es) (sym (one_number n m h)) ∙ none_next 0 n es r

pub same_at : (n m : ℕ) (v : Key × ℕ) (es : Numbered) → request_at n es ≡ Some v → is_eq (nat_cmp n m) ≡ true → request_at m es ≡ Some v
same_at n m v es is h = ap (λ z. request_at z es) (sym (one_number n m h)) ∙ is

-- no request has a number below the first
none_low : (q low next : ℕ) (es : Numbered) → q < low → Rise low es next → request_at q es ≡ None
none_low q low next [] h r = refl
none_low q low next (e ∷ es) h r =
    ap (λ o. cond (is_eq o) (Some e.1) (request_at q es)) (sym (nat_cmp_is q e.0 Less (omega (arith, h, r.0))))
    ∙ none_low q (e.0 + 1) next es (omega (arith, h, r.0)) r.1

-- the number of a key has a request
pub has_request : (k : Key) (n : ℕ) (es : Numbered) → number_of k es ≡ Some n → is_some (request_at n es) ≡ true
has_request k n [] h = absurd cc
has_request k n (e ∷ es) h = by (key_eq e.1.0 k) (has_request k n es) h
  where
    or_later : (o : Ordering) → is_some (request_at n es) ≡ true → is_some (cond (is_eq o) (Some e.1) (request_at n es)) ≡ true
    or_later Less h = h
    or_later Equal h = refl
    or_later Greater h = h

    by : (b : Bool) → (number_of k es ≡ Some n → is_some (request_at n es) ≡ true) → cond b (Some e.0) (number_of k es) ≡ Some n
        → is_some (cond (is_eq (nat_cmp n e.0)) (Some e.1) (request_at n es)) ≡ true
    by true go h =
        let same : n ≡ e.0 = sym (ap (λ o. unwrap_or o 0) h) in
        ap (λ o. is_some (cond (is_eq o) (Some e.1) (request_at n es))) (sym (nat_cmp_is n e.0 Equal same))
    by false go h = or_later (nat_cmp n e.0) (go h)

-- the key of a request that is due
abbrev due_at : ℕ → Option (Key × ℕ) → Option Key
due_at tick None = None
due_at tick (Some v) = cond (nat_le v.1 tick) (Some v.0) None

-- what is due, under its numbers
abbrev due_entries : ℕ → Numbered → List (ℕ × Key)
due_entries tick [] = []
due_entries tick (e ∷ es) = cond (nat_le e.1.1 tick) ((e.0, e.1.0) ∷ due_entries tick es) (due_entries tick es)

spread_due : (tick : ℕ) (c : Bool) (r s : Option (Key × ℕ)) → cond c (due_at tick r) (due_at tick s) ≡ due_at tick (cond c r s)
spread_due tick true r s = refl
spread_due tick false r s = refl

found_due : (tick q low next : ℕ) (es : Numbered) → Rise low es next → lookup (is_at (nat_cmp q)) (due_entries tick es) ≡ due_at tick (request_at q es)
found_due tick q low next [] r = refl
found_due tick q low next (e ∷ es) r =
    by (nat_cmp q e.0) refl (nat_le e.1.1 tick) (found_due tick q (e.0 + 1) next es r.1)
    ∙ spread_due tick (is_eq (nat_cmp q e.0)) (Some e.1) (request_at q es)
  where
    gone : nat_cmp q e.0 ≡ Equal → request_at q es ≡ None
    gone h = let same : q ≡ e.0 = exact_unsigned q e.0 h in none_low q (e.0 + 1) next es (omega (arith, same)) r.1

    by : (o : Ordering) → nat_cmp q e.0 ≡ o → (b : Bool) → lookup (is_at (nat_cmp q)) (due_entries tick es) ≡ due_at tick (request_at q es)
        → lookup (is_at (nat_cmp q)) (cond b ((e.0, e.1.0) ∷ due_entries tick es) (due_entries tick es))
        ≡ cond (is_eq o) (cond b (Some e.1.0) no_key) (due_at tick (request_at q es))
    by Less h true go = ap (λ z. cond (is_eq z) (Some e.1.0) (lookup (is_at (nat_cmp q)) (due_entries tick es))) h ∙ go
    by Less h false go = go
    by Equal h true go = ap (λ z. cond (is_eq z) (Some e.1.0) (lookup (is_at (nat_cmp q)) (due_entries tick es))) h
    by Equal h false go = go ∙ ap (due_at tick) (gone h)
    by Greater h true go = ap (λ z. cond (is_eq z) (Some e.1.0) (lookup (is_at (nat_cmp q)) (due_entries tick es))) h ∙ go
    by Greater h false go = go

-- entries whose keys rise, from low on
abbrev Up : ℕ → List (ℕ × Key) → Type 0
Up low [] = Unit {0}
Up low (e ∷ es) = (low ≤ e.0) × Up (e.0 + 1) es

up_lower : (low high : ℕ) (es : List (ℕ × Key)) → low ≤ high → Up high es → Up low es
up_lower low high [] h u = tt
up_lower low high (e ∷ es) h u = (omega (arith, h, u.0), u.1)

up_due : (low next tick : ℕ) (es : Numbered) → Rise low es next → Up low (due_entries tick es)
up_due low next tick [] r = tt
up_due low next tick (e ∷ es) r = by (nat_le e.1.1 tick) (up_due (e.0 + 1) next tick es r.1)
  where
    by : (b : Bool) → Up (e.0 + 1) (due_entries tick es) → Up low (cond b ((e.0, e.1.0) ∷ due_entries tick es) (due_entries tick es))
    by true go = (r.0, go)
    by false go = up_lower low (e.0 + 1) (due_entries tick es) (omega (arith, r.0)) go

past : (x : ℕ) (ks : List ℕ) → AllByRecursion (λ y. nat_cmp x y ≡ Less) ks → AllByRecursion (λ y. x + 1 ≤ y) ks
past x [] a = tt
past x (k ∷ ks) a = (let l : x < k = ranked x k Less (sym a.0) in omega (arith, l), past x ks a.1)

up_sorted : (low : ℕ) (es : List (ℕ × Key)) → AllByRecursion (λ y. low ≤ y) (keys_of es) → IsStrictlySortedBy nat_cmp (keys_of es) → Up low es
unfolding IsStrictlySortedBy
up_sorted low [] a s = tt
up_sorted low (e ∷ es) a s = (a.0, up_sorted (e.0 + 1) es (past e.0 (keys_of es) s.0) s.1)

from_zero : (ks : List ℕ) → AllByRecursion (λ y. 0 ≤ y) ks
from_zero [] = tt
from_zero (k ∷ ks) = (omega arith, from_zero ks)

abbrev find : ℕ → List (ℕ × Key) → Option Key
find q es = lookup (is_at (nat_cmp q)) es

none_under : (q low : ℕ) (es : List (ℕ × Key)) → q < low → Up low es → find q es ≡ None
none_under q low [] h u = refl
none_under q low (e ∷ es) h u =
    ap (λ o. cond (is_eq o) (Some e.1) (find q es)) (sym (nat_cmp_is q e.0 Less (omega (arith, h, u.0))))
    ∙ none_under q (e.0 + 1) es (omega (arith, h, u.0)) u.1

at_head : (q : ℕ) (e : ℕ × Key) (es : List (ℕ × Key)) → q ≡ e.0 → find q (e ∷ es) ≡ Some e.1
at_head q e es h = ap (λ o. cond (is_eq o) (Some e.1) (find q es)) (sym (nat_cmp_is q e.0 Equal h))

find_past : (q : ℕ) (e : ℕ × Key) (es : List (ℕ × Key)) → e.0 < q → find q (e ∷ es) ≡ find q es
find_past q e es h = ap (λ o. cond (is_eq o) (Some e.1) (find q es)) (sym (nat_cmp_is q e.0 Greater h))

not_none : (k : Key) → Some k ≡ no_key → ⊥
not_none k h = absurd cc

-- equal look-ups, equal entries
same_entries : (low : ℕ) (es fs : List (ℕ × Key)) → Up low es → Up low fs → ((q : ℕ) → find q es ≡ find q fs) → es ≡ fs
same_entries low [] [] u w h = refl
same_entries low [] (f ∷ fs) u w h = absurd (not_none f.1 (sym (at_head f.0 f fs refl) ∙ sym (h f.0)))
same_entries low (e ∷ es) [] u w h = absurd (not_none e.1 (sym (at_head e.0 e es refl) ∙ h e.0))
same_entries low (e ∷ es) (f ∷ fs) u w h = λ i. (heads i, values i) ∷ same_entries (e.0 + 1) es fs u.1 w' tails i
  where
    heads : e.0 ≡ f.0
    heads = by (nat_cmp e.0 f.0) (ranks e.0 f.0)
      where
        by : (o : Ordering) → MatchOrdering o (e.0 < f.0) (e.0 ≡ f.0) (f.0 < e.0) → e.0 ≡ f.0
        by Less m = absurd (not_none e.1 (sym (at_head e.0 e es refl) ∙ h e.0 ∙ none_under e.0 f.0 (f ∷ fs) m (omega arith, w.1)))
        by Equal m = m
        by Greater m = absurd (not_none f.1 (sym (at_head f.0 f fs refl) ∙ sym (h f.0) ∙ none_under f.0 e.0 (e ∷ es) m (omega arith, u.1)))

    values : e.1 ≡ f.1
    values = ap (λ o. unwrap_or o e.1) (sym (at_head e.0 e es refl) ∙ h e.0 ∙ at_head e.0 f fs heads)

    w' : Up (e.0 + 1) fs
    w' = subst (λ k. Up (k + 1) fs) (sym heads) w.1

    tails : (q : ℕ) → find q es ≡ find q fs
    tails q = by (nat_cmp q e.0) (ranks q e.0)
      where
        by : (o : Ordering) → MatchOrdering o (q < e.0) (q ≡ e.0) (e.0 < q) → find q es ≡ find q fs
        by Less m = none_under q (e.0 + 1) es (omega (arith, m)) u.1 ∙ sym (none_under q (e.0 + 1) fs (omega (arith, m)) w')
        by Equal m = none_under q (e.0 + 1) es (omega (arith, m)) u.1 ∙ sym (none_under q (e.0 + 1) fs (omega (arith, m)) w')
        by Greater m = sym (find_past q e es m) ∙ h q ∙ find_past q f fs (omega (arith, m, heads))

values_due : (tick : ℕ) (es : Numbered) → values_of (due_entries tick es) ≡ due tick (values_of es)
values_due tick [] = refl
values_due tick (e ∷ es) = by (nat_le e.1.1 tick) (values_due tick es)
  where
    by : (b : Bool) → values_of (due_entries tick es) ≡ due tick (values_of es)
        → values_of (cond b ((e.0, e.1.0) ∷ due_entries tick es) (due_entries tick es))
        ≡ map (λ z. z.0) (cond b (e.1 ∷ filter (is_due tick) (values_of es)) (filter (is_due tick) (values_of es)))
    by true go = ap (λ z. e.1.0 ∷ z) go
    by false go = go

-- what lies in the range is due

in_time : (d n tick m : ℕ) → is_gt (pair_cmp (d, n) (tick, m)) ≡ false → d ≤ tick
in_time d n tick m h = by (nat_cmp d tick) h (ranks d tick)
  where
    by : (o : Ordering) → is_gt (ordering_then o (nat_cmp n m)) ≡ false → MatchOrdering o (d < tick) (d ≡ tick) (tick < d) → d ≤ tick
    by Less h m = omega (arith, m)
    by Equal h m = omega (arith, m)
    by Greater h m = absurd cc

is_due_at : (tick : ℕ) (es : Numbered) (q : ℕ) (t : (ℕ × ℕ) × Key) → t.0.0 ≤ tick → key_by t.0.0 (request_at t.0.1 es) ≡ Some t.1 →
    is_eq (nat_cmp t.0.1 q) ≡ true
    → Some t.1 ≡ due_at tick (request_at q es)
is_due_at tick es q t early h same = core (request_at t.0.1 es) h ∙ ap (λ z. due_at tick (request_at z es)) (one_number t.0.1 q same)
  where
    core : (r : Option (Key × ℕ)) → key_by t.0.0 r ≡ Some t.1 → Some t.1 ≡ due_at tick r
    core None h = absurd cc
    core (Some v) h = by (nat_cmp v.1 t.0.0) refl h
      where
        by : (o : Ordering) → nat_cmp v.1 t.0.0 ≡ o → cond (is_eq o) (Some v.0) no_key ≡ Some t.1 → Some t.1 ≡ due_at tick (Some v)
        by Less f h = absurd cc
        by Equal f h =
            let at : v.1 ≡ t.0.0 = exact_unsigned v.1 t.0.0 f in
            sym h ∙ sym (ap (λ b. cond b (Some v.0) no_key) (le-leb v.1 tick (omega (arith, at, early))))
        by Greater f h = absurd cc

-- what is due lies in the range

in_range : (d q tick : ℕ) → d ≤ tick → q ≤ 18446744073709551615 → range_contains pair_cmp Unbounded (Included (tick, 18446744073709551615)) (d, q) ≡ true
in_range d q tick early small = by (nat_cmp tick d) (ranks tick d) (nat_cmp 18446744073709551615 q) (ranks 18446744073709551615 q)
  where
    by : (a : Ordering) → MatchOrdering a (tick < d) (tick ≡ d) (d < tick)
        → (b : Ordering) → MatchOrdering b (18446744073709551615 < q) (18446744073709551615 ≡ q) (q < 18446744073709551615)
        → (true && not (is_lt (ordering_then a b))) ≡ true
    by Less m b n = absurd (omega (arith, m, early))
    by Equal m Less n = absurd (omega (arith, n, small))
    by Equal m Equal n = refl
    by Equal m Greater n = refl
    by Greater m b n = refl

both : (a b : Ordering) → is_eq (ordering_then a b) ≡ true → (is_eq a ≡ true) × (is_eq b ≡ true)
both Less b h = absurd cc
both Equal b h = (refl, h)
both Greater b h = absurd cc

member_from : (tick d q : ℕ) (k : Key) (ts : Timed) → d ≤ tick → q ≤ 18446744073709551615 → lookup (is_at (pair_cmp (d, q))) ts ≡ Some k
    → is_member (eq_by_cmp nat_cmp) (keys_of (map by_number (until tick ts))) q ≡ true
member_from tick d q k [] early small h = absurd cc
member_from tick d q k (t ∷ ts) early small h =
    by (is_eq (pair_cmp (d, q) t.0)) refl (range_contains pair_cmp Unbounded (Included (tick, 18446744073709551615)) t.0) refl
    (member_from tick d q k ts early small) h
  where
    by : (b : Bool) → is_eq (pair_cmp (d, q) t.0) ≡ b → (c : Bool) → range_contains pair_cmp Unbounded (Included (tick, 18446744073709551615)) t.0 ≡ c
        → (lookup (is_at (pair_cmp (d, q))) ts ≡ Some k → is_member (eq_by_cmp nat_cmp) (keys_of (map by_number (until tick ts))) q ≡ true)
        → cond b (Some t.1) (lookup (is_at (pair_cmp (d, q))) ts) ≡ Some k
        → is_member (eq_by_cmp nat_cmp) (keys_of (map by_number (cond c (t ∷ until tick ts) (until tick ts)))) q ≡ true
    by true same true inside go h =
        ap (λ z. z || is_member (eq_by_cmp nat_cmp) (keys_of (map by_number (until tick ts))) q) (both (nat_cmp d t.0.0) (nat_cmp q t.0.1) same).1
    by true same false inside go h =
        let e = both (nat_cmp d t.0.0) (nat_cmp q t.0.1) same in
        let d_is : d ≡ t.0.0 = one_number d t.0.0 e.0 in
        let q_is : q ≡ t.0.1 = one_number q t.0.1 e.1 in
        absurd (true≢false (sym (in_range t.0.0 t.0.1 tick (omega (arith, d_is, early)) (omega (arith, q_is, small))) ∙ inside))
    by false same true inside go h =
        ap (λ z. is_eq (nat_cmp q t.0.1) || z) (go h) ∙ or_right (is_eq (nat_cmp q t.0.1)) true refl
    by false same false inside go h = go h

below_next : (q low next : ℕ) (v : Key × ℕ) (es : Numbered) → Rise low es next → request_at q es ≡ Some v → q < next
below_next q low next v [] r h = absurd cc
below_next q low next v (e ∷ es) r h = by (nat_cmp q e.0) refl (below_next q (e.0 + 1) next v es r.1) h
  where
    by : (o : Ordering) → nat_cmp q e.0 ≡ o → (request_at q es ≡ Some v → q < next) → cond (is_eq o) (Some e.1) (request_at q es) ≡ Some v → q < next
    by Less f go h = go h
    by Equal f go h =
        let same : q ≡ e.0 = exact_unsigned q e.0 f in
        let past : e.0 + 1 ≤ next = rise_reaches (e.0 + 1) next es r.1 in
        omega (arith, same, past)
    by Greater f go h = go h

module _ (tick next : ℕ) (es : Numbered) (ts : BTreeMap (ℕ × ℕ) Key) (found : BTreeMap ℕ Key) (rise : Rise 0 es next) (small : next ≤ 18446744073709551615)
    (timed : (q : ℕ × ℕ) → get pair_cmp ts q ≡ key_by q.0 (request_at q.1 es))
    (inside : All (IsEntryInRange pair_cmp Unbounded (Included (tick, 18446744073709551615)) ts) (until tick ts.entries))
    (made : IsFromIterResult nat_cmp (map by_number (until tick ts.entries)) found) where
  sound : (q : ℕ) → IfSome (update_all (eq_by_cmp nat_cmp) (λ _. None) (map by_number (until tick ts.entries)) q) (λ k. Some k ≡ due_at tick (request_at q es))
  sound q =
      IfSome-update_all (eq_by_cmp nat_cmp) (λ k. Some k ≡ due_at tick (request_at q es)) q (λ _. None) (map by_number (until tick ts.entries)) tt
      (All-map (λ p. eq_by_cmp nat_cmp p.0 q ≡ true → Some p.1 ≡ due_at tick (request_at q es)) by_number (until tick ts.entries)
      (λ k d h same. let i = inside k d h in let t = slice_index_or (until tick ts.entries) k d in
      is_due_at tick es q t (in_time t.0.0 t.0.1 tick 18446744073709551615 i.0.1) (sym (timed t.0) ∙ i.1) same))

  complete : (q : ℕ) (k : Key) → due_at tick (request_at q es) ≡ Some k → is_member (eq_by_cmp nat_cmp) (keys_of (map by_number (until tick ts.entries))) q
      ≡ true
  complete q k h = by (request_at q es) refl h
    where
      by : (r : Option (Key × ℕ)) → request_at q es ≡ r → due_at tick r ≡ Some k →
          is_member (eq_by_cmp nat_cmp) (keys_of (map by_number (until tick ts.entries))) q ≡ true
      by None is h = absurd cc
      by (Some v) is h = early (nat_le v.1 tick) refl h
        where
          early : (b : Bool) → nat_le v.1 tick ≡ b → cond b (Some v.0) no_key ≡ Some k →
              is_member (eq_by_cmp nat_cmp) (keys_of (map by_number (until tick ts.entries))) q ≡ true
          early true e h =
              let low : v.1 ≤ tick = leb-true v.1 tick e in
              let bound : q < next = below_next q 0 next v es rise is in
              member_from tick v.1 q v.0 ts.entries low (omega (arith, bound, small))
              (timed (v.1, q) ∙ ap (key_by v.1) is ∙ ap (λ o. cond (is_eq o) (Some v.0) no_key) (sym (nat_cmp_is v.1 v.1 Equal refl)))
          early false e h = absurd cc

  found_at : (q : ℕ) → get nat_cmp found q ≡ due_at tick (request_at q es)
  found_at q =
      made.0 q
      ∙ by (update_all (eq_by_cmp nat_cmp) (λ _. None) (map by_number (until tick ts.entries)) q)
      (is_some-update_all (eq_by_cmp_equiv nat_cmp_total) q (λ _. None) (map by_number (until tick ts.entries))) (sound q)
    where
      none : (o : Option Key) → due_at tick (request_at q es) ≡ o → false ≡ is_member (eq_by_cmp nat_cmp) (keys_of (map by_number (until tick ts.entries)))
          q → None ≡ o
      none None is h = refl
      none (Some k) is h = absurd (true≢false (sym (complete q k is) ∙ sym h))

      by : (u : Option Key) → is_some u ≡ is_member (eq_by_cmp nat_cmp) (keys_of (map by_number (until tick ts.entries))) q
          → IfSome u (λ k. Some k ≡ due_at tick (request_at q es)) → u ≡ due_at tick (request_at q es)
      by None m s = none (due_at tick (request_at q es)) refl m
      by (Some k) m s = s

  pub due_found : values_of found.entries ≡ due tick (values_of es)
  due_found =
      ap values_of
      (same_entries 0 found.entries (due_entries tick es) (up_sorted 0 found.entries (from_zero (keys_of found.entries)) made.1) (up_due 0 next tick es rise)
      (λ q. found_at q ∙ sym (found_due tick q 0 next es rise)))
      ∙ values_due tick es
