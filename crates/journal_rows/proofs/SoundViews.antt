-- Tables without a fault, in order and with one advice at a place at most, represent a sound journal.
-- for: journal_tables' laws::read_views_are_sound
use Rattle.std.proofs.Common.{◌≡◌, ℕ, ◌+◌, ◌<◌, ◌≤◌, ◌==◌, ℤ, pos, negsuc, Bool, true, false, not, ◌&&◌, ◌||◌, int_lt, int_eq, if◌then◌else◌, List, [], ◌∷◌}
use Rattle.std.proofs.Common.{map, length, Some, None, nat_le, nat_lt, nat_eq, inl, inr, Ordering, Less, Equal, Greater, is_lt, is_eq, refl, sym, ap, subst}
use Rattle.std.proofs.Common.{◌∙◌, true≢false, arith}
use Rattle.std.specs.List.{AllByRecursion}
use Rattle.std.specs.Ordering.{ordering_then}
use Rattle.std.proofs.lemmas.Int.{ints}
use Rattle.std.proofs.lemmas.Bool.{and_parts, not-true}
use Rattle.std.proofs.lemmas.Bool.Decides.{nat_tests}
use Rattle.std.proofs.lemmas.List.Elements.{All-from_recursion}
use Rattle.sqlite.specs.declared.types.Value.TheVariants.{Int}
use Rattle.sqlite_value.specs.Order.{Row, column, bytes, value_cmp}
use Rattle.sqlite_trees.specs.Tree.{rowid, IsTable}
use Rattle.sqlite_keyed.specs.Lists.{sort_by}
use Rattle.sqlite_keyed.proofs.KeyedLemmas.{same_int}
use Rattle.sqlite_keyed.proofs.ListLemmas.{all_both, all_weaker, all_map, map-map}
use Rattle.sw_context.specs.Names.{is_name}
use Rattle.tx_machine.specs.declared.values.Phase.{Phase}
use Rattle.tx_machine.specs.declared.values.Phase.TheVariants.{Preparing, Aborting, Committing, Undoing}
use Rattle.tx_machine.specs.Table.{is_open}
use Rattle.tx_history.specs.declared.journal.JournalView.{JournalView}
use Rattle.tx_history.specs.declared.journal.Row as own
use Rattle.tx_history.specs.declared.journal.WaitingContext.{WaitingContext}
use Rattle.tx_history.specs.Keys.{Rising, look, place_lt}
use Rattle.tx_history.specs.Views.{IsDoing, IsNamed, IsOk, PlacesRise, RowFits, WaitingFits}
use Rattle.journal_rows.specs.declared.error.JournalTable.TheVariants.{Joined}
use Rattle.journal_rows.specs.declared.layout.Layout.TheVariants.{Second}
use Rattle.journal_rows.specs.Tables.{Tables, code}
use Rattle.journal_rows.specs.Reads.{HaveNats, IsNat, IsOrdered, Stands, name_in, nat_at, nat_of, int_in, int_at, phase_of, read, row_of, waiting_of}
use Rattle.journal_rows.specs.Reads.{members_of, members_in, advices_in, place_cmp, shown_meta, shown_part, shown_tx, shown_shelf, shown_advice}
use Rattle.journal_rows.specs.Faults.{IsFaultIn, IsFirstBad, IsTx, ShelfFits, TxFits, are_placed, bad_meta, bad_part, bad_member}
use Rattle.journal_rows.specs.Faults.{bad_advice, has_id, is_advice}
use Rattle.journal_rows.specs.Faults.{is_given, is_placed, is_within, names_nobody_or_one, orphan, suits, unplaced}
use Rattle.journal_rows.proofs.ExactFaults.{MetaFits, four, least_none, meta_fits}
use Rattle.journal_rows.proofs.KeyedLemmas.{cmp_nats, lt_nat}
use Rattle.journal_rows.proofs.LeadLemmas.{phase_back}
use Rattle.journal_rows.proofs.PlacedLemmas.{advice_of, advices_are, eq_nat, no_ties, place_total}
use Rattle.journal_rows.proofs.SortedLemmas.{Rises, all-sorted, rises-sorted}
use Rattle.journal_rows.proofs.Views.{NoFault, all_from_map, all_passed, next_of, none_bad, none_first}

-- numbers

below_from : (a b : ℕ) → int_lt (pos a) (pos b) ≡ true → a < b
below_from a b h = grind (arith, ints)

not_below_from : (a b : ℕ) → int_lt (pos a) (pos b) ≡ false → b ≤ a
not_below_from a b h = grind (arith, ints)

given_from : (n : ℕ) (next i : ℤ) → next ≡ pos n → is_given next i ≡ true → (1 ≤ nat_of i) × (nat_of i < n)
given_from n next (pos a) is h =
    let both = and_parts _ _ h in
    (not_below_from a 1 (not-true (int_lt (pos a) (pos 1)) both.0), below_from a n (ap (int_lt (pos a)) (sym is) ∙ both.1))
given_from n next (negsuc a) is h = absurd (true≢false (sym h))

within_from : (i : ℤ) (high : ℕ) → is_within i (pos 0) (pos high) ≡ true → nat_of i ≤ high
within_from (pos a) high h = not_below_from high a (not-true (int_lt (pos high) (pos a)) (and_parts _ _ h).1)
within_from (negsuc a) high h = absurd (true≢false (sym h))

-- what stands under an id

look_fits : {A : Type 0} (P : ℕ → A → Type 0) (xs : List (ℕ × A)) → AllByRecursion (λ (x : ℕ × A). P x.0 x.1) xs → (id : ℕ) (x : A) → look id xs ≡ Some x →
    P id x
look_fits P [] all id x h = absurd (cc)
look_fits {A = A} P (y ∷ xs) all id x h = go (y.0 == id) refl h (look_fits P xs all.1 id x)
  where
    go : (b : Bool) → (y.0 == id) ≡ b → (if b then Some y.1 else look id xs) ≡ Some x → (look id xs ≡ Some x → P id x) → P id x
    go true e h more =
        let key : y.0 ≡ id = grind (arith, nat_tests) in
        let same : y.1 ≡ x = grind (arith) in
        subst (λ k. P k x) key (subst (P y.0) same all.0)
    go false e h more = more h

look_has : {A : Type 0} (f : Row → A) (id : ℕ) (rows : List Row) → HaveNats rows → (x : A) → look id (map (λ r. (nat_at r 0, f r)) rows) ≡ Some x →
    has_id (pos id) rows ≡ true
look_has f id [] nats x h = absurd (cc)
look_has {A = A} f id (r ∷ rows) nats x h = go (nat_at r 0 == id) refl h (look_has f id rows nats.1 x)
  where
    go : (b : Bool) → (nat_at r 0 == id) ≡ b → (if b then Some (f r) else look id (map (λ r. (nat_at r 0, f r)) rows)) ≡ Some x
        → (look id (map (λ r. (nat_at r 0, f r)) rows) ≡ Some x → has_id (pos id) rows ≡ true) → (int_eq (int_at r 0) (pos id) || has_id (pos id) rows) ≡ true
    go true e h more =
        let key : nat_at r 0 ≡ id = grind (arith, nat_tests) in
        let same : int_at r 0 ≡ pos id = ap int_in nats.0 ∙ ap pos key in
        ap (λ i. int_eq i (pos id) || has_id (pos id) rows) same ∙ ap (λ b. b || has_id (pos id) rows)
        (Rattle.std.proofs.lemmas.Cmp.int_eq_equiv.refl (pos id))
    go false e h more = elim (int_eq (int_at r 0) (pos id)) as (λ b. (b || has_id (pos id) rows) ≡ true) [ true ↦ refl | false ↦ more h ]

next_above : (a b : Row) → IsNat (column a 0) → IsNat (column b 0) → value_cmp (rowid a) (rowid b) ≡ Less → nat_at a 0 + 1 ≤ nat_at b 0
next_above a b p q less =
    let lower : nat_lt (nat_at a 0) (nat_at b 0) ≡ true = sym (ap is_lt (cmp_nats (column a 0) (column b 0) p q) ∙ lt_nat (nat_at a 0) (nat_at b 0))
    ∙ ap is_lt less in
    grind (arith, nat_tests)

-- rowids rise, so ids do
rising_from : {A : Type 0} (f : Row → A) (n m : ℕ) (rows : List Row) → n ≤ m → IsTable rows →
    AllByRecursion (λ r. IsNat (column r 0) × (n ≤ nat_at r 0) × (nat_at r 0 < m)) rows
    → Rising n m (map (λ r. (nat_at r 0, f r)) rows)
rising_from f n m [] low up h = low
rising_from f n m (r ∷ rows) low up h =
    let below = h.0.2 in (
      h.0.1,
      h.0.2,
      rising_from f (nat_at r 0 + 1) m rows (omega (arith, below)) up.1
          (all_both (λ x. value_cmp (rowid r) (rowid x) ≡ Less) (λ x. IsNat (column x 0) × (n ≤ nat_at x 0) × (nat_at x 0 < m))
          (λ x. IsNat (column x 0) × (nat_at r 0 + 1 ≤ nat_at x 0) × (nat_at x 0 < m)) (λ x less k. (k.0, next_above r x h.0.0 k.0 less, k.2)) rows up.0 h.1),
    )

-- tx

open_from : (told : ℤ) (count : ℕ) → (int_eq told (pos 0) && nat_le count 1000) ≡ true → (nat_of told ≡ 0) × (count ≤ 1000)
open_from told count h =
    let both = and_parts _ _ h in
    let small = both.1 in
    (ap nat_of (same_int told (pos 0) both.0), grind (arith, nat_tests))

nobody_from : (doing : List ℕ) → nat_lt (length doing) 1 ≡ true → name_in doing ≡ None
nobody_from [] h = refl
nobody_from (b ∷ bs) h = absurd (let none : ⊥ = grind (arith, nat_tests) in none)

telling_from : (told : ℤ) (doing : List ℕ) (count : ℕ) → ((not (int_lt told (pos 0)) && int_lt told (pos count)) && nat_lt (length doing) 1) ≡ true →
    (name_in doing ≡ None) × (nat_of told < count)
telling_from (pos told) doing count h =
    let both = and_parts _ _ h in
    (nobody_from doing both.1, below_from told count (and_parts _ _ both.0).1)
telling_from (negsuc told) doing count h = absurd (true≢false (sym h))

suited_from : (p : Phase) (told : ℤ) (doing : List ℕ) (count : ℕ) → suits (pos (code p)) told doing count ≡ true
    → (is_open p ≡ true → (nat_of told ≡ 0) × (count ≤ 1000)) × (is_open p ≡ false → (name_in doing ≡ None) × (nat_of told < count))
suited_from Preparing told doing count h = (λ e. open_from told count h, λ e. absurd (true≢false e))
suited_from Aborting told doing count h = (λ e. open_from told count h, λ e. absurd (true≢false e))
suited_from Committing told doing count h = (λ e. absurd (true≢false (sym e)), λ e. telling_from told doing count h)
suited_from Undoing told doing count h = (λ e. absurd (true≢false (sym e)), λ e. telling_from told doing count h)

doing_from : (doing : List ℕ) → names_nobody_or_one doing ≡ true → IsDoing (name_in doing)
doing_from [] h = tt
doing_from (b ∷ bs) h = go (nat_lt (length (b ∷ bs)) 1) refl h
  where
    go : (c : Bool) → nat_lt (length (b ∷ bs)) 1 ≡ c → (c || is_name (b ∷ bs)) ≡ true → IsNamed (b ∷ bs)
    go true e h = absurd (let none : ⊥ = grind (arith, nat_tests) in none)
    go false e h = h

few_from : (at : ℕ) (rows : List Row) → are_placed at rows ≡ true → at ≤ 1001 → at + length rows ≤ 1001
few_from at [] h low = omega (arith, low)
few_from at (r ∷ rows) h low =
    let both = and_parts (is_placed at r) (are_placed (at + 1) rows) h in
    let here : nat_lt at 1001 ≡ true = (and_parts _ _ both.0).0 in
    let more = few_from (at + 1) rows both.1 (grind (arith, nat_tests)) in
    omega (arith, more)

names_from : (at : ℕ) (rows : List Row) → are_placed at rows ≡ true → AllByRecursion (λ m. IsNamed (bytes (column m 2))) rows
names_from at [] h = tt
names_from at (r ∷ rows) h =
    let both = and_parts (is_placed at r) (are_placed (at + 1) rows) h in
    ((and_parts _ _ (and_parts _ _ both.0).1).1, names_from (at + 1) rows both.1)

few_named : (name : Row → List ℕ) (rows : List Row) → are_placed 0 rows ≡ true → length (map name rows) ≤ 1001
few_named name rows placed =
    let few = few_from 0 rows placed (omega arith) in
    let many = Rattle.std.proofs.lemmas.List.length-map rows name in
    omega (arith, few, many)

row_from : (next : ℤ) (members : List Row) (r : Row) → TxFits next members r → are_placed 0 (members_of (int_at r 0) members) ≡ true →
    RowFits (row_of members r)
row_from next members r fits placed =
    let name = λ (m : Row). bytes (column m 2) in
    let mine = members_of (int_at r 0) members in
    let state = and_parts _ _ fits.good in
    let cells = and_parts _ _ fits.cells in
    let phase = four (int_at r 1) (and_parts _ _ state.0).1 in
    let same : phase_of (nat_at r 1) ≡ phase.0 = ap (λ k. phase_of (nat_of k)) phase.1 ∙ phase_back phase.0 in
    let suited = suited_from phase.0 (int_at r 2) (bytes (column r 3)) (length mine)
    (ap (λ k. suits k (int_at r 2) (bytes (column r 3)) (length mine)) (sym phase.1) ∙ state.1) in
    let many : length (map name mine) ≡ length mine = Rattle.std.proofs.lemmas.List.length-map mine name in
    record {
      members = few_named name mine placed;
      names = All-from_recursion IsNamed (map name mine) (all_map IsNamed name mine (names_from 0 mine placed));
      doing = doing_from (bytes (column r 3)) cells.0;
      untold = λ e. let h = suited.0 (sym (ap is_open same) ∙ e) in (h.0, subst (λ k. k ≤ 1000) (sym many) h.1);
      telling = λ e. let h = suited.1 (sym (ap is_open same) ∙ e) in (h.0, subst (λ k. nat_at r 2 < k) (sym many) h.1);
      tries = within_from (int_at r 4) 100 cells.1;
      context = fits.context;
    }

-- there are at most as many rows as the bound of their numbers
room_from : (Fits : ℕ → Row → Type 0) (most k : ℕ) (rows : List Row) → ((n : ℕ) (r : Row) → Fits n r → n < most) → k ≤ most → IsFirstBad Fits k rows None →
    k + length rows ≤ most
room_from Fits most k [] room low h = omega (arith, low)
room_from Fits most k (r ∷ rows) room low (inl h) =
    let here = room k r h.0 in
    let more = room_from Fits most (k + 1) rows room (omega (arith, here)) h.1 in
    omega (arith, more)
room_from Fits most k (r ∷ rows) room low (inr h) = absurd (let k = h.1 in cc)

-- advices

-- no two rows at one place
abbrev pub Apart : Row → Row → Type 0
Apart a b = column a 1 ≡ column b 1 → column a 2 ≡ column b 2 → value_cmp (rowid a) (rowid b) ≡ Less → ⊥

abbrev pub AreApart : List Row → Type 0
AreApart rows = AllByRecursion (λ a. AllByRecursion (Apart a) rows) rows

abbrev pub HavePlaces : List Row → Type 0
HavePlaces = AllByRecursion (λ r. IsNat (column r 1) × IsNat (column r 2))

sorted_apart : (rows : List Row) → AreApart rows → AreApart (sort_by place_cmp rows)
sorted_apart rows h =
    let sorted = sort_by place_cmp rows in
    all-sorted place_cmp place_total (λ a. AllByRecursion (Apart a) sorted) rows
    (all_weaker (λ a. AllByRecursion (Apart a) rows) (λ a. AllByRecursion (Apart a) sorted) (λ a k. all-sorted place_cmp place_total (Apart a) rows k) rows h)

equal_cells : (v w : Rattle.sqlite.specs.declared.types.Value.Value) → IsNat v → IsNat w → value_cmp v w ≡ Equal → v ≡ w
equal_cells v w p q e =
    let tested : nat_eq (nat_of (int_in v)) (nat_of (int_in w)) ≡ true = sym (ap is_eq (cmp_nats v w p q) ∙ eq_nat (nat_of (int_in v)) (nat_of (int_in w)))
    ∙ ap is_eq e in
    let same : nat_of (int_in v) ≡ nat_of (int_in w) = grind (arith, nat_tests) in
    p ∙ ap (λ n. Int (pos n)) same ∙ sym q

place_from : (a b : Row) → IsNat (column a 1) × IsNat (column a 2) → IsNat (column b 1) × IsNat (column b 2) → Apart a b → place_cmp a b ≡ Less
    → place_lt (nat_at a 1, nat_at a 2) (nat_at b 1, nat_at b 2) ≡ true
place_from a b p q apart less = sym is ∙ go (value_cmp (column a 1) (column b 1)) (value_cmp (column a 2) (column b 2)) refl refl less
  where
    is : (is_lt (value_cmp (column a 1) (column b 1)) || (is_eq (value_cmp (column a 1) (column b 1)) && is_lt (value_cmp (column a 2) (column b 2))))
        ≡ place_lt (nat_at a 1, nat_at a 2) (nat_at b 1, nat_at b 2)
    is =
        let one = cmp_nats (column a 1) (column b 1) p.0 q.0 in
        let two = cmp_nats (column a 2) (column b 2) p.1 q.1 in
        (λ i. is_lt (one i) || (is_eq (one i) && is_lt (two i)))
        ∙ (λ i. lt_nat (nat_at a 1) (nat_at b 1) i || (eq_nat (nat_at a 1) (nat_at b 1) i && lt_nat (nat_at a 2) (nat_at b 2) i))

    go : (x y : Ordering) → value_cmp (column a 1) (column b 1) ≡ x → value_cmp (column a 2) (column b 2) ≡ y →
        ordering_then x (ordering_then y (value_cmp (column a 0) (column b 0))) ≡ Less
        → (is_lt x || (is_eq x && is_lt y)) ≡ true
    go Less y e f h = refl
    go Equal Less e f h = refl
    go Equal Equal e f h = absurd (apart (equal_cells (column a 1) (column b 1) p.0 q.0 e) (equal_cells (column a 2) (column b 2) p.1 q.1 f) h)
    go Equal Greater e f h = absurd (cc)
    go Greater y e f h = absurd (cc)

places_from : (n : ℕ) (rows : List Row) → HavePlaces rows → Rises place_cmp place_total rows → AreApart rows
    → AllByRecursion (λ r. (1 ≤ nat_at r 1) × (nat_at r 1 < n) × (nat_at r 2 ≤ 1000)) rows → PlacesRise n (map advice_of rows)
places_from n [] nats up apart fits = tt
places_from n (r ∷ rows) nats up apart fits =
    let follow = all_both (Apart r) (λ x. place_cmp r x ≡ Less) (λ x. Apart r x × (place_cmp r x ≡ Less)) (λ x a l. (a, l)) rows apart.0.1 up.0 in
    let later = all_both (λ x. IsNat (column x 1) × IsNat (column x 2)) (λ x. Apart r x × (place_cmp r x ≡ Less))
    (λ x. place_lt (advice_of r).0 (advice_of x).0 ≡ true)
    (λ x nat k. place_from r x nats.0 nat k.0 k.1) rows nats.1 follow in
    let rest = all_weaker (λ a. AllByRecursion (Apart a) (r ∷ rows)) (λ a. AllByRecursion (Apart a) rows) (λ a k. k.1) rows apart.1 in (
      fits.0.0,
      fits.0.1,
      fits.0.2,
      All-from_recursion (λ (y : (ℕ × ℕ) × List ℕ). place_lt (advice_of r).0 y.0 ≡ true) (map advice_of rows)
          (all_map (λ (y : (ℕ × ℕ) × List ℕ). place_lt (advice_of r).0 y.0 ≡ true) advice_of rows later),
      places_from n rows nats.1 up.1 rest fits.1,
    )

module _ (t : Tables) (o : IsOrdered t) (f : IsFaultIn t None) where
  abbrev n : ℕ
  n = (read t).next_id

  abbrev members : List Row
  members = members_in t

  abbrev tx : List Row
  tx = map shown_tx t.tx

  abbrev shelf : List Row
  shelf = map shown_shelf t.shelf

  none : NoFault (bad_meta Second (map shown_meta t.meta)) (bad_part 0 (map shown_part t.part)) f.in_tx (bad_member tx members) f.in_shelf
      (bad_advice (next_of t) (advices_in t))
  none = all_passed Joined (bad_meta Second (map shown_meta t.meta)) (bad_part 0 (map shown_part t.part)) f.in_tx (bad_member tx members) f.in_shelf
      (bad_advice (next_of t) (advices_in t)) (sym f.first)

  meta : MetaFits Second t.meta
  meta = meta_fits Second t.meta none.meta

  next : 1 ≤ n
  next = not_below_from n 1 (ap (λ i. int_lt i (pos 1)) (sym meta.next) ∙ meta.positive)

  is_tx : IsFirstBad (IsTx (next_of t) members) 0 tx None
  is_tx = subst (IsFirstBad (IsTx (next_of t) members) 0 tx) none.tx f.is_tx

  is_shelf : IsFirstBad (ShelfFits (next_of t) tx) 0 shelf None
  is_shelf = subst (IsFirstBad (ShelfFits (next_of t) tx) 0 shelf) none.shelf f.is_shelf

  rows_fit : AllByRecursion (TxFits (next_of t) members) tx
  rows_fit = all_weaker (λ r. (k : ℕ) × IsTx (next_of t) members k r) (TxFits (next_of t) members) (λ r is. is.1.fits) tx
      (none_first (IsTx (next_of t) members) 0 tx is_tx)

  shelf_fits : AllByRecursion (ShelfFits (next_of t) tx 0) shelf
  shelf_fits =
      all_weaker (λ r. (k : ℕ) × ShelfFits (next_of t) tx k r) (ShelfFits (next_of t) tx 0) (λ r is. record { good = is.1.good; context = is.1.context })
      shelf (none_first (ShelfFits (next_of t) tx) 0 shelf is_shelf)

  abbrev row_under : Row → ℕ × own.Row
  row_under r = (nat_at r 0, row_of members r)

  abbrev shelf_under : Row → ℕ × WaitingContext
  shelf_under r = (nat_at r 0, waiting_of r)

  rows_rise : Rising 1 n (map row_under tx)
  rows_rise =
      let fits = all_from_map (TxFits (next_of t) members) shown_tx t.tx rows_fit in
      let ids = all_both (λ r. IsNat (column r 0)) (λ r. TxFits (next_of t) members (shown_tx r))
      (λ r. IsNat (column r 0) × (1 ≤ nat_at r 0) × (nat_at r 0 < n))
      (λ r nat k. let low = given_from n (next_of t) (int_at (shown_tx r) 0) meta.next (and_parts _ _ (and_parts _ _ k.good).0).0 in (nat, low.0, low.1))
      t.tx o.tx_ids fits in
      subst (Rising 1 n) (sym (map-map row_under shown_tx t.tx)) (rising_from (λ r. row_of members (shown_tx r)) 1 n t.tx next o.tx.0 ids)

  shelf_rises : Rising 1 n (map shelf_under shelf)
  shelf_rises =
      let fits = all_from_map (ShelfFits (next_of t) tx 0) shown_shelf t.shelf shelf_fits in
      let ids = all_both (λ r. IsNat (column r 0)) (λ r. ShelfFits (next_of t) tx 0 (shown_shelf r))
      (λ r. IsNat (column r 0) × (1 ≤ nat_at r 0) × (nat_at r 0 < n))
      (λ r nat k. let low = given_from n (next_of t) (int_at (shown_shelf r) 0) meta.next (and_parts _ _ (and_parts _ _ k.good).0).0 in (nat, low.0, low.1))
      t.shelf o.shelf_ids fits in
      subst (Rising 1 n) (sym (map-map shelf_under shown_shelf t.shelf)) (rising_from (λ r. waiting_of (shown_shelf r)) 1 n t.shelf next o.shelf.0 ids)

  -- what stands on the shelf has no row
  unlisted : AllByRecursion (λ r. has_id (pos (nat_at r 0)) tx ≡ false) shelf
  unlisted =
      let nats = all_map (λ r. IsNat (column r 0)) shown_shelf t.shelf o.shelf_ids in
      all_both (λ r. IsNat (column r 0)) (ShelfFits (next_of t) tx 0) (λ r. has_id (pos (nat_at r 0)) tx ≡ false)
      (λ r nat k. sym (ap (λ i. has_id i tx) (ap int_in nat)) ∙ not-true (has_id (int_at r 0) tx) (and_parts _ _ (and_parts _ _ k.good).0).1)
      shelf nats shelf_fits

  apart_ids : (id : ℕ) (r : own.Row) (w : WaitingContext) → look id (map row_under tx) ≡ Some r → look id (map shelf_under shelf) ≡ Some w → ⊥
  apart_ids id r w here there =
      let has = look_has (row_of members) id tx (all_map (λ r. IsNat (column r 0)) shown_tx t.tx o.tx_ids) r here in
      let none = look_fits (λ k x. has_id (pos k) tx ≡ false) (map shelf_under shelf)
      (all_map (λ (y : ℕ × WaitingContext). has_id (pos y.0) tx ≡ false) shelf_under shelf unlisted) id w there in
      true≢false (sym has ∙ none)

  all_rows : AllByRecursion (λ (y : ℕ × own.Row). RowFits y.1) (map row_under tx)
  all_rows =
      let placed = none_bad (λ r. are_placed 0 (members_of (int_at r 0) members)) tx (least_none (orphan tx members) (unplaced members tx) none.member).1 in
      all_map (λ (y : ℕ × own.Row). RowFits y.1) row_under tx
      (all_both (TxFits (next_of t) members) (λ r. are_placed 0 (members_of (int_at r 0) members) ≡ true) (λ r. RowFits (row_of members r))
      (row_from (next_of t) members) tx rows_fit placed)

  all_shelf : AllByRecursion (λ (y : ℕ × WaitingContext). WaitingFits y.1) (map shelf_under shelf)
  all_shelf =
      all_map (λ (y : ℕ × WaitingContext). WaitingFits y.1) shelf_under shelf
      (all_weaker (ShelfFits (next_of t) tx 0) (λ r. WaitingFits (waiting_of r))
      (λ r k. record { tries = within_from (int_at r 1) 100 (and_parts _ _ k.good).1; context = k.context }) shelf shelf_fits)

  advices_rise : AreApart t.advice → PlacesRise n (read t).advices
  advices_rise apart =
      let sorted = sort_by place_cmp t.advice in
      let fits = all_from_map (λ r. is_advice (next_of t) r ≡ true) shown_advice sorted (none_bad (is_advice (next_of t)) (advices_in t) none.advice) in
      let places = all_weaker (λ r. is_advice (next_of t) (shown_advice r) ≡ true) (λ r. (1 ≤ nat_at r 1) × (nat_at r 1 < n) × (nat_at r 2 ≤ 1000))
      (λ r k. let both = and_parts _ _ k in let low = given_from n (next_of t) (int_at (shown_advice r) 0) meta.next both.0 in
      (low.0, low.1, within_from (int_at (shown_advice r) 1) 1000 both.1)) sorted fits in
      subst (PlacesRise n) (sym (advices_are t.advice))
      (places_from n sorted (all-sorted place_cmp place_total (λ r. IsNat (column r 1) × IsNat (column r 2)) t.advice o.advice_ids)
      (rises-sorted place_cmp place_total t.advice (no_ties t.advice o.advice.0)) (sorted_apart t.advice apart) places)

  pub ok_of : AreApart t.advice → n ≤ 9223372036854775807 → IsOk (read t)
  ok_of apart last = record {
    ordered = record { next = next; rows = rows_rise; shelf = shelf_rises; apart = apart_ids };
    last = last;
    few = let few = room_from (IsTx (next_of t) members) 16 0 tx (λ k r is. is.room) (omega arith) is_tx in let many =
        Rattle.std.proofs.lemmas.List.length-map tx row_under in omega (arith, few, many);
    rows = look_fits (λ id r. RowFits r) (map row_under tx) all_rows;
    shelf = look_fits (λ id w. WaitingFits w) (map shelf_under shelf) all_shelf;
    advices = advices_rise apart;
  }

pub ok_from : (t : Tables) (v : JournalView) → Stands t v → IsFaultIn t None → AreApart t.advice → v.next_id ≤ 9223372036854775807 → IsOk v
ok_from t v s f apart last = subst IsOk s.reads (ok_of t s.ordered f apart (subst (λ (w : JournalView). w.next_id ≤ 9223372036854775807) (sym s.reads) last))
