-- A book stays a book.
-- for: book::DayBook
use Rattle.std.proofs.Common.{◌≡◌, ℕ, ◌+◌, ◌≤◌, Bool, true, false, cond, List, ◌∷◌, Option, Some, None, unwrap_or, slice_get, IsTrue, refl, sym, ap, subst, ◌∙◌, arith}
use Rattle.std.specs.Prelude.{◌==◌}
use Rattle.std.specs.List.{All}
use Rattle.std.specs.Map.{keys_of}
use Rattle.std.specs.Ordering.{nat_cmp}
use Rattle.std.specs.BTreeMap.Range.{IsLtBy}
use Rattle.std.specs.Str.{bytes_eq}
use Rattle.std.proofs.lemmas.Slice.Eq.{bytes_eq-Decides}
use Rattle.std.proofs.lemmas.Bool.Decides.{nat_tests}
use Rattle.day_book.specs.declared.item.CardDay.{CardDay}
use Rattle.day_book.specs.declared.item.RequestDay.{RequestDay}
use Rattle.day_book.specs.declared.item.DayItem.{DayItem}
use Rattle.day_book.specs.declared.item.Totals.{Totals}
use Rattle.day_book.specs.declared.item.State.TheVariants.{Open}
use Rattle.day_book.specs.Most.{max_sum}
use Rattle.day_book.specs.Items.{Items, total, used, reserved, spent_of, held_of, item_at, newest, later, is_open, is_used, is_of, is_for}
use Rattle.day_book.specs.Items.{card_day, card_eq, request_day, request_eq}
use Rattle.day_book.specs.Changes.{with_item, in_its_place, without}
use Rattle.day_book.specs.Kept.{IsDayBook, HasOpenAlone, Takes, one, totals_in, kept_totals, newest_left}
use Rattle.day_book.proofs.Sums.{share, total-new, total-set, total-out, total-has, total-none}
use Rattle.day_book.proofs.Newest.{newest-new, newest-set, newest-other, newest-none, newest-first}
use Rattle.day_book.proofs.Alone.{both, same_request, own_request, alone-new, alone-set, alone-out}

same_card : (a c : CardDay) → card_eq a c ≡ true → a ≡ c
same_card a c e =
    let two = both (bytes_eq a.card c.card) (a.day == c.day) e in
    let k : a.card ≡ c.card = (bytes_eq-Decides a.card c.card).0 two.0 in
    let d : a.day ≡ c.day = grind (arith, nat_tests, two.1) in
    ap (λ (z : List ℕ). let v : CardDay = record { card = z; day = a.day } in v) k
    ∙ ap (λ (z : ℕ). let v : CardDay = record { card = c.card; day = z } in v) d

own_card : (a : CardDay) → card_eq a a ≡ true
own_card a = grind (arith, nat_tests, (bytes_eq-Decides a.card a.card).1 refl)

-- what sums of a card are kept, or none of 0
pub kept_in : (s : Totals) → totals_in (kept_totals s) ≡ s
kept_in s = by (s.used + s.reserved == 0) refl
  where
    by : (b : Bool) → (s.used + s.reserved == 0) ≡ b → totals_in (cond b None (Some s)) ≡ s
    by false is = refl
    by true is =
        let none : s.used + s.reserved ≡ 0 = grind (arith, nat_tests, is) in
        let u : s.used ≡ 0 = omega (arith, none) in
        let r : s.reserved ≡ 0 = omega (arith, none) in
        ap (λ (z : ℕ). let v : Totals = record { used = z; reserved = 0 } in v) (sym u)
        ∙ ap (λ (z : ℕ). let v : Totals = record { used = s.used; reserved = z } in v) (sym r)

pub kept_none : (s : Totals) → s.used ≡ 0 → s.reserved ≡ 0 → kept_totals s ≡ None
kept_none s u r = grind (arith, nat_tests, u, r)

-- what a card's sums are after a change at one card, where they were right before it
at_card : (P : CardDay → Option Totals → Type 0) (a : CardDay) (o : Option Totals) (t t' : CardDay → Option Totals)
    → ((c : CardDay) → t' c ≡ cond (card_eq a c) o (t c)) → P a o → ((c : CardDay) → card_eq a c ≡ false → P c (t c)) → (c : CardDay) → P c (t' c)
at_card P a o t t' h own others c = subst (P c) (sym (h c)) (by (card_eq a c) refl)
  where
    by : (b : Bool) → card_eq a c ≡ b → P c (cond b o (t c))
    by true e = subst (λ z. P z o) (same_card a c e) own
    by false e = others c e

module _ (limit : ℕ) (es : Items) (ids : RequestDay → Option ℕ) (t : CardDay → Option Totals) (B : IsDayBook limit es ids t) where
  -- a book after a change at one card
  module _ (es' : Items) (ids' : RequestDay → Option ℕ) (t' : CardDay → Option Totals) (a : CardDay) (o : Option Totals)
      (ht : (c : CardDay) → t' c ≡ cond (card_eq a c) o (t c))
      (others : (w : DayItem → ℕ) (c : CardDay) → card_eq a c ≡ false → total (is_of c) w es' ≡ total (is_of c) w es) where
    pub keeps : HasOpenAlone es' → ((q : RequestDay) → ids' q ≡ newest q es') → (totals_in o).used ≡ used a es'
        → (totals_in o).reserved ≡ reserved a es' → used a es' + reserved a es' ≤ max_sum → (total (is_of a) one es' ≡ 0 → o ≡ None)
        → IsDayBook limit es' ids' t'
    keeps alone found spent held within lean = record {
      small = B.small;
      alone = alone;
      found = found;
      spent = at_card (λ c p. (totals_in p).used ≡ used c es') a o t t' ht spent (λ c e. B.spent c ∙ sym (others spent_of c e));
      held = at_card (λ c p. (totals_in p).reserved ≡ reserved c es') a o t t' ht held (λ c e. B.held c ∙ sym (others held_of c e));
      within = at_card (λ c p. used c es' + reserved c es' ≤ max_sum) a o t t' ht within
          (λ c e. omega (arith, B.within c, others spent_of c e, others held_of c e));
      lean = at_card (λ c p. total (is_of c) one es' ≡ 0 → p ≡ None) a o t t' ht lean (λ c e none. B.lean c (sym (others one c e) ∙ none));
    }

  module _ (id : ℕ) where
    pub keeps_new : (v : DayItem) (T : Takes id v es) (s : Totals) (ids' : RequestDay → Option ℕ) (t' : CardDay → Option Totals)
        → s.used ≡ used (card_day v) es + spent_of v → s.reserved ≡ reserved (card_day v) es + held_of v
        → ((q : RequestDay) → ids' q ≡ cond (request_eq (request_day v) q) (Some (later id (ids (request_day v)))) (ids q))
        → ((c : CardDay) → t' c ≡ cond (card_eq (card_day v) c) (Some s) (t c)) → IsDayBook limit (with_item id v es) ids' t'
    keeps_new v T s ids' t' su sr hk ht =
        let es' = with_item id v es in
        let own : is_of (card_day v) v ≡ true = own_card (card_day v) in
        let spent : s.used ≡ used (card_day v) es' =
        omega (arith, su, total-new (is_of (card_day v)) spent_of id v es T.free, ap (λ b. cond b (spent_of v) 0) own) in
        let held : s.reserved ≡ reserved (card_day v) es' =
        omega (arith, sr, total-new (is_of (card_day v)) held_of id v es T.free, ap (λ b. cond b (held_of v) 0) own) in
        keeps es' ids' t' (card_day v) (Some s) ht
        (λ w c e. omega (arith, total-new (is_of c) w id v es T.free, ap (λ b. cond b (w v) 0) e))
        (alone-new es B.alone id v T) found spent held
        (omega (arith, spent, held, su, sr, T.within))
        (λ none. absurd (omega (arith, none, total-new (is_of (card_day v)) one id v es T.free, ap {B = ℕ} (λ b. cond b 1 0) own)))
      where
        by : (q : RequestDay) (b : Bool) → request_eq (request_day v) q ≡ b
            → cond b (Some (later id (ids (request_day v)))) (ids q) ≡ cond b (Some (later id (newest q es))) (newest q es)
        by q false e = B.found q
        by q true e = ap {B = Option ℕ} (λ z. Some (later id z)) (B.found (request_day v) ∙ ap (λ z. newest z es) (same_request (request_day v) q e))

        found : (q : RequestDay) → ids' q ≡ newest q (with_item id v es)
        found q = hk q ∙ by q (request_eq (request_day v) q) refl ∙ sym (newest-new q id v es T.free)

    module _ (u : DayItem) (is : item_at id es ≡ Some u) where
      -- an item is in its card's sums
      pub spent_there : spent_of u ≤ (totals_in (t (card_day u))).used
      spent_there = omega (arith, total-has (is_of (card_day u)) spent_of id u es is, B.spent (card_day u), ap (λ b. cond b (spent_of u) 0) (own_card (card_day u)))

      pub held_there : held_of u ≤ (totals_in (t (card_day u))).reserved
      held_there = omega (arith, total-has (is_of (card_day u)) held_of id u es is, B.held (card_day u), ap (λ b. cond b (held_of u) 0) (own_card (card_day u)))

      pub sums_small : (totals_in (t (card_day u))).used + (totals_in (t (card_day u))).reserved ≤ max_sum
      sums_small = omega (arith, B.within (card_day u), B.spent (card_day u), B.held (card_day u))

      pub keeps_set : (v : DayItem) (s : Totals) (t' : CardDay → Option Totals) → card_day v ≡ card_day u → request_day v ≡ request_day u
          → is_open v.state ≡ false → spent_of v ≤ spent_of u + held_of u
          → s.used + spent_of u ≡ (totals_in (t (card_day u))).used + spent_of v → s.reserved + held_of u ≡ (totals_in (t (card_day u))).reserved + held_of v
          → ((c : CardDay) → t' c ≡ cond (card_eq (card_day u) c) (kept_totals s) (t c)) → IsDayBook limit (in_its_place id v es) ids t'
      keeps_set v s t' card request closed less su sr ht =
          let es' = in_its_place id v es in
          let a = card_day u in
          let own : is_of a u ≡ true = own_card a in
          let own_v : is_of a v ≡ true = ap (λ z. card_eq z a) card ∙ own in
          let sum_u : (totals_in (kept_totals s)).used ≡ s.used = ap (λ (z : Totals). z.used) (kept_in s) in
          let sum_r : (totals_in (kept_totals s)).reserved ≡ s.reserved = ap (λ (z : Totals). z.reserved) (kept_in s) in
          let spent : s.used ≡ used a es' =
          omega (
            arith,
            su,
            total-set (is_of a) spent_of id u v es is,
            B.spent a,
            ap (λ b. cond b (spent_of u) 0) own,
            ap (λ b. cond b (spent_of v) 0) own_v,
          ) in
          let held : s.reserved ≡ reserved a es' =
          omega (
            arith,
            sr,
            total-set (is_of a) held_of id u v es is,
            B.held a,
            ap (λ b. cond b (held_of u) 0) own,
            ap (λ b. cond b (held_of v) 0) own_v,
          ) in
          let none : held_of v ≡ 0 = ap (λ b. cond b v.amount 0) closed in
          keeps es' ids t' a (kept_totals s) ht
          (λ w c e. omega (arith, total-set (is_of c) w id u v es is, ap (λ b. cond b (w u) 0) e, ap (λ b. cond b (w v) 0) (ap (λ z. card_eq z c) card ∙ e)))
          (alone-set es B.alone id u v is request closed)
          (λ q. B.found q ∙ sym (newest-set q id u v es (ap (λ z. request_eq z q) request) is))
          (sum_u ∙ spent) (sum_r ∙ held) (omega (arith, spent, held, su, sr, less, none, sums_small, spent_there, held_there))
          (λ z. absurd (omega (
            arith,
            z,
            total-set (is_of a) one id u v es is,
            total-has (is_of a) one id u es is,
            ap {B = ℕ} (λ b. cond b 1 0) own,
            ap {B = ℕ} (λ b. cond b 1 0) own_v,
          )))

  pub keeps_out : (u : DayItem) (es' : Items) (s : Totals) (ids' : RequestDay → Option ℕ) (t' : CardDay → Option Totals)
      → ((p : DayItem → Bool) (w : DayItem → ℕ) → total p w es' + share p w u ≡ total p w es)
      → ((i : ℕ) (x : DayItem) → item_at i es' ≡ Some x → item_at i es ≡ Some x)
      → ((q : RequestDay) → ids' q ≡ newest q es')
      → s.used + spent_of u ≡ (totals_in (t (card_day u))).used → s.reserved + held_of u ≡ (totals_in (t (card_day u))).reserved
      → ((c : CardDay) → t' c ≡ cond (card_eq (card_day u) c) (kept_totals s) (t c)) → IsDayBook limit es' ids' t'
  keeps_out u es' s ids' t' out back found su sr ht =
      let a = card_day u in
      let own : is_of a u ≡ true = own_card a in
      let sum_u : (totals_in (kept_totals s)).used ≡ s.used = ap (λ (z : Totals). z.used) (kept_in s) in
      let sum_r : (totals_in (kept_totals s)).reserved ≡ s.reserved = ap (λ (z : Totals). z.reserved) (kept_in s) in
      let spent : s.used ≡ used a es' = omega (arith, su, out (is_of a) spent_of, B.spent a, ap (λ b. cond b (spent_of u) 0) own) in
      let held : s.reserved ≡ reserved a es' = omega (arith, sr, out (is_of a) held_of, B.held a, ap (λ b. cond b (held_of u) 0) own) in
      keeps es' ids' t' a (kept_totals s) ht
      (λ w c e. omega (arith, out (is_of c) w, ap (λ b. cond b (w u) 0) e))
      (alone-out es B.alone u es' (λ q. out (is_for q) one) back) found
      (sum_u ∙ spent) (sum_r ∙ held) (omega (arith, spent, held, su, sr, B.within a, B.spent a, B.held a))
      (λ z. kept_none s (spent ∙ total-none (is_of a) spent_of es' z) (held ∙ total-none (is_of a) held_of es' z))

-- a card without sums has none
pub no_totals : (o : Option Totals) → o ≡ None → ((totals_in o).used ≡ 0) × ((totals_in o).reserved ≡ 0)
no_totals None h = (refl, refl)
no_totals (Some s) h = absurd cc

-- an item that is not open holds nothing, and one that is open has spent nothing
pub closed_held : (u : DayItem) → is_open u.state ≡ false → held_of u ≡ 0
closed_held u h = ap (λ b. cond b u.amount 0) h

pub open_held : (u : DayItem) → u.state ≡ Open → held_of u ≡ u.amount
open_held u h = ap (λ s. cond (is_open s) u.amount 0) h

pub open_spent : (u : DayItem) → u.state ≡ Open → spent_of u ≡ 0
open_spent u h = ap (λ s. cond (is_used s) u.amount 0) h

-- what a card's sums are after a reservation
pub sums_new : (id : ℕ) (v : DayItem) (es : Items) → item_at id es ≡ None
    → used (card_day v) (with_item id v es) + reserved (card_day v) (with_item id v es)
    ≡ used (card_day v) es + reserved (card_day v) es + spent_of v + held_of v
sums_new id v es none =
    let own : is_of (card_day v) v ≡ true = own_card (card_day v) in
    omega (
      arith,
      total-new (is_of (card_day v)) spent_of id v es none,
      ap (λ b. cond b (spent_of v) 0) own,
      total-new (is_of (card_day v)) held_of id v es none,
      ap (λ b. cond b (held_of v) 0) own,
    )

-- the newest ids after an open item went, which was the only one of its request
pub newest-release : (limit : ℕ) (es : Items) (ids : RequestDay → Option ℕ) (t : CardDay → Option Totals) (B : IsDayBook limit es ids t)
    (id : ℕ) (u : DayItem) → item_at id es ≡ Some u → u.state ≡ Open → (q : RequestDay)
    → cond (request_eq (request_day u) q) None (ids q) ≡ newest q (without id es)
newest-release limit es ids t B id u is held q = by (request_eq (request_day u) q) refl
  where
    by : (b : Bool) → request_eq (request_day u) q ≡ b → cond b None (ids q) ≡ newest q (without id es)
    by false e = B.found q ∙ sym (newest-other q id u es e is)
    by true e =
        let same : request_day u ≡ q = same_request (request_day u) q e in
        let open_u : IsTrue (is_open u.state) = subst (λ s. IsTrue (is_open s)) (sym held) refl in
        let alone : total (is_for (request_day u)) one es ≡ 1 = B.alone id u is open_u in
        let none : newest (request_day u) (without id es) ≡ None =
        newest-none (request_day u) (without id es)
        (omega (arith, alone, total-out (is_for (request_day u)) one id u es is, ap {B = ℕ} (λ b. cond b 1 0) (own_request u))) in
        sym none ∙ ap (λ z. newest z (without id es)) same

-- the first item is there
pub first_there : (id : ℕ) (u : DayItem) (es : Items) → item_at id ((id, u) ∷ es) ≡ Some u
first_there id u es = grind (arith, nat_tests)

-- the newest ids after the first item went
pub newest-forget : (limit : ℕ) (id : ℕ) (u : DayItem) (es : Items) (ids : RequestDay → Option ℕ) (t : CardDay → Option Totals)
    (B : IsDayBook limit ((id, u) ∷ es) ids t) → All (IsLtBy nat_cmp id) (keys_of es) → (q : RequestDay)
    → cond (request_eq (request_day u) q) (newest_left id (ids (request_day u))) (ids q) ≡ newest q es
newest-forget limit id u es ids t B all q = by (request_eq (request_day u) q) refl ∙ sym (newest-first q id u es all)
  where
    by : (b : Bool) → request_eq (request_day u) q ≡ b
        → cond b (newest_left id (ids (request_day u))) (ids q) ≡ cond b (newest_left id (newest q ((id, u) ∷ es))) (newest q ((id, u) ∷ es))
    by false e = B.found q
    by true e = ap (newest_left id) (B.found (request_day u) ∙ ap (λ z. newest z ((id, u) ∷ es)) (same_request (request_day u) q e))

-- the first item is the one that was looked at, which is not open
pub first_closed : {k : ℕ} {id : ℕ} {es : Items} (u v : DayItem) (es' : Items) → slice_get es 0 ≡ Some (k, v) → es ≡ (id, u) ∷ es'
    → false ≡ is_open v.state → is_open u.state ≡ false
first_closed {k} {id} {es} u v es' first split shut =
    let same : Some (id, u) ≡ Some (k, v) = ap (λ (z : Items). slice_get z 0) (sym split) ∙ first in
    ap (λ (o : Option (ℕ × DayItem)). is_open (unwrap_or o (k, v)).1.state) same ∙ sym shut
