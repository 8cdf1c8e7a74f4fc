-- No other item of its day has the request of an open one, after an item was put, changed or taken out.
-- for: book::DayBook
use Rattle.std.proofs.Common.{◌≡◌, ◌⊎◌, inl, inr, ℕ, ◌+◌, ◌≤◌, Bool, true, false, cond, [], ◌∷◌, List, Option, Some, None, unwrap_or, IsTrue, refl, sym, ap, subst, ◌∙◌, true≢false, arith}
use Rattle.std.specs.Prelude.{◌==◌, ◌&&◌}
use Rattle.std.specs.Ordering.{nat_cmp, match_ordering}
use Rattle.std.specs.declared.cmp.Ordering.{Ordering}
use Rattle.std.specs.declared.cmp.Ordering.TheVariants.{Less, Equal, Greater}
use Rattle.std.specs.BTreeMap.{is_at}
use Rattle.std.specs.Str.{bytes_eq}
use Rattle.std.proofs.lemmas.Slice.Eq.{bytes_eq-Decides}
use Rattle.std.proofs.lemmas.Bool.Decides.{nat_tests}
use Rattle.day_book.specs.declared.item.DayItem.{DayItem}
use Rattle.day_book.specs.declared.item.RequestDay.{RequestDay}
use Rattle.day_book.specs.Items.{Items, total, item_at, later, newest, is_for, is_open, is_open_in, request_day, request_eq}
use Rattle.day_book.specs.Changes.{with_item, in_its_place}
use Rattle.day_book.specs.Taking.{is_held, is_held_at}
use Rattle.day_book.specs.Kept.{one, HasOpenAlone, Takes}
use Rattle.day_book.proofs.Sums.{share, total-new, total-set, total-has}
use Rattle.day_book.proofs.Newest.{newest-none, none-newest}

bytes_self : (a : List ℕ) → bytes_eq a a ≡ true
bytes_self a = (bytes_eq-Decides a a).1 refl

pub both : (a b : Bool) → (a && b) ≡ true → (a ≡ true) × (b ≡ true)
both true true h = (refl, refl)
both true false h = absurd cc
both false b h = absurd cc

pub same_request : (a q : RequestDay) → request_eq a q ≡ true → a ≡ q
same_request a q e =
    let two = both (bytes_eq a.request q.request) (a.day == q.day) e in
    let r : a.request ≡ q.request = (bytes_eq-Decides a.request q.request).0 two.0 in
    let d : a.day ≡ q.day = grind (arith, nat_tests, two.1) in
    ap (λ (z : List ℕ). let v : RequestDay = record { request = z; day = a.day } in v) r
    ∙ ap (λ (z : ℕ). let v : RequestDay = record { request = q.request; day = z } in v) d

pub own_request : (u : DayItem) → is_for (request_day u) u ≡ true
own_request u = grind (arith, nat_tests, bytes_self u.request)

-- where an item was found, after one was put, or put in the place of another
module _ (i : ℕ) (x : DayItem) where
  first_or : (v : DayItem) (b : Bool) (o : Option DayItem) → cond b (Some v) o ≡ Some x → (x ≡ v) ⊎ (o ≡ Some x)
  first_or v true o h = inl cc
  first_or v false o h = inr h

  in_place_of : (v w : DayItem) (b : Bool) (o : Option DayItem) → cond b (Some v) o ≡ Some x → (x ≡ v) ⊎ (cond b (Some w) o ≡ Some x)
  in_place_of v w true o h = inl cc
  in_place_of v w false o h = inr h

  behind : (v w : DayItem) (b : Bool) (n o : Option DayItem) → (n ≡ Some x → (x ≡ v) ⊎ (o ≡ Some x)) → cond b (Some w) n ≡ Some x
      → (x ≡ v) ⊎ (cond b (Some w) o ≡ Some x)
  behind v w true n o go h = inr h
  behind v w false n o go h = go h

  pub found-new : (id : ℕ) (v : DayItem) (es : Items) → item_at i (with_item id v es) ≡ Some x → (x ≡ v) ⊎ (item_at i es ≡ Some x)
  found-new id v [] h = first_or v (is_at (nat_cmp i) id) None h
  found-new id v (e ∷ es) h = by (nat_cmp id e.0) (found-new id v es) h
    where
      by : (o : Ordering) → (item_at i (with_item id v es) ≡ Some x → (x ≡ v) ⊎ (item_at i es ≡ Some x)) → item_at i (match_ordering o ((id, v) ∷ e ∷ es) ((e.0, v) ∷ es) (e ∷ with_item id v es)) ≡ Some x
          → (x ≡ v) ⊎ (item_at i (e ∷ es) ≡ Some x)
      by Less go h = first_or v (is_at (nat_cmp i) id) (item_at i (e ∷ es)) h
      by Equal go h = in_place_of v e.1 (is_at (nat_cmp i) e.0) (item_at i es) h
      by Greater go h = behind v e.1 (is_at (nat_cmp i) e.0) (item_at i (with_item id v es)) (item_at i es) go h

  pub found-set : (id : ℕ) (v : DayItem) (es : Items) → item_at i (in_its_place id v es) ≡ Some x → (x ≡ v) ⊎ (item_at i es ≡ Some x)
  found-set id v [] h = inr h
  found-set id v (e ∷ es) h = by (is_at (nat_cmp id) e.0) (found-set id v es) h
    where
      by : (b : Bool) → (item_at i (in_its_place id v es) ≡ Some x → (x ≡ v) ⊎ (item_at i es ≡ Some x)) → item_at i (cond b ((e.0, v) ∷ es) (e ∷ in_its_place id v es)) ≡ Some x → (x ≡ v) ⊎ (item_at i (e ∷ es) ≡ Some x)
      by true go h = in_place_of v e.1 (is_at (nat_cmp i) e.0) (item_at i es) h
      by false go h = behind v e.1 (is_at (nat_cmp i) e.0) (item_at i (in_its_place id v es)) (item_at i es) go h

  pub found-out : (b : Bool) (o n : Option DayItem) → n ≡ cond b None o → n ≡ Some x → o ≡ Some x
  found-out true o n e h = absurd cc
  found-out false o n e h = sym e ∙ h

same_id : (i k : ℕ) → is_at (nat_cmp i) k ≡ true → i ≡ k
same_id i k h = grind (arith, nat_tests, h)

-- how many items have the request of one that is there
counted : (q : RequestDay) (i : ℕ) (x : DayItem) (es : Items) → item_at i es ≡ Some x → is_for q x ≡ true → 1 ≤ total (is_for q) one es
counted q i x es h is = omega (arith, total-has (is_for q) one i x es h, ap {B = ℕ} (λ b. cond b 1 0) is)

-- the only item of a request is its newest one
alone-newest : (q : RequestDay) (i : ℕ) (x : DayItem) (es : Items) → item_at i es ≡ Some x → is_for q x ≡ true → total (is_for q) one es ≡ 1 → newest q es ≡ Some i
alone-newest q i x [] h is count = absurd cc
alone-newest q i x (e ∷ es) h is count = by (is_at (nat_cmp i) e.0) refl (is_for q e.1) refl (λ z. alone-newest q i x es z is) h count
  where
    by : (b : Bool) → is_at (nat_cmp i) e.0 ≡ b → (d : Bool) → is_for q e.1 ≡ d
        → (item_at i es ≡ Some x → total (is_for q) one es ≡ 1 → newest q es ≡ Some i) → cond b (Some e.1) (item_at i es) ≡ Some x
        → cond d 1 0 + total (is_for q) one es ≡ 1 → cond d (Some (later e.0 (newest q es))) (newest q es) ≡ Some i
    by true at true has go h count =
        let rest : newest q es ≡ None = newest-none q es (omega (arith, count)) in
        ap {B = Option ℕ} (λ o. Some (later e.0 o)) rest ∙ ap {B = Option ℕ} Some (sym (same_id i e.0 at))
    by true at false has go h count = absurd (true≢false (sym is ∙ ap (λ o. is_for q (unwrap_or o x)) (sym h) ∙ has))
    by false at true has go h count = absurd (omega (arith, count, counted q i x es h is))
    by false at false has go h count = go h (omega (arith, count))

-- an item under an id is open
open_there : (i : ℕ) (x : DayItem) (es : Items) → item_at i es ≡ Some x → IsTrue (is_open x.state) → is_open_in i es ≡ false → ⊥
open_there i x es h held apart = absurd cc

module _ (es : Items) (alone : HasOpenAlone es) where
  -- an open item does not have the request of one that may be put
  unheld_apart : (v : DayItem) → is_held v es ≡ false → (i : ℕ) (x : DayItem) → item_at i es ≡ Some x → IsTrue (is_open x.state)
      → is_for (request_day x) v ≡ false
  unheld_apart v unheld i x h held = by (is_for (request_day x) v) refl
    where
      by : (b : Bool) → is_for (request_day x) v ≡ b → b ≡ false
      by false is = refl
      by true is =
          let same : request_day v ≡ request_day x = same_request (request_day v) (request_day x) is in
          let at : newest (request_day x) es ≡ Some i = alone-newest (request_day x) i x es h (own_request x) (alone i x h held) in
          absurd (open_there i x es h held (sym (ap (λ o. is_held_at o es) at) ∙ ap (λ q. is_held_at (newest q es) es) (sym same) ∙ unheld))

  pub alone-new : (id : ℕ) (v : DayItem) → Takes id v es → HasOpenAlone (with_item id v es)
  alone-new id v T i x h held = by (found-new i x id v es h)
    where
      by : (x ≡ v) ⊎ (item_at i es ≡ Some x) → total (is_for (request_day x)) one (with_item id v es) ≡ 1
      by (inl is) =
          let open_v : IsTrue (is_open v.state) = subst (λ z. IsTrue (is_open z.state)) is held in
          let none = none-newest (request_day v) es (T.unknown open_v) in
          let all : total (is_for (request_day v)) one (with_item id v es) ≡ 1 =
          omega (arith, none, total-new (is_for (request_day v)) one id v es T.free, ap {B = ℕ} (λ b. cond b 1 0) (own_request v)) in
          subst (λ z. total (is_for (request_day z)) one (with_item id v es) ≡ 1) (sym is) all
      by (inr was) =
          omega (
            arith,
            alone i x was held,
            total-new (is_for (request_day x)) one id v es T.free,
            ap {B = ℕ} (λ b. cond b 1 0) (unheld_apart v T.unheld i x was held),
          )

  pub alone-set : (id : ℕ) (u v : DayItem) → item_at id es ≡ Some u → request_day v ≡ request_day u → is_open v.state ≡ false
      → HasOpenAlone (in_its_place id v es)
  alone-set id u v at same closed i x h held = by (found-set i x id v es h)
    where
      by : (x ≡ v) ⊎ (item_at i es ≡ Some x) → total (is_for (request_day x)) one (in_its_place id v es) ≡ 1
      by (inl is) = absurd cc
      by (inr was) =
          omega (
            arith,
            alone i x was held,
            total-set (is_for (request_day x)) one id u v es at,
            ap {B = ℕ} (λ q. cond (request_eq q (request_day x)) 1 0) same,
          )

  pub alone-out : (u : DayItem) (es' : Items) → ((q : RequestDay) → total (is_for q) one es' + share (is_for q) one u ≡ total (is_for q) one es)
      → ((i : ℕ) (x : DayItem) → item_at i es' ≡ Some x → item_at i es ≡ Some x) → HasOpenAlone es'
  alone-out u es' less back i x h held =
      omega (arith, alone i x (back i x h) held, less (request_day x), counted (request_day x) i x es' h (own_request x))
