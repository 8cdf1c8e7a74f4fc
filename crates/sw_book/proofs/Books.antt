-- A book stays a book.
-- for: book::Book
use Rattle.std.proofs.Common.{◌≡◌, ℕ, ◌+◌, ◌≤◌, Bool, true, false, cond, List, Option, Some, None, IsSome, refl, sym, ap, subst, ◌∙◌, rules, arith}
use Rattle.std.specs.Str.{bytes_eq}
use Rattle.std.proofs.lemmas.Slice.Eq.{bytes_eq-Decides}
use Rattle.sw_book.specs.declared.item.Card.{Card}
use Rattle.sw_book.specs.declared.item.BookKey.{BookKey}
use Rattle.sw_book.specs.declared.item.Item.{Item}
use Rattle.sw_book.specs.declared.item.Totals.{Totals}
use Rattle.sw_book.specs.declared.item.State.TheVariants.{Open, Used}
use Rattle.sw_book.specs.Items.{Items, is_open, is_used, total, used, reserved, spent_of, held_of, id_of, item_at, with_item, in_its_place, without, totals_in}
use Rattle.sw_book.specs.Items.{key_eq, card_eq}
use Rattle.sw_book.specs.Kept.{IsBook, one}
use Rattle.sw_book.proofs.Sums.{total-new, total-set, total-out, total-has}
use Rattle.sw_book.proofs.Keys.{id_of-new, id_of-set, id_of-out, own-new, own-set, own-out}

self_eq : (a : List ℕ) → bytes_eq a a ≡ true
self_eq a = (bytes_eq-Decides a a).1 refl

same_card : (a c : Card) → card_eq a c ≡ true → a ≡ c
same_card a c e = ap (λ (z : List ℕ). let d : Card = record { digits = z } in d) ((bytes_eq-Decides a.digits c.digits).0 e)

pub some_from : {X : Type 0} (o : Option X) → (o ≡ None → ⊥) → IsSome o
some_from None missing = absurd (missing refl)
some_from (Some x) missing = search rules

pub open_held : (u : Item) → u.state ≡ Open → held_of u ≡ u.amount
open_held u is = ap (λ s. cond (is_open s) u.amount 0) is

pub open_spent : (u : Item) → u.state ≡ Open → spent_of u ≡ 0
open_spent u is = ap (λ s. cond (is_used s) u.amount 0) is

pub used_held : (u : Item) → u.state ≡ Used → held_of u ≡ 0
used_held u is = ap (λ s. cond (is_open s) u.amount 0) is

pub used_spent : (u : Item) → u.state ≡ Used → spent_of u ≡ u.amount
used_spent u is = ap (λ s. cond (is_used s) u.amount 0) is

-- what a card's sums are after a change at one card, where they were right before it
at_card : (P : Card → Option Totals → Type 0) (a : Card) (s : Totals) (t t' : Card → Option Totals)
    → ((c : Card) → t' c ≡ cond (card_eq a c) (Some s) (t c)) → P a (Some s) → ((c : Card) → card_eq a c ≡ false → P c (t c)) → (c : Card) → P c (t' c)
at_card P a s t t' h own others c = subst (P c) (sym (h c)) (by (card_eq a c) refl)
  where
    by : (b : Bool) → card_eq a c ≡ b → P c (cond b (Some s) (t c))
    by true e = subst (λ z. P z (Some s)) (same_card a c e) own
    by false e = others c e

module _ (limit id : ℕ) (es : Items) (ids : BookKey → Option ℕ) (t : Card → Option Totals) (B : IsBook limit es ids t) where
  module _ (v : Item) (ids' : BookKey → Option ℕ) (t' : Card → Option Totals) where
    pub keeps_new : item_at id es ≡ None → ids v.key ≡ None → spent_of v ≡ 0
        → (totals_in (t v.card)).used + (totals_in (t v.card)).reserved + held_of v ≤ limit
        → ((q : BookKey) → ids' q ≡ cond (key_eq v.key q) (Some id) (ids q))
        → ((c : Card) → t' c ≡ cond (card_eq v.card c) (Some
        (record { used = (totals_in (t v.card)).used; reserved = (totals_in (t v.card)).reserved + held_of v })) (t c))
        → IsBook limit (with_item id v es) ids' t'
    keeps_new none new zero fits hk ht =
        let free : id_of v.key es ≡ None = sym (B.found v.key) ∙ new in
        let s : Totals = record { used = (totals_in (t v.card)).used; reserved = (totals_in (t v.card)).reserved + held_of v } in
        record {
          small = B.small;
          own = own-new id v es none free B.own;
          found = λ q. hk q ∙ ap (λ z. cond (key_eq v.key q) (Some id) z) (B.found q) ∙ sym (id_of-new q id v es none free);
          spent = at_card (λ c o. (totals_in o).used ≡ used c (with_item id v es)) v.card s t t' ht
              (omega (arith, total-new spent_of v.card id v es none, B.spent v.card, ap (λ b. cond b (spent_of v) 0) (self_eq v.card.digits), zero))
              (λ c e. omega (arith, total-new spent_of c id v es none, B.spent c, ap (λ b. cond b (spent_of v) 0) e));
          held = at_card (λ c o. (totals_in o).reserved ≡ reserved c (with_item id v es)) v.card s t t' ht
              (omega (arith, total-new held_of v.card id v es none, B.held v.card, ap (λ b. cond b (held_of v) 0) (self_eq v.card.digits)))
              (λ c e. omega (arith, total-new held_of c id v es none, B.held c, ap (λ b. cond b (held_of v) 0) e));
          known = at_card (λ c o. o ≡ None → total one c (with_item id v es) ≡ 0) v.card s t t' ht
              (λ h. absurd cc)
              (λ c e h. omega (arith, total-new one c id v es none, B.known c h, ap {B = ℕ} (λ b. cond b 1 0) e));
          within = at_card (λ c o. used c (with_item id v es) + reserved c (with_item id v es) ≤ limit) v.card s t t' ht
              (omega (
                arith,
                fits,
                total-new spent_of v.card id v es none,
                B.spent v.card,
                ap (λ b. cond b (spent_of v) 0) (self_eq v.card.digits),
                zero,
                total-new held_of v.card id v es none,
                B.held v.card,
                ap (λ b. cond b (held_of v) 0) (self_eq v.card.digits),
              ))
              (λ c e. omega (
                arith,
                B.within c,
                total-new spent_of c id v es none,
                ap (λ b. cond b (spent_of v) 0) e,
                total-new held_of c id v es none,
                ap (λ b. cond b (held_of v) 0) e,
              ));
        }

  module _ (u : Item) (is : item_at id es ≡ Some u) where
    -- an item's card has sums, which are at least what the item adds
    pub has_totals : t u.card ≡ None → ⊥
    has_totals none = omega (arith, total-has one u.card id u es is, B.known u.card none, ap {B = ℕ} (λ b. cond b 1 0) (self_eq u.card.digits))

    pub spent_there : spent_of u ≤ (totals_in (t u.card)).used
    spent_there = omega (arith, total-has spent_of u.card id u es is, B.spent u.card, ap (λ b. cond b (spent_of u) 0) (self_eq u.card.digits))

    pub held_there : held_of u ≤ (totals_in (t u.card)).reserved
    held_there = omega (arith, total-has held_of u.card id u es is, B.held u.card, ap (λ b. cond b (held_of u) 0) (self_eq u.card.digits))

    pub sums_small : (totals_in (t u.card)).used + (totals_in (t u.card)).reserved ≤ limit
    sums_small = omega (arith, B.within u.card, B.spent u.card, B.held u.card)

    module _ (s : Totals) (t' : Card → Option Totals) (ht : (c : Card) → t' c ≡ cond (card_eq u.card c) (Some s) (t c))
        (less : s.used + s.reserved ≤ (totals_in (t u.card)).used + (totals_in (t u.card)).reserved) where
      pub keeps_set : (v : Item) → v.key ≡ u.key → v.card ≡ u.card → s.used + spent_of u ≡ (totals_in (t u.card)).used + spent_of v
          → s.reserved + held_of u ≡ (totals_in (t u.card)).reserved + held_of v → IsBook limit (in_its_place id v es) ids t'
      keeps_set v key card spent held =
          let is_own : card_eq v.card u.card ≡ true = ap (λ (z : Card). bytes_eq z.digits u.card.digits) card ∙ self_eq u.card.digits in
          let is_other : (c : Card) → card_eq u.card c ≡ false → card_eq v.card c ≡ false = λ c e. ap (λ (z : Card). bytes_eq z.digits c.digits) card ∙ e in
          let spent_own : s.used ≡ used u.card (in_its_place id v es) =
          omega (
            arith,
            spent,
            total-set spent_of u.card id u v es is,
            B.spent u.card,
            ap (λ b. cond b (spent_of u) 0) (self_eq u.card.digits),
            ap (λ b. cond b (spent_of v) 0) is_own,
          ) in
          let held_own : s.reserved ≡ reserved u.card (in_its_place id v es) =
          omega (
            arith,
            held,
            total-set held_of u.card id u v es is,
            B.held u.card,
            ap (λ b. cond b (held_of u) 0) (self_eq u.card.digits),
            ap (λ b. cond b (held_of v) 0) is_own,
          ) in
          let spent_other : (c : Card) → card_eq u.card c ≡ false → used c (in_its_place id v es) ≡ used c es =
          λ c e. omega (arith, total-set spent_of c id u v es is, ap (λ b. cond b (spent_of u) 0) e, ap (λ b. cond b (spent_of v) 0) (is_other c e)) in
          let held_other : (c : Card) → card_eq u.card c ≡ false → reserved c (in_its_place id v es) ≡ reserved c es =
          λ c e. omega (arith, total-set held_of c id u v es is, ap (λ b. cond b (held_of u) 0) e, ap (λ b. cond b (held_of v) 0) (is_other c e)) in
          record {
            small = B.small;
            own = own-set id u v es key is B.own;
            found = λ q. B.found q ∙ sym (id_of-set q id u v es key is);
            spent = at_card (λ c o. (totals_in o).used ≡ used c (in_its_place id v es)) u.card s t t' ht spent_own (λ c e. B.spent c ∙ sym (spent_other c e));
            held = at_card (λ c o. (totals_in o).reserved ≡ reserved c (in_its_place id v es)) u.card s t t' ht held_own
                (λ c e. B.held c ∙ sym (held_other c e));
            known = at_card (λ c o. o ≡ None → total one c (in_its_place id v es) ≡ 0) u.card s t t' ht
                (λ h. absurd cc)
                (λ c e h. omega (
                  arith,
                  total-set one c id u v es is,
                  B.known c h,
                  ap {B = ℕ} (λ b. cond b 1 0) e,
                  ap {B = ℕ} (λ b. cond b 1 0) (is_other c e),
                ));
            within = at_card (λ c o. used c (in_its_place id v es) + reserved c (in_its_place id v es) ≤ limit) u.card s t t' ht
                (omega (arith, less, sums_small, spent_own, held_own))
                (λ c e. omega (arith, B.within c, spent_other c e, held_other c e));
          }

      pub keeps_out : (ids' : BookKey → Option ℕ) → ((q : BookKey) → ids' q ≡ cond (key_eq u.key q) None (ids q)) →
          s.used + spent_of u ≡ (totals_in (t u.card)).used
          → s.reserved + held_of u ≡ (totals_in (t u.card)).reserved → IsBook limit (without id es) ids' t'
      keeps_out ids' hk spent held =
          let es' = without id es in
          let spent_own : s.used ≡ used u.card es' =
          omega (arith, spent, total-out spent_of u.card id u es is, B.spent u.card, ap (λ b. cond b (spent_of u) 0) (self_eq u.card.digits)) in
          let held_own : s.reserved ≡ reserved u.card es' =
          omega (arith, held, total-out held_of u.card id u es is, B.held u.card, ap (λ b. cond b (held_of u) 0) (self_eq u.card.digits)) in
          let spent_other : (c : Card) → card_eq u.card c ≡ false → used c es' ≡ used c es =
          λ c e. omega (arith, total-out spent_of c id u es is, ap (λ b. cond b (spent_of u) 0) e) in
          let held_other : (c : Card) → card_eq u.card c ≡ false → reserved c es' ≡ reserved c es =
          λ c e. omega (arith, total-out held_of c id u es is, ap (λ b. cond b (held_of u) 0) e) in
          record {
            small = B.small;
            own = own-out id u es is B.own;
            found = λ q. hk q ∙ ap (λ z. cond (key_eq u.key q) None z) (B.found q) ∙ sym (id_of-out q id u es B.own is);
            spent = at_card (λ c o. (totals_in o).used ≡ used c es') u.card s t t' ht spent_own (λ c e. B.spent c ∙ sym (spent_other c e));
            held = at_card (λ c o. (totals_in o).reserved ≡ reserved c es') u.card s t t' ht held_own (λ c e. B.held c ∙ sym (held_other c e));
            known = at_card (λ c o. o ≡ None → total one c es' ≡ 0) u.card s t t' ht
                (λ h. absurd cc)
                (λ c e h. omega (arith, total-out one c id u es is, B.known c h, ap {B = ℕ} (λ b. cond b 1 0) e));
            within = at_card (λ c o. used c es' + reserved c es' ≤ limit) u.card s t t' ht
                (omega (arith, less, sums_small, spent_own, held_own))
                (λ c e. omega (arith, B.within c, spent_other c e, held_other c e));
          }
