-- What was just held is freed again.
-- for: hold::hold
use Rattle.std.proofs.Common.{◌≡◌, ℕ, Bool, true, false, ◌||◌, cond, if◌then◌else◌, List, [], ◌∷◌, Option, Some, None, is_some, refl, ap, ◌∙◌, arith}
use Rattle.std.specs.Ordering.{nat_cmp, is_eq, match_ordering}
use Rattle.std.specs.declared.cmp.Ordering.{Ordering}
use Rattle.std.specs.declared.cmp.Ordering.TheVariants.{Less, Equal, Greater}
use Rattle.std.specs.BTreeMap.{is_at}
use Rattle.std.proofs.lemmas.Bool.Decides.{nat_tests}
use Rattle.sw_base.specs.Refusals.{first_of, refused_if}
use Rattle.day_book.specs.declared.item.DayItem.{DayItem}
use Rattle.day_book.specs.declared.item.State.TheVariants.{Open}
use Rattle.day_book.specs.Items.{Items, has_open, is_open, item_at}
use Rattle.day_book.specs.Changes.{released, with_item, without}

own : (id : ℕ) → is_at (nat_cmp id) id ≡ true
own id = grind (arith, nat_tests)

apart : (id k : ℕ) → nat_cmp id k ≡ Greater → is_at (nat_cmp id) k ≡ false
apart id k h = ap is_eq h

-- the item that was put is there
there : (id : ℕ) (v : DayItem) (es : Items) → item_at id es ≡ None → item_at id (with_item id v es) ≡ Some v
there id v [] h = ap (λ b. cond b (Some v) None) (own id)
there id v (e ∷ es) h = by (nat_cmp id e.0) refl (there id v es) h
  where
    by : (o : Ordering) → nat_cmp id e.0 ≡ o → (item_at id es ≡ None → item_at id (with_item id v es) ≡ Some v) → cond (is_eq o) (Some e.1) (item_at id es) ≡ None
        → item_at id (match_ordering o ((id, v) ∷ e ∷ es) ((e.0, v) ∷ es) (e ∷ with_item id v es)) ≡ Some v
    by Less at go h = ap (λ b. cond b (Some v) (item_at id (e ∷ es))) (own id)
    by Equal at go h = absurd (let f = h in cc)
    by Greater at go h = ap (λ b. cond b (Some e.1) (item_at id (with_item id v es))) (apart id e.0 at) ∙ go h

-- without it the items are as they were
gone : (id : ℕ) (v : DayItem) (es : Items) → item_at id es ≡ None → without id (with_item id v es) ≡ es
gone id v [] h = ap (λ b. cond b [] ((id, v) ∷ [])) (own id)
gone id v (e ∷ es) h = by (nat_cmp id e.0) refl (gone id v es) h
  where
    by : (o : Ordering) → nat_cmp id e.0 ≡ o → (item_at id es ≡ None → without id (with_item id v es) ≡ es) → cond (is_eq o) (Some e.1) (item_at id es) ≡ None
        → without id (match_ordering o ((id, v) ∷ e ∷ es) ((e.0, v) ∷ es) (e ∷ with_item id v es)) ≡ e ∷ es
    by Less at go h = ap (λ b. cond b (e ∷ es) ((id, v) ∷ without id (e ∷ es))) (own id)
    by Equal at go h = absurd (let f = h in cc)
    by Greater at go h =
        ap (λ b. cond b (with_item id v es) (e ∷ without id (with_item id v es))) (apart id e.0 at) ∙ ap {B = Items} (λ z. e ∷ z) (go h)

pub freed : (id : ℕ) (v : DayItem) (es : Items) → v.state ≡ Open → item_at id es ≡ None → released id (with_item id v es) ≡ es
freed id v es held none =
    ap (λ o. if has_open o then without id (with_item id v es) else with_item id v es) (there id v es none)
    ∙ ap (λ s. if is_open s then without id (with_item id v es) else with_item id v es) held ∙ gone id v es none

-- an item that was taken was not there
pub free_after : {E : Type 0} (a r : Bool) (o : Option DayItem) (e f : E) (rest : List (Option E))
    → first_of (refused_if a e ∷ refused_if (is_some o || r) f ∷ rest) ≡ None → o ≡ None
free_after true r o e f rest h = absurd cc
free_after false r None e f rest h = refl
free_after false r (Some u) e f rest h = absurd cc
