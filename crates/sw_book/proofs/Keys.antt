-- Whose key it is, after an item was put, changed or taken out.
-- for: book::Book
use Rattle.std.proofs.Common.{◌≡◌, ℕ, Bool, true, false, cond, List, [], ◌∷◌, Some, None, unwrap_or, refl, sym, ap, ◌∙◌, true≢false}
use Rattle.std.specs.Str.{bytes_eq}
use Rattle.std.proofs.lemmas.Slice.Eq.{bytes_eq-Decides}
use Rattle.std.specs.Ordering.{nat_cmp, is_eq, match_ordering}
use Rattle.std.specs.declared.cmp.Ordering.{Ordering}
use Rattle.std.specs.declared.cmp.Ordering.TheVariants.{Less, Equal, Greater}
use Rattle.std.specs.BTreeMap.{is_at}
use Rattle.sw_book.specs.declared.item.Item.{Item}
use Rattle.sw_book.specs.declared.item.BookKey.{BookKey}
use Rattle.sw_book.specs.Items.{Items, id_of, item_at, with_item, in_its_place, without}
use Rattle.sw_book.specs.Kept.{HaveOwnKeys}

-- a test of bytes, both ways round, and through a third
back : (a b : List ℕ) → bytes_eq a b ≡ true → bytes_eq b a ≡ true
back a b h = (bytes_eq-Decides b a).1 (sym ((bytes_eq-Decides a b).0 h))

through : (a b d : List ℕ) → bytes_eq a b ≡ true → bytes_eq a d ≡ bytes_eq b d
through a b d h = ap (λ z. bytes_eq z d) ((bytes_eq-Decides a b).0 h)

-- the key of an item that is there is not absent
pub there : (k : BookKey) (id : ℕ) (u : Item) (es : Items) → item_at id es ≡ Some u → id_of k es ≡ None → bytes_eq u.key.bytes k.bytes ≡ false
there k id u [] h none = absurd cc
there k id u (e ∷ es) h none = by (is_at (nat_cmp id) e.0) (bytes_eq e.1.key.bytes k.bytes) refl (there k id u es) h none
  where
    by : (b d : Bool) → bytes_eq e.1.key.bytes k.bytes ≡ d → (item_at id es ≡ Some u → id_of k es ≡ None → bytes_eq u.key.bytes k.bytes ≡ false)
        → cond b (Some e.1) (item_at id es) ≡ Some u → cond d (Some e.0) (id_of k es) ≡ None → bytes_eq u.key.bytes k.bytes ≡ false
    by b true same go h none = absurd cc
    by true false same go h none = ap (λ o. bytes_eq (unwrap_or o u).key.bytes k.bytes) (sym h) ∙ same
    by false false same go h none = go h none

pub id_of-new : (q : BookKey) (id : ℕ) (v : Item) (es : Items) → item_at id es ≡ None → id_of v.key es ≡ None
    → id_of q (with_item id v es) ≡ cond (bytes_eq v.key.bytes q.bytes) (Some id) (id_of q es)
id_of-new q id v [] h none = refl
id_of-new q id v (e ∷ es) h none = by (nat_cmp id e.0) (bytes_eq e.1.key.bytes q.bytes) refl (bytes_eq e.1.key.bytes v.key.bytes) refl
    (id_of-new q id v es) h none
  where
    by : (o : Ordering) (d : Bool) → bytes_eq e.1.key.bytes q.bytes ≡ d → (k : Bool) → bytes_eq e.1.key.bytes v.key.bytes ≡ k
        → (item_at id es ≡ None → id_of v.key es ≡ None → id_of q (with_item id v es) ≡ cond (bytes_eq v.key.bytes q.bytes) (Some id) (id_of q es))
        → cond (is_eq o) (Some e.1) (item_at id es) ≡ None → cond k (Some e.0) (id_of v.key es) ≡ None
        → id_of q (match_ordering o ((id, v) ∷ e ∷ es) ((e.0, v) ∷ es) (e ∷ with_item id v es)) ≡ cond (bytes_eq v.key.bytes q.bytes) (Some id)
        (cond d (Some e.0) (id_of q es))
    by Less d same k other go h none = ap (λ z. cond (bytes_eq v.key.bytes q.bytes) (Some id) (cond z (Some e.0) (id_of q es))) same
    by Equal d same k other go h none = absurd cc
    by Greater d same true other go h none = absurd cc
    by Greater false same false other go h none = ap (λ z. cond z (Some e.0) (id_of q (with_item id v es))) same ∙ go h none
    by Greater true same false other go h none =
        ap (λ z. cond z (Some e.0) (id_of q (with_item id v es))) same
        ∙ sym (ap (λ z. cond z (Some id) (Some e.0)) (apart (bytes_eq v.key.bytes q.bytes) refl))
      where
        apart : (r : Bool) → bytes_eq v.key.bytes q.bytes ≡ r → bytes_eq v.key.bytes q.bytes ≡ false
        apart false e = e
        apart true f = absurd (true≢false (sym (through e.1.key.bytes q.bytes v.key.bytes same ∙ back v.key.bytes q.bytes f) ∙ other))

pub id_of-set : (q : BookKey) (id : ℕ) (u v : Item) (es : Items) → v.key ≡ u.key → item_at id es ≡ Some u → id_of q (in_its_place id v es) ≡ id_of q es
id_of-set q id u v [] is h = absurd cc
id_of-set q id u v (e ∷ es) is h = by (is_at (nat_cmp id) e.0) (id_of-set q id u v es is) h
  where
    by : (b : Bool) → (item_at id es ≡ Some u → id_of q (in_its_place id v es) ≡ id_of q es) → cond b (Some e.1) (item_at id es) ≡ Some u
        → id_of q (cond b ((e.0, v) ∷ es) (e ∷ in_its_place id v es)) ≡ id_of q (e ∷ es)
    by true go h = ap (λ k. cond (bytes_eq k.bytes q.bytes) (Some e.0) (id_of q es)) (is ∙ ap (λ o. (unwrap_or o u).key) (sym h))
    by false go h = ap (cond (bytes_eq e.1.key.bytes q.bytes) (Some e.0)) (go h)

pub id_of-out : (q : BookKey) (id : ℕ) (u : Item) (es : Items) → HaveOwnKeys es → item_at id es ≡ Some u
    → id_of q (without id es) ≡ cond (bytes_eq u.key.bytes q.bytes) None (id_of q es)
id_of-out q id u [] own h = absurd cc
id_of-out q id u (e ∷ es) own h = by (is_at (nat_cmp id) e.0) (bytes_eq e.1.key.bytes q.bytes) refl (id_of-out q id u es own.1) (there e.1.key id u es) h
  where
    same_id : (a b : BookKey) → a.bytes ≡ b.bytes → id_of a es ≡ id_of b es
    same_id a b e = ap (λ z. id_of (record { bytes = z }) es) e

    by : (b d : Bool) → bytes_eq e.1.key.bytes q.bytes ≡ d
        → (item_at id es ≡ Some u → id_of q (without id es) ≡ cond (bytes_eq u.key.bytes q.bytes) None (id_of q es))
        → (item_at id es ≡ Some u → id_of e.1.key es ≡ None → bytes_eq u.key.bytes e.1.key.bytes ≡ false)
        → cond b (Some e.1) (item_at id es) ≡ Some u
        → id_of q (cond b es (e ∷ without id es)) ≡ cond (bytes_eq u.key.bytes q.bytes) None (cond d (Some e.0) (id_of q es))
    by true d same go apart h =
        let key : e.1.key ≡ u.key = ap (λ o. (unwrap_or o u).key) h in
        head d same key
      where
        head : (d : Bool) → bytes_eq e.1.key.bytes q.bytes ≡ d → e.1.key ≡ u.key →
            id_of q es ≡ cond (bytes_eq u.key.bytes q.bytes) None (cond d (Some e.0) (id_of q es))
        head true same key =
            same_id q e.1.key (sym ((bytes_eq-Decides e.1.key.bytes q.bytes).0 same)) ∙ own.0
            ∙ sym (ap (λ z. cond z None (Some e.0)) (ap (λ k. bytes_eq k.bytes q.bytes) (sym key) ∙ same))
        head false same key = sym (ap (λ z. cond z None (id_of q es)) (ap (λ k. bytes_eq k.bytes q.bytes) (sym key) ∙ same))
    by false false same go apart h = ap (λ z. cond z (Some e.0) (id_of q (without id es))) same ∙ go h
    by false true same go apart h =
        let a = apart h own.0 in
        ap (λ z. cond z (Some e.0) (id_of q (without id es))) same
        ∙ sym (ap (λ z. cond z None (Some e.0)) (ap (λ z. bytes_eq u.key.bytes z) (sym ((bytes_eq-Decides e.1.key.bytes q.bytes).0 same)) ∙ a))

pub own-new : (id : ℕ) (v : Item) (es : Items) → item_at id es ≡ None → id_of v.key es ≡ None → HaveOwnKeys es → HaveOwnKeys (with_item id v es)
own-new id v [] h none own = (refl, tt)
own-new id v (e ∷ es) h none own = by (nat_cmp id e.0) (bytes_eq e.1.key.bytes v.key.bytes) refl (own-new id v es) (id_of-new e.1.key id v es) h none none
  where
    by : (o : Ordering) (k : Bool) → bytes_eq e.1.key.bytes v.key.bytes ≡ k →
        (item_at id es ≡ None → id_of v.key es ≡ None → HaveOwnKeys es → HaveOwnKeys (with_item id v es))
        → (item_at id es ≡ None → id_of v.key es ≡ None → id_of e.1.key (with_item id v es) ≡ cond (bytes_eq v.key.bytes e.1.key.bytes) (Some id)
        (id_of e.1.key es))
        → cond (is_eq o) (Some e.1) (item_at id es) ≡ None → cond k (Some e.0) (id_of v.key es) ≡ None → id_of v.key (e ∷ es) ≡ None
        → HaveOwnKeys (match_ordering o ((id, v) ∷ e ∷ es) ((e.0, v) ∷ es) (e ∷ with_item id v es))
    by Less k other go first h none all = (all, own)
    by Equal k other go first h none all = absurd cc
    by Greater true other go first h none all = absurd cc
    by Greater false other go first h none all =
        (first h none ∙ ap (λ z. cond z (Some id) (id_of e.1.key es)) (apart (bytes_eq v.key.bytes e.1.key.bytes) refl) ∙ own.0, go h none own.1)
      where
        apart : (r : Bool) → bytes_eq v.key.bytes e.1.key.bytes ≡ r → bytes_eq v.key.bytes e.1.key.bytes ≡ false
        apart false f = f
        apart true f = absurd (true≢false (sym (back v.key.bytes e.1.key.bytes f) ∙ other))

pub own-set : (id : ℕ) (u v : Item) (es : Items) → v.key ≡ u.key → item_at id es ≡ Some u → HaveOwnKeys es → HaveOwnKeys (in_its_place id v es)
own-set id u v [] is h own = absurd cc
own-set id u v (e ∷ es) is h own = by (is_at (nat_cmp id) e.0) (own-set id u v es is) (id_of-set e.1.key id u v es is) h
  where
    by : (b : Bool) → (item_at id es ≡ Some u → HaveOwnKeys es → HaveOwnKeys (in_its_place id v es))
        → (item_at id es ≡ Some u → id_of e.1.key (in_its_place id v es) ≡ id_of e.1.key es) → cond b (Some e.1) (item_at id es) ≡ Some u
        → HaveOwnKeys (cond b ((e.0, v) ∷ es) (e ∷ in_its_place id v es))
    by true go first h = (ap (λ k. id_of k es) (is ∙ ap (λ o. (unwrap_or o u).key) (sym h)) ∙ own.0, own.1)
    by false go first h = (first h ∙ own.0, go h own.1)

pub own-out : (id : ℕ) (u : Item) (es : Items) → item_at id es ≡ Some u → HaveOwnKeys es → HaveOwnKeys (without id es)
own-out id u [] h own = absurd cc
own-out id u (e ∷ es) h own = by (is_at (nat_cmp id) e.0) (own-out id u es) (id_of-out e.1.key id u es own.1) h
  where
    none : (b : Bool) → cond b None (id_of e.1.key es) ≡ None
    none true = refl
    none false = own.0

    by : (b : Bool) → (item_at id es ≡ Some u → HaveOwnKeys es → HaveOwnKeys (without id es))
        → (item_at id es ≡ Some u → id_of e.1.key (without id es) ≡ cond (bytes_eq u.key.bytes e.1.key.bytes) None (id_of e.1.key es))
        → cond b (Some e.1) (item_at id es) ≡ Some u → HaveOwnKeys (cond b es (e ∷ without id es))
    by true go first h = own.1
    by false go first h = (first h ∙ none (bytes_eq u.key.bytes e.1.key.bytes), go h own.1)
