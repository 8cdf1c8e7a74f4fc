-- Requests by number: one put last, one taken out.
-- for: mux::Mux::request, mux::Mux::take
use Rattle.std.proofs.Common.{◌≡◌, ℕ, ◌+◌, ◌≤◌, Bool, true, false, cond, List, [], ◌∷◌, ◌++◌, Option, Some, None, is_some, unwrap_or}
use Rattle.std.proofs.Common.{true≢false, refl, sym, ap}
use Rattle.std.proofs.Common.{◌∙◌, arith}
use Rattle.std.specs.Map.{lookup, remove_entry, values_of}
use Rattle.std.specs.BTreeMap.{insert_entry, is_at}
use Rattle.std.specs.Ordering.{nat_cmp, is_eq, match_ordering}
use Rattle.std.specs.declared.cmp.Ordering.TheVariants.{Equal, Greater}
use Rattle.std.specs.Cmp.{nat_cmp_is}
use Rattle.std.specs.Str.{bytes_eq}
use Rattle.std.proofs.lemmas.Slice.Eq.{bytes_eq-Decides}
use Rattle.sw_mux.specs.declared.key.Key.{Key}
use Rattle.sw_mux.specs.Waiting.{waits, without}
use Rattle.sw_mux.specs.Numbered.{Numbered, key_eq, number_of, Rise, HaveOwnKeys}

-- a test of keys, to itself, both ways round, and through a third
pub same_key : (a : Key) → key_eq a a ≡ true
same_key a = (bytes_eq-Decides a.bytes a.bytes).1 refl

pub one_key : (a b : Key) → key_eq a b ≡ true → a ≡ b
one_key a b h = ap (λ (z : List ℕ). let k : Key = record { bytes = z } in k) ((bytes_eq-Decides a.bytes b.bytes).0 h)

pub back : (a b : Key) → key_eq a b ≡ false → key_eq b a ≡ false
back a b h = by (key_eq b a) refl
  where
    by : (c : Bool) → key_eq b a ≡ c → key_eq b a ≡ false
    by false e = e
    by true e = absurd (true≢false (sym (same_key a) ∙ ap (λ z. key_eq a z) (sym (one_key b a e)) ∙ h))

pub rise_reaches : (low next : ℕ) (es : Numbered) → Rise low es next → low ≤ next
rise_reaches low next [] r = r
rise_reaches low next (e ∷ es) r = omega (arith, r.0, rise_reaches (e.0 + 1) next es r.1)

rise_lower : (low high next : ℕ) (es : Numbered) → low ≤ high → Rise high es next → Rise low es next
rise_lower low high next [] h r = omega (arith, h, r)
rise_lower low high next (e ∷ es) h r = (omega (arith, h, r.0), r.1)

-- the next number is put last
pub put_last : (low n : ℕ) (v : Key × ℕ) (es : Numbered) → Rise low es n → insert_entry nat_cmp es n v ≡ es ++ (n, v) ∷ []
put_last low n v [] r = refl
put_last low n v (e ∷ es) r =
    let above : e.0 + 1 ≤ n = rise_reaches (e.0 + 1) n es r.1 in
    ap (λ o. match_ordering o ((n, v) ∷ e ∷ es) ((e.0, v) ∷ es) (e ∷ insert_entry nat_cmp es n v)) (sym (nat_cmp_is n e.0 Greater (omega (arith, above))))
    ∙ ap (λ z. e ∷ z) (put_last (e.0 + 1) n v es r.1)

pub rise_last : (low n : ℕ) (v : Key × ℕ) (es : Numbered) → Rise low es n → Rise low (es ++ (n, v) ∷ []) (n + 1)
rise_last low n v [] r = (r, omega arith)
rise_last low n v (e ∷ es) r = (r.0, rise_last (e.0 + 1) n v es r.1)

pub number_last : (q : Key) (n : ℕ) (v : Key × ℕ) (es : Numbered) → number_of v.0 es ≡ None →
    number_of q (es ++ (n, v) ∷ []) ≡ cond (key_eq v.0 q) (Some n) (number_of q es)
number_last q n v [] none = refl
number_last q n v (e ∷ es) none = by (key_eq e.1.0 q) refl (key_eq e.1.0 v.0) refl (number_last q n v es) none
  where
    by : (b : Bool) → key_eq e.1.0 q ≡ b → (d : Bool) → key_eq e.1.0 v.0 ≡ d
        → (number_of v.0 es ≡ None → number_of q (es ++ (n, v) ∷ []) ≡ cond (key_eq v.0 q) (Some n) (number_of q es))
        → cond d (Some e.0) (number_of v.0 es) ≡ None
        → cond b (Some e.0) (number_of q (es ++ (n, v) ∷ [])) ≡ cond (key_eq v.0 q) (Some n) (cond b (Some e.0) (number_of q es))
    by b same true other go none = absurd cc
    by false same false other go none = go none
    by true same false other go none =
        sym (ap (λ z. cond z (Some n) (Some e.0)) (ap (λ z. key_eq v.0 z) (sym (one_key e.1.0 q same)) ∙ back e.1.0 v.0 other))

pub own_last : (n : ℕ) (v : Key × ℕ) (es : Numbered) → number_of v.0 es ≡ None → HaveOwnKeys es → HaveOwnKeys (es ++ (n, v) ∷ [])
own_last n v [] none own = (refl, tt)
own_last n v (e ∷ es) none own = by (key_eq e.1.0 v.0) refl (number_last e.1.0 n v es) (own_last n v es) none
  where
    by : (d : Bool) → key_eq e.1.0 v.0 ≡ d
        → (number_of v.0 es ≡ None → number_of e.1.0 (es ++ (n, v) ∷ []) ≡ cond (key_eq v.0 e.1.0) (Some n) (number_of e.1.0 es))
        → (number_of v.0 es ≡ None → HaveOwnKeys es → HaveOwnKeys (es ++ (n, v) ∷ []))
        → cond d (Some e.0) (number_of v.0 es) ≡ None → HaveOwnKeys (e ∷ (es ++ (n, v) ∷ []))
    by true other first go none = absurd cc
    by false other first go none =
        (first none ∙ ap (λ z. cond z (Some n) (number_of e.1.0 es)) (back e.1.0 v.0 other) ∙ own.0, go none own.1)

-- without the request with a key
abbrev pub out : Key → Numbered → Numbered
out k [] = []
out k (e ∷ es) = cond (key_eq e.1.0 k) es (e ∷ out k es)

number_above : (low n next : ℕ) (k : Key) (es : Numbered) → Rise low es next → number_of k es ≡ Some n → low ≤ n
number_above low n next k [] r h = absurd cc
number_above low n next k (e ∷ es) r h = by (key_eq e.1.0 k) (number_above (e.0 + 1) n next k es r.1) h
  where
    by : (b : Bool) → (number_of k es ≡ Some n → e.0 + 1 ≤ n) → cond b (Some e.0) (number_of k es) ≡ Some n → low ≤ n
    by true go h = let same : e.0 ≡ n = ap (λ o. unwrap_or o 0) h in omega (arith, same, r.0)
    by false go h = omega (arith, go h, r.0)

-- taken out by its number, it is the request with the key
pub out_number : (low n next : ℕ) (k : Key) (es : Numbered) → Rise low es next → number_of k es ≡ Some n → remove_entry (is_at (nat_cmp n)) es ≡ out k es
out_number low n next k [] r h = refl
out_number low n next k (e ∷ es) r h = by (key_eq e.1.0 k) (out_number (e.0 + 1) n next k es r.1) (number_above (e.0 + 1) n next k es r.1) h
  where
    by : (b : Bool) → (number_of k es ≡ Some n → remove_entry (is_at (nat_cmp n)) es ≡ out k es) → (number_of k es ≡ Some n → e.0 + 1 ≤ n)
        → cond b (Some e.0) (number_of k es) ≡ Some n
        → cond (is_eq (nat_cmp n e.0)) es (e ∷ remove_entry (is_at (nat_cmp n)) es) ≡ cond b es (e ∷ out k es)
    by true go above h =
        let same : e.0 ≡ n = ap (λ o. unwrap_or o 0) h in
        ap (λ o. cond (is_eq o) es (e ∷ remove_entry (is_at (nat_cmp n)) es)) (sym (nat_cmp_is n e.0 Equal (sym same)))
    by false go above h =
        let past : e.0 + 1 ≤ n = above h in
        ap (λ o. cond (is_eq o) es (e ∷ remove_entry (is_at (nat_cmp n)) es)) (sym (nat_cmp_is n e.0 Greater (omega (arith, past))))
        ∙ ap (λ z. e ∷ z) (go h)

pub rise_out : (low next : ℕ) (k : Key) (es : Numbered) → Rise low es next → Rise low (out k es) next
rise_out low next k [] r = r
rise_out low next k (e ∷ es) r = by (key_eq e.1.0 k) (rise_out (e.0 + 1) next k es r.1)
  where
    by : (b : Bool) → Rise (e.0 + 1) (out k es) next → Rise low (cond b es (e ∷ out k es)) next
    by true go = rise_lower low (e.0 + 1) next es (omega (arith, r.0)) r.1
    by false go = (r.0, go)

pub number_out : (q k : Key) (es : Numbered) → HaveOwnKeys es → number_of q (out k es) ≡ cond (key_eq k q) None (number_of q es)
number_out q k [] own = by (key_eq k q)
  where
    nothing : Option ℕ
    nothing = None

    by : (b : Bool) → nothing ≡ cond b None nothing
    by true = refl
    by false = refl
number_out q k (e ∷ es) own = by (key_eq e.1.0 k) refl (key_eq e.1.0 q) refl (number_out q k es own.1)
  where
    by : (b : Bool) → key_eq e.1.0 k ≡ b → (d : Bool) → key_eq e.1.0 q ≡ d → number_of q (out k es) ≡ cond (key_eq k q) None (number_of q es)
        → number_of q (cond b es (e ∷ out k es)) ≡ cond (key_eq k q) None (cond d (Some e.0) (number_of q es))
    by true is d same go = head d same
      where
        k_is : (c : Bool) → key_eq e.1.0 q ≡ c → key_eq k q ≡ c
        k_is c h = ap (λ z. key_eq z q) (sym (one_key e.1.0 k is)) ∙ h

        head : (d : Bool) → key_eq e.1.0 q ≡ d → number_of q es ≡ cond (key_eq k q) None (cond d (Some e.0) (number_of q es))
        head true same = ap (λ z. number_of z es) (sym (one_key e.1.0 q same)) ∙ own.0 ∙ sym (ap (λ z. cond z None (Some e.0)) (k_is true same))
        head false same = sym (ap (λ z. cond z None (number_of q es)) (k_is false same))
    by false is false same go = ap (λ z. cond z (Some e.0) (number_of q (out k es))) same ∙ go
    by false is true same go =
        ap (λ z. cond z (Some e.0) (number_of q (out k es))) same
        ∙ sym (ap (λ z. cond z None (Some e.0)) (ap (λ z. key_eq k z) (sym (one_key e.1.0 q same)) ∙ back e.1.0 k is))

pub own_out : (k : Key) (es : Numbered) → HaveOwnKeys es → HaveOwnKeys (out k es)
own_out k [] own = tt
own_out k (e ∷ es) own = by (key_eq e.1.0 k) (own_out k es own.1)
  where
    none : (b : Bool) → cond b None (number_of e.1.0 es) ≡ None
    none true = refl
    none false = own.0

    by : (b : Bool) → HaveOwnKeys (out k es) → HaveOwnKeys (cond b es (e ∷ out k es))
    by true go = own.1
    by false go = (number_out e.1.0 k es own.1 ∙ none (key_eq k e.1.0), go)

-- what it looks like without the numbers
pub values_out : (k : Key) (es : Numbered) → values_of (out k es) ≡ without k.bytes (values_of es)
values_out k [] = refl
values_out k (e ∷ es) = by (key_eq e.1.0 k) (values_out k es)
  where
    by : (b : Bool) → values_of (out k es) ≡ without k.bytes (values_of es) →
        values_of (cond b es (e ∷ out k es)) ≡ cond b (values_of es) (e.1 ∷ without k.bytes (values_of es))
    by true go = refl
    by false go = ap (λ z. e.1 ∷ z) go

pub absent_stays : (k : Key) (es : Numbered) → number_of k es ≡ None → without k.bytes (values_of es) ≡ values_of es
absent_stays k [] h = refl
absent_stays k (e ∷ es) h = by (key_eq e.1.0 k) (absent_stays k es) h
  where
    by : (b : Bool) → (number_of k es ≡ None → without k.bytes (values_of es) ≡ values_of es) → cond b (Some e.0) (number_of k es) ≡ None
        → cond b (values_of es) (e.1 ∷ without k.bytes (values_of es)) ≡ e.1 ∷ values_of es
    by true go h = absurd cc
    by false go h = ap (λ z. e.1 ∷ z) (go h)

pub waits_numbered : (k : Key) (es : Numbered) → is_some (number_of k es) ≡ waits k.bytes (values_of es)
waits_numbered k [] = refl
waits_numbered k (e ∷ es) = by (key_eq e.1.0 k) (waits_numbered k es)
  where
    by : (b : Bool) → is_some (number_of k es) ≡ waits k.bytes (values_of es)
        → is_some (cond b (Some e.0) (number_of k es)) ≡ is_some (cond b (Some e.1.1) (lookup (λ q. bytes_eq q.bytes k.bytes) (values_of es)))
    by true go = refl
    by false go = go

pub values_last : (n : ℕ) (v : Key × ℕ) (es : Numbered) → values_of (es ++ (n, v) ∷ []) ≡ values_of es ++ v ∷ []
values_last n v [] = refl
values_last n v (e ∷ es) = ap (λ z. e.1 ∷ z) (values_last n v es)
