-- The last call of all stations, and the stations before it.
-- for: running::run_in
use Rattle.std.proofs.Common.{◌≡◌, ◌<◌, ◌+◌, ◌-◌, ◌^◌, ◌==◌, ◌≢◌, min, ℕ, Bool, true, false, List, [], ◌∷◌, ◌++◌, length, filter, get_or, slice_set, refl, sym}
use Rattle.std.proofs.Common.{ap, subst, arith, ◌∙◌}
use Rattle.std.proofs.lemmas.Bool.Decides.{nat_tests}
use Rattle.std.proofs.lemmas.List.{get_or-set_same, get_or-set_other, set-set, set-get_or}
use Rattle.std.proofs.lemmas.List.Elements.{filter-append}
use Rattle.sw_participant.specs.Chains.{Rule, Makes, counted}
use Rattle.tx_engine.proofs.Keeps.{length_set}
use Rattle.tx_locked.specs.declared.station.MadeCall.{MadeCall}
use Rattle.tx_locked.specs.Linked.{Linked, count_up}
use Rattle.tx_locked.specs.AllStations.{AllLinked, AllThere, calls_at, is_at}
use Rattle.tx_locked.proofs.Linking.{count_more, linked_less}

there_less : (n : ℕ) (ms : List MadeCall) (m : MadeCall) → AllThere n (ms ++ m ∷ []) → AllThere n ms × (m.call.participant < n)
there_less n [] m (a, b) = (tt, a)
there_less n (x ∷ ms) m (a, b) = let (c, d) = there_less n ms m b in ((a, c), d)

one_in : (k : ℕ) (m : MadeCall) → m.call.participant ≡ k → calls_at k (m ∷ []) ≡ m ∷ []
one_in k m e = one (m.call.participant == k) (grind (arith, nat_tests, e)) where
  one : (b : Bool) → b ≡ true → filter (λ (x : MadeCall). b) (m ∷ []) ≡ m ∷ []
  one true h = refl
  one false h = absurd (cc)

pub one_out : (k : ℕ) (m : MadeCall) → (m.call.participant == k) ≡ false → calls_at k (m ∷ []) ≡ []
one_out k m e = one (m.call.participant == k) e where
  one : (b : Bool) → b ≡ false → filter (λ (x : MadeCall). b) (m ∷ []) ≡ []
  one true h = absurd (cc)
  one false h = refl

nil_end : {A : Type 0} (l : List A) → l ++ [] ≡ l
nil_end [] = refl
nil_end (x ∷ l) = ap (λ z. x ∷ z) (nil_end l)

calls_in : (k : ℕ) (ms : List MadeCall) (m : MadeCall) → m.call.participant ≡ k → calls_at k (ms ++ m ∷ []) ≡ calls_at k ms ++ m ∷ []
calls_in k ms m e = filter-append (is_at k) ms (m ∷ []) ∙ ap (λ z. calls_at k ms ++ z) (one_in k m e)

calls_out : (k : ℕ) (ms : List MadeCall) (m : MadeCall) → (m.call.participant == k) ≡ false → calls_at k (ms ++ m ∷ []) ≡ calls_at k ms
calls_out k ms m e = filter-append (is_at k) ms (m ∷ []) ∙ (ap (λ z. calls_at k ms ++ z) (one_out k m e) ∙ nil_end (calls_at k ms))

-- the last call, and the stations before it
pub record Last (rule : ℕ → Rule) (os : List (List ℕ)) (cs : List ℕ) (ms : List MadeCall) (m : MadeCall) (ps : List (List ℕ)) (ds : List ℕ) : Type 0 where
  pub before : List (List ℕ)
  pub counts : List ℕ
  pub linked : AllLinked rule os cs ms before counts
  pub makes : Makes rule before m.before m.call m.reply ps m.after
  pub counted_is : ds ≡ counted counts m.call.participant

linked_before : (rule : ℕ → Rule) (os : List (List ℕ)) (ms : List MadeCall) (m : MadeCall) (ps : List (List ℕ)) (o : List ℕ)
    → ((k : ℕ) → Linked (rule k) (get_or os k []) (calls_at k (ms ++ m ∷ [])) (get_or ps k []))
    → get_or (slice_set ps m.call.participant o) m.call.participant [] ≡ o
    → Linked (rule m.call.participant) (get_or os m.call.participant []) (calls_at m.call.participant ms) o
    → (i : ℕ) (b : Bool) → (m.call.participant == i) ≡ b → Linked (rule i) (get_or os i []) (calls_at i ms) (get_or (slice_set ps m.call.participant o) i [])
linked_before rule os ms m ps o all same l i true e =
    let e1 : m.call.participant ≡ i = grind (arith, nat_tests, e) in
    subst (λ (z : ℕ). Linked (rule z) (get_or os z []) (calls_at z ms) (get_or (slice_set ps m.call.participant o) z [])) e1
    (subst (λ (z : List ℕ). Linked (rule m.call.participant) (get_or os m.call.participant []) (calls_at m.call.participant ms) z) (sym same) l)
linked_before rule os ms m ps o all same l i false e =
    let e1 : i ≢ m.call.participant = grind (arith, nat_tests, e) in
    let still = subst (λ (z : List MadeCall). Linked (rule i) (get_or os i []) z (get_or ps i [])) (calls_out i ms m e) (all i) in
    subst (λ (z : List ℕ). Linked (rule i) (get_or os i []) (calls_at i ms) z) (sym (get_or-set_other ps m.call.participant i o [] e1)) still

counts_before : (cs ds : List ℕ) (ms : List MadeCall) (m : MadeCall) (c : ℕ)
    → ((k : ℕ) → get_or ds k 0 ≡ count_up (get_or cs k 0) (calls_at k (ms ++ m ∷ [])))
    → get_or (slice_set ds m.call.participant c) m.call.participant 0 ≡ c
    → c ≡ count_up (get_or cs m.call.participant 0) (calls_at m.call.participant ms)
    → (i : ℕ) (b : Bool) → (m.call.participant == i) ≡ b → get_or (slice_set ds m.call.participant c) i 0 ≡ count_up (get_or cs i 0) (calls_at i ms)
counts_before cs ds ms m c all same l i true e =
    let e1 : m.call.participant ≡ i = grind (arith, nat_tests, e) in
    subst (λ (z : ℕ). get_or (slice_set ds m.call.participant c) z 0 ≡ count_up (get_or cs z 0) (calls_at z ms)) e1 (same ∙ l)
counts_before cs ds ms m c all same l i false e =
    let e1 : i ≢ m.call.participant = grind (arith, nat_tests, e) in
    get_or-set_other ds m.call.participant i c 0 e1 ∙ (all i ∙ ap (count_up (get_or cs i 0)) (calls_out i ms m e))

counted_back : (ds : List ℕ) (k c : ℕ) → get_or (slice_set ds k c) k 0 ≡ c → get_or ds k 0 ≡ min (c + 1) (2 ^ 64 - 1) → ds ≡ counted (slice_set ds k c) k
counted_back ds k c same e =
    sym (set-get_or ds k 0) ∙ (ap (slice_set ds k) e ∙ (ap (λ z. slice_set ds k (min (z + 1) (2 ^ 64 - 1))) (sym same)
    ∙ sym (set-set ds k c (min (get_or (slice_set ds k c) k 0 + 1) (2 ^ 64 - 1)))))

pub last_call : (rule : ℕ → Rule) (os : List (List ℕ)) (cs : List ℕ) (ms : List MadeCall) (m : MadeCall) (ps : List (List ℕ)) (ds : List ℕ) →
    AllLinked rule os cs (ms ++ m ∷ []) ps ds → Last rule os cs ms m ps ds
last_call rule os cs ms m ps ds a =
    let k = m.call.participant in
    let (there, here) = there_less (length os) ms m a.there in
    let p = get_or ps k [] in
    let mine = subst (λ (z : List MadeCall). Linked (rule k) (get_or os k []) z p) (calls_in k ms m refl) (a.linked k) in
    let (o, l, r) = linked_less (rule k) (get_or os k []) p (calls_at k ms) m mine in
    let before = slice_set ps k o in
    let short : k < length ps = omega (arith, here, a.long) in
    let same : get_or before k [] ≡ o = get_or-set_same ps k o [] short in
    let c = count_up (get_or cs k 0) (calls_at k ms) in
    let few : k < length ds = omega (arith, here, a.counted) in
    let same_count : get_or (slice_set ds k c) k 0 ≡ c = get_or-set_same ds k c 0 few in
    let last_count : get_or ds k 0 ≡ min (c + 1) (2 ^ 64 - 1) =
    a.counts k ∙ (ap (count_up (get_or cs k 0)) (calls_in k ms m refl) ∙ count_more (get_or cs k 0) (calls_at k ms) m) in
    record {
      before = before;
      counts = slice_set ds k c;
      linked = record {
        long = length_set ps k o ∙ a.long;
        counted = length_set ds k c ∙ a.counted;
        there = there;
        linked = λ i. linked_before rule os ms m ps o a.linked same l i (k == i) refl;
        counts = λ i. counts_before cs ds ms m c a.counts same_count refl i (k == i) refl;
      };
      makes = (p, subst (λ (z : List ℕ). rule k m.call.id m.call.act z m.before m.reply p m.after) (sym same) r, sym (set-set ps k o p ∙ set-get_or ps k []));
      counted_is = counted_back ds k c same_count last_count;
    }
