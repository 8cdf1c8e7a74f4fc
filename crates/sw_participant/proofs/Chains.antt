-- Laws of chains, over any rules. They are the interface for a plant of boxed stations, whose kinds are no types of
-- Rust, so that it cannot take the laws of `laws.rt`: it cites chain_append, chain_weaker, rule_at_same, chain_called.
-- for: laws::chains_append, laws::chains_widen, laws::rules_widen, laws::types_decide, station::call_station
use Rattle.std.proofs.Common.{◌≡◌, ℕ, zero, suc, ◌<◌, ◌+◌, ◌-◌, ◌^◌, ◌==◌, ◌++◌, Bool, true, false, List, [], ◌∷◌, length, get_or, map}
use Rattle.std.proofs.Common.{min, Option, Some, None}
use Rattle.std.proofs.Common.{refl, sym, ap, subst, arith, ◌∙◌, if◌then◌else◌, slice_set}
use Rattle.std.proofs.lemmas.Bool.Decides.{nat_tests}
use Rattle.std.proofs.lemmas.List.{map-set, get_or-map}
use Rattle.sw_context.specs.Pairs.{Pairs}
use Rattle.sw_participant.specs.declared.call.Act.{Act}
use Rattle.sw_participant.specs.declared.call.Call.{Call}
use Rattle.sw_participant.specs.declared.call.Reply.{Reply}
use Rattle.sw_participant.specs.Chains.{Rule, rule_at, Makes, Contexts, with_context, ChainItem, Began, Called, Stopped, Chain, Among, begins, counted}
use Rattle.sw_participant.specs.Chains.{counts_after}

-- the rule of the station at k, if there is one
pub rule_at_from : {S : Type 0} (rule : S → Rule) (ss : List S) (k : ℕ) (d : S) → k < length ss →
    (id : ℕ) (act : Act) (o : List ℕ) (x : Pairs) (reply : Reply) (p : List ℕ) (y : Pairs) → rule (get_or ss k d) id act o x reply p y →
    rule_at rule ss k id act o x reply p y
rule_at_from rule [] k d h id act o x reply p y m = absurd (omega arith)
rule_at_from rule (s ∷ ss) zero d h id act o x reply p y m = m
rule_at_from rule (s ∷ ss) (suc k) d h id act o x reply p y m = rule_at_from rule ss k d (omega arith) id act o x reply p y m

-- a call of one station is a call among stations
pub made : {S : Type 0} (rule : S → Rule) (object : S → List ℕ) (ss : List S) (call : Call) (reply : Reply) (s t : S) (x y : Pairs) →
    call.participant < length ss → s ≡ get_or ss call.participant s → rule s call.id call.act (object s) x reply (object t) y →
    Makes (rule_at rule ss) (map object ss) x call reply (map object (slice_set ss call.participant t)) y
made {S = S} rule object ss call reply s t x y h e m =
    let k = call.participant in
    let eo : get_or (map object ss) k [] ≡ object s = get_or-map object ss k s [] h ∙ ap object (sym e) in (
      object t,
      rule_at_from rule ss k s h call.id call.act (get_or (map object ss) k []) x reply (object t) y
          (subst (λ (o : List ℕ). rule (get_or ss k s) call.id call.act o x reply (object t) y) (sym eo)
          (subst (λ (q : S). rule q call.id call.act (object s) x reply (object t) y) e m)),
      map-set object ss k t,
    )

-- and it is counted
pub made_counted : {S : Type 0} (calls : S → ℕ) (ss : List S) (k : ℕ) (s t : S) → k < length ss → s ≡ get_or ss k s →
    calls t ≡ min (calls s + 1) (2 ^ 64 - 1) → map calls (slice_set ss k t) ≡ counted (map calls ss) k
made_counted calls ss k s t h e m =
    let es : calls s ≡ get_or (map calls ss) k 0 = ap calls e ∙ sym (get_or-map calls ss k s 0 h) in
    map-set calls ss k t ∙ ap (slice_set (map calls ss) k) (m ∙ ap (λ n. min (n + 1) (2 ^ 64 - 1)) es)

-- the contexts of a chain are read only by id
pub with_same : (live start : Contexts) (i : ℕ) (x : Pairs) → ((id : ℕ) → start id ≡ live id) → (id : ℕ) → with_context start i x id ≡ with_context live i x id
with_same live start i x e id = ap (λ (o : Option Pairs). if id == i then Some x else o) (e id)

pub chain_from : {V : Type 0} (recovered : V → Contexts) (rule : ℕ → Rule) (m : List (ChainItem V)) (os : List (List ℕ)) (live start : Contexts)
    (ps : List (List ℕ)) (now : Contexts) → ((id : ℕ) → start id ≡ live id) → Chain recovered rule os live m ps now → Chain recovered rule os start m ps now
chain_from recovered rule [] os live start ps now e (f, g) = (f, λ id. g id ∙ sym (e id))
chain_from recovered rule (Began i x ∷ m) os live start ps now e (f, c) =
    (e i ∙ f, chain_from recovered rule m os (with_context live i x) (with_context start i x) ps now (with_same live start i x e) c)
chain_from recovered rule (Called call place r ∷ m) os live start ps now e (x, qs, y, l, h, c) = (
  x,
  qs,
  y,
  e call.id ∙ l,
  h,
  chain_from recovered rule m qs (with_context live call.id y) (with_context start call.id y) ps now
      (with_same live start call.id y e) c,
)
chain_from recovered rule (Stopped v ∷ m) os live start ps now e c = c

with_none_by : {X : Type 0} (b : Bool) (x : X) (o : Option X) → (if b then Some x else o) ≡ None → (b ≡ false) × (o ≡ None)
with_none_by true x o h = cc
with_none_by false x o h = (refl, h)

none_with_by : {X : Type 0} (b : Bool) (x : X) (o : Option X) → b ≡ false → o ≡ None → (if b then Some x else o) ≡ None
none_with_by true x o e h = cc
none_with_by false x o e h = h

or_true : (b c : Bool) → c ≡ true → (if b then true else c) ≡ true
or_true true c h = refl
or_true false c h = h

or_false : (b c : Bool) → (if b then true else c) ≡ false → (b ≡ false) × (c ≡ false)
or_false true c h = cc
or_false false c h = (refl, h)

same_id : (i : ℕ) → (i == i) ≡ true
same_id i = grind (arith, nat_tests)

among_with_by : (b : Bool) (y : Pairs) (o p : Option Pairs) → ((x : Pairs) → o ≡ Some x → p ≡ Some x) → (x : Pairs) → (if b then Some y else o) ≡ Some x →
    (if b then Some y else p) ≡ Some x
among_with_by true y o p f x h = h
among_with_by false y o p f x h = f x h

-- what is among contexts stays so if both get the same context
pub among_with : (live start : Contexts) (i : ℕ) (y : Pairs) → Among live start → Among (with_context live i y) (with_context start i y)
among_with live start i y f id x h = among_with_by (id == i) y (live id) (start id) (f id) x h

-- a chain begins no transaction that has a context
pub chain_begins : {V : Type 0} (recovered : V → Contexts) (rule : ℕ → Rule) (m : List (ChainItem V)) (os : List (List ℕ)) (live : Contexts)
    (ps : List (List ℕ)) (now : Contexts) → Chain recovered rule os live m ps now → (id : ℕ) → begins id m ≡ true → live id ≡ None
chain_begins recovered rule [] os live ps now c id h = cc
chain_begins recovered rule (Began i x ∷ m) os live ps now (f, c) id h =
    begins_by (id == i) (begins id m) live id i x refl f h (chain_begins recovered rule m os (with_context live i x) ps now c id) where
      begins_by : (b d : Bool) (live : Contexts) (id i : ℕ) (x : Pairs) → (id == i) ≡ b → live i ≡ None → (if b then true else d) ≡ true →
          (d ≡ true → with_context live i x id ≡ None) → live id ≡ None
      begins_by true d live id i x e f h r = let e1 : id ≡ i = grind (arith, nat_tests) in ap live e1 ∙ f
      begins_by false d live id i x e f h r = let (_, o) = with_none_by (id == i) x (live id) (r h) in o
chain_begins recovered rule (Called call place r ∷ m) os live ps now (x, qs, y, l, h, c) id b =
    let (_, o) = with_none_by (id == call.id) y (live id) (chain_begins recovered rule m qs (with_context live call.id y) ps now c id b) in o
chain_begins recovered rule (Stopped v ∷ m) os live ps now c id h = cc

-- a chain from contexts is also one from any that they are among, if it begins none of the latter; its contexts at the end are among the other's
pub chain_wider : {V : Type 0} (recovered : V → Contexts) (rule : ℕ → Rule) (m : List (ChainItem V)) (os : List (List ℕ)) (live start : Contexts)
    (ps : List (List ℕ)) (now : Contexts) → Among live start → ((id : ℕ) → begins id m ≡ true → start id ≡ None) → Chain recovered rule os live m ps now →
    (end : Contexts) × Among now end × Chain recovered rule os start m ps end
chain_wider recovered rule [] os live start ps now e n (f, g) = (start, λ id x h. e id x (sym (g id) ∙ h), (f, λ id. refl))
chain_wider recovered rule (Began i x ∷ m) os live start ps now e n (f, c) =
    let (end, a, d) = chain_wider recovered rule m os (with_context live i x) (with_context start i x) ps now (among_with live start i x e)
    (λ id h. let (b, _) = with_none_by (id == i) x (live id) (chain_begins recovered rule m os (with_context live i x) ps now c id h) in
    none_with_by (id == i) x (start id) b (n id (or_true (id == i) (begins id m) h))) c in
    (end, a, (n i (rw (same_id i) refl), d))
chain_wider recovered rule (Called call place r ∷ m) os live start ps now e n (x, qs, y, l, h, c) =
    let (end, k, d) = chain_wider recovered rule m qs (with_context live call.id y) (with_context start call.id y) ps now
    (among_with live start call.id y e) (λ id b. let (d, _) =
    with_none_by (id == call.id) y (live id) (chain_begins recovered rule m qs (with_context live call.id y) ps now c id b) in
    none_with_by (id == call.id) y (start id) d (n id b)) c in
    (end, k, (x, qs, y, e call.id x l, h, d))
chain_wider recovered rule (Stopped v ∷ m) os live start ps now e n c = (now, λ id x h. h, c)

-- a call is a chain
pub chain_called : {V : Type 0} (recovered : V → Contexts) (rule : ℕ → Rule) (os : List (List ℕ)) (live : Contexts) (call : Call) (place : Option ℕ)
    (reply : Reply) (ps : List (List ℕ)) (x y : Pairs) → live call.id ≡ Some x → Makes rule os x call reply ps y →
    Chain recovered rule os live (Called call place reply ∷ []) ps (with_context live call.id y)
chain_called recovered rule os live call place reply ps x y l h = (x, ps, y, l, h, (refl, λ id. refl))

-- two chains, one after the other
pub chain_append : {V : Type 0} (recovered : V → Contexts) (rule : ℕ → Rule) (m n : List (ChainItem V)) (os : List (List ℕ)) (live : Contexts)
    (ps : List (List ℕ)) (mid : Contexts) (qs : List (List ℕ)) (now : Contexts) → Chain recovered rule os live m ps mid →
    Chain recovered rule ps mid n qs now → Chain recovered rule os live (m ++ n) qs now
chain_append {V = V} recovered rule [] n os live ps mid qs now (e, f) d =
    chain_from recovered rule n os mid live qs now (λ id. sym (f id)) (subst (λ (a : List (List ℕ)). Chain recovered rule a mid n qs now) e d)
chain_append recovered rule (Began i x ∷ m) n os live ps mid qs now (f, c) d =
    (f, chain_append recovered rule m n os (with_context live i x) ps mid qs now c d)
chain_append recovered rule (Called call place r ∷ m) n os live ps mid qs now (x, rs, y, l, h, c) d =
    (x, rs, y, l, h, chain_append recovered rule m n rs (with_context live call.id y) ps mid qs now c d)
chain_append recovered rule (Stopped v ∷ m) n os live ps mid qs now c d = chain_append recovered rule m n os (recovered v) ps mid qs now c d

-- a chain by rules that allow no more than others is also one by the others
pub chain_weaker : {V : Type 0} (recovered : V → Contexts) (rule wide : ℕ → Rule) →
    ((k id : ℕ) (act : Act) (o : List ℕ) (x : Pairs) (reply : Reply) (p : List ℕ) (y : Pairs) → rule k id act o x reply p y → wide k id act o x reply p y) →
    (m : List (ChainItem V)) (os : List (List ℕ)) (live : Contexts) (ps : List (List ℕ)) (now : Contexts) → Chain recovered rule os live m ps now →
    Chain recovered wide os live m ps now
chain_weaker recovered rule wide w [] os live ps now c = c
chain_weaker recovered rule wide w (Began i x ∷ m) os live ps now (f, c) = (f, chain_weaker recovered rule wide w m os (with_context live i x) ps now c)
chain_weaker recovered rule wide w (Called call place r ∷ m) os live ps now (x, qs, y, l, (p, h, e), c) = (
  x,
  qs,
  y,
  l,
  (p, w call.participant call.id call.act (get_or os call.participant []) x r p y h, e),
  chain_weaker recovered rule wide w m qs (with_context live call.id y) ps now c,
)
chain_weaker recovered rule wide w (Stopped v ∷ m) os live ps now c = chain_weaker recovered rule wide w m os (recovered v) ps now c

-- what the first rule allows, the second allows too, for each station
pub rule_at_wider : {S : Type 0} (rule wide : S → Rule) → ((s : S) (id : ℕ) (act : Act) (o : List ℕ) (x : Pairs) (reply : Reply) (p : List ℕ) (y : Pairs) →
    rule s id act o x reply p y → wide s id act o x reply p y) → (ss : List S) (k id : ℕ) (act : Act) (o : List ℕ) (x : Pairs) (reply : Reply) (p : List ℕ)
    (y : Pairs) → rule_at rule ss k id act o x reply p y → rule_at wide ss k id act o x reply p y
rule_at_wider rule wide w [] k id act o x reply p y h = absurd h
rule_at_wider rule wide w (s ∷ ss) zero id act o x reply p y h = w s id act o x reply p y h
rule_at_wider rule wide w (s ∷ ss) (suc k) id act o x reply p y h = rule_at_wider rule wide w ss k id act o x reply p y h

-- a rule that reads only the kind of a station is one rule for stations of the same kinds
pub rule_at_same : {S K : Type 0} (rule : K → Rule) (kind : S → K) (ss ts : List S) → map kind ss ≡ map kind ts →
    (k id : ℕ) (act : Act) (o : List ℕ) (x : Pairs) (reply : Reply) (p : List ℕ) (y : Pairs) → rule_at (λ s. rule (kind s)) ss k id act o x reply p y →
    rule_at (λ s. rule (kind s)) ts k id act o x reply p y
rule_at_same rule kind [] ts e k id act o x reply p y h = absurd h
rule_at_same rule kind (s ∷ ss) [] e k id act o x reply p y h = cc
rule_at_same {K = K} rule kind (s ∷ ss) (t ∷ ts) e zero id act o x reply p y h = let e0 : kind s ≡ kind t = cc in
    subst (λ (w : K). rule w id act o x reply p y) e0 h
rule_at_same rule kind (s ∷ ss) (t ∷ ts) e (suc k) id act o x reply p y h =
    (let e1 : map kind ss ≡ map kind ts = cc in rule_at_same rule kind ss ts e1 k id act o x reply p y h)

-- the counts of two lists, one after the other
pub counts_append : {V : Type 0} (cs : List ℕ) (m n : List (ChainItem V)) → counts_after cs (m ++ n) ≡ counts_after (counts_after cs m) n
counts_append cs [] n = refl
counts_append cs (Began i x ∷ m) n = counts_append cs m n
counts_append cs (Called call place r ∷ m) n = counts_append (counted cs call.participant) m n
counts_append cs (Stopped v ∷ m) n = counts_append cs m n
