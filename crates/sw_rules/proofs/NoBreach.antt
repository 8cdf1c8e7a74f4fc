-- A set-up has no breach exactly if it is checked.
-- for: all::breaches, finding::findings
use Rattle.std.proofs.Common.{◌≡◌, ◌+◌, ℕ, zero, suc, Bool, true, false, not, ◌&&◌, List, [], ◌∷◌, ◌++◌, ◌∙◌, ◌≤◌, Some, ap, arith, length, map, refl, slice_get, sym, take}
use Rattle.std.proofs.lemmas.List.{take_all}
use Rattle.std.specs.List.{AllByRecursion}
use Rattle.flow_model.specs.declared.flow.Flow.{Flow}
use Rattle.flow_model.specs.declared.flow.Group.{Group}
use Rattle.flow_model.specs.declared.flow.Entry.{Entry}
use Rattle.sw_rules.specs.declared.rule.Rule.{Rule}
use Rattle.sw_rules.specs.declared.breach.At.{At}
use Rattle.sw_rules.specs.declared.breach.At.TheVariants as at
use Rattle.sw_rules.specs.declared.set_up.SetUp.{SetUp}
use Rattle.sw_rules.specs.declared.set_up.SetUpRoute.{SetUpRoute}
use Rattle.sw_rules.specs.Spelling.{is_among, rules}
use Rattle.sw_rules.specs.Rules.{entry_breaks, group_breaks, route_breaks}
use Rattle.sw_rules.specs.Breaches.{all_at, all_entry_breaches, breach_if, breaches, broken, entry_breaches, group_breaches, own_breaches, route_breaches}
use Rattle.sw_rules.specs.Checked.{IsSetUpChecked}

nil_left : {A : Type 0} (xs ys : List A) → xs ++ ys ≡ [] → xs ≡ []
nil_left [] ys h = refl
nil_left (x ∷ xs) ys h = absurd (cc)

nil_right : {A : Type 0} (xs ys : List A) → xs ++ ys ≡ [] → ys ≡ []
nil_right [] ys h = h
nil_right (x ∷ xs) ys h = absurd (cc)

both_nil : {A : Type 0} (xs ys : List A) → xs ≡ [] → ys ≡ [] → xs ++ ys ≡ []
both_nil xs ys hx hy = rw (hx, hy) refl

-- what each item gives is nothing, at its number
none_at : {A B : Type 0} (F : ℕ → A → List B) (n : ℕ) (xs : List A) → all_at F n xs ≡ [] → (i : ℕ) (x : A) → slice_get xs i ≡ Some x → F (n + i) x ≡ []
none_at F n [] h i x is = absurd (cc)
none_at F n (y ∷ ys) h zero x is =
    let e : y ≡ x = cc in let z : n + zero ≡ n = omega arith in rw (z, sym e) (nil_left (F n y) (all_at F (n + 1) ys) h)
none_at F n (y ∷ ys) h (suc i) x is =
    let e : n + suc i ≡ (n + 1) + i = omega arith in rw e (none_at F (n + 1) ys (nil_right (F n y) (all_at F (n + 1) ys) h) i x is)

at_none : {A B : Type 0} (F : ℕ → A → List B) (n : ℕ) (xs : List A) → ((i : ℕ) (x : A) → slice_get xs i ≡ Some x → F (n + i) x ≡ []) → all_at F n xs ≡ []
at_none F n [] each = refl
at_none F n (y ∷ ys) each =
    let z : n ≡ n + zero = omega arith in
    both_nil (F n y) (all_at F (n + 1) ys) (rw z (each zero y refl))
    (at_none F (n + 1) ys (λ i x is. let e : (n + 1) + i ≡ n + suc i = omega arith in rw e (each (suc i) x is)))

from_start : {A B : Type 0} (F : ℕ → A → List B) (xs : List A) → all_at F 0 xs ≡ [] → (i : ℕ) (x : A) → slice_get xs i ≡ Some x → F i x ≡ []
from_start F xs h i x is = let e : i ≡ 0 + i = omega arith in rw e (none_at F 0 xs h i x is)

all_from_start : {A B : Type 0} (F : ℕ → A → List B) (xs : List A) → ((i : ℕ) (x : A) → slice_get xs i ≡ Some x → F i x ≡ []) → all_at F 0 xs ≡ []
all_from_start F xs each = at_none F 0 xs (λ i x is. let e : 0 + i ≡ i = omega arith in rw e (each i x is))

-- a rule whose breach is not allowed
unbroken : (b among : Bool) (r : Rule) (p : At) → breach_if (b && not among) r p ≡ [] → among ≡ false → b ≡ false
unbroken false among r p h a = refl
unbroken true true r p h a = absurd (cc)
unbroken true false r p h a = absurd (cc)

kept : (b among : Bool) (r : Rule) (p : At) → (among ≡ false → b ≡ false) → breach_if (b && not among) r p ≡ []
kept false among r p h = refl
kept true true r p h = refl
kept true false r p h = let e : true ≡ false = h refl in absurd (cc)

-- the rules that count are kept, by a test
abbrev pub Keeps : SetUp → (Rule → Bool) → List Rule → Type 0
Keeps s test rs = AllByRecursion (λ r. is_among s.allow r ≡ false → test r ≡ false) rs

none_broken : (s : SetUp) (p : At) (test : Rule → Bool) (rs : List Rule) → broken s p test rs ≡ [] → Keeps s test rs
none_broken s p test [] h = tt
none_broken s p test (r ∷ rs) h =
    (unbroken (test r) (is_among s.allow r) r p (nil_left _ (broken s p test rs) h), none_broken s p test rs (nil_right _ (broken s p test rs) h))

broken_none : (s : SetUp) (p : At) (test : Rule → Bool) (rs : List Rule) → Keeps s test rs → broken s p test rs ≡ []
broken_none s p test [] keeps = refl
broken_none s p test (r ∷ rs) keeps =
    both_nil _ (broken s p test rs) (kept (test r) (is_among s.allow r) r p keeps.0) (broken_none s p test rs keeps.1)

-- each group, entry and route keeps the rules
abbrev pub KeepsAll : Flow → SetUp → Type 0
KeepsAll f s =
    ((g : ℕ) (x : Group) → slice_get f.groups g ≡ Some x
    → Keeps s (λ r. group_breaks r s x) rules
    × ((i : ℕ) (e : Entry) → slice_get x.entries i ≡ Some e → Keeps s (λ r. entry_breaks r f s x i e) rules))
    × ((n : ℕ) (q : SetUpRoute) → slice_get s.routes n ≡ Some q → Keeps s (λ r. route_breaks r f q) rules)

all_kept : (f : Flow) (s : SetUp) → breaches f s ≡ [] → KeepsAll f s
all_kept f s h =
    let groups = from_start (group_breaches f s) f.groups (nil_left _ (all_at (route_breaches f s) 0 s.routes) h) in
    let routes = from_start (route_breaches f s) s.routes (nil_right (all_at (group_breaches f s) 0 f.groups) _ h) in (
      (λ g x is.
          let own = nil_left (own_breaches s g x) (all_entry_breaches f s x g) (groups g x is) in
          let entries = nil_right (own_breaches s g x) (all_entry_breaches f s x g) (groups g x is) in (
            none_broken s (at.Group g) (λ r. group_breaks r s x) rules own,
            λ i e at_i. none_broken s (at.Entry g i) (λ r. entry_breaks r f s x i e) rules
                (from_start (entry_breaches f s x g) x.entries entries i e at_i),
          )),
      λ n q is. none_broken s (at.Route n) (λ r. route_breaks r f q) rules (routes n q is),
    )

kept_all : (f : Flow) (s : SetUp) → KeepsAll f s → breaches f s ≡ []
kept_all f s keeps =
    both_nil _ (all_at (route_breaches f s) 0 s.routes)
    (all_from_start (group_breaches f s) f.groups (λ g x is. both_nil (own_breaches s g x) (all_entry_breaches f s x g)
    (broken_none s (at.Group g) (λ r. group_breaks r s x) rules (keeps.0 g x is).0)
    (all_from_start (entry_breaches f s x g) x.entries
    (λ i e at_i. broken_none s (at.Entry g i) (λ r. entry_breaks r f s x i e) rules ((keeps.0 g x is).1 i e at_i)))))
    (all_from_start (route_breaches f s) s.routes (λ n q is. broken_none s (at.Route n) (λ r. route_breaks r f q) rules (keeps.1 n q is)))

-- what the tests of the rules say
is_so : (b : Bool) → not b ≡ false → b ≡ true
is_so true h = refl
is_so false h = absurd (cc)

then_so : (a b : Bool) → (a && not b) ≡ false → a ≡ true → b ≡ true
then_so true true h t = refl
then_so true false h t = absurd (cc)
then_so false b h t = absurd (cc)

then_not : (a b : Bool) → (a && b) ≡ false → a ≡ true → b ≡ false
then_not true b h t = h
then_not false b h t = absurd (cc)

then_both : (a b c : Bool) → ((a && b) && not c) ≡ false → a ≡ true → b ≡ true → c ≡ true
then_both true true c h t u = is_so c h
then_both true false c h t u = absurd (cc)
then_both false b c h t u = absurd (cc)

not_so : (b : Bool) → b ≡ true → not b ≡ false
not_so true h = refl
not_so false h = absurd (cc)

so_then : (a b : Bool) → (a ≡ true → b ≡ true) → (a && not b) ≡ false
so_then true b h = not_so b (h refl)
so_then false b h = refl

not_then : (a b : Bool) → (a ≡ true → b ≡ false) → (a && b) ≡ false
not_then true b h = h refl
not_then false b h = refl

both_then : (a b c : Bool) → (a ≡ true → b ≡ true → c ≡ true) → ((a && b) && not c) ≡ false
both_then true true c h = not_so c (h refl refl)
both_then true false c h = refl
both_then false b c h = refl

pub checked_if_none : (f : Flow) (s : SetUp) → breaches f s ≡ [] → IsSetUpChecked f s
checked_if_none f s h =
    let keeps = all_kept f s h in
    record {
      known = λ a g x is i e at_i. is_so _ (((keeps.0 g x is).1 i e at_i).0 a);
      selector = λ a g x is i e at_i. then_so _ _ (((keeps.0 g x is).1 i e at_i).1.0 a);
      abort_aware = λ a g x is i e at_i. then_so _ _ (((keeps.0 g x is).1 i e at_i).1.1.0 a);
      once = λ a g x is i e at_i. ((keeps.0 g x is).1 i e at_i).1.1.1.0 a;
      last = λ a g x is i e at_i. then_not _ _ (((keeps.0 g x is).1 i e at_i).1.1.1.1.0 a);
      check_first = λ a g x is i e at_i. then_so _ _ (((keeps.0 g x is).1 i e at_i).1.1.1.1.1.0 a);
      reverse_first = λ a g x is i e at_i. then_so _ _ (((keeps.0 g x is).1 i e at_i).1.1.1.1.1.1.0 a);
      stand_in = λ a g x is i e at_i. then_so _ _ (((keeps.0 g x is).1 i e at_i).1.1.1.1.1.1.1.0 a);
      query = λ a g x is. then_so _ _ ((keeps.0 g x is).0.1.1.1.1.1.1.1.1.0 a);
      forward = λ a g x is. then_both _ _ _ ((keeps.0 g x is).0.1.1.1.1.1.1.1.1.1.0 a);
      respond = λ a g x is. then_so _ _ ((keeps.0 g x is).0.1.1.1.1.1.1.1.1.1.1.0 a);
      groups = λ a n q is. then_so _ _ ((keeps.1 n q is).1.1.1.1.1.1.1.1.1.1.1.0 a);
      not_main = λ a n q is. then_not _ _ ((keeps.1 n q is).1.1.1.1.1.1.1.1.1.1.1.1.0 a);
    }

-- a rule that is no rule of such a place
idle : {A : Type 0} → A → false ≡ false
idle a = refl

pub none_if_checked : (f : Flow) (s : SetUp) → IsSetUpChecked f s → breaches f s ≡ []
none_if_checked f s c = kept_all f s (
  (λ g x is. (
    (
      idle,
      (
        idle,
        (
          idle,
          (
            idle,
            (
              idle,
              (
                idle,
                (
                  idle,
                  (
                    idle,
                    (
                      (λ a. so_then _ _ (c.query a g x is)),
                      (
                        (λ a. both_then _ _ _ (c.forward a g x is)),
                        (
                          (λ a. so_then _ _ (c.respond a g x is)),
                          (idle, (idle, tt)),
                        ),
                      ),
                    ),
                  ),
                ),
              ),
            ),
          ),
        ),
      ),
    ),
    λ i e at_i. (
      (λ a. not_so _ (c.known a g x is i e at_i)),
      (
        (λ a. so_then _ _ (c.selector a g x is i e at_i)),
        (
          (λ a. so_then _ _ (c.abort_aware a g x is i e at_i)),
          (
            (λ a. c.once a g x is i e at_i),
            (
              (λ a. not_then _ _ (c.last a g x is i e at_i)),
              (
                (λ a. so_then _ _ (c.check_first a g x is i e at_i)),
                (
                  (λ a. so_then _ _ (c.reverse_first a g x is i e at_i)),
                  (
                    (λ a. so_then _ _ (c.stand_in a g x is i e at_i)),
                    (idle, (idle, (idle, (idle, (idle, tt))))),
                  ),
                ),
              ),
            ),
          ),
        ),
      ),
    ),
  )),
  λ n q is. (
    idle,
    (
      idle,
      (
        idle,
        (
          idle,
          (
            idle,
            (
              idle,
              (
                idle,
                (
                  idle,
                  (
                    idle,
                    (
                      idle,
                      (
                        idle,
                        ((λ a. so_then _ _ (c.groups a n q is)), ((λ a. not_then _ _ (c.not_main a n q is)), tt)),
                      ),
                    ),
                  ),
                ),
              ),
            ),
          ),
        ),
      ),
    ),
  ),
)

-- what was found in two steps
pub joined : {A : Type 0} (none first both groups routes : List A) → none ≡ [] → first ≡ none ++ groups → both ≡ first ++ routes → both ≡ groups ++ routes
joined none first both groups routes h₀ h₁ h₂ = rw (h₂, h₁, h₀) refl

-- a list of which nothing can be made is empty
pub map_nil : {A B : Type 0} (f : A → B) (xs : List A) → map f xs ≡ [] → xs ≡ []
map_nil f [] h = refl
map_nil f (x ∷ xs) h = absurd (cc)

-- nothing was found of all items, so there is none
pub none_found : {A B C : Type 0} (p : B → C) (q : A → C) (found : List B) (items broken : List A) (i : ℕ) → map p found ≡ map q (take i items)
    → length items ≤ i → items ≡ broken → found ≡ [] → broken ≡ []
none_found p q found items broken i same end is none =
    let whole : take i items ≡ items = take_all i items end in
    map_nil q broken (ap (map q) (sym is) ∙ ap (map q) (sym whole) ∙ sym same ∙ ap (map p) none)
