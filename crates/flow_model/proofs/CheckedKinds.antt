-- In a checked flow each entry has its participant's first kind.
-- for: whoever has a checked flow, in crates above
use Rattle.std.proofs.Common.{◌≡◌, ℕ, ◌+◌, Bool, true, false, ◌&&◌, codes, ◌⊎◌, inl, inr, ⊎_elim, List, [], ◌∷◌, ◌++◌, Option, Some, None, refl, sym, ap, ◌∙◌}
use Rattle.std.proofs.Common.{if◌then◌else◌}
use Rattle.std.specs.List.{flat_map}
use Rattle.sw_participant.specs.declared.kind.Kind.{Kind}
use Rattle.flow_model.specs.declared.flow.Flow.{Flow}
use Rattle.flow_model.specs.declared.flow.Group.{Group}
use Rattle.flow_model.specs.declared.flow.Entry.{Entry}
use Rattle.flow_model.specs.declared.error.FlowError.{FlowError}
use Rattle.flow_model.specs.declared.error.FlowError.TheVariants.{KindClash}
use Rattle.flow_model.specs.Check.{IsChecked, bad_group, bad_retries, clash, clash_in, double_group, first_fault, first_kind, is_kind, is_named, large}
use Rattle.flow_model.specs.Check.{name_fault, no_main, same, same_kind}
use Rattle.sw_base.specs.Refusals.{first_at, or_else}
use Rattle.sw_base.proofs.Unrefused.{left_none, right_none}
use Rattle.flow_model.specs.Places.{all_entries}

-- membership, by cases
abbrev pub In : List Entry → Entry → Type 0
In [] e = ⊥
In (x ∷ xs) e = (x ≡ e) ⊎ In xs e

in_split : (xs ys : List Entry) (e : Entry) → In (xs ++ ys) e → In xs e ⊎ In ys e
in_split [] ys e h = inr h
in_split (x ∷ xs) ys e h = ⊎_elim (λ (p : x ≡ e). inl (inl p)) (λ (p : In (xs ++ ys) e). ⊎_elim (λ (q : In xs e). inl (inr q)) (λ (q : In ys e). inr q)
    (in_split xs ys e p)) h

pub in_left : (xs ys : List Entry) (e : Entry) → In xs e → In (xs ++ ys) e
in_left [] ys e h = absurd h
in_left (x ∷ xs) ys e h = ⊎_elim (λ (p : x ≡ e). inl p) (λ (p : In xs e). inr (in_left xs ys e p)) h

pub in_right : (xs ys : List Entry) (e : Entry) → In ys e → In (xs ++ ys) e
in_right [] ys e h = h
in_right (x ∷ xs) ys e h = inr (in_right xs ys e h)

first_true : (a b : Bool) → (a && b) ≡ true → a ≡ true
first_true true b h = refl
first_true false b h = absurd (cc)

second_true : (a b : Bool) → (a && b) ≡ true → b ≡ true
second_true true b h = h
second_true false b h = absurd (cc)

same_is : (a b : Bool) → same a b ≡ true → a ≡ b
same_is true true h = refl
same_is true false h = absurd (cc)
same_is false true h = absurd (cc)
same_is false false h = refl

same_kind_is : (a b : Kind) → same_kind a b ≡ true → b ≡ a
same_kind_is a b h =
    let two = first_true (same a.selector b.selector && same a.abort_aware b.abort_aware) (same a.recovers b.recovers) h in
    let s : a.selector ≡ b.selector = same_is a.selector b.selector (first_true _ _ two) in
    let w : a.abort_aware ≡ b.abort_aware = same_is a.abort_aware b.abort_aware (second_true (same a.selector b.selector) _ two) in
    let r : a.recovers ≡ b.recovers = same_is a.recovers b.recovers (second_true (same a.selector b.selector && same a.abort_aware b.abort_aware) _ h) in
    sym (ap (λ x. record { selector = x; abort_aware = a.abort_aware; recovers = a.recovers }) s
    ∙ ap (λ x. record { selector = b.selector; abort_aware = x; recovers = a.recovers }) w
    ∙ ap (λ x. record { selector = b.selector; abort_aware = b.abort_aware; recovers = x }) r)

kind_is : (k : Kind) (o : Option Kind) → is_kind k o ≡ true → o ≡ Some k
kind_is k None h = absurd (cc)
kind_is k (Some l) h = ap Some (same_kind_is k l h)

no_clash : (b : Bool) (g i : ℕ) → (if b then None else Some (KindClash g i)) ≡ None → b ≡ true
no_clash true g i h = refl
no_clash false g i h = absurd (cc)

entries_first : (gs : List Group) (g i : ℕ) (es : List Entry) (e : Entry) → first_at (clash gs g) i es ≡ None → In es e →
    first_kind e.participant gs ≡ Some e.kind
entries_first gs g i [] e h m = absurd m
entries_first gs g i (x ∷ es) e h m =
    let here : first_kind x.participant gs ≡ Some x.kind = kind_is x.kind (first_kind x.participant gs)
    (no_clash (is_kind x.kind (first_kind x.participant gs)) g i (left_none (clash gs g i x) (first_at (clash gs g) (i + 1) es) h)) in
    ⊎_elim (λ (p : x ≡ e). sym (ap (λ (y : Entry). first_kind y.participant gs) p) ∙ here ∙ ap (λ (y : Entry). Some y.kind) p)
    (λ (p : In es e). entries_first gs g (i + 1) es e (right_none (clash gs g i x) (first_at (clash gs g) (i + 1) es) h) p) m

groups_first : (all : List Group) (g : ℕ) (gs : List Group) (e : Entry) → first_at (clash_in all) g gs ≡ None →
    In (flat_map (λ (x : Group). x.entries) gs) e → first_kind e.participant all ≡ Some e.kind
groups_first all g [] e h m = absurd m
groups_first all g (x ∷ gs) e h m =
    ⊎_elim (λ (p : In x.entries e). entries_first all g 0 x.entries e (left_none (clash_in all g x) (first_at (clash_in all) (g + 1) gs) h) p)
    (λ (p : In (flat_map (λ (y : Group). y.entries) gs) e). groups_first all (g + 1) gs e
    (right_none (clash_in all g x) (first_at (clash_in all) (g + 1) gs) h) p) (in_split x.entries (flat_map (λ (y : Group). y.entries) gs) e m)

-- a participant has one kind
abbrev pub OneKind : List Entry → Type 0
OneKind es = (a b : Entry) → In es a → In es b → a.participant ≡ b.participant → a.kind ≡ b.kind

some_is : {A : Type 0} (a b : A) → Some a ≡ Some b → a ≡ b
some_is a b h = cc

no_name_fault : (f : Flow) → IsChecked f → name_fault f ≡ None
unfolding first_fault
no_name_fault f h = right_none (or_else (large f) (bad_retries f)) (name_fault f) h

main_fault : (f : Flow) → IsChecked f → or_else (no_main f.groups) (first_at (clash_in f.groups) 0 f.groups) ≡ None
main_fault f h = right_none (first_at (double_group f.groups) 0 f.groups) _ (right_none (first_at bad_group 0 f.groups) _ (no_name_fault f h))

pub one_kind : (f : Flow) → IsChecked f → OneKind (all_entries f)
one_kind f h a b i j e =
    let none = right_none (no_main f.groups) (first_at (clash_in f.groups) 0 f.groups) (main_fault f h) in
    some_is a.kind b.kind (sym (groups_first f.groups 0 f.groups a none i) ∙ ap (λ (n : List ℕ). first_kind n f.groups) e ∙ groups_first f.groups 0 f.groups
    b none j)

has_main : (b : Bool) (e : FlowError) → (if b then None else Some e) ≡ None → b ≡ true
has_main true e h = refl
has_main false e h = absurd (cc)

pub main_named : (f : Flow) → IsChecked f → is_named (codes "main") f.groups ≡ true
main_named f h = has_main (is_named (codes "main") f.groups) _ (left_none (no_main f.groups) (first_at (clash_in f.groups) 0 f.groups) (main_fault f h))
