-- The first kinds, with one more entry or group.
-- for: kinds::check_kinds
use Rattle.std.specs.Borrow.{Bor}
use Rattle.std.specs.Str.{bytes_eq}
use Rattle.std.specs.Map.{update}
use Rattle.std.specs.BTreeMap.{BTreeMap}
use Rattle.std.proofs.Common.{◌≡◌, ℕ, ◌+◌, ◌<◌, false, List, [], ◌∷◌, ◌++◌, length, take, get_or, Option, Some, None, is_some, refl, sym, ap, ap₂, ◌∙◌, cond}
use Rattle.std.proofs.Common.{inl, inr, if◌then◌else◌}
use Rattle.std.proofs.lemmas.Bool.{cases_Bool}
use Rattle.std.proofs.lemmas.List.{take_more}
use Rattle.std.proofs.lemmas.Slice.Eq.{bytes_eq-Decides}
use Rattle.sw_participant.specs.declared.kind.Kind.{Kind}
use Rattle.flow_model.specs.declared.flow.Entry.{Entry}
use Rattle.flow_model.specs.declared.flow.Group.{Group}
use Rattle.flow_model.specs.declared.error.FlowError.TheVariants.{KindClash}
use Rattle.flow_model.specs.Check.{kind_in, first_kind, is_kind}
use Rattle.sw_base.specs.Refusals.{or_else, first_at}
use Rattle.flow_model.specs.Kinds.{clash_by, clash_in_by, kind_at}

or_none : {A : Type 0} (a : Option A) → or_else a None ≡ a
or_none None = refl
or_none (Some x) = refl

or_assoc : {A : Type 0} (a b c : Option A) → or_else (or_else a b) c ≡ or_else a (or_else b c)
or_assoc None b c = refl
or_assoc (Some x) b c = refl

kind_in_last : (q : List ℕ) (es : List Entry) (e : Entry) → kind_in q (es ++ e ∷ []) ≡ or_else (kind_in q es) (kind_in q (e ∷ []))
kind_in_last q [] e = refl
kind_in_last q (x ∷ es) e =
    elim (cases_Bool (bytes_eq x.participant q)) [
      | inl here ↦ rw here refl
      | inr on ↦ rw on (kind_in_last q es e)
    ]

first_kind_last : (q : List ℕ) (gs : List Group) (g : Group) → first_kind q (gs ++ g ∷ []) ≡ or_else (first_kind q gs) (kind_in q g.entries)
first_kind_last q [] g = or_none (kind_in q g.entries)
first_kind_last q (x ∷ gs) g = ap (or_else (kind_in q x.entries)) (first_kind_last q gs g)
    ∙ sym (or_assoc (kind_in q x.entries) (first_kind q gs) (kind_in q g.entries))

pub one_more_entry : (q : List ℕ) (es : List Entry) (i : ℕ) (e : Entry) (start old new : Option Kind) → i < length es → e ≡ get_or es i e →
    new ≡ or_else old (kind_in q (e ∷ [])) → old ≡ or_else start (kind_in q (take i es)) → new ≡ or_else start (kind_in q (take (i + 1) es))
one_more_entry q es i e start old new lt is a b =
    a ∙ ap (λ o. or_else o (kind_in q (e ∷ []))) b ∙ or_assoc start (kind_in q (take i es)) (kind_in q (e ∷ []))
    ∙ ap (or_else start) (sym (kind_in_last q (take i es) e) ∙ ap (λ x. kind_in q (take i es ++ x ∷ [])) is ∙ ap (kind_in q) (sym (take_more es i e lt)))

pub one_more_group : (q : List ℕ) (gs : List Group) (i : ℕ) (g : Group) (start old new : Option Kind) → i < length gs → g ≡ get_or gs i g →
    new ≡ or_else old (kind_in q g.entries) → old ≡ or_else start (first_kind q (take i gs)) → new ≡ or_else start (first_kind q (take (i + 1) gs))
one_more_group q gs i g start old new lt is a b =
    a ∙ ap (λ o. or_else o (kind_in q g.entries)) b ∙ or_assoc start (first_kind q (take i gs)) (kind_in q g.entries)
    ∙ ap (or_else start) (sym (first_kind_last q (take i gs) g) ∙ ap (λ x. first_kind q (take i gs ++ x ∷ [])) is
    ∙ ap (first_kind q) (sym (take_more gs i g lt)))

pub absent : {A : Type 0} (o : Option A) → is_some o ≡ false → o ≡ None
absent None h = refl
absent (Some x) h = absurd (cc)

pub added : (m : BTreeMap (Bor (List ℕ)) Kind) (n : Option Kind) (name q : List ℕ) (k : Kind) → is_some (kind_at m name) ≡ false →
    n ≡ update bytes_eq (λ ds. kind_at m ds) name (Some k) q → n ≡ or_else (kind_at m q) (cond (bytes_eq name q) (Some k) None)
added m n name q k new u =
    elim (cases_Bool (bytes_eq name q)) [
      | inl same ↦
          let e : name ≡ q = (bytes_eq-Decides name q).0 same in
          let none : kind_at m q ≡ None = rw e at (absent (kind_at m name) new) in
          u ∙ rw (same, none) refl
      | inr other ↦ u ∙ rw other (sym (or_none (kind_at m q)))
    ]

-- the same entries clash if the same kinds are looked up
clash_same : (look kinds : List ℕ → Option Kind) → ((name : List ℕ) → look name ≡ kinds name) → (g i : ℕ) (es : List Entry) →
    first_at (clash_by look g) i es ≡ first_at (clash_by kinds g) i es
clash_same look kinds same g i [] = refl
clash_same look kinds same g i (e ∷ es) = ap₂ (λ k rest. or_else (if is_kind e.kind k then None else Some (KindClash g i)) rest) (same e.participant)
    (clash_same look kinds same g (i + 1) es)

pub clash_in_same : (look kinds : List ℕ → Option Kind) → ((name : List ℕ) → look name ≡ kinds name) → (g : ℕ) (gs : List Group) →
    first_at (clash_in_by look) g gs ≡ first_at (clash_in_by kinds) g gs
clash_in_same look kinds same g [] = refl
clash_in_same look kinds same g (x ∷ gs) = ap₂ or_else (clash_same look kinds same g 0 x.entries) (clash_in_same look kinds same (g + 1) gs)
