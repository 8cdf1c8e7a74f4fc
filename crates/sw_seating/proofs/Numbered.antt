-- No two participants of a flow have the same name.
-- for: laws::participants_are_numbered
use Rattle.std.proofs.Common.{◌≡◌, ℕ, suc, zero, ◌+◌, ◌<◌, ◌≤◌, true, false, ◌⊎◌, inl, inr, ⊎_elim, List, [], ◌∷◌, ◌++◌, length, get_or, refl, sym, ap, ◌∙◌}
use Rattle.std.proofs.Common.{subst, arith, if◌then◌else◌, length-append, true≢false}
use Rattle.std.specs.Prelude.{nat_lt}
use Rattle.std.specs.Str.{bytes_eq}
use Rattle.std.proofs.lemmas.Bool.{cases_Bool, cases_lt}
use Rattle.std.proofs.lemmas.Bool.Decides.{Decides-ltb}
use Rattle.std.proofs.lemmas.List.{get_or_append_left, get_or_at}
use Rattle.std.proofs.lemmas.Slice.Eq.{bytes_eq-Decides}
use Rattle.flow_model.specs.declared.flow.Flow.{Flow}
use Rattle.flow_model.specs.declared.flow.Entry.{Entry}
use Rattle.flow_model.specs.declared.numbering.Part.{Part}
use Rattle.flow_model.specs.Places.{parts_from, parts_of, add_new, all_entries, number_in}
use Rattle.flow_model.proofs.Numbers.{number_cons, number_here, number_kept}
use Rattle.sw_seating.specs.Seating.{AreNumbered}

-- a name that is new gets the number after the last
number_at_end : (ps : List Part) (q : Part) → length ps ≤ number_in ps q.name → number_in (ps ++ q ∷ []) q.name ≡ length ps
number_at_end [] q new = number_here q [] q.name ((bytes_eq-Decides q.name q.name).1 refl)
number_at_end (p ∷ ps) q new =
    ⊎_elim
    (λ (e : bytes_eq p.name q.name ≡ true). absurd (omega (arith, new, number_here p ps q.name e)))
    (λ (e : bytes_eq p.name q.name ≡ false). number_cons p (ps ++ q ∷ []) q.name e
    ∙ ap suc (number_at_end ps q (omega (arith, new, number_cons p ps q.name e))))
    (cases_Bool (bytes_eq p.name q.name))

numbered_below : (ps : List Part) (q : Part) → AreNumbered ps → (k : ℕ) (d : Part) → k < length ps →
    number_in (ps ++ q ∷ []) (get_or (ps ++ q ∷ []) k d).name ≡ k
numbered_below ps q h k d low =
    let at : get_or (ps ++ q ∷ []) k d ≡ get_or ps k d = get_or_append_left ps (q ∷ []) d k low in
    let is = h k d low in
    ap (λ (p : Part). number_in (ps ++ q ∷ []) p.name) at ∙ number_kept ps (q ∷ []) (get_or ps k d).name (omega (arith, low, is)) ∙ is

numbered_more : (ps : List Part) (q : Part) → AreNumbered ps → length ps ≤ number_in ps q.name → AreNumbered (ps ++ q ∷ [])
numbered_more ps q h new k d low =
    elim (cases_lt k (length ps)) [
      | inl below ↦ numbered_below ps q h k d below
      | inr end ↦
          let is : k ≡ length ps = omega (arith, low, end, length-append ps (q ∷ [])) in
          ap (λ (p : Part). number_in (ps ++ q ∷ []) p.name) (get_or_at ps q [] d k (sym is)) ∙ number_at_end ps q new ∙ sym is
    ]

not_lt : (m n : ℕ) → nat_lt m n ≡ false → n ≤ m
not_lt m n b =
    elim (cases_lt m n) [
      | inl low ↦ absurd (true≢false (sym ((Decides-ltb m n).1 low) ∙ b))
      | inr high ↦ high
    ]

numbered_add : (ps : List Part) (e : Entry) → AreNumbered ps → AreNumbered (add_new ps e)
numbered_add ps e h =
    ⊎_elim
    (λ (b : nat_lt (number_in ps e.participant) (length ps) ≡ true). subst AreNumbered
    (sym (ap (λ c. if c then ps else ps ++ record { name = e.participant; kind = e.kind } ∷ []) b)) h)
    (λ (b : nat_lt (number_in ps e.participant) (length ps) ≡ false).
    subst AreNumbered (sym (ap (λ c. if c then ps else ps ++ record { name = e.participant; kind = e.kind } ∷ []) b))
    (numbered_more ps record { name = e.participant; kind = e.kind } h (not_lt (number_in ps e.participant) (length ps) b)))
    (cases_Bool (nat_lt (number_in ps e.participant) (length ps)))

numbered_from : (ps : List Part) (es : List Entry) → AreNumbered ps → AreNumbered (parts_from ps es)
numbered_from ps [] h = h
numbered_from ps (e ∷ es) h = numbered_from (add_new ps e) es (numbered_add ps e h)

none_numbered : AreNumbered []
none_numbered k d low = absurd (omega (arith, low))

pub numbered_parts : (f : Flow) → AreNumbered (parts_of f)
numbered_parts f = numbered_from [] (all_entries f) none_numbered
