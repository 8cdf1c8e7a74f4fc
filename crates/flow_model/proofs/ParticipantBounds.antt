-- How many participants a flow has, and that the number of each placed entry is one of theirs.
-- for: bounds::participants_are_few, bounds::entries_have_participants
use Rattle.std.specs.Prelude.{nat_lt}
use Rattle.std.specs.List.{All}
use Rattle.std.specs.Str.{bytes_eq}
use Rattle.std.proofs.Common.{◌≡◌, ℕ, suc, ◌+◌, ◌<◌, ◌≤◌, Bool, true, false, ◌||◌, inl, inr, ⊎_elim, List, [], ◌∷◌, ◌++◌, length, None, refl, sym, ap, ◌∙◌}
use Rattle.std.proofs.Common.{arith, length-append, if◌then◌else◌}
use Rattle.std.proofs.lemmas.Bool.{ltb-false}
use Rattle.std.proofs.lemmas.List.{length_push}
use Rattle.std.proofs.lemmas.List.Elements.{All-cons, All-nil}
use Rattle.std.proofs.lemmas.List.Sums.{sum_by-cons}
use Rattle.flow_model.specs.declared.flow.Flow.{Flow}
use Rattle.flow_model.specs.declared.flow.Group.{Group}
use Rattle.flow_model.specs.declared.flow.Entry.{Entry}
use Rattle.flow_model.specs.declared.flow.PlacedEntry.{PlacedEntry}
use Rattle.flow_model.specs.declared.numbering.Part.{Part}
use Rattle.flow_model.specs.declared.error.FlowError.{FlowError}
use Rattle.flow_model.specs.declared.error.FlowError.TheVariants.{BadRetries, TooLarge}
use Rattle.flow_model.specs.Check.{IsChecked, bad_retries, entries_in_all, first_fault, has_large_group, is_large, large, name_fault, size_fault}
use Rattle.flow_model.specs.Places.{IsOfParticipant, add_new, all_entries, entries_named, entries_of, named_from, number_in, parts_from}
use Rattle.flow_model.specs.Places.{parts_of, placed_entry}
use Rattle.flow_model.specs.Places.{placed_from}
use Rattle.flow_model.proofs.CheckedKinds.{In, in_left, in_right}
use Rattle.flow_model.proofs.Numbers.{added_cases, knows}
use Rattle.sw_base.specs.Refusals.{refused_if}
use Rattle.sw_base.proofs.Unrefused.{left_none, right_none}

one_more : (ps : List Part) (e : Entry) → length (add_new ps e) ≤ length ps + 1
one_more ps e =
    ⊎_elim (λ (h : (add_new ps e ≡ ps) × (number_in ps e.participant < length ps)). omega (arith, ap length h.0))
    (λ (h : add_new ps e ≡ ps ++ record { name = e.participant; kind = e.kind } ∷ []). omega (
      arith,
      ap length h,
      length_push ps record { name = e.participant; kind = e.kind },
    ))
    (added_cases ps e)

-- at most one for each entry
parts_at_most : (ps : List Part) (es : List Entry) → length (parts_from ps es) ≤ length ps + length es
parts_at_most ps [] = omega arith
parts_at_most ps (e ∷ es) =
    let l : length (parts_from (add_new ps e) es) ≤ length ps + suc (length es) = omega (arith, parts_at_most (add_new ps e) es, one_more ps e) in l

entries_counted : (gs : List Group) → length (entries_of gs) ≡ entries_in_all gs
entries_counted [] = refl
entries_counted (g ∷ gs) =
    length-append g.entries (entries_of gs) ∙ ap (λ n. length g.entries + n) (entries_counted gs) ∙ sym (sum_by-cons (λ (x : Group). length x.entries) g gs)

not_refused : (b : Bool) (e : FlowError) → refused_if b e ≡ None → b ≡ false
not_refused true e h = absurd (cc)
not_refused false e h = refl

second_false : (a b : Bool) → (a || b) ≡ false → b ≡ false
second_false true b h = absurd (cc)
second_false false b h = h

not_large : (f : Flow) → IsChecked f → is_large f ≡ false
unfolding first_fault
not_large f h = not_refused (is_large f) TooLarge (left_none (large f) (bad_retries f) (left_none (size_fault f) (name_fault f) h))

first_false : (a b : Bool) → (a || b) ≡ false → a ≡ false
first_false true b h = absurd (cc)
first_false false b h = refl

pub few_retries : (f : Flow) → IsChecked f → f.retries ≤ 100
unfolding first_fault
few_retries f h = ltb-false 100 f.retries (not_refused (nat_lt 100 f.retries) BadRetries
    (right_none (large f) (bad_retries f) (left_none (size_fault f) (name_fault f) h)))

pub few_groups : (f : Flow) → IsChecked f → length f.groups ≤ 256
few_groups f h = ltb-false 256 (length f.groups) (first_false (nat_lt 256 (length f.groups)) (has_large_group f.groups)
    (first_false (nat_lt 256 (length f.groups) || has_large_group f.groups) (nat_lt 16384 (entries_in_all f.groups)) (not_large f h)))

pub few_entries : (f : Flow) → IsChecked f → length (all_entries f) ≤ 16384
few_entries f h =
    let few = ltb-false 16384 (entries_in_all f.groups) (second_false (nat_lt 256 (length f.groups) || has_large_group f.groups)
    (nat_lt 16384 (entries_in_all f.groups)) (not_large f h)) in
    omega (arith, entries_counted f.groups, few)

pub few_participants : (f : Flow) → IsChecked f → length (parts_of f) ≤ 16384
few_participants f h = omega (arith, parts_at_most [] (all_entries f), few_entries f h)

abbrev Within : List Part → PlacedEntry → Type 0
Within parts s = s.participant < length parts

-- the entries have numbers below how many participants there are
abbrev Known : List Part → List Entry → Type 0
Known parts es = (e : Entry) → In es e → number_in parts e.participant < length parts

placed_within : (parts : List Part) (g i : ℕ) (es : List Entry) → Known parts es → All (Within parts) (placed_from parts g i es)
placed_within parts g i [] h = All-nil (Within parts)
placed_within parts g i (e ∷ es) h = All-cons (Within parts) (placed_entry parts g i e) (placed_from parts g (i + 1) es) (h e (inl refl))
    (placed_within parts g (i + 1) es (λ x w. h x (inr w)))

named_within : (parts : List Part) (g : ℕ) (gs : List Group) (name : List ℕ) → Known parts (entries_of gs) → All (Within parts) (named_from parts g gs name)
named_within parts g [] name h = All-nil (Within parts)
named_within parts g (x ∷ gs) name h =
    by (bytes_eq x.name name)
    (placed_within parts g 0 x.entries (λ e i. h e (in_left x.entries (entries_of gs) e i)))
    (named_within parts (g + 1) gs name (λ e i. h e (in_right x.entries (entries_of gs) e i)))
  where
    by : (b : Bool) → All (Within parts) (placed_from parts g 0 x.entries) → All (Within parts) (named_from parts (g + 1) gs name) →
        All (Within parts) (if b then placed_from parts g 0 x.entries else named_from parts (g + 1) gs name)
    by true here later = here
    by false here later = later

pub named_of_participants : (f : Flow) (name : List ℕ) → All (IsOfParticipant f) (entries_named f name)
named_of_participants f name = named_within (parts_of f) 0 f.groups name (λ e i. knows [] (all_entries f) e i)
