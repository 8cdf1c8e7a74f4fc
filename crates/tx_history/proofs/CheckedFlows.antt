-- A checked flow is what the journal's bounds rest on.
-- for: laws::checked_flows_fit
use Rattle.std.proofs.Common.{◌≡◌, ℕ, ◌+◌, Bool, true, false, ◌⊎◌, inl, inr, List, [], ◌∷◌, ◌++◌, Option, Some, None, refl, sym, subst}
use Rattle.std.specs.Prelude.{◌<◌, if◌then◌else◌, length}
use Rattle.std.specs.List.{All, flat_map}
use Rattle.std.proofs.lemmas.List.Elements.{All-nil, All-cons, All-append, All-head, All-push, All-tail}
use Rattle.sw_context.specs.Names.{is_name}
use Rattle.flow_model.specs.declared.flow.Flow.{Flow}
use Rattle.flow_model.specs.declared.flow.Group.{Group}
use Rattle.flow_model.specs.declared.flow.Entry.{Entry}
use Rattle.flow_model.specs.declared.numbering.Part.{Part}
use Rattle.flow_model.specs.declared.error.FlowError.TheVariants.{BadName}
use Rattle.sw_base.specs.Refusals.{first_at, or_else}
use Rattle.sw_base.proofs.Unrefused.{left_none, right_none}
use Rattle.flow_model.specs.Check.{IsChecked, bad_entry, bad_group, bad_name, clashes, double_group, first_fault, name_fault, no_main, size_fault}
use Rattle.flow_model.specs.Places.{add_new, all_entries, number_in, parts_from}
use Rattle.flow_model.proofs.Numbers.{added_cases}
use Rattle.flow_model.proofs.ParticipantBounds.{few_retries}
use Rattle.tx_history.specs.Views.{FlowFits, IsNamed}

named_if : (g : ℕ) (i : Option ℕ) (b : Bool) → (if b then None else Some (BadName g i)) ≡ None → b ≡ true
named_if g i true h = refl
named_if g i false h = absurd (cc)

abbrev AreNamed : List Part → Type 0
AreNamed ps = All (λ (x : Part). IsNamed x.name) ps

entries_named : (g n : ℕ) (es : List Entry) → first_at (bad_entry g) n es ≡ None → All (λ (e : Entry). IsNamed e.participant) es
entries_named g n [] h = All-nil (λ (e : Entry). IsNamed e.participant)
entries_named g n (e ∷ es) h =
    All-cons (λ (e : Entry). IsNamed e.participant) e es
    (named_if g (Some n) (is_name e.participant) (left_none (bad_entry g n e) (first_at (bad_entry g) (n + 1) es) h))
    (entries_named g (n + 1) es (right_none (bad_entry g n e) (first_at (bad_entry g) (n + 1) es) h))

groups_named : (g : ℕ) (gs : List Group) → first_at bad_group g gs ≡ None
    → All (λ (e : Entry). IsNamed e.participant) (flat_map (λ (x : Group). x.entries) gs)
groups_named g [] h = All-nil (λ (e : Entry). IsNamed e.participant)
groups_named g (x ∷ gs) h =
    All-append (λ (e : Entry). IsNamed e.participant) x.entries (flat_map (λ (x : Group). x.entries) gs)
    (entries_named g 0 x.entries (right_none (bad_name g None x.name) (first_at (bad_entry g) 0 x.entries)
    (left_none (bad_group g x) (first_at bad_group (g + 1) gs) h)))
    (groups_named (g + 1) gs (right_none (bad_group g x) (first_at bad_group (g + 1) gs) h))

parts_named : (ps : List Part) (es : List Entry) → AreNamed ps → All (λ (e : Entry). IsNamed e.participant) es → AreNamed (parts_from ps es)
parts_named ps [] h k = h
parts_named ps (e ∷ es) h k = parts_named (add_new ps e) es (by (added_cases ps e)) (All-tail (λ (e : Entry). IsNamed e.participant) e es k)
  where
    by : ((add_new ps e ≡ ps) × (number_in ps e.participant < length ps)) ⊎ (add_new ps e ≡ ps ++ record { name = e.participant; kind = e.kind } ∷ [])
        → AreNamed (add_new ps e)
    by (inl same) = subst AreNamed (sym same.0) h
    by (inr more) = subst AreNamed (sym more)
        (All-push (λ (x : Part). IsNamed x.name) ps (record { name = e.participant; kind = e.kind }) h
        (All-head (λ (e : Entry). IsNamed e.participant) e es k))

pub checked_fits : (f : Flow) → IsChecked f → FlowFits f
unfolding first_fault
checked_fits f h =
    let names : name_fault f ≡ None = right_none (size_fault f) (name_fault f) h in
    record {
      retries = few_retries f h;
      names = parts_named [] (all_entries f) (All-nil (λ (x : Part). IsNamed x.name)) (groups_named 0 f.groups (left_none (first_at bad_group 0 f.groups)
          (or_else (first_at (double_group f.groups) 0 f.groups) (or_else (no_main f.groups) (clashes f.groups))) names));
    }
