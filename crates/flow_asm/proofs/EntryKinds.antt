-- The number in a call leads to the participant's kind.
-- for: code::Code::look
use Rattle.std.proofs.Common.{◌≡◌, ℕ, zero, suc, ◌+◌, ◌<◌, Bool, true, false, inl, inr, List, [], ◌∷◌, ◌++◌, length, Some, refl, sym, ap, ◌∙◌, subst}
use Rattle.std.proofs.Common.{if◌then◌else◌}
use Rattle.std.specs.Prelude.{slice_get}
use Rattle.std.specs.List.{flat_map}
use Rattle.std.proofs.lemmas.Option.{none-some}
use Rattle.flow_model.specs.declared.flow.Flow.{Flow}
use Rattle.flow_model.specs.declared.flow.Group.{Group}
use Rattle.flow_model.specs.declared.flow.Entry.{Entry}
use Rattle.flow_model.specs.declared.flow.PlacedEntry.{PlacedEntry}
use Rattle.flow_model.specs.declared.numbering.Part.{Part}
use Rattle.flow_model.specs.Check.{IsChecked}
use Rattle.flow_model.specs.Places.{all_entries, number_in, parts_of, placed_entry, placed_from}
use Rattle.flow_asm.specs.Steps.{Stage, AtCall, AtPick, AtReturn, groups_from, stages, stages_of_group}
use Rattle.flow_model.proofs.CheckedKinds.{In, in_left, in_right, one_kind}
use Rattle.flow_model.proofs.Numbers.{knows, numbered}

-- a placed entry is that of one of the entries
record IsOf (parts : List Part) (all : List Entry) (s : PlacedEntry) : Type 0 where
  entry : Entry
  here : In all entry
  number : s.participant ≡ number_in parts entry.participant
  kind : s.kind ≡ entry.kind

-- so is that of each call and pick among the stages
abbrev Calls : (PlacedEntry → Type 0) → List Stage → Type 0
Calls P [] = Unit {0}
Calls P (AtCall s ∷ xs) = P s × Calls P xs
Calls P (AtPick s ∷ xs) = P s × Calls P xs
Calls P (AtReturn ∷ xs) = Calls P xs

calls_get : (P : PlacedEntry → Type 0) (xs : List Stage) (k : ℕ) (s : PlacedEntry) → Calls P xs → slice_get xs k ≡ Some (AtCall s) → P s
calls_get P [] k s h e = absurd (none-some (AtCall s) e)
calls_get P (AtCall t ∷ xs) zero s h e = let same : t ≡ s = cc in subst P same h.0
calls_get P (AtCall t ∷ xs) (suc k) s h e = calls_get P xs k s h.1 e
calls_get P (AtPick t ∷ xs) zero s h e = absurd cc
calls_get P (AtPick t ∷ xs) (suc k) s h e = calls_get P xs k s h.1 e
calls_get P (AtReturn ∷ xs) zero s h e = absurd cc
calls_get P (AtReturn ∷ xs) (suc k) s h e = calls_get P xs k s h e

picks_get : (P : PlacedEntry → Type 0) (xs : List Stage) (k : ℕ) (s : PlacedEntry) → Calls P xs → slice_get xs k ≡ Some (AtPick s) → P s
picks_get P [] k s h e = absurd (none-some (AtPick s) e)
picks_get P (AtPick t ∷ xs) zero s h e = let same : t ≡ s = cc in subst P same h.0
picks_get P (AtPick t ∷ xs) (suc k) s h e = picks_get P xs k s h.1 e
picks_get P (AtCall t ∷ xs) zero s h e = absurd cc
picks_get P (AtCall t ∷ xs) (suc k) s h e = picks_get P xs k s h.1 e
picks_get P (AtReturn ∷ xs) zero s h e = absurd cc
picks_get P (AtReturn ∷ xs) (suc k) s h e = picks_get P xs k s h e

calls_group : (parts : List Part) (all : List Entry) (g i : ℕ) (es : List Entry) (more : List Stage) → ((e : Entry) → In es e → In all e) →
    Calls (IsOf parts all) more → Calls (IsOf parts all) (stages_of_group (placed_from parts g i es) ++ more)
calls_group parts all g i [] more s h = h
calls_group parts all g i (e ∷ es) more s h = by e.kind.selector (record { entry = e; here = s e (inl refl); number = refl; kind = refl })
    (calls_group parts all g (i + 1) es more (λ x w. s x (inr w)) h)
  where
    placed : PlacedEntry
    placed = placed_entry parts g i e

    by : (b : Bool) → IsOf parts all placed → Calls (IsOf parts all) (stages_of_group (placed_from parts g (i + 1) es) ++ more) →
        Calls (IsOf parts all) (((if b then AtCall placed ∷ AtPick placed ∷ [] else AtCall placed ∷ []) ++ stages_of_group (placed_from parts g (i + 1) es))
        ++ more)
    by true w r = (w, (w, r))
    by false w r = (w, r)

calls_groups : (parts : List Part) (all : List Entry) (g : ℕ) (gs : List Group) → ((e : Entry) → In (flat_map (λ (x : Group). x.entries) gs) e → In all e) →
    Calls (IsOf parts all) (flat_map stages_of_group (groups_from parts g gs))
calls_groups parts all g [] s = tt
calls_groups parts all g (x ∷ gs) s =
    calls_group parts all g 0 x.entries (flat_map stages_of_group (groups_from parts (g + 1) gs))
    (λ e i. s e (in_left x.entries (flat_map (λ (y : Group). y.entries) gs) e i))
    (calls_groups parts all (g + 1) gs (λ e i. s e (in_right x.entries (flat_map (λ (y : Group). y.entries) gs) e i)))

-- the participant of a call, with the call's kind
pub kind_at : (f : Flow) (k : ℕ) (s : PlacedEntry) → IsChecked f → slice_get (stages f) k ≡ Some (AtCall s) →
    (p : Part) × (slice_get (parts_of f) s.participant ≡ Some p) × (p.kind ≡ s.kind)
kind_at f k s c h =
    let w = calls_get (IsOf (parts_of f) (all_entries f)) (stages f) k s (calls_groups (parts_of f) (all_entries f) 0 f.groups (λ e i. i)) h in (
      record { name = w.entry.participant; kind = w.entry.kind },
      ap (slice_get (parts_of f)) w.number ∙ numbered (all_entries f) w.entry (one_kind f c)
          w.here,
      sym w.kind,
    )

-- the numbers of a call and of a pick are the participants'
pub call_participant : (f : Flow) (k : ℕ) (s : PlacedEntry) → slice_get (stages f) k ≡ Some (AtCall s) → s.participant < length (parts_of f)
call_participant f k s h =
    let w = calls_get (IsOf (parts_of f) (all_entries f)) (stages f) k s (calls_groups (parts_of f) (all_entries f) 0 f.groups (λ e i. i)) h in
    subst (λ n. n < length (parts_of f)) (sym w.number) (knows [] (all_entries f) w.entry w.here)

pub pick_participant : (f : Flow) (k : ℕ) (s : PlacedEntry) → slice_get (stages f) k ≡ Some (AtPick s) → s.participant < length (parts_of f)
pick_participant f k s h =
    let w = picks_get (IsOf (parts_of f) (all_entries f)) (stages f) k s (calls_groups (parts_of f) (all_entries f) 0 f.groups (λ e i. i)) h in
    subst (λ n. n < length (parts_of f)) (sym w.number) (knows [] (all_entries f) w.entry w.here)
