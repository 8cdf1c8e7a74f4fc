-- A table of groups' first steps has the flow's names.
-- for: known::find_name, names::Names::group
use Rattle.std.proofs.Common.{◌≡◌, ℕ, zero, suc, ◌+◌, ◌<◌, ◌≤◌, List, [], ◌∷◌, length, get_or, refl, sym, ap, ◌∙◌}
use Rattle.std.specs.Prelude.{◌||◌, slice_get}
use Rattle.std.specs.Option.{option_map_or}
use Rattle.std.proofs.lemmas.Option.{slice_get-get_or, slice_get_past}
use Rattle.std.specs.Str.{bytes_eq}
use Rattle.flow_model.specs.declared.flow.Flow.{Flow}
use Rattle.flow_model.specs.declared.flow.Group.{Group}
use Rattle.flow_model.specs.Check.{is_named}
use Rattle.flow_asm.specs.declared.code.GroupStart.{GroupStart}
use Rattle.flow_asm.specs.Steps.{starts_from, starts_of}
use Rattle.tx_trace.specs.Starts.{is_start}
use Rattle.tx_trace.specs.Trace.{group_name}

named_from : (f : Flow) (g : ℕ) (gs : List Group) (n : List ℕ) → is_start n (starts_from f g gs) ≡ is_named n gs
named_from f g [] n = refl
named_from f g (x ∷ gs) n = ap (λ b. bytes_eq x.name n || b) (named_from f (g + 1) gs n)

pub starts_named : (f : Flow) (starts : List GroupStart) (n : List ℕ) → starts ≡ starts_of f → is_start n starts ≡ is_named n f.groups
starts_named f starts n e = ap (is_start n) e ∙ named_from f 0 f.groups n

name_from : (f : Flow) (g k : ℕ) (gs : List Group) → option_map_or (λ (s : GroupStart). s.name) (slice_get (starts_from f g gs) k) []
    ≡ option_map_or (λ (x : Group). x.name) (slice_get gs k) []
name_from f g k [] = refl
name_from f g zero (x ∷ gs) = refl
name_from f g (suc k) (x ∷ gs) = name_from f (g + 1) k gs

start_name : (f : Flow) (starts : List GroupStart) (k : ℕ) → starts ≡ starts_of f → option_map_or (λ (s : GroupStart). s.name) (slice_get starts k) []
    ≡ group_name f k
start_name f starts k e = ap (λ (ss : List GroupStart). option_map_or (λ (s : GroupStart). s.name) (slice_get ss k) []) e ∙ name_from f 0 k f.groups

pub start_here : (f : Flow) (starts : List GroupStart) (k : ℕ) (s d : GroupStart) → starts ≡ starts_of f → k < length starts → s ≡ get_or starts k d →
    s.name ≡ group_name f k
start_here f starts k s d e h is =
    ap (λ (x : GroupStart). x.name) is ∙ sym (ap (λ o. option_map_or (λ (x : GroupStart). x.name) o []) (slice_get-get_or starts k d h))
    ∙ start_name f starts k e

pub start_past : (f : Flow) (starts : List GroupStart) (k : ℕ) → starts ≡ starts_of f → length starts ≤ k → [] ≡ group_name f k
start_past f starts k e h = sym (ap (λ o. option_map_or (λ (x : GroupStart). x.name) o []) (slice_get_past starts k h)) ∙ start_name f starts k e
