-- Queues by name.
use Rattle.std.specs.Prelude.{◌≡◌, ℕ, false, List, [], ◌∷◌, ◌++◌, if◌then◌else◌}
use Rattle.std.specs.Option.{option_map_or}
use Rattle.std.specs.BTreeMap.{get_by_text}
use Rattle.std.specs.Str.{bytes_eq}
use Rattle.cli_script.specs.declared.queues.Queues.{Queues}

-- what is queued for a name, the next first
abbrev pub queue_at : {T : Type 0} → Queues T → List ℕ → List T
queue_at q name = option_map_or (λ d. d.items) (get_by_text q.held name) []

-- x where q is the name, and otherwise y
abbrev pub at_name : {A : Type 0} → List ℕ → List ℕ → A → A → A
at_name q name x y = if bytes_eq q name then x else y

-- the item is put after those of its name, and all other queues stay
abbrev pub PutsLast : {A : Type 0} → (List ℕ → List A) → (List ℕ → List A) → List ℕ → A → Type 0
PutsLast old new name item = (q : List ℕ) → new q ≡ old q ++ at_name q name (item ∷ []) []

-- what is queued for other names stays
abbrev pub OthersStay : {A : Type 0} → (List ℕ → A) → (List ℕ → A) → List ℕ → Type 0
OthersStay old new name = (q : List ℕ) → bytes_eq q name ≡ false → new q ≡ old q
