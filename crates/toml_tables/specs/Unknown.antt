-- The keys that a table may not have.
use Rattle.std.specs.Prelude.{ℕ, Bool, not, List, Option, Some, None, if◌then◌else◌}
use Rattle.std.specs.List.{list_any}
use Rattle.std.specs.Str.{bytes_eq}
use Rattle.std.specs.Ordering.{is_lt, nat_cmp}
use Rattle.std.specs.Cmp.Lexicographic.{slice_cmp}
use Rattle.toml.specs.Data.{Members, no_members, member}

-- one of the keys is spelled so
abbrev pub is_known : {K : Type 0} → (K → List ℕ) → List K → List ℕ → Bool
is_known spelling keys name = list_any (λ k. bytes_eq (spelling k) name) keys

-- the lesser of two keys, by their bytes
abbrev pub lesser : List ℕ → Option (List ℕ) → List ℕ
lesser name None = name
lesser name (Some other) = if is_lt (slice_cmp nat_cmp other name) then other else name

-- the least of the keys that pass a test
abbrev pub least_key : (List ℕ → Bool) → Members → Option (List ℕ)
least_key passes no_members = None
least_key passes (member name d ms) = if passes name then Some (lesser name (least_key passes ms)) else least_key passes ms

-- the least of the keys that the table does not know
abbrev pub unknown_key : {K : Type 0} → (K → List ℕ) → List K → Members → Option (List ℕ)
unknown_key spelling keys ms = least_key (λ name. not (is_known spelling keys name)) ms
