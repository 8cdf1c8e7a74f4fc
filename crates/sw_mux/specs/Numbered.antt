-- How the requests that wait are kept: by number, with the number of each key beside them.
use Rattle.std.specs.Prelude.{◌≡◌, ℕ, ◌+◌, ◌≤◌, Bool, List, [], ◌∷◌}
use Rattle.std.specs.Prelude.{Option, Some, None, if◌then◌else◌}
use Rattle.std.specs.BTreeMap.{is_at}
use Rattle.std.specs.Map.{lookup}
use Rattle.std.specs.Ordering.{is_eq, nat_cmp, ordering_then}
use Rattle.std.specs.Str.{bytes_eq}
use Rattle.std.specs.declared.cmp.Ordering.{Ordering}
use Rattle.sw_mux.specs.declared.key.Key.{Key}

-- requests under their numbers
abbrev pub Numbered : Type 0
Numbered = List (ℕ × (Key × ℕ))

abbrev pub key_eq : Key → Key → Bool
key_eq k q = bytes_eq k.bytes q.bytes

-- the number of the request with a key
abbrev pub number_of : Key → Numbered → Option ℕ
number_of k [] = None
number_of k (e ∷ es) = if key_eq e.1.0 k then Some e.0 else number_of k es

-- the numbers rise, from low on and below next
abbrev pub Rise : ℕ → Numbered → ℕ → Type 0
Rise low [] next = low ≤ next
Rise low (e ∷ es) next = (low ≤ e.0) × Rise (e.0 + 1) es next

-- no key waits twice
abbrev pub HaveOwnKeys : Numbered → Type 0
HaveOwnKeys [] = Unit {0}
HaveOwnKeys (e ∷ es) = (number_of e.1.0 es ≡ None) × HaveOwnKeys es

-- by deadline, and by number where deadlines are equal
abbrev pub pair_cmp : ℕ × ℕ → ℕ × ℕ → Ordering
pair_cmp a b = ordering_then (nat_cmp a.0 b.0) (nat_cmp a.1 b.1)

-- the request with a number
abbrev pub request_at : ℕ → Numbered → Option (Key × ℕ)
request_at n es = lookup (is_at (nat_cmp n)) es

-- the key of a request, where this is its deadline
abbrev pub key_by : ℕ → Option (Key × ℕ) → Option Key
key_by d None = None
key_by d (Some v) = if is_eq (nat_cmp v.1 d) then Some v.0 else None

-- the requests by number, the number of each key, the key at each deadline and number, and the
-- number of the next request
pub record IsNumbered (requests : Numbered) (numbers : Key → Option ℕ)
    (times : ℕ × ℕ → Option Key) (next : ℕ) : Type 0 where
  pub rising : Rise 0 requests next
  pub own : HaveOwnKeys requests
  pub found : (k : Key) → numbers k ≡ number_of k requests
  pub timed : (q : ℕ × ℕ) → times q ≡ key_by q.0 (request_at q.1 requests)
  pub small : next ≤ 18446744073709551615
