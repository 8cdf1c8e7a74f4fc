-- The responses of transactions that ended.
--
-- - *Response* (`Responses.antt`): the entry of that name in the context that a transaction ended with, after the header
--   of its request, if it has one.
use Rattle.std.specs.Prelude.{ℕ, List, [], ◌∷◌, ◌++◌, Option, Some, None, codes}
use Rattle.std.specs.Ordering.{nat_cmp}
use Rattle.std.specs.BTreeMap.Range.{entries_between}
use Rattle.std.specs.declared.ops.Bound.TheVariants.{Excluded, Unbounded}
use Rattle.sw_context.specs.Pairs.{Pairs, find}

-- the contexts of the transactions that ended, with ids above this, in their order
abbrev pub above : ℕ → List (ℕ × Pairs) → List (ℕ × Pairs)
above id ended = entries_between nat_cmp (Excluded id) Unbounded ended

-- the header of a context is its entry of that name; without one it has no bytes
abbrev pub bytes_of : Option (List ℕ) → List ℕ
bytes_of None = []
bytes_of (Some h) = h

abbrev pub header : Pairs → List ℕ
header x = bytes_of (find (codes "header") x)

-- with this header before it
abbrev pub headed : List ℕ → Option (List ℕ) → Option (List ℕ)
headed h None = None
headed h (Some r) = Some (h ++ r)

-- the response of a context is its entry of that name, after the header
abbrev pub response : Pairs → Option (List ℕ)
response x = headed (header x) (find (codes "response") x)

-- responses with this one before them, if there is one
abbrev pub with_response : Option (List ℕ) → List (List ℕ) → List (List ℕ)
with_response None rs = rs
with_response (Some r) rs = r ∷ rs

-- the responses of these contexts, in their order; a context without one is left out
abbrev pub responses : List (ℕ × Pairs) → List (List ℕ)
responses [] = []
responses (e ∷ es) = with_response (response e.1) (responses es)

-- the id of the last of them
abbrev pub last_id : ℕ → List (ℕ × Pairs) → ℕ
last_id id [] = id
last_id id (e ∷ es) = last_id e.0 es
