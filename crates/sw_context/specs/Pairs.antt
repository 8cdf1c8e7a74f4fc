-- A context as the list of its entries.
use Rattle.std.specs.Prelude.{◌≡◌, ℕ, ◌<◌, ◌≤◌, ◌^◌, IsTrue, not, nat_le, nat_lt, ◌&&◌, List, [], ◌∷◌, length, Option, Some, None, is_none, if◌then◌else◌}
use Rattle.std.specs.Str.{bytes_eq}
use Rattle.sw_context.specs.Names.{is_name}
use Rattle.sw_context.specs.declared.error.ContextError.{ContextError}
use Rattle.sw_context.specs.declared.error.ContextError.TheVariants.{OutOfMemory, Full, BadName, ValueTooLong}

-- names with their values, in order
abbrev pub Pairs : Type 0
Pairs = List (List ℕ × List ℕ)

-- the value under a name
abbrev pub find : List ℕ → Pairs → Option (List ℕ)
find name [] = None
find name (e ∷ es) = if bytes_eq name e.0 then Some e.1 else find name es

-- with a value under a name: a name that is there keeps its position, and a new one goes last
abbrev pub with_value : Pairs → List ℕ → List ℕ → Pairs
with_value [] name value = (name, value) ∷ []
with_value (e ∷ es) name value = if bytes_eq name e.0 then (e.0, value) ∷ es else e ∷ with_value es name value

-- without a name: the others keep their order
abbrev pub without : List ℕ → Pairs → Pairs
without name [] = []
without name (e ∷ es) = if bytes_eq name e.0 then es else e ∷ without name es

-- a name with a value of at most 65,535 bytes
abbrev pub IsEntry : List ℕ × List ℕ → Type 0
IsEntry e = IsTrue (is_name e.0) × (length e.1 < 2 ^ 16)

-- entries of different names
abbrev pub AreEntries : Pairs → Type 0
AreEntries [] = Unit {0}
AreEntries (e ∷ es) = IsEntry e × (find e.0 es ≡ None) × AreEntries es

-- at most 64 entries of different names
abbrev pub IsContext : Pairs → Type 0
IsContext es = (length es ≤ 64) × AreEntries es

-- why a value is not put under a name, memory aside
unfoldable pub refusal : Pairs → List ℕ → List ℕ → Option ContextError
refusal es name value =
    if not (is_name name) then Some BadName
    else if nat_lt 65535 (length value) then Some ValueTooLong
    else if nat_le 64 (length es) && is_none (find name es) then Some Full
    else None

-- the error is that refusal; out of memory is reported only if there is none
abbrev pub IsRefusal : ContextError → Option ContextError → Type 0
IsRefusal OutOfMemory r = r ≡ None
IsRefusal e r = r ≡ Some e
