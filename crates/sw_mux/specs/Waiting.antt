-- The requests that wait.
--
-- - *Waiting, due, later*: the list of keys with deadlines; the
--   filter of those that are due; the others.
use Rattle.std.specs.Prelude.{◌≡◌, ℕ, Bool, false, not, nat_le, List, [], ◌∷◌, map, filter}
use Rattle.std.specs.Prelude.{Option, Some, None, is_some, ⊤}
use Rattle.std.specs.Map.{lookup, remove_entry}
use Rattle.std.specs.Str.{bytes_eq}
use Rattle.sw_base.specs.Refusals.{refused_if}
use Rattle.iso_msg.specs.Messages.{PlainMessage}
use Rattle.sw_mux.specs.declared.key.Key.{Key}
use Rattle.sw_mux.specs.declared.error.MuxError.{MuxError}
use Rattle.sw_mux.specs.declared.error.MuxError.TheVariants.{OutOfMemory, NoKey, DuplicateKey, NumbersSpent}
use Rattle.sw_mux.specs.Keys.{key}

-- keys with their deadlines, in order of request
abbrev pub WaitingKeys : Type 0
WaitingKeys = List (Key × ℕ)

-- whether a key waits
abbrev pub waits : List ℕ → WaitingKeys → Bool
waits k es = is_some (lookup (λ q. bytes_eq q.bytes k) es)

-- without it; the others keep their order
abbrev pub without : List ℕ → WaitingKeys → WaitingKeys
without k es = remove_entry (λ q. bytes_eq q.bytes k) es

-- without these, one after the other
abbrev pub without_all : List Key → WaitingKeys → WaitingKeys
without_all [] es = es
without_all (k ∷ ks) es = without_all ks (without k.bytes es)

-- whose deadline is at most the tick
abbrev pub is_due : ℕ → Key × ℕ → Bool
is_due tick e = nat_le e.1 tick

-- the keys that are due, and what still waits without them
abbrev pub due : ℕ → WaitingKeys → List Key
due tick es = map (λ e. e.0) (filter (is_due tick) es)

abbrev pub later : ℕ → WaitingKeys → WaitingKeys
later tick es = filter (λ e. not (is_due tick e)) es

-- why a request is not taken, memory aside
abbrev pub refusal_of : Option (List ℕ) → WaitingKeys → Option MuxError
refusal_of None es = Some NoKey
refusal_of (Some k) es = refused_if (waits k es) DuplicateKey

abbrev pub refusal : PlainMessage → WaitingKeys → Option MuxError
refusal m es = refusal_of (key m) es

-- the error is that refusal; out of memory and numbers spent come only where there is none
abbrev pub IsRefusal : MuxError → Option MuxError → Type 0
IsRefusal OutOfMemory r = r ≡ None
IsRefusal NumbersSpent r = r ≡ None
IsRefusal e r = r ≡ Some e

-- the error is not that the numbers are spent
abbrev pub IsUnspent : MuxError → Type 0
IsUnspent NumbersSpent = ⊥
IsUnspent e = ⊤

-- whether a message's key waits
abbrev pub answers : Option (List ℕ) → WaitingKeys → Bool
answers None es = false
answers (Some k) es = waits k es
