-- The keys by deadline and number, up to a deadline.
use Rattle.std.specs.Prelude.{ℕ, List}
use Rattle.std.specs.BTreeMap.{BTreeMap}
use Rattle.std.specs.BTreeMap.Range.{entries_between, IsEntryInRange}
use Rattle.std.specs.List.{All}
use Rattle.std.specs.declared.ops.Bound.TheVariants.{Included, Unbounded}
use Rattle.sw_mux.specs.declared.key.Key.{Key}
use Rattle.sw_mux.specs.Numbered.{pair_cmp}

-- keys under their deadlines and numbers
abbrev pub Timed : Type 0
Timed = List ((ℕ × ℕ) × Key)

-- those with a deadline of at most the tick
abbrev pub until : ℕ → Timed → Timed
until tick ts = entries_between pair_cmp Unbounded (Included (tick, 18446744073709551615)) ts

-- the number and the key
abbrev pub by_number : (ℕ × ℕ) × Key → ℕ × Key
by_number t = (t.0.1, t.1)

-- each of these is the map's, and has a deadline of at most the tick
abbrev pub AreUntil : ℕ → BTreeMap (ℕ × ℕ) Key → Type 0
AreUntil tick m =
    All (IsEntryInRange pair_cmp Unbounded (Included (tick, 18446744073709551615)) m)
    (until tick m.entries)
