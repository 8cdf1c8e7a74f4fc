-- The last line of `info`.
use Rattle.std.specs.Prelude.{ℕ, ◌++◌, codes, length}
use Rattle.std.specs.Fmt.{decimal}
use Rattle.tx_history.specs.Journal.{entries}
use Rattle.tx_engine.specs.World.{World}
use Rattle.tx_trace.specs.Trace.{Text}

-- `queue Q, shelf H, written M of N`
abbrev pub totals_text : ℕ → ℕ → ℕ → ℕ → Text
totals_text q h m n = codes "queue " ++ decimal q ++ codes ", shelf " ++ decimal h ++ codes ", written " ++ decimal m ++ codes " of " ++ decimal n

-- how many entries the history has
abbrev pub entry_count : World → ℕ
entry_count w = length (entries w.flow w.start w.past)
