use Rattle.std.proofs.Common.{◌≡◌, ◌++◌, drop, map, option_map}
use Rattle.cli_script.specs.Puts.{puts_spelled}
use Rattle.cli_script.proofs.puts.spelled_puts.Given as goal

-- the entries so far and those of the words left are those of the words
abbrev pub invariant-loop-word : goal.invariant-loop-word
invariant-loop-word l = option_map (λ ps. l.puts.items ++ ps) (puts_spelled (map (λ w. w.now) (drop l.word-index l.words)))
    ≡ puts_spelled (map (λ w. w.now) l.words)
