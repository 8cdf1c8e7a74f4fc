use Rattle.std.proofs.Common.{◌≡◌, ◌++◌, drop}
use Rattle.std.specs.List.{flat_map}
use Rattle.cli_journal.specs.Shown.{advice_in}
use Rattle.cli_journal.proofs.journal.push_advices.Given as goal

abbrev pub invariant-loop-advice : goal.invariant-loop-advice
invariant-loop-advice l = l.text.items ++ flat_map (advice_in l.style l.next_id) (drop l.advice-index l.advices) ≡ l.fn.text.items
    ++ flat_map (advice_in l.style l.next_id) l.advices
