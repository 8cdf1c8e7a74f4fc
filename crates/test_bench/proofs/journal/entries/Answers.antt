use Rattle.std.proofs.Common.{All, Bool, true, false, List, [], ◌∷◌, ◌++◌, if◌then◌else◌, subst, sym}
use Rattle.std.specs.Result.{is_ok}
use Rattle.std.proofs.lemmas.List.Elements.{All-push}
use Rattle.tx_history.specs.declared.event.Entry.{Entry}
use Rattle.journal_tables.specs.Small.{IsEntrySmall}
use Rattle.test_bench.proofs.journal.entries.Goals as goal

-- whether it was pushed or not
one_more : (b : Bool) (xs : List Entry) (x : Entry) → All IsEntrySmall xs → IsEntrySmall x → All IsEntrySmall (if b then xs ++ x ∷ [] else xs)
one_more true xs x all one = All-push IsEntrySmall xs x all one
one_more false xs x all one = all

pub loop-n-preserved : goal.loop-n-preserved
loop-n-preserved c = subst (All IsEntrySmall) (sym c.push.ensures.items) (one_more (is_ok c.push.result) c.loop-n.list.items c.in_ok-entry.field-0
    c.loop-n.invariant c.in_ok-entry.ensures)
