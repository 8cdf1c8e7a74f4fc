use Rattle.std.proofs.Common.{is_none, lit<, rules, tests}
use Rattle.std.proofs.lemmas.Iterator.Search.{any_from_yields_List}
use Rattle.std.proofs.lemmas.Iterator.Splits.{YieldsList-from_str_split}
use Rattle.cli_script.specs.Groups.{entry_spelled}
use Rattle.cli_script.proofs.Spelled.{further_any}
use Rattle.cli_script.proofs.group.has_bad_entry.Goals as goal

pub returns-then-not-is_empty : goal.returns-then-not-is_empty
returns-then-not-is_empty c = rw (further_any c.args.text.now (search rules))
    (any_from_yields_List (λ w. is_none (entry_spelled w)) _ _ _ c.any.ensures.ran
    (YieldsList-from_str_split 32 c.args.text.now (lit< tt) c.split.ensures.text c.split.ensures.has_more c.split.ensures.pattern)
    (λ x b q k. search (rules, tests)))
