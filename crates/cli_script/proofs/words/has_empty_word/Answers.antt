use Rattle.std.proofs.Common.{◌==◌, length, lit<, rules, tests}
use Rattle.std.proofs.lemmas.Iterator.Search.{any_from_yields_List}
use Rattle.std.proofs.lemmas.Iterator.Splits.{YieldsList-from_str_split}
use Rattle.cli_script.proofs.words.has_empty_word.Goals as goal

pub returns : goal.returns
returns c = any_from_yields_List (λ w. length w == 0) _ _ _ c.any.ensures.ran
    (YieldsList-from_str_split 32 c.args.line.now (lit< tt) c.split.ensures.text c.split.ensures.has_more c.split.ensures.pattern)
    (λ x b q k. search (rules, tests))
