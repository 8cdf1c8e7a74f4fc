use Rattle.std.proofs.Common.{◌==◌, ℕ, Bool, rules, tests}
use Rattle.std.proofs.lemmas.Iterator.{YieldsList-from_slice}
use Rattle.std.proofs.lemmas.Iterator.Search.{position_from_yields_List}
use Rattle.cli_io.proofs.Positions.{end_found}
use Rattle.cli_encode.proofs.cut.mark_index.Goals as goal
use Rattle.std.proofs.Common.{◌∙◌}

pub returns-clause-index : goal.returns-clause-index
returns-clause-index c =
    let test : ℕ → Bool = λ b. b == c.args.mark in
    c.unwrap_or.ensures
    ∙ end_found test c.args.bytes.now c.position.result
    (position_from_yields_List test _ _ c.position.result c.position.ensures.ran
    (YieldsList-from_slice c.args.bytes.now (cc)) (λ x b q k. search (rules, tests)))
