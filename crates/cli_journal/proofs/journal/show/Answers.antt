use Rattle.std.proofs.Common.{◌∙◌, List, ℕ, subst}
use Rattle.cli_io.specs.Written.{AppendsBeginning}
use Rattle.cli_journal.proofs.journal.show.Goals as goal

pub returns-clause-beginning : goal.returns-clause-beginning
returns-clause-beginning g c =
    subst (λ (bytes : List ℕ). AppendsBeginning (g.W.Write.contents c.args.out.now) (g.W.Write.contents c.write_out.new.out) bytes)
    (c.as_slice.ensures.value ∙ c.in_ok-text.ensures) c.write_out.ensures.beginning
