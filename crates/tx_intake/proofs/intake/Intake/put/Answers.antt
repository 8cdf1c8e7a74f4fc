use Rattle.std.proofs.Common.{◌∷◌, ◌++◌, [], ap, subst, sym}
use Rattle.tx_intake.proofs.Passing.{puts_by, held_of_put_by}
use Rattle.tx_intake.proofs.intake.Intake.put.Goals as goal

pub push_as-requires-clause-rule : goal.push_as-requires-clause-rule
push_as-requires-clause-rule g c =
    let may = subst (λ p. g.B.Law.may (p.passed ++ c.args.item ∷ [])) (sym c.putter.view_is) c.requires.may in (
      puts_by g.B.Law.may _ _ _ _ c.self.invariant (ap (λ v. v.puts) c.putter.invariant.1) may,
      held_of_put_by g.B.Law.may _ _,
    )
