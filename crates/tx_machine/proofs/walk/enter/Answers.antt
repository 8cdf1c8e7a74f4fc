use Rattle.std.proofs.Common.{◌≡◌, ◌+◌, ◌∷◌, [], ◌++◌, ◌∙◌, ap, arith, append_assoc, map}
use Rattle.std.proofs.lemmas.Grind.{common_steps}
use Rattle.tx_machine.specs.Table.{Prepare}
use Rattle.tx_machine.specs.Position.{upcoming_at, entries_in, stack_upcoming}
use Rattle.tx_machine.proofs.StepsAhead.{stack_upcoming_top}
use Rattle.tx_machine.proofs.walk.enter.Goals as goal

pub returns-in-Some-clause-rest : goal.returns-in-Some-clause-rest
returns-in-Some-clause-rest c =
    let pushed : c.push.new.self.items ≡ c.args.stack.now.items ++ record { back = c.args.pick + 1; pending = c.args.pending } ∷ [] =
    grind (arith, common_steps) in
    c.in-Some.ensures.rest ∙ ap (stack_upcoming c.args.code.now) pushed ∙ stack_upcoming_top c.args.code.now c.args.stack.now.items _
    ∙ append_assoc (map Prepare (entries_in c.args.code.now c.args.pending.items)) (upcoming_at c.args.code.now (c.args.pick + 1))
    (stack_upcoming c.args.code.now c.args.stack.now.items)
