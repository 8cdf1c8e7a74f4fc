use Rattle.std.proofs.Common.{◌≡◌, true, false, subst}
use Rattle.std.specs.Prelude.{IfNone, IfSome}
use Rattle.tx_trace.proofs.Tables.{starts_named}
use Rattle.tx_trace.proofs.known.find_name.Goals as goal

pub returns-clause-known : goal.returns-clause-known
returns-clause-known c = subst (λ b. IfSome c.find_start.result (λ _. b ≡ true))
    (starts_named c.args.code.now c.groups.result.now c.args.name.now c.groups.ensures) c.find_start.ensures.known

pub returns-clause-unknown : goal.returns-clause-unknown
returns-clause-unknown c = subst (λ b. IfNone c.find_start.result (b ≡ false))
    (starts_named c.args.code.now c.groups.result.now c.args.name.now c.groups.ensures) c.find_start.ensures.unknown
