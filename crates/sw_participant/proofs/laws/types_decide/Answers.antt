use Rattle.sw_participant.specs.Chains.{rule_at}
use Rattle.sw_participant.proofs.Chains.{chain_weaker, rule_at_same}
use Rattle.sw_participant.proofs.laws.types_decide.Goals as goal

pub returns : goal.returns
returns g c recovered kind ss ts m os ps live now e =
    let rule = g.R.Rules.rule in
    chain_weaker recovered (rule_at (λ s. rule (kind s)) ss) (rule_at (λ s. rule (kind s)) ts) (rule_at_same rule kind ss ts e) m os live ps now
