use Rattle.std.proofs.Common.{◌≡◌, ◌<◌, ◌∙◌, List, length, get_or, subst, ap, sym, arith}
use Rattle.flow_asm.specs.declared.code.GroupStart.{GroupStart}
use Rattle.flow_asm.specs.Steps.{first_step, stages}
use Rattle.flow_asm.proofs.Stages.{first_at, length-starts}
use Rattle.tx_machine.specs.Position.{upcoming_at}
use Rattle.tx_machine.proofs.StepsAhead.{is_first}
use Rattle.tx_machine.proofs.walk.group_step.Goals as goal
use Rattle.tx_machine.proofs.walk.group_step.Goals.{After-index-groups-group}

pub bounds-groups-group : goal.bounds-groups-group
bounds-groups-group c =
    subst (λ (xs : List GroupStart). c.args.group < length xs) (sym c.groups.ensures) (subst (λ n. c.args.group < n) (sym (length-starts c.args.code.now))
    c.requires)

pub offset_bounds-groups-group : goal.offset_bounds-groups-group
offset_bounds-groups-group c = omega (arith, bounds-groups-group c)

first : (c : After-index-groups-group) → c.index-groups-group.result.first ≡ first_step c.args.code.now c.args.group
first c =
    ap (λ (s : GroupStart). s.first) (c.index-groups-group.is ∙ ap (λ (xs : List GroupStart). get_or xs c.args.group c.index-groups-group.result)
    c.groups.ensures) ∙ first_at c.args.code.now c.args.group c.index-groups-group.result c.requires

pub returns-clause-first : goal.returns-clause-first
returns-clause-first c = first c

pub returns-clause-within : goal.returns-clause-within
returns-clause-within c = subst (λ n. n < length (stages c.args.code.now)) (sym (first c)) (is_first c.args.code.now c.args.group c.requires).within

pub returns-clause-upcoming : goal.returns-clause-upcoming
returns-clause-upcoming c = ap (upcoming_at c.args.code.now) (first c) ∙ (is_first c.args.code.now c.args.group c.requires).upcoming
