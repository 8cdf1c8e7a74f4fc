use Rattle.std.proofs.Common.{◌∙◌, ap}
use Rattle.flow_model.specs.Check.{first_kind}
use Rattle.sw_base.specs.Refusals.{refused}
use Rattle.flow_model.specs.Kinds.{kind_at}
use Rattle.flow_model.proofs.FirstKinds.{clash_in_same}
use Rattle.flow_model.proofs.kinds.check_kinds.Goals as goal

pub returns : goal.returns
returns c = c.check_kinds_by.ensures ∙ ap refused (clash_in_same (kind_at c.args.kinds.now) (λ name. first_kind name c.args.groups.now) c.requires 0
    c.args.groups.now)
