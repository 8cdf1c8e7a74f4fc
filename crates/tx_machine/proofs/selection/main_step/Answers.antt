use Rattle.std.proofs.Common.{◌≡◌, ◌∙◌, ap, sym, codes, true, false}
use Rattle.flow_model.specs.Check.{is_named}
use Rattle.flow_model.proofs.CheckedKinds.{main_named}
use Rattle.tx_machine.proofs.selection.main_step.Goals as goal

pub unreachable-requires : goal.unreachable-requires
unreachable-requires c =
    let known : is_named (codes "main") c.args.code.now.groups ≡ true = main_named c.args.code.now c.is_checked.ensures in
    let unknown : is_named (codes "main") c.args.code.now.groups ≡ false = ap (λ n. is_named n c.args.code.now.groups) (sym c.as_bytes.ensures.value)
    ∙ c.in_default.ensures.unknown in
    cc
