use Rattle.std.proofs.Common.{◌∙◌, Some, ap, sym}
use Rattle.cli_config.proofs.EarlierTables.{double_here, double_later}
use Rattle.cli_config.specs.declared.error.TableError.TheVariants.{Double}
use Rattle.cli_config.proofs.faults.double_among.Goals as goal

pub returns-then-is_taken : goal.returns-then-is_taken
returns-then-is_taken c =
    let said = c.text_at-text.ensures in
    let n = c.loop-number.number in
    ap (λ text. Some (Double c.args.key (record { section = c.args.section; number = n }) text)) c.in_ok-text.ensures
    ∙ sym (double_here c.args.section c.args.key c.args.tables.now n c.index-tables-number.result _ c.text_at-text.result.now c.loop-number-test.true
    c.index-tables-number.is said (sym c.is_taken.ensures ∙ c.if-is_taken.true))
    ∙ c.loop-number.invariant

pub loop-number-preserved : goal.loop-number-preserved
loop-number-preserved c =
    sym (double_later c.args.section c.args.key c.args.tables.now c.loop-number.number c.index-tables-number.result _ c.text_at-text.result.now
    c.loop-number-test.true c.index-tables-number.is c.text_at-text.ensures (sym c.is_taken.ensures ∙ c.if-is_taken.false))
    ∙ c.loop-number.invariant
