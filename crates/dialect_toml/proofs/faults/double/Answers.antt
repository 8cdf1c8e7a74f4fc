use Rattle.std.proofs.Common.{◌∙◌, Some, ap, sym}
use Rattle.toml_tables.specs.Tables.{views}
use Rattle.std.proofs.Common.{take}
use Rattle.dialect_toml.specs.declared.error.TableError.TheVariants.{Double}
use Rattle.dialect_toml.specs.Faults.{is_taken}
use Rattle.dialect_toml.proofs.Doubles.{double_here, double_later}
use Rattle.dialect_toml.proofs.faults.double.Goals as goal

pub returns-then-is_taken : goal.returns-then-is_taken
returns-then-is_taken c =
    let n = c.loop-index.index in
    let numbered = ap (is_taken (views (take n c.args.fields.now))) c.number_of.ensures in
    ap (λ path. Some (Double path)) c.path_of.ensures
    ∙ sym (double_here c.args.fields.now n c.index-fields-index.result _ c.loop-index-test.true c.index-fields-index.is
    (sym numbered ∙ sym c.is_taken.ensures ∙ c.if-is_taken.true))
    ∙ c.loop-index.invariant

pub loop-index-preserved : goal.loop-index-preserved
loop-index-preserved c =
    let n = c.loop-index.index in
    let numbered = ap (is_taken (views (take n c.args.fields.now))) c.number_of.ensures in
    sym (double_later c.args.fields.now n c.index-fields-index.result _ c.loop-index-test.true c.index-fields-index.is
    (sym numbered ∙ sym c.is_taken.ensures ∙ c.if-is_taken.false))
    ∙ c.loop-index.invariant
