use Rattle.std.proofs.Common.{◌∙◌, ◌-◌, ap, arith, get_or, [], ℕ, List}
use Rattle.cli_encode.proofs.Points.{last_is}
use Rattle.cli_encode.proofs.encoder.last_number.Goals as goal

pub returns : goal.returns
returns c = ap (λ (f : ℕ × List ℕ). f.0) c.field_at.ensures.field
    ∙ ap (λ (k : ℕ). (get_or c.args.message.now.fields (k - 1) (0, [])).0) c.field_count-count.ensures.count
    ∙ last_is 1 c.args.message.now.fields (0, []) (omega (arith, c.if-count-eq0.false, c.field_count-count.ensures.count))
