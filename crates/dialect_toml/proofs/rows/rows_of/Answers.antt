use Rattle.std.proofs.Common.{◌<◌, ◌≢◌, ◌∙◌, None, length, arith, sym, below_more, length-set, get_or-set_other, get_or-set_same}
use Rattle.std.proofs.lemmas.List.{ext_get_or}
use Rattle.std.proofs.lemmas.List.FromFn.{get_or-map-range_with_len, length-map-range_with_len}
use Rattle.toml_tables.specs.Tables.{views}
use Rattle.dialect_toml.specs.Rows.{row_at, rows_of}
use Rattle.dialect_toml.proofs.rows.rows_of.Goals as goal

pub loop-number-preserved : goal.loop-number-preserved
loop-number-preserved c =
    let (long, so_far) = c.loop-number.invariant in (
      length-set _ _ _ ∙ long,
      below_more _ _ (λ k h. let ne : k ≢ c.loop-number.number = omega arith in rw get_or-set_other (so_far k h))
          (let lt : c.loop-number.number < length c.loop-number.rows = omega (arith, long) in rw get_or-set_same c.row_of.ensures),
    )

pub returns : goal.returns
unfolding rows_of
returns c =
    let f = row_at c.args.page (views c.args.fields.now) in
    let (long, so_far) = c.loop-number.invariant in
    ext_get_or None _ _ (long ∙ sym (length-map-range_with_len f 0 129))
    (λ i h. let low : i < 129 = omega (arith, h, long) in
    so_far i (omega (arith, low)) ∙ sym (get_or-map-range_with_len f 0 129 i i None low (omega arith)))
