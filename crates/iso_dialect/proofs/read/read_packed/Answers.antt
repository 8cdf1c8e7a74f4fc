use Rattle.std.proofs.Common.{◌≡◌, ◌∙◌, ◌*◌, ◌++◌, ℕ, List, length, ap, arith}
use Rattle.std.specs.List.{flat_map}
use Rattle.iso_dialect.specs.Codings.{halves}
use Rattle.iso_dialect.proofs.Texts.{halves_length}
use Rattle.iso_dialect.proofs.read.read_packed.Goals as goal

pub without_pad-requires : goal.without_pad-requires
without_pad-requires c =
    let list : length c.as_slice.result.now ≡ 2 * length c.args.bytes.now =
    ap length (c.as_slice.ensures ∙ c.push_halves.ensures ∙ ap (λ (x : List ℕ). x ++ flat_map halves c.args.bytes.now) c.new-list.ensures)
    ∙ halves_length c.args.bytes.now in
    omega (arith, c.requires.whole)

pub push_digits-requires : goal.push_digits-requires
push_digits-requires c =
    let list : length c.as_slice.result.now ≡ 2 * length c.args.bytes.now =
    ap length (c.as_slice.ensures ∙ c.push_halves.ensures ∙ ap (λ (x : List ℕ). x ++ flat_map halves c.args.bytes.now) c.new-list.ensures)
    ∙ halves_length c.args.bytes.now in
    omega (arith, c.in-Some.ensures.short, c.requires.whole, c.requires.small, ap length c.requires.empty)
