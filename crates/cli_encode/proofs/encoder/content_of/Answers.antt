use Rattle.std.proofs.Common.{◌∙◌, ◌≤◌, ◌++◌, ℕ, List, length, ap, sym, subst}
use Rattle.cli_encode.proofs.Lengths.{fits}
use Rattle.cli_encode.proofs.encoder.content_of.Goals as goal

pub returns-clause-short : goal.returns-clause-short
returns-clause-short c =
    let first = c.in_ok-extend_from_slice.ensures.items ∙ ap (λ (l : List ℕ). l ++ c.args.header.now) c.in_ok-content.ensures.items in
    let all = c.in_ok-extend_from_slice-2.ensures.items ∙ ap (λ (l : List ℕ). l ++ c.deref.result.now) first
    ∙ ap (λ (l : List ℕ). c.args.header.now ++ l) (c.deref.ensures.value ∙ c.in_ok-bytes.ensures.spelled) in
    subst (λ (l : List ℕ). length l ≤ 9999) (sym all) (fits c.args.header.now c.args.message.now c.is_message.ensures c.requires)
