use Rattle.std.proofs.Common.{◌≡◌, ◌∙◌, ◌++◌, ap, sym, append-nil, ℕ, List, Bor}
use Rattle.std.proofs.lemmas.List.{drop_all}
use Rattle.std.proofs.lemmas.List.Folds.{flat_map-map}
use Rattle.sw_json.specs.Json.{next_string}
use Rattle.sw_json.proofs.strings.push_rest.Goals as goal

pub returns : goal.returns
returns c =
    let all = rw (drop_all c.loop-value.value-index c.args.values.now c.loop-value-test.false) at c.loop-value.invariant in
    sym (append-nil c.loop-value.text.items) ∙ (all ∙ ap (λ (l : List ℕ). c.args.text.now.items ++ l)
    (sym (flat_map-map next_string (λ (v : Bor (List ℕ)). v.now) c.args.values.now)))
