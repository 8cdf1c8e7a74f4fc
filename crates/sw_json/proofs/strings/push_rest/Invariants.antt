use Rattle.std.proofs.Common.{◌≡◌, ◌++◌, drop, map}
use Rattle.std.specs.List.{flat_map}
use Rattle.sw_json.specs.Json.{next_string}
use Rattle.sw_json.proofs.strings.push_rest.Given as goal

abbrev pub invariant-loop-value : goal.invariant-loop-value
invariant-loop-value l = l.text.items ++ flat_map (λ v. next_string v.now) (drop l.value-index l.values) ≡ l.fn.text.items
    ++ flat_map (λ v. next_string v.now) l.values
