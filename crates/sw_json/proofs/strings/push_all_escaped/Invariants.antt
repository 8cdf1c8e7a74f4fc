use Rattle.std.proofs.Common.{◌≡◌, ◌++◌, drop}
use Rattle.std.specs.List.{flat_map}
use Rattle.sw_json.specs.Json.{escaped}
use Rattle.sw_json.proofs.strings.push_all_escaped.Given as goal

abbrev pub invariant-loop-byte : goal.invariant-loop-byte
invariant-loop-byte l = l.text.items ++ flat_map (escaped) (drop l.byte-index l.bytes) ≡ l.fn.text.items ++ flat_map (escaped) l.bytes
