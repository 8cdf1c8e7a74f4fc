use Rattle.std.proofs.Common.{◌≡◌, ◌++◌, drop}
use Rattle.std.specs.List.{flat_map}
use Rattle.sw_json.specs.Json.{next_string}
use Rattle.cli_journal.proofs.json.push_rest.Given as goal

abbrev pub invariant-loop-name : goal.invariant-loop-name
invariant-loop-name l = l.text.items ++ flat_map (next_string) (drop l.name-index l.names) ≡ l.fn.text.items ++ flat_map (next_string) l.names
