use Rattle.std.proofs.Common.{◌≡◌, drop}
use Rattle.std.specs.Prelude.{find}
use Rattle.toml.specs.View.{table_view}
use Rattle.flow_toml.specs.Faults.{is_wrong}
use Rattle.flow_toml.proofs.read.wrong_key.Given as goal

abbrev pub invariant-loop-key : goal.invariant-loop-key
invariant-loop-key l = find (is_wrong (table_view l.table)) (drop l.key-index l.keys) ≡ find (is_wrong (table_view l.table)) l.keys
