use Rattle.std.proofs.Common.{◌≡◌, drop}
use Rattle.sw_base.specs.Refusals.{first_at}
use Rattle.toml_tables.specs.Tables.{views}
use Rattle.dialect_toml.specs.Faults.{double}
use Rattle.dialect_toml.proofs.faults.double.Given as goal

abbrev pub invariant-loop-index : goal.invariant-loop-index
invariant-loop-index l = first_at (double (views l.fields)) l.index (views (drop l.index l.fields)) ≡ first_at (double (views l.fields)) 0 (views l.fields)
