use Rattle.std.proofs.Common.{◌≡◌, drop}
use Rattle.sw_base.specs.Refusals.{first_at}
use Rattle.toml_tables.specs.Tables.{views}
use Rattle.dialect_toml.specs.Faults.{field_fault}
use Rattle.dialect_toml.proofs.faults.fields_fault.Given as goal

abbrev pub invariant-loop-index : goal.invariant-loop-index
invariant-loop-index l = first_at field_fault l.index (views (drop l.index l.fields)) ≡ first_at field_fault 0 (views l.fields)
