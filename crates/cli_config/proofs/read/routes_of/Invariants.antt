use Rattle.std.proofs.Common.{◌≡◌, map, take}
use Rattle.toml_tables.specs.Tables.{views}
use Rattle.cli_config.specs.ConfigFile.{route_of}
use Rattle.cli_config.proofs.read.routes_of.Given as goal

abbrev pub invariant-loop-table : goal.invariant-loop-table
invariant-loop-table l = l.routes.items ≡ map route_of (views (take l.table-index l.tables))
