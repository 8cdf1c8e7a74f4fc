use Rattle.std.proofs.Common.{◌≡◌, map, take}
use Rattle.toml_tables.specs.Tables.{views}
use Rattle.cli_config.specs.ConfigFile.{host_of}
use Rattle.cli_config.proofs.read.hosts_of.Given as goal

abbrev pub invariant-loop-table : goal.invariant-loop-table
invariant-loop-table l = l.hosts.items ≡ map host_of (views (take l.table-index l.tables))
