-- Disks in memory that hold the bytes of files.
use Rattle.std.specs.Prelude.{◌≡◌, ℕ, List, IsTrue}
use Rattle.sqlite_disk.specs.Memory.{memory_bytes, memory_is_usable}
use Rattle.sqlite_disk.specs.declared.Files.{Files}
use Rattle.sqlite_disk.specs.declared.memory.Memory.{Memory}

-- the two disks hold these bytes, and may be used
pub record AreOf (db_bytes log_bytes : List ℕ) (files : Files Memory) : Type 0 where
  pub log : memory_bytes files.log ≡ log_bytes
  pub db : memory_bytes files.db ≡ db_bytes
  pub log_usable : IsTrue (memory_is_usable files.log)
  pub db_usable : IsTrue (memory_is_usable files.db)
