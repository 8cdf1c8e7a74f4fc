-- A disk that has refused nothing yet.
use Rattle.std.specs.Prelude.{◌≡◌, false}
use Rattle.test_disk.specs.declared.Fault.{Fault}
use Rattle.test_disk.specs.declared.Once.{Once}

-- it is over this disk, has this fault to come, and has refused nothing
pub record IsOver {D : Type 0} (disk : Once D) (inner : D) (fault : Fault) : Type 0 where
  pub inner_is : disk.inner ≡ inner
  pub fault_is : disk.fault ≡ fault
  pub refused : disk.refused ≡ 0
  pub in_sync : disk.sync_refused ≡ false
