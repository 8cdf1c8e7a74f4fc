-- What the errors of a reader and of a writer become: out of memory is reported as such, and every other is carried.
use Rattle.std.specs.Prelude.{◌≡◌, ◌≢◌, ⊤}
use Rattle.std.specs.IoError.{error_kind}
use Rattle.std.specs.declared.io.Error.{Error}
use Rattle.std.specs.declared.io.ErrorKind.TheVariants as kind
use Rattle.cli_io.specs.declared.error.IoError.{IoError}
use Rattle.cli_io.specs.declared.error.IoError.TheVariants as io

abbrev pub IsReadErrorOf : Error → IoError → Type 0
IsReadErrorOf e io.OutOfMemory = error_kind e ≡ kind.OutOfMemory
IsReadErrorOf e (io.Read f) = (f ≡ e) × (error_kind e ≢ kind.OutOfMemory)
IsReadErrorOf e _ = ⊥

abbrev pub IsWriteErrorOf : Error → IoError → Type 0
IsWriteErrorOf e io.OutOfMemory = error_kind e ≡ kind.OutOfMemory
IsWriteErrorOf e (io.Write f) = (f ≡ e) × (error_kind e ≢ kind.OutOfMemory)
IsWriteErrorOf e _ = ⊥

-- an error of what only reads
abbrev pub IsOfReading : IoError → Type 0
IsOfReading (io.Write e) = ⊥
IsOfReading _ = ⊤

-- an error of what only writes
abbrev pub IsOfWriting : IoError → Type 0
IsOfWriting (io.Read e) = ⊥
IsOfWriting io.TooManyReads = ⊥
IsOfWriting _ = ⊤
