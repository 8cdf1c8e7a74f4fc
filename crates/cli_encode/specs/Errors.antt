-- Why a text is not encoded to its end.
use Rattle.std.specs.Prelude.{◌≡◌, ⊤, ℕ, List, Option}
use Rattle.cli_io.specs.Inputs.{IsSpentAt}
use Rattle.cli_io.specs.declared.error.IoError.TheVariants as io
use Rattle.cli_encode.specs.declared.error.EncodeError.{EncodeError}
use Rattle.cli_encode.specs.declared.error.EncodeError.TheVariants.{Io, Text}
use Rattle.cli_encode.specs.Refusals.{IsRefusal}

-- too many reads are reported only of an input that has made all the reads that it may make
abbrev pub IsReadToSpent : ℕ → EncodeError → Type 0
IsReadToSpent reads (Io e) = IsSpentAt reads e
IsReadToSpent reads _ = ⊤

-- why a text of these bytes is refused, and what is written then: after a failed read nothing
abbrev pub IsEncodeError : ℕ → List ℕ → Option (List ℕ) → Option (List ℕ) → EncodeError → Type 0
IsEncodeError size bytes written written_now (Text e) = IsRefusal size bytes e.line written written_now
IsEncodeError size bytes written written_now (Io (io.Read e)) = written_now ≡ written
IsEncodeError size bytes written written_now (Io io.TooManyReads) = written_now ≡ written
IsEncodeError size bytes written written_now (Io _) = ⊤
