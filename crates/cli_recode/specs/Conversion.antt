-- What the errors of the parts become: out of memory is reported as such, and every other is carried.
use Rattle.iso_codec.specs.declared.error.DecodeError.{DecodeError}
use Rattle.iso_codec.specs.declared.error.DecodeError.TheVariants as decode
use Rattle.iso_dialect.specs.declared.error.WriteError.{WriteError}
use Rattle.iso_dialect.specs.declared.error.WriteError.TheVariants as write
use Rattle.dialect_frame.specs.declared.error.FrameError.{FrameError}
use Rattle.dialect_frame.specs.declared.error.FrameError.TheVariants as frame
use Rattle.dialect_toml.specs.declared.error.ProfileFileError.{ProfileFileError}
use Rattle.dialect_toml.specs.declared.error.ProfileFileError.TheVariants as file
use Rattle.cli_io.specs.declared.error.IoError.TheVariants as io
use Rattle.cli_recode.specs.declared.error.RecodeError.{RecodeError}
use Rattle.cli_recode.specs.declared.error.RecodeError.TheVariants.{OutOfMemory, Unframed, Unread, Unwritten}
use Rattle.cli_recode.specs.declared.error.ProfileLoadError.{ProfileLoadError}
use Rattle.cli_recode.specs.declared.error.ProfileLoadError.TheVariants.{Io, Profile}

abbrev pub error_of_decode : DecodeError → RecodeError
error_of_decode decode.OutOfMemory = OutOfMemory
error_of_decode e = Unread e

abbrev pub error_of_write : WriteError → RecodeError
error_of_write write.OutOfMemory = OutOfMemory
error_of_write e = Unwritten e

abbrev pub error_of_frame : FrameError → RecodeError
error_of_frame frame.OutOfMemory = OutOfMemory
error_of_frame e = Unframed e

abbrev pub error_of_profile : ProfileFileError → ProfileLoadError
error_of_profile file.OutOfMemory = Io io.OutOfMemory
error_of_profile e = Profile e
