-- What clap's error becomes.
use Rattle.std.specs.Prelude.{◌≡◌, ◌≢◌}
use Rattle.clap.specs.Words.{kind_of}
use Rattle.clap.specs.declared.error.Error.{Error}
use Rattle.clap.specs.declared.error.kind.ErrorKind.TheVariants as kind
use Rattle.cli_options.specs.declared.error.OptionsError.{OptionsError}
use Rattle.cli_options.specs.declared.error.OptionsError.TheVariants.{BadCommandLine, BadForm, BadNumber, NoSubcommand}
use Rattle.cli_options.specs.declared.error.OptionsError.TheVariants.{OneProfile, OutOfMemory}

-- clap's error for out of memory is reported as such, and every other error is carried
abbrev pub Carries : Error → OptionsError → Type 0
Carries e (BadCommandLine f) = (f ≡ e) × (kind_of e ≢ kind.OutOfMemory)
Carries e NoSubcommand = ⊥
Carries e (BadNumber name expected found) = ⊥
Carries e (BadForm found) = ⊥
Carries e OneProfile = ⊥
Carries e OutOfMemory = kind_of e ≡ kind.OutOfMemory
