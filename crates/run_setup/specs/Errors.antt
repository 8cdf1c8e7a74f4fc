-- Why a configuration file is not taken. Out of memory is reported as such, and every other error is carried over.
use Rattle.std.specs.Prelude.{⊤, ℕ, List, Option, IfSome}
use Rattle.std.specs.Str.{IsUtf8}
use Rattle.cli_io.specs.declared.error.IoError.TheVariants as io
use Rattle.cli_config.specs.ConfigFile.{IsConfigFile, Refuses}
use Rattle.cli_config.specs.declared.config.Config.{Config}
use Rattle.cli_config.specs.declared.error.ConfigError.{ConfigError}
use Rattle.cli_config.specs.declared.error.ConfigError.TheVariants as config
use Rattle.run_setup.specs.declared.error.ConfigFileError.{ConfigFileError}
use Rattle.run_setup.specs.declared.error.ConfigFileError.TheVariants.{Config as InConfig, Io, NotText, Open}

abbrev pub error_of_config : ConfigError → ConfigFileError
error_of_config config.OutOfMemory = Io io.OutOfMemory
error_of_config e = InConfig e

-- what a refusal says of the bytes of a file; nothing where memory ran out
abbrev pub RefusesBytes : List ℕ → ConfigFileError → Type 0
RefusesBytes bytes (Io io.OutOfMemory) = ⊤
RefusesBytes bytes (NotText e) = ¬ (IsUtf8 bytes)
RefusesBytes bytes (InConfig e) = Refuses bytes e
RefusesBytes bytes _ = ⊥

-- The same of bytes that are read, where they are known: a fault of them is reported only where they have it; otherwise the
-- reading or the memory failed.
abbrev pub RefusesConfig : Option (List ℕ) → ConfigFileError → Type 0
RefusesConfig unread (NotText e) = IfSome unread (λ bytes. RefusesBytes bytes (NotText e))
RefusesConfig unread (InConfig e) = IfSome unread (λ bytes. RefusesBytes bytes (InConfig e))
RefusesConfig unread (Open e) = ⊥
RefusesConfig unread _ = ⊤

-- the bytes to be read, where they are known, are a file of the configuration
abbrev pub StatesConfig : Option (List ℕ) → Config → Type 0
StatesConfig unread c = IfSome unread (λ bytes. IsConfigFile c bytes)
