-- The profile that a file states, or why it is not taken.
use Rattle.std.specs.Prelude.{⊤, ℕ, List, Option, IfSome}
use Rattle.std.specs.Str.{IsUtf8}
use Rattle.iso_dialect.specs.declared.profile.Peer.{Peer}
use Rattle.cli_io.specs.declared.error.IoError.TheVariants as io
use Rattle.dialect_toml.specs.declared.read.ProfileFile.{ProfileFile}
use Rattle.dialect_toml.specs.ProfileFile.{IsProfileFile, Refuses}
use Rattle.cli_recode.specs.declared.error.ProfileLoadError.{ProfileLoadError}
use Rattle.cli_recode.specs.declared.error.ProfileLoadError.TheVariants.{Io, NotText, Open, Profile}

-- what a refusal says of the bytes of a file; nothing where memory ran out
abbrev pub RefusesBytes : Peer → List ℕ → ProfileLoadError → Type 0
RefusesBytes peer bytes (Io io.OutOfMemory) = ⊤
RefusesBytes peer bytes (NotText e) = ¬ (IsUtf8 bytes)
RefusesBytes peer bytes (Profile e) = Refuses peer bytes e
RefusesBytes peer bytes _ = ⊥

-- The same of bytes that are read, where they are known: a fault of them is reported only where they have it; otherwise the
-- reading or the memory failed.
abbrev pub RefusesProfile : Peer → Option (List ℕ) → ProfileLoadError → Type 0
RefusesProfile peer unread (NotText e) = IfSome unread (λ bytes. RefusesBytes peer bytes (NotText e))
RefusesProfile peer unread (Profile e) = IfSome unread (λ bytes. RefusesBytes peer bytes (Profile e))
RefusesProfile peer unread (Open e) = ⊥
RefusesProfile peer unread _ = ⊤

-- the bytes to be read, where they are known, are a file of the profile
abbrev pub StatesProfile : Peer → Option (List ℕ) → ProfileFile → Type 0
StatesProfile peer unread f = IfSome unread (λ bytes. IsProfileFile peer f bytes)

-- some bytes, those of a file, state the profile; which they are no clause can say
abbrev pub IsOfAFile : Peer → ProfileFile → Type 0
IsOfAFile peer f = (bytes : List ℕ) × IsProfileFile peer f bytes
