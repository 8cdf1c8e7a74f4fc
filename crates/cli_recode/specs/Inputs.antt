-- What an input is recoded to by the profile file at a path, and why it is not, or not all of it.
use Rattle.std.specs.Prelude.{◌≡◌, ⊤, ℕ, Bool, true, List, Option}
use Rattle.cli_io.specs.declared.error.IoError.TheVariants as io
use Rattle.iso_dialect.specs.declared.profile.Peer.TheVariants.{Acquirer}
use Rattle.cli_recode.specs.Profiles.{IsOfAFile}
use Rattle.cli_recode.specs.Streams.{IsRecodedStream}
use Rattle.cli_recode.specs.declared.error.InputError.{InputError}
use Rattle.cli_recode.specs.declared.error.InputError.TheVariants.{Io, Refused}
use Rattle.cli_recode.specs.declared.error.InputRefusal.{InputRefusal}
use Rattle.cli_recode.specs.declared.error.InputRefusal.TheVariants.{Messages, Profile}
use Rattle.cli_recode.specs.declared.message.Way.{Way}
use Rattle.dialect_toml.specs.declared.read.ProfileFile.{ProfileFile}

-- by the profile of some file the frames of what the messages of an input are recoded to are written
abbrev pub IsRecodedInput : Way → Option (List ℕ) → Option (List ℕ) → Option (List ℕ) → Bool → Type 0
IsRecodedInput way unread written written_now refused =
    (file : ProfileFile) × IsOfAFile Acquirer file × IsRecodedStream way file unread written written_now refused

-- what is refused: the profile file at a path, and nothing is written; or something of the input, and what can be recoded is written
abbrev pub IsInputRefusal : List ℕ → Way → Option (List ℕ) → Option (List ℕ) → Option (List ℕ) → InputRefusal → Type 0
IsInputRefusal path way unread written written_now (Profile p cause) = (p ≡ path) × (written_now ≡ written)
IsInputRefusal path way unread written written_now Messages = IsRecodedInput way unread written written_now true

-- the same, or memory ran out, or a read or a write failed
abbrev pub IsInputError : List ℕ → Way → Option (List ℕ) → Option (List ℕ) → Option (List ℕ) → InputError → Type 0
IsInputError path way unread written written_now (Refused r) = IsInputRefusal path way unread written written_now r
IsInputError path way unread written written_now (Io e) = ⊤

-- why no profile is taken of the file at a path
abbrev pub IsLoadError : List ℕ → InputError → Type 0
IsLoadError path (Refused (Profile p cause)) = p ≡ path
IsLoadError path (Io io.OutOfMemory) = ⊤
IsLoadError path _ = ⊥
