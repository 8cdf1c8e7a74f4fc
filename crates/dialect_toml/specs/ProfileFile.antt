-- The profile that a text states, or its first fault.
use Rattle.std.specs.Prelude.{◌≡◌, ⊤, ℕ, List, Option, Some, None, option_map, Result, Ok, Err}
use Rattle.iso_dialect.specs.declared.profile.Peer.{Peer}
use Rattle.iso_dialect.specs.declared.error.ProfileError.{ProfileError}
use Rattle.iso_dialect.specs.Profiles.{first_refusal}
use Rattle.toml.specs.Data.{Members}
use Rattle.toml.specs.Parse.{parse_document}
use Rattle.toml.specs.Errors.{IsWithin}
use Rattle.dialect_toml.specs.declared.error.ProfileFileError.{ProfileFileError}
use Rattle.dialect_toml.specs.declared.error.ProfileFileError.TheVariants.{OutOfMemory, Toml, Table, Profile}
use Rattle.dialect_toml.specs.declared.error.TableError.{TableError}
use Rattle.dialect_toml.specs.declared.read.ProfileFile as file
use Rattle.dialect_toml.specs.Faults.{first_fault}
use Rattle.dialect_toml.specs.Frames.{frame_of}
use Rattle.dialect_toml.specs.Rows.{draft_of}

-- the draft of a document, unless the check of profiles refuses it
abbrev pub checked : Members → Option ProfileError → Result file.ProfileFile ProfileFileError
checked top None = Ok (record { frame = frame_of top; profile = draft_of top })
checked top (Some e) = Err (Profile e)

abbrev pub stated : Peer → Members → Option TableError → Result file.ProfileFile ProfileFileError
stated peer top None = checked top (first_refusal peer (draft_of top))
stated peer top (Some e) = Err (Table e)

-- what a document states: its profile, or its first fault
abbrev pub states : Peer → Members → Result file.ProfileFile ProfileFileError
states peer top = stated peer top (first_fault top)

-- what a text reads as: nothing where it is not TOML
unfoldable pub reading : Peer → List ℕ → Option (Result file.ProfileFile ProfileFileError)
reading peer text = option_map (states peer) (parse_document text)

-- what a function over a document answers is what that states, unless memory ran out
abbrev pub GivesFile : Result file.ProfileFile ProfileFileError → Result file.ProfileFile ProfileFileError → Type 0
GivesFile (Ok f) reads = reads ≡ Ok f
GivesFile (Err OutOfMemory) reads = ⊤
GivesFile (Err (Toml t)) reads = ⊥
GivesFile (Err (Table e)) reads = reads ≡ Err (Table e)
GivesFile (Err (Profile e)) reads = reads ≡ Err (Profile e)

-- the text is a profile file of this profile, for such a peer
abbrev pub IsProfileFile : Peer → file.ProfileFile → List ℕ → Type 0
IsProfileFile peer f text = reading peer text ≡ Some (Ok f)

-- What a refusal says of a text: nothing if memory ran out, otherwise its first fault. That a text is not TOML comes with a
-- span of it.
abbrev pub Refuses : Peer → List ℕ → ProfileFileError → Type 0
Refuses peer text OutOfMemory = ⊤
Refuses peer text (Toml t) = (parse_document text ≡ None) × IsWithin text t
Refuses peer text (Table e) = reading peer text ≡ Some (Err (Table e))
Refuses peer text (Profile e) = reading peer text ≡ Some (Err (Profile e))
