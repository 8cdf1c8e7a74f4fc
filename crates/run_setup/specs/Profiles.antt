-- The profile files that a configuration names, and why one is not taken.
use Rattle.std.specs.Prelude.{◌≡◌, ◌⊎◌, ◌<◌, ⊤, ℕ, List, length, get_or, Option, Some, None}
use Rattle.cli_config.specs.declared.config.Config.{Config}
use Rattle.cli_config.specs.declared.config.Host.{Host}
use Rattle.cli_config.specs.declared.config.Wire.{Wire}
use Rattle.cli_config.specs.declared.config.Wire.TheVariants as wire
use Rattle.run_setup.specs.declared.error.SetupError.{SetupError}
use Rattle.run_setup.specs.declared.error.SetupError.TheVariants.{OutOfMemory, Profile}

-- the path of the profile file of a host
abbrev pub wire_profile : Wire → Option (List ℕ)
wire_profile (wire.Streams to from times in_flight profile) = profile
wire_profile w = None

-- the file at this path is not taken
abbrev pub IsRefusalOf : List ℕ → SetupError → Type 0
IsRefusalOf path (Profile p cause) = p ≡ path
IsRefusalOf path OutOfMemory = ⊤
IsRefusalOf path _ = ⊥

-- the same where there is a path
abbrev pub IsProfileFault : Option (List ℕ) → SetupError → Type 0
IsProfileFault profile (Profile p cause) = profile ≡ Some p
IsProfileFault profile OutOfMemory = ⊤
IsProfileFault profile _ = ⊥

-- one of the hosts has the profile file at this path
pub record IsHostProfile (hosts : List Host) (path : List ℕ) : Type 0 where
  pub index : ℕ
  pub host : Host
  pub within : index < length hosts
  pub at : host ≡ get_or hosts index host
  pub profile : wire_profile host.wire ≡ Some path

-- the profile file of one of the hosts is not taken
abbrev pub IsHostFault : List Host → SetupError → Type 0
IsHostFault hosts (Profile p cause) = IsHostProfile hosts p
IsHostFault hosts OutOfMemory = ⊤
IsHostFault hosts _ = ⊥

-- one of the configuration's hosts has the profile file at this path
abbrev pub IsHostProfileOf : Config → List ℕ → Type 0
IsHostProfileOf c path = (hosts : List Host) × (c.hosts ≡ Some hosts) × IsHostProfile hosts path

-- the profile file of one of them is not taken
abbrev pub IsHostsFault : Config → SetupError → Type 0
IsHostsFault c (Profile p cause) = IsHostProfileOf c p
IsHostsFault c OutOfMemory = ⊤
IsHostsFault c _ = ⊥

-- a host of the configuration has it, or its acquirer
abbrev pub IsProfileOf : Config → List ℕ → Type 0
IsProfileOf c path = IsHostProfileOf c path ⊎ (c.run.profile ≡ Some path)

-- a profile file that the configuration names is not taken
abbrev pub IsProfilesFault : Config → SetupError → Type 0
IsProfilesFault c (Profile p cause) = IsProfileOf c p
IsProfilesFault c OutOfMemory = ⊤
IsProfilesFault c _ = ⊥
