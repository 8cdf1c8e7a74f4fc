-- The head of a script whose lines are read one after the other.
use Rattle.std.specs.Prelude.{◌≡◌, ◌≢◌, ◌⊎◌, ⊤, ℕ, Bool, true, false, List, [], ◌∷◌, ◌++◌, Option, Some, None}
use Rattle.std.specs.List.{list_any}
use Rattle.cli_script.specs.Scripts.{BeginsWith, IsAfter, is_misplaced}
use Rattle.cli_script.specs.declared.line.Setting.{Setting}

-- whole lines: there are none, or a line feed ends them
abbrev pub AreWhole : List ℕ → Type 0
AreWhole bytes = (bytes ≡ []) ⊎ ((text : List ℕ) × (bytes ≡ text ++ 10 ∷ []))

-- others may follow them: they are whole, or nothing follows
abbrev pub MayPrecede : List ℕ → List ℕ → Type 0
MayPrecede bytes more = (more ≡ []) ⊎ AreWhole bytes

-- the line is a setting that is allowed at the head
abbrev pub IsPlacedSetting : Bool → List ℕ → Type 0
IsPlacedSetting has_file line = (s : Setting) × BeginsWith line s × (is_misplaced has_file s ≡ false)

-- it is not such a setting
abbrev pub IsNoSetting : Bool → List ℕ → Type 0
IsNoSetting has_file line = (s : Setting) → BeginsWith line s → is_misplaced has_file s ≡ true

-- all lines are settings that are allowed there
abbrev pub AreSettings : Bool → List ℕ → Type 0
AreSettings has_file bytes =
    (ss : List Setting) × IsAfter ss bytes [] × (list_any (is_misplaced has_file) ss ≡ false)

-- settings, and a line that is not one
pub record EndsAtLine (has_file : Bool) (head : List ℕ) : Type 0 where
  pub settings : List ℕ
  pub line : List ℕ
  pub whole : head ≡ settings ++ line
  pub first : AreWhole settings
  pub are : AreSettings has_file settings
  pub some : line ≢ []
  pub last : IsNoSetting has_file line

-- the head of a script: its settings and the first line that is not one, or the whole script where each is one
pub record IsHead (has_file : Bool) (script head rest : List ℕ) : Type 0 where
  pub whole : script ≡ head ++ rest
  pub ends : MayPrecede head rest
  pub last : EndsAtLine has_file head ⊎ (AreSettings has_file head × (rest ≡ []))

-- of the bytes that were to come the head was read, and the rest is to come, where those are known
abbrev pub HeadOf : Bool → Option (List ℕ) → Option (List ℕ) → List ℕ → Type 0
HeadOf has_file None new head = ⊤
HeadOf has_file (Some script) new head = (rest : List ℕ) × (new ≡ Some rest) × IsHead has_file script head rest
