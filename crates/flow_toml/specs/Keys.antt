-- The tables of a flow file: the keys of each, which of them it must have, and what stands at a key.
use Rattle.std.specs.Prelude.{ℕ, Bool, true, false, List, [], ◌∷◌, codes}
use Rattle.flow_toml.specs.declared.keys.TablePath.{TablePath}
use Rattle.flow_toml.specs.declared.keys.TablePath.TheVariants as path
use Rattle.flow_toml.specs.declared.keys.Key.{Key}
use Rattle.flow_toml.specs.declared.keys.Key.TheVariants as key
use Rattle.flow_toml.specs.declared.keys.Want.{Want}
use Rattle.flow_toml.specs.declared.keys.Want.TheVariants as want

abbrev pub spelling : Key → List ℕ
spelling key.Group = codes "group"
spelling key.Retries = codes "retries"
spelling key.Entry = codes "entry"
spelling key.Name = codes "name"
spelling key.AbortAware = codes "abort_aware"
spelling key.Participant = codes "participant"
spelling key.Recovers = codes "recovers"
spelling key.Selector = codes "selector"

-- ascending by their spelling
abbrev pub keys_of : TablePath → List Key
keys_of path.Top = key.Group ∷ key.Retries ∷ []
keys_of (path.Group g) = key.Entry ∷ key.Name ∷ []
keys_of (path.Entry g i) = key.AbortAware ∷ key.Participant ∷ key.Recovers ∷ key.Selector ∷ []

abbrev pub is_required : Key → Bool
is_required key.Group = true
is_required key.Name = true
is_required key.Participant = true
is_required k = false

abbrev pub wants : Key → Want
wants key.Group = want.Tables
wants key.Retries = want.Integer
wants key.Entry = want.Tables
wants key.Name = want.Text
wants key.AbortAware = want.Flag
wants key.Participant = want.Text
wants key.Recovers = want.Flag
wants key.Selector = want.Flag
