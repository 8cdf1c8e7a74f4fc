-- The first fault of one table of a flow file, without the tables in it.
use Rattle.std.specs.Prelude.{Bool, true, false, ◌&&◌, not, Option, Some, None, is_none, option_map, find}
use Rattle.sw_base.specs.Refusals.{or_else}
use Rattle.toml_tables.specs.Unknown.{unknown_key}
use Rattle.toml.specs.Data.{Data, string, integer, boolean, array, Members, get_member}
use Rattle.toml.specs.Text.{are_tables}
use Rattle.flow_toml.specs.declared.error.FlowTomlError.{FlowTomlError}
use Rattle.flow_toml.specs.declared.error.FlowTomlError.TheVariants.{Unknown, Missing, WrongKind}
use Rattle.flow_toml.specs.declared.keys.TablePath.{TablePath}
use Rattle.flow_toml.specs.declared.keys.Key.{Key}
use Rattle.flow_toml.specs.declared.keys.Want.{Want}
use Rattle.flow_toml.specs.declared.keys.Want.TheVariants as want
use Rattle.flow_toml.specs.Keys.{spelling, keys_of, is_required, wants}

abbrev pub is_missing : Members → Key → Bool
is_missing ms k = is_required k && is_none (get_member (spelling k) ms)

-- whether a value is of the kind that is wanted
abbrev pub fits : Want → Data → Bool
fits want.Tables (array ds) = are_tables ds
fits want.Text (string s) = true
fits want.Integer (integer z) = true
fits want.Flag (boolean b) = true
fits w d = false

-- whether there is a value, and of another kind than is wanted
abbrev pub is_misfit : Want → Option Data → Bool
is_misfit w None = false
is_misfit w (Some d) = not (fits w d)

abbrev pub is_wrong : Members → Key → Bool
is_wrong ms k = is_misfit (wants k) (get_member (spelling k) ms)

-- the least unknown key, then the least missing one, then the least of the wrong kind
abbrev pub table_fault : TablePath → Members → Option FlowTomlError
table_fault p ms =
    or_else (option_map (λ name. Unknown name p) (unknown_key spelling (keys_of p) ms))
    (or_else (option_map (λ k. Missing k p) (find (is_missing ms) (keys_of p)))
    (option_map (λ k. WrongKind k p) (find (is_wrong ms) (keys_of p))))
