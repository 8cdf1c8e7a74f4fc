-- What stands in the tables of a document.
use Rattle.std.specs.Prelude.{ℕ, ℤ, pos, negsuc, Bool, true, nat_le, List, [], Option, Some, None, option_and_then, is_some, unwrap_or, if◌then◌else◌}
use Rattle.toml.specs.Data.{Data, Items, Members, get_member, as_array, as_integer}
use Rattle.toml_tables.specs.Tables.{flag_at, tables_in, text_at}
use Rattle.dialect_toml.specs.declared.keys.Key.{Key}
use Rattle.dialect_toml.specs.declared.keys.Key.TheVariants as key
use Rattle.dialect_toml.specs.declared.words.FieldClass.{FieldClass}
use Rattle.dialect_toml.specs.declared.words.FieldClass.TheVariants as class
use Rattle.dialect_toml.specs.Keys.{spelling}
use Rattle.dialect_toml.specs.Words.{field_class, field_classes, word_in}

abbrev pub value_at : Key → Members → Option Data
value_at k ms = get_member (spelling k) ms

-- the table has a value at the key
abbrev pub stands : Members → Key → Bool
stands ms k = is_some (value_at k ms)

-- the number of an integer from 0 to this one
abbrev pub within : ℕ → ℤ → Option ℕ
within most (pos n) = if nat_le n most then Some n else None
within most (negsuc n) = None

-- the number at a key, if one stands there that is not too great
abbrev pub number_at : ℕ → Key → Members → Option ℕ
number_at most k ms = option_and_then (within most) (option_and_then as_integer (value_at k ms))

-- What stands at a key of a field's table without a fault. (Other tables have a value here too, which is never read.)
abbrev pub number_of : Members → ℕ
number_of ms = unwrap_or (number_at 128 key.Number ms) 0

abbrev pub length_of : Members → ℕ
length_of ms = unwrap_or (number_at 9999 key.Length ms) 0

-- a field is kept unless the file says that it is not
abbrev pub is_kept : Members → Bool
is_kept ms = unwrap_or (flag_at (spelling key.Keep) ms) true

abbrev pub class_of : Members → FieldClass
class_of ms = unwrap_or (word_in field_class field_classes (text_at (spelling key.Class) ms)) class.IfChar

abbrev pub tables_if : Option Items → List Members
tables_if None = []
tables_if (Some ds) = tables_in ds

-- the tables of the fields, in the order of the file
abbrev pub fields_of : Members → List Members
fields_of top = tables_if (option_and_then as_array (value_at key.Field top))
