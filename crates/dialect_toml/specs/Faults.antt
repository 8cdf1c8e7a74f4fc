-- The first fault of the tables of a document.
use Rattle.std.specs.Prelude.{ℕ, ℤ, pos, ◌*◌, ◌%◌, ◌==◌, Bool, true, false, ◌&&◌, not, nat_le, List, [], ◌∷◌, length, map, take, Option, Some, None, is_some}
use Rattle.std.specs.Prelude.{option_map, option_and_then, if◌then◌else◌}
use Rattle.std.specs.Char.{is_ascii_hexdigit}
use Rattle.std.specs.List.{list_all, list_any}
use Rattle.sw_base.specs.Refusals.{first_at, first_of, or_else, refused_if}
use Rattle.toml.specs.Data.{Data, string, integer, float, boolean, datetime, array, table, Items, Members}
use Rattle.toml.specs.Text.{are_tables}
use Rattle.toml_tables.specs.Tables.{table_at}
use Rattle.toml_tables.specs.Unknown.{unknown_key}
use Rattle.dialect_toml.specs.declared.error.TableError.{TableError}
use Rattle.dialect_toml.specs.declared.error.TableError.TheVariants.{Unknown, Missing, BadValue, Unpadded, Signed, Double}
use Rattle.dialect_toml.specs.declared.error.FoundValue.{FoundValue}
use Rattle.dialect_toml.specs.declared.error.FoundValue.TheVariants as found
use Rattle.dialect_toml.specs.declared.keys.Section.{Section}
use Rattle.dialect_toml.specs.declared.keys.Section.TheVariants as section
use Rattle.dialect_toml.specs.declared.keys.TablePath.{TablePath}
use Rattle.dialect_toml.specs.declared.keys.Key.{Key}
use Rattle.dialect_toml.specs.declared.keys.Key.TheVariants as key
use Rattle.dialect_toml.specs.declared.keys.Want.{Want}
use Rattle.dialect_toml.specs.declared.keys.Want.TheVariants as want
use Rattle.dialect_toml.specs.Keys.{is_required, keys_of, spelling, wants}
use Rattle.dialect_toml.specs.Words.{bitmap_class, bitmap_classes, field_class, field_classes, frame_length, frame_lengths, mti_class, mti_classes}
use Rattle.dialect_toml.specs.Words.{page_name, page_names, side, sides, word_in}
use Rattle.dialect_toml.specs.Shapes.{is_padded, is_signed, kind_of}
use Rattle.dialect_toml.specs.Tables.{class_of, fields_of, is_kept, number_of, stands, value_at}

-- Which values may stand where a thing is wanted: which texts, integers, flags and arrays.
abbrev pub fits_text : Want → List ℕ → Bool
fits_text (want.Hex most) s = length s % 2 == 0 && (nat_le (length s) (2 * most) && list_all is_ascii_hexdigit s)
fits_text want.FrameLength s = is_some (word_in frame_length frame_lengths s)
fits_text want.MtiClass s = is_some (word_in mti_class mti_classes s)
fits_text want.BitmapClass s = is_some (word_in bitmap_class bitmap_classes s)
fits_text want.PageName s = is_some (word_in page_name page_names s)
fits_text want.Side s = is_some (word_in side sides s)
fits_text want.FieldClass s = is_some (word_in field_class field_classes s)
fits_text w s = false

abbrev pub fits_integer : Want → ℤ → Bool
fits_integer (want.Number least most) (pos n) = nat_le least n && nat_le n most
fits_integer w z = false

abbrev pub fits_flag : Want → Bool
fits_flag want.Flag = true
fits_flag w = false

abbrev pub fits_array : Want → Items → Bool
fits_array want.Tables ds = are_tables ds
fits_array w ds = false

abbrev pub fits_table : Want → Bool
fits_table want.Table = true
fits_table w = false

abbrev pub fits : Want → Data → Bool
fits w (string s) = fits_text w s
fits w (integer z) = fits_integer w z
fits w (boolean b) = fits_flag w
fits w (array ds) = fits_array w ds
fits w (table ms) = fits_table w
fits w d = false

-- what a message shows of a value
abbrev pub found_of : Data → FoundValue
found_of (string s) = found.Text s
found_of (integer z) = found.Integer z
found_of (float x) = found.Float
found_of (boolean b) = found.Flag b
found_of (datetime t) = found.Date
found_of (array ds) = found.Array
found_of (table ms) = found.Table

-- the value, if it may not stand where this is wanted
abbrev pub misfit : Want → Data → Option Data
misfit w d = if fits w d then None else Some d

-- of each kind of fault that of one key, and that of the least key of the table; of unknown keys only the latter
abbrev pub unknown_in : TablePath → Members → Option TableError
unknown_in p ms = option_map (λ name. Unknown name p) (unknown_key spelling (keys_of p.section) ms)

abbrev pub missing : TablePath → Members → Key → Option TableError
missing p ms k = refused_if (is_required k && not (stands ms k)) (Missing k p)

abbrev pub missing_in : TablePath → Members → Option TableError
missing_in p ms = first_of (map (missing p ms) (keys_of p.section))

abbrev pub bad_value : Members → Key → Option Data
bad_value ms k = option_and_then (misfit (wants k)) (value_at k ms)

abbrev pub bad : TablePath → Members → Key → Option TableError
bad p ms k = option_map (λ d. BadValue k p (found_of d)) (bad_value ms k)

abbrev pub bad_in : TablePath → Members → Option TableError
bad_in p ms = first_of (map (bad p ms) (keys_of p.section))

-- what a class excludes: a pad of what is not padded, and to keep an amount with a sign
abbrev pub unpadded : TablePath → Members → Key → Option TableError
unpadded p ms k = refused_if (stands ms k && not (is_padded (kind_of (class_of ms)))) (Unpadded k (class_of ms) p)

abbrev pub signed : TablePath → Members → Option TableError
signed p ms = refused_if (is_signed (kind_of (class_of ms)) && is_kept ms) (Signed (class_of ms) p)

abbrev pub excluded_in : TablePath → Members → Option TableError
excluded_in p ms = or_else (unpadded p ms key.Pad) (or_else (unpadded p ms key.PadHalf) (signed p ms))

-- A table by itself, without the tables in it: the least unknown key, then the least missing one, then the least with a bad value.
abbrev pub table_fault : TablePath → Members → Option TableError
table_fault p ms = or_else (unknown_in p ms) (or_else (missing_in p ms) (bad_in p ms))

abbrev pub path_of : Section → ℕ → Members → TablePath
path_of s n ms = record { section = s; index = n; number = number_of ms }

-- the table of a field, and what its class excludes
abbrev pub field_fault : ℕ → Members → Option TableError
field_fault n ms = or_else (table_fault (path_of section.Field n ms) ms) (excluded_in (path_of section.Field n ms) ms)

abbrev pub fault_if : Section → Option Members → Option TableError
fault_if s None = None
fault_if s (Some ms) = table_fault (path_of s 0 ms) ms

-- the table at a key of the top table, if there is one
abbrev pub fault_below : Section → Key → Members → Option TableError
fault_below s k top = fault_if s (table_at (spelling k) top)

-- one of the tables has the number
abbrev pub is_taken : List Members → ℕ → Bool
is_taken tables number = list_any (λ ms. number_of ms == number) tables

-- a field whose number an earlier one has
abbrev pub double : List Members → ℕ → Members → Option TableError
double tables n ms = refused_if (is_taken (take n tables) (number_of ms)) (Double (path_of section.Field n ms))

-- the top table, `frame`, `message`, the fields in the order of the file, and then the first field whose number an earlier one has
unfoldable pub first_fault : Members → Option TableError
first_fault top = first_of (
    table_fault (path_of section.Top 0 top) top ∷
    fault_below section.Frame key.Frame top ∷
    fault_below section.Message key.Message top ∷
    first_at field_fault 0 (fields_of top) ∷
    first_at (double (fields_of top)) 0 (fields_of top) ∷ [])
