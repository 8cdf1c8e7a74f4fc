-- The tables of a document, and what stands in them.
use Rattle.std.specs.Prelude.{ℕ, ℤ, pos, negsuc, List, [], ◌∷◌, Option, Some, None, option_and_then, option_map}
use Rattle.toml.specs.Data.{Data, string, array, table, Items, no_items, item, Members, get_member, as_integer}
use Rattle.cli_config.specs.declared.keys.Section.{Section}
use Rattle.cli_config.specs.declared.keys.Key.{Key}
use Rattle.cli_config.specs.Keys.{key_of, spelling}
use Rattle.toml_tables.specs.Tables.{tables_in}

abbrev pub value_at : Key → Members → Option Data
value_at k ms = get_member (spelling k) ms

-- the number of an integer that is not negative
abbrev pub whole : ℤ → Option ℕ
whole (pos n) = Some n
whole (negsuc n) = None

-- the number at a key, if one stands there
abbrev pub number_at : Key → Members → Option ℕ
number_at k ms = option_and_then whole (option_and_then as_integer (value_at k ms))

-- the texts among the values of an array
abbrev pub names_in : Items → List (List ℕ)
names_in no_items = []
names_in (item (string s) ds) = s ∷ names_in ds
names_in (item d ds) = names_in ds

abbrev pub names_below : Data → List (List ℕ)
names_below (array ds) = names_in ds
names_below d = []

-- the texts of an array, if the key has a value
abbrev pub names_at : Key → Members → Option (List (List ℕ))
names_at k ms = option_map names_below (value_at k ms)

-- the tables of an array, or a table by itself
abbrev pub tables_below : Data → List Members
tables_below (array ds) = tables_in ds
tables_below (table ms) = ms ∷ []
tables_below d = []

abbrev pub tables_if : Option Data → List Members
tables_if None = []
tables_if (Some d) = tables_below d

abbrev pub tables_at : Key → Members → List Members
tables_at k top = tables_if (value_at k top)

-- the document itself where there is no key, or the tables at the key
abbrev pub tables_under : Option Key → Members → List Members
tables_under None top = top ∷ []
tables_under (Some k) top = tables_at k top

-- the tables of a section of a document, in its order
abbrev pub tables_of : Section → Members → List Members
tables_of p top = tables_under (key_of p) top
