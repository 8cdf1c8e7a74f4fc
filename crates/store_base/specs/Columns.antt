-- The columns, tables and indexes that these layers make.
use Rattle.sqlite_value.specs.declared.keys.Collation.TheVariants.{Binary}
use Rattle.std.specs.Prelude.{true, false, [], ◌∷◌, Some, List, ℕ}
use Rattle.sqlite.specs.declared.types.Value.TheVariants.{Null}
use Rattle.sqlite_schema.specs.declared.schema.Column.{Column}
use Rattle.sqlite_schema.specs.declared.schema.Table.{Table}
use Rattle.sqlite_schema.specs.declared.schema.Index.{Index}
use Rattle.sqlite_schema.specs.declared.schema.Kind.{Kind}
use Rattle.sqlite_value.specs.Keys.{plain}

-- a column of a STRICT table, which may not be NULL
abbrev pub needed : List ℕ → Kind → Column
needed name kind = record { name = name; kind = kind; is_strict = true; not_null = true; default = Null; collation = Binary }

-- a table at this tree, whose first column is its INTEGER PRIMARY KEY
abbrev pub base : List ℕ → ℕ → List Column → Table
base name tree columns = record {
  name = name;
  tree = tree;
  columns = columns;
  key = Some 0;
  primary = 0 ∷ [];
  uniques = [];
  orders = [];
  checks = [];
  references = [];
  computed = [];
  stamps = record { places = []; terms = []; formats = [] };
  is_counted = false;
}

-- the index of what is unique in a table
abbrev pub unique_index : List ℕ → ℕ → ℕ → List ℕ → Index
unique_index name tree table columns = record { name = name; tree = tree; table = table; columns = columns; order = plain; is_unique = true }
