-- The tables of a book: its salt, and its items.
use Rattle.std.specs.Fmt.{decimal}
use Rattle.std.specs.Prelude.{[], ◌∷◌, ◌++◌, codes}
use Rattle.sqlite_schema.specs.declared.schema.Table.{Table}
use Rattle.sqlite_schema.specs.declared.schema.Index.{Index}
use Rattle.sqlite_schema.specs.declared.schema.Schema.{Schema}
use Rattle.sqlite_schema.specs.declared.schema.Kind.TheVariants.{Integer, Blob}
use Rattle.sqlite_value.specs.Keys.{plain}
use Rattle.store_base.specs.Columns.{base, needed, unique_index}

abbrev pub salt : Table
salt = base (codes "salt") 0 (needed (codes "n") Integer ∷ needed (codes "bytes") Blob ∷ [])

-- the rows of `item` are found by request and by day, each with the id
abbrev pub item : Table
item = record (base (codes "item") 1 (needed (codes "id") Integer ∷ needed (codes "card") Blob ∷ needed (codes "request") Blob
    ∷ needed (codes "amount") Integer ∷ needed (codes "day") Integer ∷ needed (codes "reversed") Integer ∷ [])) {
      uniques = (3 ∷ 0 ∷ []) ∷ (5 ∷ 0 ∷ []) ∷ [];
      orders = plain ∷ plain ∷ [];
    }

-- the indexes that SQLite makes by itself for what is unique in `item`
abbrev pub request_key : Index
request_key = unique_index (codes "sqlite_autoindex_" ++ (codes "item" ++ (codes "_" ++ decimal 1))) 2 1 (3 ∷ 0 ∷ [])

abbrev pub day_key : Index
day_key = unique_index (codes "sqlite_autoindex_" ++ (codes "item" ++ (codes "_" ++ decimal 2))) 3 1 (5 ∷ 0 ∷ [])

-- the schema while the tables are being made, and then a book's
abbrev pub salt_schema : Schema
salt_schema = record { tables = salt ∷ []; indexes = []; views = [] }

abbrev pub book_schema : Schema
book_schema = record { tables = salt ∷ item ∷ []; indexes = request_key ∷ day_key ∷ []; views = [] }
