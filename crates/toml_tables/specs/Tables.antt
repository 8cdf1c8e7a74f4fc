-- What stands in a table, by the bytes of the key, and the tables in an array.
use Rattle.std.specs.Prelude.{ℕ, Bool, List, [], ◌∷◌, map, String, Option, unwrap_or, option_and_then}
use Rattle.std.specs.Borrow.{Bor}
use Rattle.std.specs.BTreeMap.{BTreeMap}
use Rattle.std.specs.declared.alloc.Global.{Global}
use Rattle.toml.specs.Data.{table, Items, no_items, item, Members, get_member, as_str, as_bool, as_table}
use Rattle.toml.specs.View.{table_view}
use Rattle.toml.specs.declared.value.Value.{Value}

-- What stands at a key of a table without a fault. (Other tables have a value here too, which is never read.)
abbrev pub text_at : List ℕ → Members → List ℕ
text_at name ms = unwrap_or (option_and_then as_str (get_member name ms)) []

abbrev pub flag_at : List ℕ → Members → Option Bool
flag_at name ms = option_and_then as_bool (get_member name ms)

abbrev pub table_at : List ℕ → Members → Option Members
table_at name ms = option_and_then as_table (get_member name ms)

-- the tables among the items of an array
abbrev pub tables_in : Items → List Members
tables_in no_items = []
tables_in (item (table ms) ds) = ms ∷ tables_in ds
tables_in (item d ds) = tables_in ds

-- what some tables hold
abbrev pub views : List (Bor (BTreeMap (String Global) Value)) → List Members
views ts = map (λ t. table_view t.now) ts
