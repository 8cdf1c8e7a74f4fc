-- What the texts of the statements mean.
-- for: the statements and queries, whose texts these are
use Rattle.std.proofs.Common.{◌≡◌, ℕ, pos, negsuc, List, [], ◌∷◌, None, Some, false, refl, codes}
use Rattle.sqlite.specs.declared.types.Value.TheVariants.{Null, Int}
use Rattle.sqlite.specs.Term.{Term, lit, col, op2}
use Rattle.sqlite.specs.Query.{Query, inner, end}
use Rattle.sqlite.specs.Source.TheVariants.{Values}
use Rattle.sqlite.specs.Command.TheVariants.{Insert, Delete, InsertOr, Update}
use Rattle.sqlite_sql.specs.declared.ops.BinaryOp.TheVariants.{Compare, Coalesce}
use Rattle.sqlite_sql.specs.declared.ops.CompareOp.TheVariants.{Eq, Le, Gt, Ge}
use Rattle.sqlite_sql.specs.declared.aggregate.AggregateOp.TheVariants.{Sum}
use Rattle.sqlite_schema.specs.declared.command.Conflict.TheVariants.{Abort}
use Rattle.sqlite_schema.specs.declared.command.Upsert.{Upsert}
use Rattle.sqlite_value.specs.Keys.{ascending}
use Rattle.sqlite_value.specs.declared.keys.Collation.TheVariants.{Binary}
use Rattle.sqlite_tied.specs.Compute.{everything}
use Rattle.sqlite.specs.Listing.{understood}
use Rattle.sqlite.proofs.Callers.{IsPlain, command_of}
use Rattle.store_base.specs.Making.{no_schema}
use Rattle.store_base.proofs.CreateLemmas.{MakesTable}
use Rattle.store_base.proofs.DeleteLemmas.{rows_of}
use Rattle.store_base.proofs.ReadLemmas.{Asks}
use Rattle.book_store.specs.Schema.{salt, item, salt_schema, book_schema}
use Rattle.book_store.specs.Texts.{salt_text, item_text, add_salt_text, put_item_text, mark_item_text, drop_items_text, all_salt_text, next_items_text}
use Rattle.book_store.specs.Texts.{of_request_text, of_id_text, first_day_text, first_ids_text, used_text, sum_text}

pub salt_means : MakesTable no_schema salt_schema salt salt_text
unfolding understood everything
salt_means = record { defined = refl; next_is = refl; command = refl; statement = refl; plain = (refl, refl) }

pub item_means : MakesTable salt_schema book_schema (record item { tree = 0 }) item_text
unfolding understood everything
item_means = record { defined = refl; next_is = refl; command = refl; statement = refl; plain = (refl, refl) }

pub add_salt_is : command_of (understood book_schema add_salt_text) ≡ Insert 0 (Values (lit (Int (pos 1)) ∷ lit Null ∷ col 0 0 ∷ []) 3)
unfolding understood everything
add_salt_is = refl

pub add_salt_plain : IsPlain (understood book_schema add_salt_text)
unfolding understood everything
add_salt_plain = (refl, refl)

-- a new item, and what is done where its id is there: nothing

abbrev pub item_terms : List Term
item_terms = col 0 0 ∷ lit Null ∷ col 0 1 ∷ col 0 2 ∷ col 0 3 ∷ col 0 4 ∷ col 0 5 ∷ []

abbrev pub item_clauses : List Upsert
item_clauses = record { target = Some (0 ∷ []); update = None } ∷ []

pub put_item_is : command_of (understood book_schema put_item_text) ≡ InsertOr 1 Abort (Values item_terms 7) item_clauses
unfolding understood everything
put_item_is = refl

pub put_item_plain : IsPlain (understood book_schema put_item_text)
unfolding understood everything
put_item_plain = (refl, refl)

-- the query of an UPDATE: the rowid, and the row that is to be there
abbrev pub mark_query : Query
mark_query = record {
  from = inner 1 end;
  filter = op2 (Compare Eq Binary) (col 1 0) (col 0 0) ∷ [];
  group = None;
  project = col 1 0 ∷ col 1 0 ∷ lit Null ∷ col 1 2 ∷ col 1 3 ∷ col 1 4 ∷ col 1 5 ∷ lit (Int (pos 1)) ∷ [];
  distinct = false;
  collations = [];
  order = [];
  limit = lit (Int (negsuc 0));
  offset = lit (Int (pos 0));
}

pub mark_item_is : command_of (understood book_schema mark_item_text) ≡ Update 1 (record { lets = []; body = mark_query })
unfolding understood everything
mark_item_is = refl

pub mark_item_plain : IsPlain (understood book_schema mark_item_text)
unfolding understood everything
mark_item_plain = (refl, refl)

abbrev pub drop_terms : List Term
drop_terms = op2 (Compare Eq Binary) (col 1 5) (col 0 0) ∷ op2 (Compare Le Binary) (col 1 0) (col 0 1) ∷ []

pub drop_items_is : command_of (understood book_schema drop_items_text) ≡ Delete 1 (record { lets = []; body = rows_of 1 drop_terms })
unfolding understood everything
drop_items_is = refl

pub drop_items_plain : IsPlain (understood book_schema drop_items_text)
unfolding understood everything
drop_items_plain = (refl, refl)

-- the queries

abbrev pub salt_query : Query
salt_query = record {
  from = inner 0 end;
  filter = [];
  group = None;
  project = col 1 0 ∷ col 1 2 ∷ [];
  distinct = false;
  collations = [];
  order = (col 1 0, ascending Binary) ∷ [];
  limit = lit (Int (negsuc 0));
  offset = lit (Int (pos 0));
}

abbrev pub salt_names : List (List ℕ)
salt_names = codes "n" ∷ codes "bytes" ∷ []

pub all_salt_asks : Asks book_schema all_salt_text salt_query salt_names
unfolding understood everything
all_salt_asks = record { command = refl; unlisted = refl; plain = (refl, refl) }

abbrev pub next_query : Query
next_query = record {
  from = inner 1 end;
  filter = op2 (Compare Gt Binary) (col 1 0) (col 0 0) ∷ op2 (Compare Ge Binary) (col 1 5) (col 0 1) ∷ [];
  group = None;
  project = col 1 0 ∷ col 1 2 ∷ col 1 3 ∷ col 1 4 ∷ col 1 5 ∷ col 1 6 ∷ [];
  distinct = false;
  collations = [];
  order = (col 1 0, ascending Binary) ∷ [];
  limit = col 0 2;
  offset = lit (Int (pos 0));
}

abbrev pub next_names : List (List ℕ)
next_names = codes "id" ∷ codes "card" ∷ codes "request" ∷ codes "amount" ∷ codes "day" ∷ codes "reversed" ∷ []

pub next_items_asks : Asks book_schema next_items_text next_query next_names
unfolding understood everything
next_items_asks = record { command = refl; unlisted = refl; plain = (refl, refl) }

abbrev pub request_query : Query
request_query = record {
  from = inner 1 end;
  filter = op2 (Compare Eq Binary) (col 1 3) (col 0 0) ∷ [];
  group = None;
  project = col 1 0 ∷ col 1 6 ∷ [];
  distinct = false;
  collations = [];
  order = (col 1 0, ascending Binary) ∷ [];
  limit = lit (Int (negsuc 0));
  offset = lit (Int (pos 0));
}

abbrev pub request_names : List (List ℕ)
request_names = codes "id" ∷ codes "reversed" ∷ []

pub of_request_asks : Asks book_schema of_request_text request_query request_names
unfolding understood everything
of_request_asks = record { command = refl; unlisted = refl; plain = (refl, refl) }

abbrev pub day_query : Query
day_query = record {
  from = inner 1 end;
  filter = op2 (Compare Ge Binary) (col 1 5) (col 0 0) ∷ [];
  group = None;
  project = col 1 5 ∷ [];
  distinct = false;
  collations = [];
  order = (col 1 5, ascending Binary) ∷ (col 1 0, ascending Binary) ∷ [];
  limit = lit (Int (pos 1));
  offset = lit (Int (pos 0));
}

abbrev pub day_names : List (List ℕ)
day_names = codes "day" ∷ []

pub first_day_asks : Asks book_schema first_day_text day_query day_names
unfolding understood everything
first_day_asks = record { command = refl; unlisted = refl; plain = (refl, refl) }

abbrev pub ids_query : Query
ids_query = record {
  from = inner 1 end;
  filter = op2 (Compare Eq Binary) (col 1 5) (col 0 0) ∷ [];
  group = None;
  project = col 1 0 ∷ [];
  distinct = false;
  collations = [];
  order = (col 1 0, ascending Binary) ∷ [];
  limit = col 0 1;
  offset = lit (Int (pos 0));
}

abbrev pub ids_names : List (List ℕ)
ids_names = codes "id" ∷ []

pub first_ids_asks : Asks book_schema first_ids_text ids_query ids_names
unfolding understood everything
first_ids_asks = record { command = refl; unlisted = refl; plain = (refl, refl) }

abbrev pub id_query : Query
id_query = record {
  from = inner 1 end;
  filter = op2 (Compare Eq Binary) (col 1 0) (col 0 0) ∷ [];
  group = None;
  project = col 1 0 ∷ [];
  distinct = false;
  collations = [];
  order = (col 1 0, ascending Binary) ∷ [];
  limit = lit (Int (negsuc 0));
  offset = lit (Int (pos 0));
}

pub of_id_asks : Asks book_schema of_id_text id_query ids_names
unfolding understood everything
of_id_asks = record { command = refl; unlisted = refl; plain = (refl, refl) }

abbrev pub sum_with : List Term → Query
sum_with filter = record {
  from = inner 1 end;
  filter = filter;
  group = Some (record {
    keys = [];
    collations = [];
    aggregates = record { op = Sum; distinct = false; collation = Binary; argument = col 1 4 } ∷ [];
    having = [];
  });
  project = op2 Coalesce (col 1 0) (lit (Int (pos 0))) ∷ [];
  distinct = false;
  collations = [];
  order = [];
  limit = lit (Int (negsuc 0));
  offset = lit (Int (pos 0));
}

abbrev pub used_query : Query
used_query = sum_with (op2 (Compare Eq Binary) (col 1 2) (col 0 0) ∷ op2 (Compare Eq Binary) (col 1 5) (col 0 1)
    ∷ op2 (Compare Eq Binary) (col 1 6) (lit (Int (pos 0))) ∷ [])

abbrev pub sum_query : Query
sum_query = sum_with (op2 (Compare Eq Binary) (col 1 5) (col 0 0) ∷ op2 (Compare Eq Binary) (col 1 6) (lit (Int (pos 0))) ∷ [])

abbrev pub sum_names : List (List ℕ)
sum_names = codes "coalesce(sum(amount), 0)" ∷ []

pub used_asks : Asks book_schema used_text used_query sum_names
unfolding understood everything
used_asks = record { command = refl; unlisted = refl; plain = (refl, refl) }

pub sum_asks : Asks book_schema sum_text sum_query sum_names
unfolding understood everything
sum_asks = record { command = refl; unlisted = refl; plain = (refl, refl) }
