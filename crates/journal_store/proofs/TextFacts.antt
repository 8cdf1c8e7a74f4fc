-- What the texts that make and read the tables mean.
-- for: tables::create_meta
use Rattle.std.proofs.Common.{◌≡◌, ℕ, pos, negsuc, List, [], ◌∷◌, None, false, refl, codes}
use Rattle.sqlite.specs.declared.types.Value.TheVariants.{Int}
use Rattle.sqlite.specs.Term.{Term, lit, col}
use Rattle.sqlite.specs.Query.{Query, inner, end}
use Rattle.sqlite_value.specs.Keys.{ascending}
use Rattle.sqlite.specs.Command.TheVariants.{Select}
use Rattle.sqlite_value.specs.declared.keys.Collation.TheVariants.{Binary}
use Rattle.sqlite_tied.specs.Compute.{everything}
use Rattle.sqlite.proofs.Callers.{IsPlain, command_of}
use Rattle.sqlite.specs.Listing.{understood, reads_listing}
use Rattle.sqlite_schema.specs.declared.schema.Schema.{Schema}
use Rattle.journal_tables.proofs.CreateLemmas.{MakesTable}
use Rattle.journal_tables.specs.Schema.{meta, tx, member, shelf, advice, four_schema, first_schema, journal_schema}
use Rattle.journal_store.specs.Making.{no_schema, meta_schema, tx_schema, member_schema}
use Rattle.journal_store.specs.Texts.{meta_text, tx_text, member_text, shelf_text, advice_text, all_meta_text, all_tx_text, all_members_text, all_parts_text}
use Rattle.journal_store.specs.Texts.{all_joined_text, all_shelf_text, all_advices_text}

-- the tables of layout 1, each over the schema of those before it

pub meta_means : MakesTable no_schema meta_schema meta meta_text
unfolding understood everything
meta_means = record { defined = refl; next_is = refl; command = refl; statement = refl; plain = (refl, refl) }

pub tx_means : MakesTable meta_schema tx_schema (record tx { tree = 0 }) tx_text
unfolding understood everything
tx_means = record { defined = refl; next_is = refl; command = refl; statement = refl; plain = (refl, refl) }

pub member_means : MakesTable tx_schema member_schema (record member { tree = 0 }) member_text
unfolding understood everything
member_means = record { defined = refl; next_is = refl; command = refl; statement = refl; plain = (refl, refl) }

pub shelf_means : MakesTable member_schema four_schema (record shelf { tree = 0 }) shelf_text
unfolding understood everything
shelf_means = record { defined = refl; next_is = refl; command = refl; statement = refl; plain = (refl, refl) }

pub advice_means : MakesTable four_schema first_schema (record advice { tree = 0 }) advice_text
unfolding understood everything
advice_means = record { defined = refl; next_is = refl; command = refl; statement = refl; plain = (refl, refl) }

-- what a SELECT means over a schema: its query, and the names of its columns
pub record Asks (schema : Schema) (text : List ℕ) (query : Query) (names : List (List ℕ)) : Type 0 where
  pub command : command_of (understood schema text) ≡ Select (record { lets = []; body = query }) names
  pub unlisted : reads_listing schema text ≡ false
  pub plain : IsPlain (understood schema text)

-- some columns of every row of a table, in the order of the rowids
abbrev pub by_rowid : ℕ → List Term → Query
by_rowid tree columns = record {
  from = inner tree end;
  filter = [];
  group = None;
  project = columns;
  distinct = false;
  collations = [];
  order = (col 1 0, ascending Binary) ∷ [];
  limit = lit (Int (negsuc 0));
  offset = lit (Int (pos 0));
}

-- the three columns after the rowid, in the order of the first two of them
abbrev pub by_place : ℕ → Query
by_place tree = record {
  from = inner tree end;
  filter = [];
  group = None;
  project = col 1 1 ∷ col 1 2 ∷ col 1 3 ∷ [];
  distinct = false;
  collations = [];
  order = (col 1 1, ascending Binary) ∷ (col 1 2, ascending Binary) ∷ (col 1 0, ascending Binary) ∷ [];
  limit = lit (Int (negsuc 0));
  offset = lit (Int (pos 0));
}

abbrev pub meta_query : Query
meta_query = by_rowid 0 (col 1 0 ∷ col 1 2 ∷ [])

abbrev pub meta_names : List (List ℕ)
meta_names = codes "k" ∷ codes "v" ∷ []

pub all_meta_asks : Asks journal_schema all_meta_text meta_query meta_names
unfolding understood everything
all_meta_asks = record { command = refl; unlisted = refl; plain = (refl, refl) }

pub first_meta_asks : Asks first_schema all_meta_text meta_query meta_names
unfolding understood everything
first_meta_asks = record { command = refl; unlisted = refl; plain = (refl, refl) }

abbrev pub tx_query : Query
tx_query = by_rowid 1 (col 1 0 ∷ col 1 2 ∷ col 1 3 ∷ col 1 4 ∷ col 1 5 ∷ col 1 6 ∷ [])

abbrev pub tx_names : List (List ℕ)
tx_names = codes "id" ∷ codes "phase" ∷ codes "told" ∷ codes "doing" ∷ codes "tries" ∷ codes "context" ∷ []

pub all_tx_asks : Asks journal_schema all_tx_text tx_query tx_names
unfolding understood everything
all_tx_asks = record { command = refl; unlisted = refl; plain = (refl, refl) }

pub first_tx_asks : Asks first_schema all_tx_text tx_query tx_names
unfolding understood everything
first_tx_asks = record { command = refl; unlisted = refl; plain = (refl, refl) }

abbrev pub members_query : Query
members_query = by_place 2

abbrev pub members_names : List (List ℕ)
members_names = codes "id" ∷ codes "place" ∷ codes "name" ∷ []

pub all_members_asks : Asks first_schema all_members_text members_query members_names
unfolding understood everything
all_members_asks = record { command = refl; unlisted = refl; plain = (refl, refl) }

abbrev pub shelf_query : Query
shelf_query = by_rowid 4 (col 1 0 ∷ col 1 2 ∷ col 1 3 ∷ [])

abbrev pub shelf_names : List (List ℕ)
shelf_names = codes "id" ∷ codes "tries" ∷ codes "context" ∷ []

pub all_shelf_asks : Asks journal_schema all_shelf_text shelf_query shelf_names
unfolding understood everything
all_shelf_asks = record { command = refl; unlisted = refl; plain = (refl, refl) }

pub first_shelf_asks : Asks first_schema all_shelf_text shelf_query shelf_names
unfolding understood everything
first_shelf_asks = record { command = refl; unlisted = refl; plain = (refl, refl) }

abbrev pub advices_query : Query
advices_query = by_place 5

abbrev pub advices_names : List (List ℕ)
advices_names = codes "id" ∷ codes "place" ∷ codes "body" ∷ []

pub all_advices_asks : Asks journal_schema all_advices_text advices_query advices_names
unfolding understood everything
all_advices_asks = record { command = refl; unlisted = refl; plain = (refl, refl) }

pub first_advices_asks : Asks first_schema all_advices_text advices_query advices_names
unfolding understood everything
first_advices_asks = record { command = refl; unlisted = refl; plain = (refl, refl) }

abbrev pub joined_query : Query
joined_query = by_place 9

abbrev pub joined_names : List (List ℕ)
joined_names = codes "id" ∷ codes "place" ∷ codes "part" ∷ []

pub all_joined_asks : Asks journal_schema all_joined_text joined_query joined_names
unfolding understood everything
all_joined_asks = record { command = refl; unlisted = refl; plain = (refl, refl) }

abbrev pub parts_query : Query
parts_query = by_rowid 7 (col 1 0 ∷ col 1 2 ∷ [])

abbrev pub parts_names : List (List ℕ)
parts_names = codes "n" ∷ codes "name" ∷ []

pub all_parts_asks : Asks journal_schema all_parts_text parts_query parts_names
unfolding understood everything
all_parts_asks = record { command = refl; unlisted = refl; plain = (refl, refl) }
