-- What an open makes of the last commit of a book, and what a change leaves.
-- for: book::BookFile::open, book::BookFile::put and the other calls that change the file
use Rattle.std.proofs.Common.{◌≡◌, ℕ, List, [], ◌∷◌, length, arith, inl, inr, refl, sym, ap, subst, ◌∙◌}
use Rattle.std.specs.List.{AllZip}
use Rattle.sqlite.specs.Effect.{Database}
use Rattle.sqlite_value.specs.Order.{Row}
use Rattle.sqlite_trees.specs.Tree.{Trees}
use Rattle.sqlite_schema.specs.declared.schema.Table.{Table}
use Rattle.sqlite_schema.specs.declared.schema.Schema.{Schema}
use Rattle.sqlite_catalog.specs.Listing.{IsSound, IsTableRow}
use Rattle.store_base.specs.Making.{no_schema}
use Rattle.book_store.specs.Kept.{Tables, OpensAs, changed, new_tables, tables_of}
use Rattle.book_store.specs.Lines.{Line}
use Rattle.book_store.specs.Making.{IsNew}
use Rattle.book_store.specs.Schema.{book_schema}
use Rattle.book_store.specs.Steps.{Edits, IsBook}

-- a database lists the same number of tables in each schema that it is sound under

count_listed : (rows : List Row) (ts : List Table) → AllZip IsTableRow rows ts → length rows ≡ length ts
count_listed [] [] h = refl
count_listed [] (t ∷ ts) h = absurd h
count_listed (r ∷ rows) [] h = absurd h
count_listed (r ∷ rows) (t ∷ ts) h = let rest = count_listed rows ts h.1 in omega (arith, rest)

not_empty : (db : Trees) → IsSound book_schema db → IsSound no_schema db → ⊥
not_empty db a b =
    let same : 2 ≡ 0 = sym (count_listed _ book_schema.tables a.lists.listed.tables) ∙ count_listed _ no_schema.tables b.lists.listed.tables in omega
    (arith, same)

pub book_sound : (d : Database) → IsBook d → IsSound book_schema d.trees
book_sound d b = subst (λ (s : Schema). IsSound s d.trees) b.schema_is b.sound

pub opens_book : (salt : List ℕ) (db : Trees) (t : Tables) → IsSound book_schema db → OpensAs salt db t → t ≡ tables_of db
opens_book salt db t sound (inl o) = o.1
opens_book salt db t sound (inr o) = absurd (not_empty db sound o.0)

pub opens_empty : (salt : List ℕ) (db : Trees) (t : Tables) → IsSound no_schema db → OpensAs salt db t → t ≡ new_tables salt
opens_empty salt db t none (inl o) = absurd (not_empty db o.0 none)
opens_empty salt db t none (inr o) = o.1

-- from the last commit an open makes the tables as they are now
pub opens_kept : (salt : List ℕ) (now committed : Database) (db : Trees) (t : Tables) → IsBook now → committed ≡ now → db ≡ committed.trees → OpensAs salt
    db t →
    t ≡ tables_of now.trees
opens_kept salt now committed db t b same is o =
    let there : db ≡ now.trees = is ∙ ap (λ (d : Database). d.trees) same in
    opens_book salt db t (subst (IsSound book_schema) (sym there) (book_sound now b)) o ∙ ap tables_of there

-- the same commit is opened as the same tables
pub opens_again : (salt : List ℕ) (committed db : Trees) (t u : Tables) → db ≡ committed → OpensAs salt committed t → OpensAs salt db u → u ≡ t
opens_again salt committed db t u same a b = once a (subst (λ (d : Trees). OpensAs salt d u) same b)
  where
    once : OpensAs salt committed t → OpensAs salt committed u → u ≡ t
    once (inl a) b = opens_book salt committed u a.0 b ∙ sym a.1
    once (inr a) b = opens_empty salt committed u a.0 b ∙ sym a.1

pub new_is : (salt : List ℕ) (db : Trees) → IsNew salt db → tables_of db ≡ new_tables salt
new_is salt db new i = record { salt = new.salt i; lines = new.lines i }

pub edited : (change : List Line → List Line) (old new : Trees) → Edits change old new → tables_of new ≡ changed change (tables_of old)
edited change old new e i = record { salt = e.salt i; lines = e.lines i }
