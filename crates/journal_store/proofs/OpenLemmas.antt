-- What is read of a database that is opened, and its conversion.
-- for: opening::parts_of, opening::convert_first
use Rattle.std.proofs.Common.{◌≡◌, ℕ, zero, suc, ◌+◌, ◌<◌, List, [], ◌∷◌, ◌++◌, length, take, get_or, None, Ok, Err, arith, refl, sym, ap, subst}
use Rattle.std.proofs.Common.{◌∙◌}
use Rattle.sqlite.specs.State.{State, HasCleanDisk, Survives}
use Rattle.sqlite.proofs.StateLemmas.{survives_weaker, survives_then}
use Rattle.sqlite_trees.specs.Tree.{Trees}
use Rattle.sqlite_value.specs.Order.{Row}
use Rattle.tx_history.specs.declared.journal.JournalView.{JournalView}
use Rattle.journal_rows.specs.Faults.{IsFaultAs}
use Rattle.journal_rows.specs.Reads.{members_in}
use Rattle.journal_rows.specs.Tables.{Tables, first_tables_of}
use Rattle.journal_rows.specs.declared.layout.Layout.TheVariants.{First}
use Rattle.journal_tables.specs.Parts.{numbered_from}
use Rattle.journal_tables.specs.Converting.{IsFirst, LeavesConverted, ConvertedAll, converted_by}
use Rattle.journal_tables.specs.declared.parts.Parts.{Parts}
use Rattle.journal_tables.proofs.KnownParts.{count_numbered, numbered_more}
use Rattle.sqlite_catalog.specs.Listing.{IsSound}
use Rattle.journal_tables.specs.Schema.{first_schema}
use Rattle.journal_store.specs.Means.{IsStore, Reads}
use Rattle.journal_store.specs.Stored.{OnlyReads}
use Rattle.journal_store.specs.Converted.{IfBad, IsNaming, OnlyReadIf, LeavesFirst, NamesFault, WasConverted, part_shown}
use Rattle.journal_store.specs.declared.error.JournalError.{JournalError}
use Rattle.journal_store.specs.declared.error.JournalError.TheVariants.{BadRow, OutOfMemory, Failed, Store}

take_more : (xs : List Row) (i : ℕ) (x : Row) → i < length xs → x ≡ get_or xs i x → take (i + 1) xs ≡ take i xs ++ x ∷ []
take_more [] i x low is = absurd (omega (arith, low))
take_more (y ∷ xs) zero x low is = ap (λ r. r ∷ []) (sym is)
take_more (y ∷ xs) (suc i) x low is =
    let longer : suc i + 1 ≡ suc (i + 1) = omega arith in ap (λ k. take k (y ∷ xs)) longer ∙ ap (λ l. y ∷ l) (take_more xs i x (omega (arith, low)) is)

take_length : (xs : List Row) (i : ℕ) → i < length xs → length (take i xs) ≡ i
take_length [] i low = absurd (omega (arith, low))
take_length (y ∷ xs) zero low = refl
take_length (y ∷ xs) (suc i) low = let rest = take_length xs i (omega (arith, low)) in omega (arith, rest)

pub parts_read : (rows : List Row) (parts after : List (List ℕ)) (i at : ℕ) (row : Row) (name : List ℕ) → i < length rows → row ≡ get_or rows i row →
    at ≡ i → take i rows ≡ numbered_from 0 parts → row ≡ part_shown at name
    → after ≡ parts ++ name ∷ [] → take (i + 1) rows ≡ numbered_from 0 after
parts_read rows parts after i at row name low is same before shown pushed =
    let count : 0 + length parts ≡ at = let k = sym (count_numbered 0 parts) ∙ ap length (sym before) ∙ take_length rows i low in omega (arith, k, same) in
    take_more rows i row low is ∙ ap (λ l. l ++ row ∷ []) before ∙ ap (λ r. numbered_from 0 parts ++ r ∷ []) (shown ∙ ap (λ k. part_shown k name) (sym count))
    ∙ sym (numbered_more 0 parts name) ∙ ap (numbered_from 0) (sym pushed)

pub names_of : (A : Type 0) (t : Tables) (e : JournalError) → Reads First t (Err e) → NamesFault {A = A} t (Err e)
names_of A t (BadRow bad) h = h
names_of A t OutOfMemory h = h
names_of A t Failed h = h
names_of A t (Store cause) h = tt

pub fine_of : (t : Tables) (v : JournalView) → Reads First t (Ok v) → IsFaultAs First t None
fine_of t v h = h.0

-- nothing was changed, the members are those of the table, and no row is at fault
pub record IsRead (a b : State) (members : List Row) : Type 0 where
  pub same : b.now ≡ a.now
  pub are : members ≡ members_in (first_tables_of a.now.trees)
  pub fine : IsFaultAs First (first_tables_of a.now.trees) None

by_members : (a b : State) (members : List Row) → IsRead a b members →
    converted_by members (first_tables_of b.now.trees) ≡ Rattle.journal_rows.specs.Convert.converted (first_tables_of a.now.trees)
by_members a b members read = (λ i. converted_by (read.are i) (first_tables_of (read.same i).trees))

pub was_converted : (a b d : State) (members : List Row) (parts : Parts) → IsRead a b members → ConvertedAll members b d parts → WasConverted a d parts
was_converted a b d members parts read all = record {
  fine = read.fine;
  now = all.now;
  tables = all.tables ∙ by_members a b members read;
  parts_are = all.parts_are;
  committed = all.committed;
  is_open = all.is_open;
}

pub only_read : (a b : State) → OnlyReads IsFirst a b → Survives a b (LeavesFirst a)
only_read a b h = survives_weaker a b _ (LeavesFirst a) (λ _ db none first. absurd (none first)) h

pub converting : (a b d : State) (members : List Row) → (HasCleanDisk b → IsFirst a.now → IsRead a b members) → OnlyReads IsFirst a b →
    Survives b d (LeavesConverted members b) → Survives a d (LeavesFirst a)
converting a b d members read one two =
    survives_then a b d _ _ _ (λ _ db none first. absurd (none first))
    (λ clean db left first.
    let early : HasCleanDisk b = omega (arith, two.clean) in
    let it = read early first in
    let there = left (subst IsFirst (sym it.same) first) in
    (it.fine, there.0, there.1 ∙ by_members a b members it)) one two

-- a refusal of the store names no row
pub store_names : (was : Trees) (e : JournalError) → IsStore e → IsNaming was e
store_names was (BadRow bad) h = absurd h
store_names was OutOfMemory h = absurd h
store_names was Failed h = absurd h
store_names was (Store cause) h = tt

pub fault_names : (was : Trees) (e : JournalError) → IsSound first_schema was → NamesFault {A = Parts} (first_tables_of was) (Err e) → IsNaming was e
fault_names was (BadRow bad) sound h = (sound, h)
fault_names was OutOfMemory sound h = (sound, h)
fault_names was Failed sound h = h
fault_names was (Store cause) sound h = tt

pub store_read : (a b : State) (e : JournalError) → IsStore e → OnlyReadIf {A = Parts} a b (Err e)
store_read a b (BadRow bad) h = absurd h
store_read a b OutOfMemory h = tt
store_read a b Failed h = tt
store_read a b (Store cause) h = tt

pub fault_read : (a b : State) (e : JournalError) → OnlyReads IsFirst a b → OnlyReadIf {A = Parts} a b (Err e)
fault_read a b (BadRow bad) h = h
fault_read a b OutOfMemory h = tt
fault_read a b Failed h = tt
fault_read a b (Store cause) h = tt

pub store_bad : (P : Type 0) (e : JournalError) → IsStore e → IfBad P e
store_bad P (BadRow bad) h = absurd h
store_bad P OutOfMemory h = tt
store_bad P Failed h = tt
store_bad P (Store cause) h = tt

pub fault_bad : (P : Type 0) (a b : State) (e : JournalError) → OnlyReadIf {A = Parts} a b (Err e) → (OnlyReads IsFirst a b → P) → IfBad P e
fault_bad P a b (BadRow bad) h f = f h
fault_bad P a b OutOfMemory h f = tt
fault_bad P a b Failed h f = tt
fault_bad P a b (Store cause) h f = tt
