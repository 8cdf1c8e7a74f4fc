-- The rows of `item` are those of the items.
-- for: whoever reads or changes the items
use Rattle.std.proofs.Common.{◌≡◌, ◌<ℤ◌, ℕ, List, [], ◌∷◌, map, true, false, not, ◌&&◌, Some, drop, IsTrue}
use Rattle.std.proofs.Common.{Less, refl, sym, ap, subst, ◌∙◌, true≢false, codes, map-id}
use Rattle.std.specs.List.{AllByRecursion}
use Rattle.std.proofs.lemmas.Bool.{and_parts}
use Rattle.std.proofs.lemmas.Int.{ints}
use Rattle.sqlite.specs.Effect.{Database}
use Rattle.sqlite.specs.declared.types.Value.{Value}
use Rattle.sqlite.specs.declared.types.Value.TheVariants.{Null, Int, Real, Text, Blob}
use Rattle.sqlite_rules.specs.Edit.{id_in}
use Rattle.sqlite_rules.proofs.TableLemmas.{int_is}
use Rattle.sqlite_value.specs.Order.{Row, bytes, value_cmp}
use Rattle.sqlite_value.proofs.OrderLemmas.{value_cmp-Int}
use Rattle.sqlite_keyed.specs.Keyed.{IsKeyedBy}
use Rattle.sqlite_keyed.proofs.ListLemmas.{map-map}
use Rattle.sqlite_keyed.proofs.KeyedLemmas.{lt_from_Less}
use Rattle.sqlite_schema.specs.Rules.{are_typed, are_present, suits, passes, has_computed, Obeys}
use Rattle.sqlite_schema.specs.declared.schema.Kind.TheVariants as kind
use Rattle.sqlite_schema.specs.declared.schema.Constraint.TheVariants.{Datatype, NotNull}
use Rattle.sqlite_sql.specs.Ops.{is_null}
use Rattle.sqlite_trees.specs.Tree.{Trees, rowid, IsTable}
use Rattle.sqlite_trees.specs.View.{is_int}
use Rattle.book_store.specs.Lines.{Line, line_of, lines_of, row_of}
use Rattle.store_base.specs.Columns.{needed}
use Rattle.book_store.specs.Schema.{item, book_schema}
use Rattle.book_store.specs.Steps.{IsBook}

int_cell : (name : List ℕ) (v : Value) → suits (needed name kind.Integer) v ≡ true → not (is_null v) ≡ true → v ≡ Int (id_in v)
int_cell name Null s p = absurd (true≢false (sym p))
int_cell name (Int n) s p = refl
int_cell name (Real x) s p = absurd (true≢false (sym s))
int_cell name (Text t) s p = absurd (true≢false (sym s))
int_cell name (Blob b) s p = absurd (true≢false (sym s))

blob_cell : (name : List ℕ) (v : Value) → suits (needed name kind.Blob) v ≡ true → not (is_null v) ≡ true → v ≡ Blob (bytes v)
blob_cell name Null s p = absurd (true≢false (sym p))
blob_cell name (Int n) s p = absurd (true≢false (sym s))
blob_cell name (Real x) s p = absurd (true≢false (sym s))
blob_cell name (Text t) s p = absurd (true≢false (sym s))
blob_cell name (Blob b) s p = refl

pub null_cell : (v : Value) → is_null v ≡ true → v ≡ Null
null_cell Null h = refl
null_cell (Int n) h = absurd (true≢false (sym h))
null_cell (Real x) h = absurd (true≢false (sym h))
null_cell (Text t) h = absurd (true≢false (sym h))
null_cell (Blob b) h = absurd (true≢false (sym h))

-- a row that obeys the table's types is that of its item
is_row : (r : Row) → IsTrue (is_int (rowid r)) → are_typed (Some 0) 0 item.columns (drop 1 r) ≡ true → are_present (Some 0) 0 item.columns r ≡ true →
    r ≡ row_of (line_of r)
is_row [] i t p = absurd (true≢false (sym i))
is_row (a ∷ []) i t p = absurd (true≢false (sym p))
is_row (a ∷ b ∷ []) i t p = absurd (true≢false (sym p))
is_row (a ∷ b ∷ c ∷ []) i t p = absurd (true≢false (sym (and_parts _ false p).1))
is_row (a ∷ b ∷ c ∷ d ∷ []) i t p = absurd (true≢false (sym (and_parts _ false (and_parts _ _ p).1).1))
is_row (a ∷ b ∷ c ∷ d ∷ e ∷ []) i t p =
    let p₂ = and_parts (not (is_null c)) ((not (is_null d)) && ((not (is_null e)) && (false))) p in
    let p₃ = and_parts (not (is_null d)) ((not (is_null e)) && (false)) p₂.1 in
    absurd (true≢false (sym (and_parts (not (is_null e)) false p₃.1).1))
is_row (a ∷ b ∷ c ∷ d ∷ e ∷ f ∷ []) i t p =
    let p₂ = and_parts (not (is_null c)) ((not (is_null d)) && ((not (is_null e)) && ((not (is_null f)) && (false)))) p in
    let p₃ = and_parts (not (is_null d)) ((not (is_null e)) && ((not (is_null f)) && (false))) p₂.1 in
    let p₄ = and_parts (not (is_null e)) ((not (is_null f)) && (false)) p₃.1 in
    absurd (true≢false (sym (and_parts (not (is_null f)) false p₄.1).1))
is_row (a ∷ b ∷ c ∷ d ∷ e ∷ f ∷ g ∷ h ∷ rest) i t p =
    let t₁ = and_parts (is_null b) ((suits (needed (codes "card") kind.Blob) c) && ((suits (needed (codes "request") kind.Blob) d) && ((suits (needed
    (codes "amount") kind.Integer) e) && ((suits (needed (codes "day") kind.Integer) f) && ((suits (needed (codes "reversed") kind.Integer) g) &&
    (false)))))) t in
    let t₂ = and_parts (suits (needed (codes "card") kind.Blob) c) ((suits (needed (codes "request") kind.Blob) d) && ((suits (needed (codes "amount")
    kind.Integer) e) && ((suits (needed (codes "day") kind.Integer) f) && ((suits (needed (codes "reversed") kind.Integer) g) && (false))))) t₁.1 in
    let t₃ = and_parts (suits (needed (codes "request") kind.Blob) d) ((suits (needed (codes "amount") kind.Integer) e) && ((suits (needed (codes "day")
    kind.Integer) f) && ((suits (needed (codes "reversed") kind.Integer) g) && (false)))) t₂.1 in
    let t₄ = and_parts (suits (needed (codes "amount") kind.Integer) e) ((suits (needed (codes "day") kind.Integer) f) && ((suits (needed (codes
    "reversed") kind.Integer) g) && (false))) t₃.1 in
    let t₅ = and_parts (suits (needed (codes "day") kind.Integer) f) ((suits (needed (codes "reversed") kind.Integer) g) && (false)) t₄.1 in
    absurd (true≢false (sym (and_parts (suits (needed (codes "reversed") kind.Integer) g) false t₅.1).1))
is_row (a ∷ b ∷ c ∷ d ∷ e ∷ f ∷ g ∷ []) int t p =
    let t₁ = and_parts _ _ t in
    let t₂ = and_parts _ _ t₁.1 in
    let t₃ = and_parts _ _ t₂.1 in
    let t₄ = and_parts _ _ t₃.1 in
    let t₅ = and_parts _ _ t₄.1 in
    let t₆ = and_parts _ _ t₅.1 in
    let p₂ = and_parts _ _ p in
    let p₃ = and_parts _ _ p₂.1 in
    let p₄ = and_parts _ _ p₃.1 in
    let p₅ = and_parts _ _ p₄.1 in
    let p₆ = and_parts _ _ p₅.1 in
    let ea = int_is a int in
    let eb = null_cell b t₁.0 in
    let ec = blob_cell (codes "card") c t₂.0 p₂.0 in
    let ed = blob_cell (codes "request") d t₃.0 p₃.0 in
    let ee = int_cell (codes "amount") e t₄.0 p₄.0 in
    let ef = int_cell (codes "day") f t₅.0 p₅.0 in
    let eg = int_cell (codes "reversed") g t₆.0 p₆.0 in
    λ i. ea i ∷ eb i ∷ ec i ∷ ed i ∷ ee i ∷ ef i ∷ eg i ∷ []

are_rows : (rows : List Row) → AllByRecursion (λ r. IsTrue (is_int (rowid r))) rows → AllByRecursion (λ r. passes Datatype book_schema (λ _. []) item r ≡
    true) rows
    → AllByRecursion (λ r. passes NotNull book_schema (λ _. []) item r ≡ true) rows → rows ≡ map row_of (map line_of rows)
are_rows [] ints typed present = refl
are_rows (r ∷ rows) ints typed present =
    let here = is_row r ints.0 (and_parts _ (has_computed item r) typed.0).0 present.0 in
    let more = are_rows rows ints.1 typed.1 present.1 in λ i. here i ∷ more i

-- the rows of a book's table `item` are those of its items
pub book_rows : (db : Database) → IsBook db → db.trees 1 ≡ map row_of (lines_of db.trees)
book_rows db book =
    let obeys = subst (λ s. Obeys s db.trees) book.schema_is book.sound.obeys in
    are_rows (db.trees 1) book.shaped.1.0.1 (obeys.rules Datatype).1.0 (obeys.rules NotNull).1.0

-- rows of these items are rows of no others
pub lines_are : (trees : Trees) (lines : List Line) → trees 1 ≡ map row_of lines → lines_of trees ≡ lines
lines_are trees lines is = ap (map line_of) is ∙ map-map line_of row_of lines ∙ map-id lines

above : (l : Line) (lines : List Line) → AllByRecursion (λ r. value_cmp (Int l.id) (rowid r) ≡ Less) (map row_of lines) →
    AllByRecursion (λ (m : Line). l.id <ℤ m.id) lines
above l [] h = tt
above l (m ∷ lines) h = (lt_from_Less _ _ (sym (value_cmp-Int l.id m.id) ∙ h.0), above l lines h.1)

rising : (lines : List Line) → IsTable (map row_of lines) → IsKeyedBy (λ (l : Line). l.id) lines
rising [] h = tt
rising (l ∷ lines) h = (above l lines h.0, rising lines h.1)

-- the items stand by id rising
pub lines_rise : (db : Database) → IsBook db → IsKeyedBy (λ (l : Line). l.id) (lines_of db.trees)
lines_rise db book = rising (lines_of db.trees) (subst IsTable (book_rows db book) book.shaped.1.0.0)
