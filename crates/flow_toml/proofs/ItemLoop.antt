-- Reading items one after the other, as a loop does.
-- for: read::read_entries, read::read_groups
use Rattle.std.proofs.Common.{◌≡◌, ◌∙◌, ℕ, ◌+◌, ◌≤◌, ◌<◌, List, [], ◌∷◌, ◌++◌, length, drop, get_or, Some, None, Result, Ok, Err, refl, sym, ap, append_assoc}
use Rattle.std.proofs.lemmas.List.{append-nil, drop_all, drop_more, length_push}
use Rattle.std.proofs.lemmas.Option.{same_Some}
use Rattle.toml.specs.Data.{Data, Items, Members, array, as_table, boolean, datetime, float, integer, item, string, table}
use Rattle.toml.specs.View.{items_view, view}
use Rattle.toml.specs.declared.value.Value.{Value}
use Rattle.toml_tables.specs.Tables.{tables_in}
use Rattle.flow_toml.specs.declared.error.FlowTomlError.{FlowTomlError}
use Rattle.flow_toml.specs.declared.error.FlowTomlError.TheVariants.{OutOfMemory, Toml, Missing, WrongKind, Unknown, Flow}
use Rattle.flow_toml.specs.Reads.{◌>>=◌, Fails, each}

-- what was read before, and what is yet to be read
abbrev pub with_front : {B : Type 0} → List B → Result (List B) FlowTomlError → Result (List B) FlowTomlError
with_front front read = read >>= λ ys. Ok (front ++ ys)

-- a failure of the one reading is one of the other, unless memory ran out
pub fails_through : {X Y : Type 0} (e : FlowTomlError) (inner : Result X FlowTomlError) (read : Result Y FlowTomlError) → (inner ≡ Err e → read ≡ Err e) →
    Fails e inner → Fails e read
fails_through OutOfMemory inner read on h = tt
fails_through (Toml t) inner read on h = h
fails_through (Missing k p) inner read on h = on h
fails_through (WrongKind k p) inner read on h = on h
fails_through (Unknown n p) inner read on h = on h
fails_through (Flow f) inner read on h = on h

table_first : (d : Data) (ds : Items) (ms : Members) → Some ms ≡ as_table d → tables_in (item d ds) ≡ ms ∷ tables_in ds
table_first (table xs) ds ms is = ap (λ (m : Members). m ∷ tables_in ds) (sym (same_Some ms xs is))
table_first (string s) ds ms is = absurd (cc)
table_first (integer z) ds ms is = absurd (cc)
table_first (float x) ds ms is = absurd (cc)
table_first (boolean b) ds ms is = absurd (cc)
table_first (datetime t) ds ms is = absurd (cc)
table_first (array xs) ds ms is = absurd (cc)

no_table : (d : Data) (ds : Items) → None ≡ as_table d → tables_in (item d ds) ≡ tables_in ds
no_table (table xs) ds is = absurd (cc)
no_table (string s) ds is = refl
no_table (integer z) ds is = refl
no_table (float x) ds is = refl
no_table (boolean b) ds is = refl
no_table (datetime t) ds is = refl
no_table (array xs) ds is = refl

regroup : {B : Type 0} (front : List B) (y : B) (read : Result (List B) FlowTomlError) →
    with_front front (read >>= λ ys. Ok (y ∷ ys)) ≡ with_front (front ++ y ∷ []) read
regroup front y (Ok ys) = ap Ok (sym (append_assoc front (y ∷ []) ys))
regroup front y (Err e) = refl

module _ {B : Type 0} (f : ℕ → Members → Result B FlowTomlError) (vs : List Value) (total : Result (List B) FlowTomlError) where
  -- from that item on, with what was read before it, all is read
  abbrev pub IsRead : List B → ℕ → Type 0
  IsRead front i = with_front front (each f (length front) (tables_in (items_view (drop i vs)))) ≡ total

  cut : (i : ℕ) (v : Value) → i < length vs → v ≡ get_or vs i v → drop i vs ≡ v ∷ drop (i + 1) vs
  cut i v lt is = drop_more vs i v lt ∙ ap (λ (x : Value). x ∷ drop (i + 1) vs) (sym is)

  on : (front : List B) (i : ℕ) (v : Value) (ms : Members) (read : Result B FlowTomlError) → i < length vs → v ≡ get_or vs i v →
      Some ms ≡ as_table (view v) → f (length front) ms ≡ read → IsRead front i
      → with_front front (read >>= λ y. each f (length front + 1) (tables_in (items_view (drop (i + 1) vs))) >>= λ ys. Ok (y ∷ ys)) ≡ total
  on front i v ms read lt is found reads so_far =
      let tables : tables_in (items_view (drop i vs)) ≡ ms ∷ tables_in (items_view (drop (i + 1) vs)) =
      ap (λ (xs : List Value). tables_in (items_view xs)) (cut i v lt is) ∙ table_first (view v) (items_view (drop (i + 1) vs)) ms found in
      rw (← reads) (rw tables at so_far)

  pub added : (front new : List B) (i : ℕ) (v : Value) (ms : Members) (y : B) → new ≡ front ++ y ∷ [] → i < length vs → v ≡ get_or vs i v →
      Some ms ≡ as_table (view v) → f (length front) ms ≡ Ok y → IsRead front i → IsRead new (i + 1)
  added front new i v ms y grows lt is found reads so_far =
      rw (grows, length_push front y) (sym (regroup front y (each f (length front + 1) (tables_in (items_view (drop (i + 1) vs))))) ∙ on front i v ms (Ok y)
      lt is found reads so_far)

  pub passed : (front new : List B) (i : ℕ) (v : Value) → new ≡ front → i < length vs → v ≡ get_or vs i v → None ≡ as_table (view v) → IsRead front i →
      IsRead new (i + 1)
  passed front new i v stays lt is none so_far =
      let tables : tables_in (items_view (drop i vs)) ≡ tables_in (items_view (drop (i + 1) vs)) =
      ap (λ (xs : List Value). tables_in (items_view xs)) (cut i v lt is) ∙ no_table (view v) (items_view (drop (i + 1) vs)) none in
      rw stays (rw tables at so_far)

  pub stopped : (front : List B) (i : ℕ) (v : Value) (ms : Members) (e : FlowTomlError) → i < length vs → v ≡ get_or vs i v → Some ms ≡ as_table (view v) →
      IsRead front i → f (length front) ms ≡ Err e → total ≡ Err e
  stopped front i v ms e lt is found so_far reads = sym (on front i v ms (Err e) lt is found reads so_far)

  pub all_read : (front : List B) (i : ℕ) → length vs ≤ i → IsRead front i → total ≡ Ok front
  all_read front i le so_far = sym (rw (drop_all i vs le) at so_far) ∙ ap Ok (append-nil front)
