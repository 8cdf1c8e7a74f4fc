-- The first table whose text at a key an earlier one has, one table after the other.
-- for: faults::double_among
use Rattle.std.proofs.Common.{◌≡◌, ◌∙◌, ℕ, ◌+◌, ◌<◌, Bool, true, false, List, ◌∷◌, length, take, drop, get_or, Option, Some, String, Global, sym, ap}
use Rattle.std.specs.Borrow.{Bor}
use Rattle.std.specs.BTreeMap.{BTreeMap}
use Rattle.std.proofs.lemmas.List.{drop_more, take-map}
use Rattle.toml.specs.Data.{Members}
use Rattle.toml.specs.View.{table_view}
use Rattle.toml.specs.declared.value.Value.{Value}
use Rattle.sw_base.specs.Refusals.{first_at, or_else, refused_if}
use Rattle.cli_config.specs.declared.error.TableError.{TableError}
use Rattle.cli_config.specs.declared.error.TableError.TheVariants.{Double}
use Rattle.cli_config.specs.declared.keys.Section.{Section}
use Rattle.cli_config.specs.declared.keys.Key.{Key}
use Rattle.toml_tables.specs.Tables.{text_at, views}
use Rattle.cli_config.specs.Faults.{double, is_taken}
use Rattle.cli_config.specs.Keys.{spelling}

abbrev pub Table : Type 0
Table = Bor (BTreeMap (String Global) Value)

module _ (p : Section) (k : Key) (ts : List Table) where
  -- the first fault of the tables from a number on
  abbrev pub double_from : ℕ → Option TableError
  double_from n = first_at (double p k (views ts)) n (views (drop n ts))

  -- what an earlier table decides for the one of this number
  decided : (b : Bool) (n : ℕ) (t d : Table) (text : List ℕ) → n < length ts → t ≡ get_or ts n d → text ≡ text_at (spelling k) (table_view t.now) →
      is_taken (views (take n ts)) k text ≡ b
      → double_from n ≡ or_else (refused_if b (Double k (record { section = p; number = n }) text)) (double_from (n + 1))
  decided b n t d text low is said taken =
      let tables : drop n ts ≡ t ∷ drop (n + 1) ts = drop_more ts n d low ∙ ap (λ (x : Table). x ∷ drop (n + 1) ts) (sym is) in
      let earlier : is_taken (take n (views ts)) k (text_at (spelling k) (table_view t.now)) ≡ b =
      ap (λ (mss : List Members). is_taken mss k (text_at (spelling k) (table_view t.now))) (take-map (λ (x : Table). table_view x.now) n ts)
      ∙ ap (is_taken (views (take n ts)) k) (sym said) ∙ taken in
      ap (λ (xs : List Table). first_at (double p k (views ts)) n (views xs)) tables
      ∙ ap (λ (c : Bool). or_else (refused_if c (Double k (record { section = p; number = n }) (text_at (spelling k) (table_view t.now))))
      (double_from (n + 1))) earlier
      ∙ ap (λ (s : List ℕ). or_else (refused_if b (Double k (record { section = p; number = n }) s)) (double_from (n + 1))) (sym said)

  pub double_here : (n : ℕ) (t d : Table) (text : List ℕ) → n < length ts → t ≡ get_or ts n d → text ≡ text_at (spelling k) (table_view t.now) →
      is_taken (views (take n ts)) k text ≡ true
      → double_from n ≡ Some (Double k (record { section = p; number = n }) text)
  double_here n t d text low is said taken = decided true n t d text low is said taken

  pub double_later : (n : ℕ) (t d : Table) (text : List ℕ) → n < length ts → t ≡ get_or ts n d → text ≡ text_at (spelling k) (table_view t.now) →
      is_taken (views (take n ts)) k text ≡ false
      → double_from n ≡ double_from (n + 1)
  double_later n t d text low is said free = decided false n t d text low is said free
