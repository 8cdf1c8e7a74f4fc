-- The first field whose number an earlier one has, one table after the other.
-- for: faults::double
use Rattle.std.proofs.Common.{◌≡◌, ◌∙◌, ℕ, ◌+◌, ◌<◌, Bool, true, false, List, ◌∷◌, length, take, drop, get_or, Option, Some, String, Global, sym, ap}
use Rattle.std.specs.Borrow.{Bor}
use Rattle.std.specs.BTreeMap.{BTreeMap}
use Rattle.std.proofs.lemmas.List.{drop_more, take-map}
use Rattle.toml.specs.Data.{Members}
use Rattle.toml.specs.View.{table_view}
use Rattle.toml.specs.declared.value.Value.{Value}
use Rattle.sw_base.specs.Refusals.{first_at, or_else, refused_if}
use Rattle.toml_tables.specs.Tables.{views}
use Rattle.dialect_toml.specs.declared.error.TableError.{TableError}
use Rattle.dialect_toml.specs.declared.error.TableError.TheVariants.{Double}
use Rattle.dialect_toml.specs.declared.keys.Section.TheVariants as section
use Rattle.dialect_toml.specs.Faults.{double, is_taken, path_of}
use Rattle.dialect_toml.specs.Tables.{number_of}

abbrev pub Table : Type 0
Table = Bor (BTreeMap (String Global) Value)

module _ (ts : List Table) where
  -- the first fault of the tables from an index on
  abbrev pub double_from : ℕ → Option TableError
  double_from n = first_at (double (views ts)) n (views (drop n ts))

  -- what an earlier table decides for the one of this index
  decided : (b : Bool) (n : ℕ) (t d : Table) → n < length ts → t ≡ get_or ts n d → is_taken (views (take n ts)) (number_of (table_view t.now)) ≡ b →
      double_from n ≡ or_else (refused_if b (Double (path_of section.Field n (table_view t.now)))) (double_from (n + 1))
  decided b n t d low is taken =
      let tables : drop n ts ≡ t ∷ drop (n + 1) ts = drop_more ts n d low ∙ ap (λ (x : Table). x ∷ drop (n + 1) ts) (sym is) in
      let earlier : is_taken (take n (views ts)) (number_of (table_view t.now)) ≡ b =
      ap (λ (mss : List Members). is_taken mss (number_of (table_view t.now))) (take-map (λ (x : Table). table_view x.now) n ts) ∙ taken in
      ap (λ (xs : List Table). first_at (double (views ts)) n (views xs)) tables
      ∙ ap (λ (c : Bool). or_else (refused_if c (Double (path_of section.Field n (table_view t.now)))) (double_from (n + 1))) earlier

  pub double_here : (n : ℕ) (t d : Table) → n < length ts → t ≡ get_or ts n d → is_taken (views (take n ts)) (number_of (table_view t.now)) ≡ true →
      double_from n ≡ Some (Double (path_of section.Field n (table_view t.now)))
  double_here n t d low is taken = decided true n t d low is taken

  pub double_later : (n : ℕ) (t d : Table) → n < length ts → t ≡ get_or ts n d → is_taken (views (take n ts)) (number_of (table_view t.now)) ≡ false →
      double_from n ≡ double_from (n + 1)
  double_later n t d low is free = decided false n t d low is free
