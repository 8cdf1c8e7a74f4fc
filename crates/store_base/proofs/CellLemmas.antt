-- Tests and casts of cells.
-- for: the crates above
use Rattle.std.proofs.Common.{◌≡◌, ℤ, Bool, true, false, cond, ◌&&◌, ◌||◌, is_eq, refl, sym, ap, ◌∙◌}
use Rattle.std.proofs.Common.{ℕ, Some, [], ◌∷◌}
use Rattle.sqlite_value.specs.declared.value.Value.{Value}
use Rattle.sqlite_value.specs.declared.value.Value.TheVariants.{Null, Int, Real, Text, Blob}
use Rattle.sqlite_value.specs.Order.{Row, column, value_cmp}
use Rattle.sqlite_value.specs.Keys.{first_key}
use Rattle.sqlite_value.specs.declared.keys.Order.{Order}
use Rattle.sqlite_value.specs.declared.keys.Collation.TheVariants.{Binary}
use Rattle.sqlite_value.proofs.OrderLemmas.{value_cmp-Null}
use Rattle.sqlite_sql.specs.Ops.{binary, from_truth, is_true, unary}
use Rattle.sqlite_schema.specs.Rules.{equal, agree}
use Rattle.sqlite_schema.specs.declared.schema.Kind.TheVariants.{Integer}
use Rattle.sqlite_rules.specs.Cast.{cast}

-- the order of one column
abbrev pub one_key : Order
one_key = record { digits = 0 }

pub truth : (b : Bool) → is_true (from_truth (Some b)) ≡ b
truth true = refl
truth false = refl

pub equals_int : (v : Value) (id : ℤ) → equal Binary v (Int id) ≡ is_eq (value_cmp v (Int id))
unfolding binary
equals_int Null id = sym (ap is_eq (value_cmp-Null (Int id)))
equals_int (Int n) id = truth _
equals_int (Real x) id = truth _
equals_int (Text t) id = truth _
equals_int (Blob b) id = truth _

pub and_true : (b : Bool) → (b && true) ≡ b
and_true true = refl
and_true false = refl

pub or_false : (b : Bool) → (b || false) ≡ b
or_false true = refl
or_false false = refl

pub agrees : (p : ℕ) (r s : Row) (id : ℤ) → column s 0 ≡ Int id → agree one_key (p ∷ []) r (0 ∷ []) s ≡ is_eq (value_cmp (column r p) (Int id))
unfolding first_key
agrees p r s id is = ap (λ v. equal Binary (column r p) v && true) is ∙ and_true _ ∙ equals_int (column r p) id

either : (b : Bool) (x : Value) → cond b x x ≡ x
either true x = refl
either false x = refl

pub cast_int : (n : ℤ) → cast Integer (Int n) ≡ Int n
unfolding unary
cast_int n = either _ (Int n)

pub cast_null : cast Integer Null ≡ Null
unfolding unary
cast_null = either _ Null
