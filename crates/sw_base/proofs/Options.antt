-- Options that are none.
use Rattle.std.proofs.Common.{◌≡◌, false, Option, Some, None, refl}
use Rattle.std.specs.Option.{is_some}

pub none_from : {X : Type 0} (o : Option X) → false ≡ is_some o → o ≡ None
none_from None h = refl
none_from (Some x) h = absurd cc
