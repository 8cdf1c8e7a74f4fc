-- Lists and what holds of all their items.
-- for: recovery::reopened, and whoever goes over the rows of a view
use Rattle.std.proofs.Common.{List, [], ◌∷◌, map}
use Rattle.std.specs.List.{All}
use Rattle.std.proofs.lemmas.List.Elements.{All-nil, All-cons, All-head, All-tail}

pub all_mapped : {A B : Type 0} (g : A → B) (P : B → Type 0) (xs : List A) → All (λ x. P (g x)) xs → All P (map g xs)
all_mapped g P [] h = All-nil P
all_mapped g P (x ∷ xs) h = All-cons P (g x) (map g xs) (All-head (λ x. P (g x)) x xs h) (all_mapped g P xs (All-tail (λ x. P (g x)) x xs h))
