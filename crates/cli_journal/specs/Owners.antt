-- Whose context is shown.
use Rattle.std.specs.Prelude.{ℕ, List, codes}
use Rattle.cli_journal.specs.declared.owner.Owner.{Owner}
use Rattle.cli_journal.specs.declared.owner.Owner.TheVariants.{Transaction, Shelf}

abbrev pub word_of : Owner → List ℕ
word_of (Transaction id) = codes "transaction"
word_of (Shelf id) = codes "shelf"

abbrev pub id_of : Owner → ℕ
id_of (Transaction id) = id
id_of (Shelf id) = id
