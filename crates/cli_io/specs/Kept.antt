-- What a quotation keeps of the bytes.
use Rattle.std.specs.Prelude.{ℕ, ◌≤◌, List, take}
use Rattle.std.specs.List.{All}
use Rattle.cli_io.specs.declared.quoted.Quoted.TheInside.{Inside}
use Rattle.cli_io.specs.Quoting.{IsPrintable, between_marks}

-- the bytes that are kept, as a message shows them
abbrev pub printed : Inside → List ℕ
printed q = between_marks (take q.len q.kept) q.is_cut

-- at most 40 bytes are kept, and all of them are printable
pub record IsKept (q : Inside) : Type 0 where
  pub few : q.len ≤ 40
  pub printable : All IsPrintable (take q.len q.kept)
