-- What a piece has still to give.
use Rattle.std.specs.Prelude.{ℕ, List, drop}
use Rattle.cli_lines.specs.declared.piece.Piece.{Piece}

abbrev pub left : Piece → List ℕ
left p = drop p.given p.bytes.items
