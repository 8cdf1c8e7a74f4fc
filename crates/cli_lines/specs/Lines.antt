-- The lines of an input.
use Rattle.std.specs.Prelude.{◌≡◌, ◌≢◌, ◌⊎◌, ◌+◌, ◌-◌, ◌*◌, ⊤, ℕ, Bool, List, [], Option, Some, None, length}
use Rattle.std.specs.Io.KnownBytes.{prepend_known}
use Rattle.std.specs.List.{after_first}
use Rattle.cli_lines.specs.Feeds.{first_line, has_line_feed, is_line_feed}
use Rattle.cli_io.specs.Inputs.{reads_made, unread}
use Rattle.cli_io.specs.declared.error.IoError.{IoError}
use Rattle.cli_io.specs.declared.error.IoError.TheVariants.{TooManyReads}
use Rattle.cli_lines.specs.Pieces.{left}
use Rattle.cli_lines.specs.declared.lines.Lines.{Lines}

-- the bytes that the lines have still to give, where those are known: what was read, and then the reader's
abbrev pub to_come : {R : Type 0} → (R → Option (List ℕ)) → Lines R → Option (List ℕ)
to_come remaining lines = prepend_known (left lines.piece) (unread remaining lines.input)

-- a line is read already
abbrev pub has_line : {R : Type 0} → Lines R → Bool
has_line lines = has_line_feed (left lines.piece)

-- how many lines were given, and how often the reader was read
abbrev pub lines_given : {R : Type 0} → Lines R → ℕ
lines_given lines = lines.count

abbrev pub reads_for : {R : Type 0} → Lines R → ℕ
reads_for lines = reads_made lines.input

-- at most this many bytes are still to be given: those of the pieces that may be read, and what is left of the
-- last one
abbrev pub room : {R : Type 0} → Lines R → ℕ
room lines = 4096 * (1048576 - lines.pieces) + length (left lines.piece)

-- that there were too many reads is reported once all the reads that an input may make were made, or as many
-- pieces were read
abbrev pub IsSpent : {R : Type 0} → Lines R → IoError → Type 0
IsSpent lines TooManyReads = (reads_for lines ≡ 1048576) ⊎ (lines.pieces ≡ 1048576)
IsSpent lines _ = ⊤

-- the first line of the bytes that are to come is given, and the others are then to come; at their end none is
abbrev pub IsNextLine : Option (List ℕ) → Option (List ℕ) → Option (List ℕ) → Type 0
IsNextLine None new line = ⊤
IsNextLine (Some bytes) new None = (bytes ≡ []) × (new ≡ Some [])
IsNextLine (Some bytes) new (Some line) =
    (bytes ≢ []) × (line ≡ first_line bytes) × (new ≡ Some (after_first is_line_feed bytes))
