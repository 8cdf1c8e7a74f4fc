-- What an input has made of its reader.
use Rattle.std.specs.Prelude.{◌≡◌, ⊤, ℕ, List, Option}
use Rattle.cli_io.specs.declared.input.Input.{Input}
use Rattle.cli_io.specs.declared.error.IoError.{IoError}
use Rattle.cli_io.specs.declared.error.IoError.TheVariants.{TooManyReads}

-- the bytes that its reader has still to give, where those are known
abbrev pub unread : {R : Type 0} → (R → Option (List ℕ)) → Input R → Option (List ℕ)
unread remaining input = remaining input.reader

-- how often its reader was read
abbrev pub reads_made : {R : Type 0} → Input R → ℕ
reads_made input = input.reads

-- that there were too many reads is reported of an input that has made all it may
abbrev pub IsSpentAt : ℕ → IoError → Type 0
IsSpentAt reads TooManyReads = reads ≡ 1048576
IsSpentAt reads _ = ⊤
