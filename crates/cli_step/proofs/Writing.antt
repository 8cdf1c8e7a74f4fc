-- A beginning of a text, by how many bytes it has.
-- for: script::put_out
use Rattle.std.proofs.Common.{◌∙◌, ℕ, List, Option, length, take, ap, subst, sym}
use Rattle.std.proofs.Math.Seq.{take-append_seam}
use Rattle.std.specs.Io.KnownBytes.{Appends}
use Rattle.cli_io.specs.Written.{AppendsBeginning}

pub counted : (a b : Option (List ℕ)) (text : List ℕ) → AppendsBeginning a b text → (count : ℕ) × Appends a b (take count text)
counted a b text (first, rest, joined, written) =
    (length first, subst (Appends a b) (sym (ap (take (length first)) joined ∙ take-append_seam first rest)) written)
