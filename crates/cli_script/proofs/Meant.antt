-- What is made of a part of a line is answered as the part is.
-- for: whoever reads a line by its parts
use Rattle.std.proofs.Common.{Result, Ok, Err, ap, refl}
use Rattle.cli_script.specs.Forms.{meant}
use Rattle.cli_script.specs.Grammar.{Answers}
use Rattle.cli_script.specs.declared.error.LineError.{LineError}
use Rattle.cli_script.specs.declared.error.LineError.TheVariants.{OutOfMemory}
use Rattle.cli_script.specs.declared.line.ScriptLine.{ScriptLine}

pub meant_err : {A : Type 0} (make : A → ScriptLine) (x : Result A LineError) (e : LineError)
    → Answers x (Err e) → Answers (meant make x) (Err e)
meant_err make (Ok a) e answers = answers
meant_err make (Err d) e answers = cc

pub meant_memory : {A : Type 0} (make : A → ScriptLine) (x : Result A LineError) (a : A)
    → Answers x (Ok a) → Answers (meant make x) (Err OutOfMemory)
meant_memory make (Ok b) a answers = refl
meant_memory make (Err d) a answers = cc

pub meant_ok : {A : Type 0} (make : A → ScriptLine) (x : Result A LineError) (a : A)
    → Answers x (Ok a) → Answers (meant make x) (Ok (make a))
meant_ok make (Ok b) a answers = ap make answers
meant_ok make (Err d) a answers = cc

pub ruleset parts_of_lines = (meant_err, meant_memory, meant_ok)
