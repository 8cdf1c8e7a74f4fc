use Rattle.std.proofs.Common.{◌++◌, sym, ◌∙◌, append_assoc}
use Rattle.sw_context.specs.Spelling.{name_bytes, value_bytes}
use Rattle.sw_context.proofs.SpellingLaws.{one-name}
use Rattle.sw_context.proofs.context.reading.entry_at_front.Goals as goal

pub returns-in_err-value-clause-none : goal.returns-in_err-value-clause-none
returns-in_err-value-clause-none c =
    rw c.from_residual-in_err-value.ensures (λ e rest is h.
    let same = sym c.in_ok-name.ensures.found.1 ∙ h ∙ append_assoc (name_bytes e.0) (value_bytes e.1) rest in
    c.in_err-value.ensures.none e.1 rest is.1 (one-name c.in_ok-name.name.now e.0 c.in_ok-name.after.now (value_bytes e.1 ++ rest) same).1)
