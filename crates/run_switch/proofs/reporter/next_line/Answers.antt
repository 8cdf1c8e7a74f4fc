use Rattle.std.proofs.Common.{◌∙◌, ap, sym, ℕ, Some}
use Rattle.std.proofs.Common.{String, Global}
use Rattle.std.specs.Global.{Vec}
use Rattle.std.specs.Prelude.{option_map, string_bytes}
use Rattle.run_switch.proofs.reporter.next_line.Goals as goal

pub returns-in-Some-clause-line : goal.returns-in-Some-clause-line
returns-in-Some-clause-line c =
    rw c.in-Text.is (ap (λ (v : Vec ℕ). Some v.items) c.into_bytes.ensures.value
    ∙ (sym (ap (option_map (λ (s : String Global). string_bytes s)) c.in-Some.is) ∙ c.in_ok-line-in-Text.ensures.line))
