use Rattle.std.proofs.Common.{◌≡◌, drop, map}
use Rattle.sw_base.specs.Refusals.{first_of}
use Rattle.toml.specs.View.{table_view}
use Rattle.cli_config.specs.Keys.{sections}
use Rattle.cli_config.specs.Faults.{section_fault}
use Rattle.cli_config.proofs.faults.sections_fault.Given as goal

abbrev pub invariant-loop-section : goal.invariant-loop-section
invariant-loop-section l = first_of (map (section_fault (table_view l.top)) (drop l.section-index sections))
    ≡ first_of (map (section_fault (table_view l.top)) sections)
