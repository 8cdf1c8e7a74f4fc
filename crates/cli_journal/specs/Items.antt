-- What both forms show of an item.
use Rattle.std.specs.Prelude.{ℕ, ◌-◌, Bool, true, false, codes}
use Rattle.tx_machine.specs.declared.values.Phase.{Phase}
use Rattle.tx_machine.specs.declared.values.Phase.TheVariants.{Preparing, Aborting, Committing, Undoing}
use Rattle.cli_journal.specs.Entries.{Text}

abbrev pub phase_name : Phase → Text
phase_name Preparing = codes "preparing"
phase_name Aborting = codes "aborting"
phase_name Committing = codes "committing"
phase_name Undoing = codes "undoing"

-- what a recovery notifies the participants of
abbrev pub verdict_name : Bool → Text
verdict_name true = codes "commit"
verdict_name false = codes "abort"

-- how many ids were given since this one, including this one
abbrev pub age_of : ℕ → ℕ → ℕ
age_of next_id id = next_id - id
