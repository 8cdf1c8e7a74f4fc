-- Rows that are added one after the other, as a loop does.
-- for: table::command_of, with_commands
use Rattle.std.proofs.Common.{◌≡◌, ◌∙◌, ℕ, ◌+◌, ◌<◌, List, ap, drop, get_or, length, sym}
use Rattle.std.proofs.lemmas.List.{drop_more}
use Rattle.clap.specs.Words.{App, Rule, with_rule, with_subcommand}
use Rattle.cli_options.specs.declared.table.CommandRow.{CommandRow}
use Rattle.cli_options.specs.declared.table.OptionRow.{OptionRow}
use Rattle.cli_options.specs.Rows.{app_for, rule_for, with_commands, with_options}

pub option_added : (app next total : App) (rule : Rule) (rows : List OptionRow) (i : ℕ) (d : OptionRow) → i < length rows → next ≡ with_rule app rule →
    rule ≡ rule_for (get_or rows i d)
    → with_options app (drop i rows) ≡ total → with_options next (drop (i + 1) rows) ≡ total
option_added app next total rule rows i d lt adds is so_far =
    ap (λ (a : App). with_options a (drop (i + 1) rows)) (adds ∙ ap (with_rule app) is)
    ∙ sym (ap (with_options app) (drop_more rows i d lt)) ∙ so_far

pub command_added : (app next total added : App) (rows : List CommandRow) (i : ℕ) (d : CommandRow) → i < length rows →
    next ≡ with_subcommand app added.top → added ≡ app_for (get_or rows i d)
    → with_commands app (drop i rows) ≡ total → with_commands next (drop (i + 1) rows) ≡ total
command_added app next total added rows i d lt adds is so_far =
    ap (λ (a : App). with_commands a (drop (i + 1) rows)) (adds ∙ ap (λ (a : App). with_subcommand app a.top) is)
    ∙ sym (ap (with_commands app) (drop_more rows i d lt)) ∙ so_far
