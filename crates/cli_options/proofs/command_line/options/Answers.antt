use Rattle.std.proofs.Common.{ap, map, sym, ◌∙◌}
use Rattle.std.proofs.lemmas.Result.{IfErr-weaker, IfOk-weaker}
use Rattle.clap.specs.Words.{fault_of, found_of, is_simple, is_simple_and_free, rows_of, subcommand_of}
use Rattle.cli_options.proofs.Found.{always, carried, joined, refused_at}
use Rattle.cli_options.proofs.command_line.options.Goals as goal

pub returns-in_err-matches-clause-refuses : goal.returns-in_err-matches-clause-refuses
returns-in_err-matches-clause-refuses g c =
    let words = map g.S.AsStr.text c.args.words.now in
    let shape = c.in_ok-command.ensures in
    carried words _ _ shape (c.in_err-matches.ensures.kinds (ap is_simple_and_free shape)) _ c.from_residual-in_err-matches.ensures.1

pub returns-clause-accepts : goal.returns-clause-accepts
returns-clause-accepts g c =
    let words = map g.S.AsStr.text c.args.words.now in
    let shape = c.in_ok-command.ensures in
    always c.options_at.result (ap (λ a. fault_of a words) (sym shape) ∙ c.in_ok-matches.ensures.kinds (ap is_simple_and_free shape))

pub returns-clause-answers : goal.returns-clause-answers
returns-clause-answers g c =
    let words = map g.S.AsStr.text c.args.words.now in
    let shape = c.in_ok-command.ensures in
    let is = sym (ap (λ a. subcommand_of a words) shape) ∙ sym (c.in_ok-matches.ensures.matches (ap is_simple shape)).1
    ∙ joined c.in_ok-matches.matches c.in-Some.name.now (rows_of (found_of c.in-Some.found.now)) c.in-Some.ensures.name c.in-Some.ensures.rows in
    IfOk-weaker c.options_at.result _ _ (λ o at. rw is at) c.options_at.ensures.found

pub returns-clause-refuses : goal.returns-clause-refuses
returns-clause-refuses g c =
    let words = map g.S.AsStr.text c.args.words.now in
    let shape = c.in_ok-command.ensures in
    let is = sym (ap (λ a. subcommand_of a words) shape) ∙ sym (c.in_ok-matches.ensures.matches (ap is_simple shape)).1
    ∙ joined c.in_ok-matches.matches c.in-Some.name.now (rows_of (found_of c.in-Some.found.now)) c.in-Some.ensures.name c.in-Some.ensures.rows in
    IfErr-weaker c.options_at.result _ _ (λ e at. refused_at words _ _ e is at) c.options_at.ensures.refused
