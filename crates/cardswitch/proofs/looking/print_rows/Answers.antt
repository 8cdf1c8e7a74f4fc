use Rattle.std.proofs.Common.{List, OnOk, subst, ℕ}
use Rattle.std.specs.Io.KnownBytes.{Appends}
use Rattle.cli_io.specs.Written.{AppendsBeginning}
use Rattle.cardswitch.proofs.Showing.{shown}
use Rattle.cardswitch.proofs.looking.print_rows.Goals as goal

pub returns-clause-written : goal.returns-clause-written
returns-clause-written g c =
    subst (λ (text : List ℕ). OnOk c.show.result (Appends (g.O.Write.contents c.args.out.now) (g.O.Write.contents c.show.new.out) text))
    (shown c.args.options.now c.args.layout c.args.left_out.now c.args.view.now)
    c.show.ensures.written

pub returns-clause-beginning : goal.returns-clause-beginning
returns-clause-beginning g c =
    subst (λ (text : List ℕ). AppendsBeginning (g.O.Write.contents c.args.out.now) (g.O.Write.contents c.show.new.out) text)
    (shown c.args.options.now c.args.layout c.args.left_out.now c.args.view.now)
    c.show.ensures.beginning
