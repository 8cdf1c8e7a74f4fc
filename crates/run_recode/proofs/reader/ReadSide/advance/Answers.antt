use Rattle.std.proofs.Common.{refl}
use Rattle.run_recode.proofs.Reading.{on_err, stayed}
use Rattle.run_recode.proofs.reader.ReadSide.advance.Goals as goal

pub returns-in_err-count-clause-breaks : goal.returns-in_err-count-clause-breaks
returns-in_err-count-clause-breaks g c = on_err _ c.from_residual.result
    (stayed (g.R.Read.remaining c.args.inner.now) (g.R.Read.remaining c.read_inside.new.inner) c.args.self.now c.args.self.now c.in_err-count.ensures.kept
    c.requires.open refl)
