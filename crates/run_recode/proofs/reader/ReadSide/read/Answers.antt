use Rattle.std.proofs.Common.{arith, refl}
use Rattle.run_recode.proofs.Reading.{Steps-trans, breaks, given, on_err, unbroken}
use Rattle.run_recode.proofs.reader.ReadSide.read.Goals as goal

pub returns-then-self-clause-gives : goal.returns-then-self-clause-gives
returns-then-self-clause-gives g c = given (g.R.Read.remaining c.args.inner.now) (g.R.Read.remaining c.loop.inner) c.args.self.now c.loop.self _
    c.take_into.result _ c.loop.invariant.steps c.take_into.ensures.taken refl refl refl c.take_into.ensures.rest

pub returns-in_err-advance-clause-breaks : goal.returns-in_err-advance-clause-breaks
returns-in_err-advance-clause-breaks g c = on_err _ c.from_residual.result
    (breaks (g.R.Read.remaining c.args.inner.now) (g.R.Read.remaining c.loop.inner) (g.R.Read.remaining c.advance.new.inner) c.args.self.now c.loop.self
    c.advance.new.self c.loop.invariant.steps c.in_err-advance.ensures.breaks)

pub loop-preserved : goal.loop-preserved
loop-preserved g c = record {
  steps = Steps-trans (g.R.Read.remaining c.args.inner.now) (g.R.Read.remaining c.loop.inner) (g.R.Read.remaining c.advance.new.inner) c.args.self.now
      c.loop.self c.advance.new.self c.loop.invariant.steps c.in_ok-advance.ensures.steps;
  room = omega (arith, c.advance.auto.buf, c.loop.invariant.room);
}

pub returns-clause-breaks : goal.returns-clause-breaks
returns-clause-breaks g c = unbroken (g.R.Read.remaining c.args.inner.now) (g.R.Read.remaining c.loop.inner) c.args.self.now c.loop.self
    c.loop.invariant.steps
