use Rattle.std.specs.Arc.{arc_value}
use Rattle.run_recode.proofs.Reading.{begun_as}
use Rattle.run_recode.proofs.passage.reader_over.Goals as goal

pub returns-in_ok-recoding-in-Some-clause-begun : goal.returns-in_ok-recoding-in-Some-clause-begun
returns-in_ok-recoding-in-Some-clause-begun g c = rw c.in-Some.is (begun_as c.in_ok-form-in-Some.form c.in-Some.passage.form
    (arc_value c.in_ok-recoding-in-Some.recoding) (arc_value c.in-Some.passage.recoding) c.new.result.side c.in_ok-form-in-Some.ensures
    c.in_ok-recoding-in-Some.ensures c.new.ensures.begun)
