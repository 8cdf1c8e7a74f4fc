use Rattle.std.proofs.Common.{◌∙◌, Result, sym, ap, subst}
use Rattle.flow_model.specs.declared.flow.Flow.{Flow}
use Rattle.flow_load.specs.declared.error.LoadError.{LoadError}
use Rattle.flow_load.specs.Load.{load_of}
use Rattle.flow_load.specs.Reads.{Fails}
use Rattle.flow_load.proofs.ImageFound.{image_found}
use Rattle.flow_load.proofs.ImageOnly.{image_read}
use Rattle.flow_load.proofs.reader.load.Goals as goal

pub returns-in-Ok-clause-found : goal.returns-in-Ok-clause-found
returns-in-Ok-clause-found c = image_found c.args.bytes.now c.in-Ok.code c.in-Ok.ensures

pub returns-in-Ok-clause-only : goal.returns-in-Ok-clause-only
returns-in-Ok-clause-only c = λ f checked is. sym (ap load_of is ∙ image_read f checked) ∙ c.in-Ok.ensures

pub returns-in-Err-clause-only : goal.returns-in-Err-clause-only
returns-in-Err-clause-only c = λ f checked is.
    subst (λ (r : Result Flow LoadError). Fails c.to_report.result r) (ap load_of is ∙ image_read f checked) c.to_report.ensures.read
