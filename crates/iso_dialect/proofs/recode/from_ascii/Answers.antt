use Rattle.iso_codec.specs.Reads.{read}
use Rattle.iso_dialect.proofs.Recoding.{found_by, only_by, fault_by, short_by}
use Rattle.iso_dialect.proofs.recode.from_ascii.Goals as goal

pub returns-clause-found : goal.returns-clause-found
returns-clause-found c = found_by (λ v. v.items) c.args.profile.now c.args.text.now c.answer.result c.is_checked.ensures c.answer.ensures

pub returns-clause-only : goal.returns-clause-only
returns-clause-only c = λ m bytes s b k. only_by (λ v. v.items) c.args.profile.now c.args.text.now bytes c.answer.result m c.is_checked.ensures
    c.answer.ensures s b k

pub returns-clause-first_fault : goal.returns-clause-first_fault
returns-clause-first_fault c = fault_by (λ v. v.items) c.args.profile.now c.args.text.now c.answer.result c.answer.ensures

pub returns-clause-short : goal.returns-clause-short
returns-clause-short c =
    short_by (λ v. v.items) c.args.profile.now c.answer.result (read c.args.text.now) c.is_checked.ensures c.answer.ensures
