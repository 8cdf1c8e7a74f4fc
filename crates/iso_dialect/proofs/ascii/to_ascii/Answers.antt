use Rattle.iso_dialect.specs.Readings.{read_as}
use Rattle.iso_dialect.proofs.Answering.{found_by, only_by, fault_by, back_by, short_by, memory_by}
use Rattle.iso_dialect.proofs.ascii.to_ascii.Goals as goal

pub returns-clause-found : goal.returns-clause-found
returns-clause-found c = found_by (λ v. v.items) c.args.profile.now c.args.bytes.now c.recode.result c.is_checked.ensures c.recode.ensures

pub returns-clause-only : goal.returns-clause-only
returns-clause-only c = λ m s. only_by (λ v. v.items) c.args.profile.now c.args.bytes.now c.recode.result m c.is_checked.ensures c.recode.ensures s

pub returns-clause-first_fault : goal.returns-clause-first_fault
returns-clause-first_fault c = fault_by (λ v. v.items) (read_as c.args.profile.now c.args.bytes.now) c.recode.result c.recode.ensures

pub returns-clause-same : goal.returns-clause-same
returns-clause-same c = back_by (λ v. v.items) (read_as c.args.profile.now c.args.bytes.now) c.recode.result c.recode.ensures

pub returns-clause-short : goal.returns-clause-short
returns-clause-short c = short_by (λ v. v.items) (read_as c.args.profile.now c.args.bytes.now) c.recode.result c.recode.ensures

pub returns-clause-memory_last : goal.returns-clause-memory_last
returns-clause-memory_last c = λ e. memory_by (λ v. v.items) c.args.profile.now c.args.bytes.now c.recode.result c.is_checked.ensures c.recode.ensures e
