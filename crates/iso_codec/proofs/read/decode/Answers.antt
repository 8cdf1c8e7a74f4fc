use Rattle.iso_codec.proofs.DecodeAnswers.{found_by, only_by, memory_by}
use Rattle.iso_codec.proofs.read.decode.Goals as goal

pub returns-clause-found : goal.returns-clause-found
returns-clause-found c = found_by c.args.bytes.now c.answer.result c.answer.ensures

pub returns-clause-only : goal.returns-clause-only
returns-clause-only c = λ m s. only_by c.args.bytes.now c.answer.result m c.answer.ensures s

pub returns-clause-memory_last : goal.returns-clause-memory_last
returns-clause-memory_last c = λ e. memory_by c.args.bytes.now c.answer.result c.answer.ensures e
