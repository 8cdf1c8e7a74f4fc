use Rattle.std.proofs.Common.{sym}
use Rattle.sw_context.proofs.NameLaws.{name-utf8}
use Rattle.sw_context.proofs.context.reading.name_at_front.Goals as goal

-- a name is a text
pub returns-in-Err-clause-none : goal.returns-in-Err-clause-none
returns-in-Err-clause-none c = λ _ _ _ _. c.in-Err.ensures.cases.0 (name-utf8 c.in_ok-name.name.now (sym c.if-not-is_name_bytes.ensures))
