use Rattle.std.proofs.Common.{sym}
use Rattle.std.proofs.Math.ListN.{get_or-eq_default}
use Rattle.iso_dialect.specs.declared.page.TheConstants.{CODES_1047}
use Rattle.iso_dialect.proofs.page.code_1047.Goals as goal

pub returns-else-index-lt95 : goal.returns-else-index-lt95
returns-else-index-lt95 c = sym (get_or-eq_default CODES_1047 0 c.if-index-lt95.false)
