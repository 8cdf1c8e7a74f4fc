use Rattle.std.proofs.Common.{◌∙◌, sym, refl}
use Rattle.iso_dialect.specs.Pages.{char_in}
use Rattle.iso_dialect.proofs.PageChars.{none_by, some_by}
use Rattle.iso_dialect.proofs.page.char_at.Goals as goal

pub returns-then-c-eq0 : goal.returns-then-c-eq0
returns-then-c-eq0 c = none_by c.args.page c.args.code (char_in c.args.page c.args.code) refl (sym c.char_or_zero-c.ensures ∙ c.if-c-eq0.true)

pub returns-else-c-eq0 : goal.returns-else-c-eq0
returns-else-c-eq0 c = some_by c.char_or_zero-c.result (char_in c.args.page c.args.code) c.char_or_zero-c.ensures c.if-c-eq0.false
