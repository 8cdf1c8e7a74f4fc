use Rattle.std.proofs.Common.{◌∙◌, sym, ap, arith}
use Rattle.iso_dialect.specs.declared.coding.Page.{Page}
use Rattle.iso_dialect.specs.declared.coding.Page.TheVariants.{Cp037, Cp1047}
use Rattle.iso_dialect.specs.Pages.{char_in, or_zero}
use Rattle.iso_dialect.proofs.PageChars.{char_row}
use Rattle.iso_dialect.proofs.page.char_or_zero.Goals as goal

pub returns-in-Cp037 : goal.returns-in-Cp037
returns-in-Cp037 c = c.row_037.ensures ∙ char_row Cp037 _ c.args.code (omega arith) c.is_037.ensures
    ∙ ap (λ (p : Page). or_zero (char_in p c.args.code)) (sym c.in-Cp037.is)

pub returns-in-Cp1047 : goal.returns-in-Cp1047
returns-in-Cp1047 c = c.row_1047.ensures ∙ char_row Cp1047 _ c.args.code (omega arith) c.is_1047.ensures
    ∙ ap (λ (p : Page). or_zero (char_in p c.args.code)) (sym c.in-Cp1047.is)
