use Rattle.std.proofs.Common.{refl}
use Rattle.iso_dialect.specs.Pages.{codes_1047}
use Rattle.iso_dialect.proofs.page.is_codes_1047.Goals as goal

pub returns : goal.returns
unfolding codes_1047
returns c = refl
