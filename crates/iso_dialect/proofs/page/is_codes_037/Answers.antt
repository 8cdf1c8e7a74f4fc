use Rattle.std.proofs.Common.{refl}
use Rattle.iso_dialect.specs.Pages.{codes_037}
use Rattle.iso_dialect.proofs.page.is_codes_037.Goals as goal

pub returns : goal.returns
unfolding codes_037
returns c = refl
