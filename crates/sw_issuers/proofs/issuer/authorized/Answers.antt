use Rattle.sw_parts.proofs.FieldLengths.{length-4}
use Rattle.sw_issuers.proofs.issuer.authorized.Goals as goal

pub last_two-ending-requires : goal.last_two-ending-requires
last_two-ending-requires c = length-4 _ c.in-Some.ensures.fits
