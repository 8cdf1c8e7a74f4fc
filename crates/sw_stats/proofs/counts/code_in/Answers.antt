use Rattle.sw_stats.proofs.Codes.{length-39}
use Rattle.sw_stats.proofs.counts.code_in.Goals as goal

pub unreachable-requires : goal.unreachable-requires
unreachable-requires c =
    c.in-Err-try_from.ensures.1 (length-39 c.in-Some-get.code.now c.in-Some-get.ensures.fits)
