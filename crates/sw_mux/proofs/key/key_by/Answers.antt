use Rattle.std.proofs.Common.{◌≤◌, length, arith}
use Rattle.sw_mux.proofs.KeyPlaces.{key_is}
use Rattle.sw_mux.proofs.key.key_by.Goals as goal

pub returns : goal.returns
returns c =
    let t = c.trimmed-terminal.result.now in
    let short : length t ≤ 8 = omega (arith, c.trimmed-terminal.ensures.short, c.requires.terminal) in
    key_is c.args.mti.now c.args.terminal.now c.args.stan.now t c.request_digit.result c.copy_from_slice.new.self c.copy_from_slice-2.new.self
    c.requires.mti short c.trimmed-terminal.ensures.value c.request_digit.ensures c.copy_from_slice.ensures.after c.copy_from_slice-2.ensures.after
