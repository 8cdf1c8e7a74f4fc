use Rattle.std.proofs.Common.{string_bytes}
use Rattle.sw_wire.proofs.States.{opening_is}
use Rattle.sw_wire.proofs.state.opening_text.Goals as goal

pub returns : goal.returns
returns c = opening_is string_bytes c.format-2.result c.args.number (string_bytes c.in_ok-cause.cause) c.if-number-eq0.false
    c.format-2.ensures.ok
