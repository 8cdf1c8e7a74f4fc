use Rattle.std.proofs.Common.{append_assoc, string_bytes}
use Rattle.sw_wire.proofs.States.{line_is}
use Rattle.sw_wire.proofs.state.HostState.line.Goals as goal

pub returns : goal.returns
returns c = line_is string_bytes c.format.result c.args.name.now c.args.times.now c.args.self (string_bytes c.in_ok-text.text) c.in_ok-text.ensures
    (simp append_assoc c.format.ensures.ok)
