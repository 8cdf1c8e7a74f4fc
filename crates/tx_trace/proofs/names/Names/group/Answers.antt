use Rattle.std.proofs.Common.{◌∙◌}
use Rattle.tx_trace.proofs.Tables.{start_here, start_past}
use Rattle.tx_trace.proofs.names.Names.group.Goals as goal

pub returns-in-Some : goal.returns-in-Some
returns-in-Some c = c.as_str.ensures ∙ start_here c.args.self.now.code.now c.groups.result.now c.args.number c.in-Some.group.now _ c.groups.ensures
    c.in-Some.ensures.lookup.3.0 c.in-Some.ensures.lookup.1

pub returns-in-None : goal.returns-in-None
returns-in-None c = start_past c.args.self.now.code.now c.groups.result.now c.args.number c.groups.ensures c.in-None.ensures.lookup.3
