use Rattle.std.proofs.Common.{◌∙◌}
use Rattle.flow_asm.proofs.NumberMap.{no_number}
use Rattle.flow_asm.proofs.numbering.number_of.Goals as goal

pub returns-in-None : goal.returns-in-None
returns-in-None c = no_number c.args.parts.now c.args.name.now (c.in-None.ensures.value ∙ c.requires c.args.name.now)
