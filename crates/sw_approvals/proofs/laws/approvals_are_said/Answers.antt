use Rattle.sw_approvals.proofs.Chains.{approvals}
use Rattle.sw_approvals.proofs.laws.approvals_are_said.Goals as goal

pub returns : goal.returns
returns g c = λ way x calls aborting z m sound is room goes approved.
    let L = g.L.Link in
    let M = g.M.Memory in
    approvals L.sends L.receives L.starves M.refused way x calls aborting z m sound is room goes approved
