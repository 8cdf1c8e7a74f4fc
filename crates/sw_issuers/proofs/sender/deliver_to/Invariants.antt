use Rattle.std.proofs.Common.{◌≡◌, ◌-◌, ◌≤◌, length}
use Rattle.sw_issuers.proofs.Links.{NoneBefore}
use Rattle.sw_issuers.proofs.sender.deliver_to.Given as goal

abbrev pub invariant-loop-index : goal.invariant-loop-index
invariant-loop-index g l =
    let L = g.L.Link in
    record {
      none : NoneBefore l.group l.index l.links.items;
      same : l.links ≡ l.fn.links;
      bound : l.index ≤ length l.links.items;
    }

abbrev pub decreases-loop-index : goal.decreases-loop-index
decreases-loop-index g l = length l.links.items - l.index
