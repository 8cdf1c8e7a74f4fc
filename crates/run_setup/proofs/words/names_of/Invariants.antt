use Rattle.std.proofs.Common.{◌≡◌, map, take}
use Rattle.run_setup.proofs.words.names_of.Given as goal

abbrev pub invariant-loop-link : goal.invariant-loop-link
invariant-loop-link l = l.names.items ≡ map (λ k. k.name) (take l.link-index l.links)
