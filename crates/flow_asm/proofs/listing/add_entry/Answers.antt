use Rattle.std.proofs.Common.{◌∙◌, ◌++◌, ap, sym}
use Rattle.std.proofs.lemmas.List.{append-nil}
use Rattle.std.proofs.lemmas.Option.{slice_get_past}
use Rattle.flow_asm.specs.Listing.{entry_of}
use Rattle.flow_asm.proofs.listing.add_entry.Goals as goal

pub returns-in_default-clause-ok : goal.returns-in_default-clause-ok
returns-in_default-clause-ok c =
    sym (ap (λ o. c.args.entries.now.items ++ entry_of o) (slice_get_past c.args.parts.now c.args.number c.in_default.ensures.lookup.3)
    ∙ append-nil c.args.entries.now.items)
