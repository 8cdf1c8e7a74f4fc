use Rattle.std.proofs.Common.{◌++◌, ℕ, subst}
use Rattle.dialect_frame.specs.Feeds.{IsLeadFor}
use Rattle.dialect_frame.proofs.Leads.{lead-for}
use Rattle.dialect_frame.proofs.lead.lead_at.Goals as goal

pub returns-in-Number : goal.returns-in-Number
returns-in-Number c =
    lead-for c.args.form.now (c.args.held.now ++ c.args.piece.now) c.in-Number.number c.lead_for.result c.in-Number.ensures.0 c.in-Number.ensures.1
    (subst (λ (n : ℕ). IsLeadFor n c.args.form.now.most c.in-Number.number c.lead_for.result) c.beside.ensures.result c.lead_for.ensures)
