use Rattle.std.proofs.Common.{sym, subst, ◌∙◌}
use Rattle.sw_context.proofs.Entries.{seen-clone}
use Rattle.sw_context.specs.Pairs.{Pairs, IsContext}
use Rattle.sw_context.proofs.context.Context.copy.Goals as goal

pub invariant_of-result : goal.invariant_of-result
invariant_of-result c =
    subst (λ (es : Pairs). IsContext es) (sym (seen-clone _ (λ a b h. h) c.self.inside.entries.entries c.in_ok-clone.field-0.entries
    c.in_ok-clone.ensures.cases)) c.self.invariant

pub returns : goal.returns
returns c = seen-clone _ (λ a b h. h) c.self.inside.entries.entries c.in_ok-clone.field-0.entries c.in_ok-clone.ensures.cases ∙ c.self.view_is
