use Rattle.std.proofs.Common.{ap, sym, option_map, ◌∙◌, Some, List, ℕ}
use Rattle.sw_context.proofs.Entries.{find-seen}
use Rattle.sw_context.specs.Pairs.{find}
use Rattle.sw_context.proofs.context.Context.get.Goals as goal

pub returns-in-Some : goal.returns-in-Some
returns-in-Some c =
    ap (λ (v : List ℕ). Some v) c.as_slice.ensures.value
    ∙ ap (option_map (λ v. v.items)) c.in-Some.ensures.value
    ∙ sym (find-seen c.args.name.now c.self.inside.entries.entries)
    ∙ ap (find c.args.name.now) c.self.view_is

pub returns-in-None : goal.returns-in-None
returns-in-None c =
    ap (option_map (λ v. v.items)) c.in-None.ensures.value
    ∙ sym (find-seen c.args.name.now c.self.inside.entries.entries)
    ∙ ap (find c.args.name.now) c.self.view_is
