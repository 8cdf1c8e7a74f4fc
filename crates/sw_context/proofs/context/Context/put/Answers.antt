use Rattle.std.proofs.Common.{◌≡◌, None, map, string_bytes, sym, ap, subst, ◌∙◌}
use Rattle.sw_context.proofs.Entries.{seen, seen-insert}
use Rattle.sw_context.proofs.PairLaws.{IsContext-with_value, refused}
use Rattle.sw_context.specs.Pairs.{Pairs, with_value, refusal, IsContext}
use Rattle.sw_context.proofs.context.Context.put.Goals as goal

pub invariant_of-self-2 : goal.invariant_of-self-2
invariant_of-self-2 c =
    let old = map seen c.self.inside.entries.entries in
    let name : string_bytes c.in_ok-name.name ≡ c.args.name.now = c.in_ok-name.ensures.ok in
    let value : c.in_ok-value.value.items ≡ c.args.value.now = c.in_ok-value.ensures.items in
    let taken : refusal old (string_bytes c.in_ok-name.name) c.in_ok-value.value.items ≡ None =
    (λ i. refusal (c.self.view_is i) (name i) (value i)) ∙ sym c.in_default.ensures in
    subst (λ (es : Pairs). IsContext es)
    (sym (ap (map seen) c.in_ok-insert.ensures.entries ∙ seen-insert c.self.inside.entries.entries c.in_ok-name.name c.in_ok-value.value))
    (IsContext-with_value old (string_bytes c.in_ok-name.name) c.in_ok-value.value.items c.self.invariant taken)

pub returns-clause-put : goal.returns-clause-put
returns-clause-put c =
    let name : string_bytes c.in_ok-name.name ≡ c.args.name.now = c.in_ok-name.ensures.ok in
    let value : c.in_ok-value.value.items ≡ c.args.value.now = c.in_ok-value.ensures.items in
    ap (map seen) c.in_ok-insert.ensures.entries
    ∙ seen-insert c.self.inside.entries.entries c.in_ok-name.name c.in_ok-value.value
    ∙ (λ i. with_value (c.self.view_is i) (name i) (value i))

pub returns-in-Some-clause-refused : goal.returns-in-Some-clause-refused
returns-in-Some-clause-refused c = refused c.args.self.now c.args.name.now c.args.value.now c.in-Some.error (sym c.in-Some.ensures)
