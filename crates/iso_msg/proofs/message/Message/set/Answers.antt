use Rattle.std.proofs.Common.{◌≡◌, ◌∙◌, sym, subst, None, List, ℕ}
use Rattle.iso_msg.specs.Values.{refusal}
use Rattle.iso_msg.proofs.FieldLists.{put_keeps, taken_above, none_from}
use Rattle.iso_msg.proofs.message.Message.set.Goals as goal

pub invariant_of-self : goal.invariant_of-self
invariant_of-self c =
    let e : refusal c.args.number c.args.value.now ≡ None = sym c.refused.ensures ∙ none_from c.refused.result c.in_default.not-Some in
    let t = subst (λ (v : List ℕ). refusal c.args.number v ≡ None) (sym c.in_ok-value.ensures.items) e in (
      c.self.invariant.0,
      put_keeps c.put.result c.self.inside.fields.items c.put.new.fields.items c.args.number c.in_ok-value.value.items c.put.ensures.ok
          c.put.ensures.err (taken_above c.args.number c.args.value.now e) t c.self.invariant.1,
    )
