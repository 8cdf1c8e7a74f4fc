use Rattle.std.proofs.Common.{refl, sym, ◌∙◌}
use Rattle.sw_mux.proofs.Refusing.{answered}
use Rattle.sw_mux.proofs.mux.Mux.response.Goals as goal

pub returns-then-not-take : goal.returns-then-not-take
returns-then-not-take c = (
  refl,
  answered c.args.message c.in-Some.key.bytes c.args.self.now c.in-Some.ensures ∙ sym c.take.ensures.waited ∙ c.if-not-take.true,
  c.take.ensures.kept c.if-not-take.true,
)
