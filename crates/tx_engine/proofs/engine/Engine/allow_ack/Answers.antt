use Rattle.std.proofs.Common.{◌≡◌, ◌∙◌, sym, subst, Option, Some, None, true}
use Rattle.std.specs.Prelude.{MatchResult}
use Rattle.tx_engine.specs.declared.error.EngineError.{EngineError}
use Rattle.tx_engine.specs.contracts.engine.Engine.{the_view}
use Rattle.tx_engine.proofs.Acks.{ack_tested}
use Rattle.tx_engine.proofs.engine.Engine.allow_ack.Goals as goal

pub returns : goal.returns
returns c =
    let is = ack_tested (the_view c.self.inside) _ _ _ c.args.place true c.self.invariant c.self.view_is
    (sym c.contains_key.ensures ∙ c.if-not-contains_key.false) in
    subst (λ (o : Option EngineError). MatchResult c.allow_entry.result (λ _. o ≡ None) (λ e. o ≡ Some e)) (sym is) c.allow_entry.ensures
