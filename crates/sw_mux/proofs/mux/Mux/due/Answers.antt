use Rattle.std.proofs.Common.{◌≡◌, List, subst, ap, ◌∙◌}
use Rattle.std.specs.Prelude.{IfOk}
use Rattle.sw_mux.specs.declared.key.Key.{Key}
use Rattle.sw_mux.specs.Waiting.{WaitingKeys, without_all, due, later}
use Rattle.sw_mux.proofs.Due.{due_out}
use Rattle.sw_mux.proofs.Times.{due_found}
use Rattle.sw_mux.proofs.mux.Mux.due.Goals as goal

pub returns-in_err-by_number-clause-others : goal.returns-in_err-by_number-clause-others
returns-in_err-by_number-clause-others c =
    subst (λ (z : WaitingKeys). without_all (due c.args.tick z) z ≡ later c.args.tick z) c.self.view_is
    (due_out c.args.tick c.self.inside.requests.entries c.self.invariant.own)

pub returns-clause-others : goal.returns-clause-others
returns-clause-others c =
    subst (λ (z : WaitingKeys). without_all (due c.args.tick z) z ≡ later c.args.tick z) c.self.view_is
    (due_out c.args.tick c.self.inside.requests.entries c.self.invariant.own)

pub returns-clause-due : goal.returns-clause-due
returns-clause-due c =
    let es = c.self.inside.requests.entries in
    let tick = c.args.tick in
    let found = c.in_ok-by_number.by_number in
    subst (λ (z : List Key). IfOk c.keys_of.result (λ ks. ks.items ≡ z))
    (due_found tick c.self.inside.next es c.self.inside.deadlines found c.self.invariant.rising c.self.invariant.small c.self.invariant.timed
    c.due_by_number.ensures.until c.in_ok-by_number.ensures.made
    ∙ ap (due tick) c.self.view_is)
    c.keys_of.ensures
