use Rattle.std.proofs.Common.{◌≡◌, ◌∷◌, ◌++◌, [], ap, inr, refl, subst, ◌∙◌, List, ℕ, OnErr}
use Rattle.std.specs.Prelude.{Result, Ok, Err}
use Rattle.cli_io.specs.Written.{AppendsBeginning}
use Rattle.run_responses.proofs.sink.write_response.Goals as goal

on_err : {A E : Type 0} (r : Result A E) (P : Type 0) → P → OnErr r P
on_err (Ok x) P h = tt
on_err (Err e) P h = h

pub returns-in_err-write_out-clause-some : goal.returns-in_err-write_out-clause-some
returns-in_err-write_out-clause-some g c =
    let (framed, are, text) = c.in_ok-add_frame.ensures in
    let bytes : c.deref.result.now ≡ framed = ◌∙◌ {A = List ℕ} (◌∙◌ {A = List ℕ} c.deref.ensures.value text) (ap (λ l. l ++ framed) c.new-text.ensures.items) in
    let begins = subst (AppendsBeginning (g.O.Write.contents c.args.out.now) (g.O.Write.contents c.write_out.new.out)) bytes c.write_out.ensures.beginning in
    on_err c.from_residual-in_err-write_out.result _ ((c.args.id, c.args.context.now) ∷ [], framed, inr refl, are, begins)
