use Rattle.std.proofs.Common.{◌≡◌, ◌∙◌, ◌∷◌, [], ap, inl, refl, sym, true, OnErr, OnOk}
use Rattle.std.specs.Prelude.{Result, Ok, Err}
use Rattle.std.specs.Ordering.{nat_cmp}
use Rattle.std.specs.Result.{is_err, is_ok}
use Rattle.std.specs.BTreeMap.{insert_entry}
use Rattle.run_responses.specs.Giving.{giving_of}
use Rattle.run_responses.proofs.Giving.{begins_none, gives_held, gives_part, gives_then}
use Rattle.run_responses.proofs.sink.Responses+O+T.hold.Goals as goal

at_err : {A E : Type 0} (r : Result A E) (P : Type 0) → is_err r ≡ true → OnErr r P → P
at_err (Ok x) P is h = absurd (cc)
at_err (Err e) P is h = h

at_ok : {A E : Type 0} (r : Result A E) (P : Type 0) → is_ok r ≡ true → OnOk r P → P
at_ok (Ok x) P is h = h
at_ok (Err e) P is h = absurd (cc)

pub returns-in_default-clause-gives : goal.returns-in_default-clause-gives
returns-in_default-clause-gives g c =
    gives_part (giving_of g.O.Write.contents c.args.self.now) c.args.id c.args.context.now [] [] _ (inl refl) refl
    (begins_none (g.O.Write.contents c.args.self.now.out.now)) refl refl refl

pub returns-then-is_err-clause-gives : goal.returns-then-is_err-clause-gives
returns-then-is_err-clause-gives g c =
    let same = at_err c.insert.result _ (sym c.is_err.ensures.value ∙ c.if-is_err.true) c.insert.ensures.err in
    gives_part (giving_of g.O.Write.contents c.args.self.now) c.args.id c.args.context.now [] [] _ (inl refl) refl
    (begins_none (g.O.Write.contents c.args.self.now.out.now)) refl same refl

pub returns-clause-gives : goal.returns-clause-gives
returns-clause-gives g c =
    let before = giving_of g.O.Write.contents c.args.self.now in
    let held = record before { held = c.insert.new.self.entries } in
    let now = giving_of g.O.Write.contents c.release.new.self in
    let put = at_ok c.insert.result _ c.if-is_err.ensures.negation c.insert.ensures.entries in
    let copied : insert_entry nat_cmp c.args.self.now.kept.held.entries c.args.id c.in-Ok.copy
    ≡ insert_entry nat_cmp c.args.self.now.kept.held.entries c.args.id c.args.context.now =
    ap (insert_entry nat_cmp c.args.self.now.kept.held.entries c.args.id) c.in-Ok.ensures in
    let one = gives_held before c.args.id c.args.context.now held (put ∙ copied) refl refl refl c.requires.order in
    gives_then before ((c.args.id, c.args.context.now) ∷ []) held [] now one c.requires.open c.release.ensures.gives
