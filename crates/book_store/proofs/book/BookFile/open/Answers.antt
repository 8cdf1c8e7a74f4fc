use Rattle.std.proofs.Common.{◌∙◌, sym, ap, subst, rules, arith, inl, inr}
use Rattle.sqlite.specs.Effect.{Database}
use Rattle.sqlite.specs.Held.{state}
use Rattle.sqlite.specs.State.{HasCleanDisk}
use Rattle.sqlite_catalog.specs.Listing.{IsSound}
use Rattle.sqlite_schema.specs.declared.schema.Schema.{Schema}
use Rattle.sqlite_trees.specs.Tree.{Trees}
use Rattle.store_base.specs.Making.{no_schema}
use Rattle.store_base.proofs.RestLemmas.{read_committed, rest_ready}
use Rattle.book_store.specs.Kept.{new_tables}
use Rattle.book_store.specs.Schema.{book_schema}
use Rattle.book_store.proofs.KeptLemmas.{new_is, opens_again, opens_book, opens_empty, opens_kept}
use Rattle.book_store.proofs.book.BookFile.open.Goals as goal

-- a book, whose salt is read

pub invariant_of-result : goal.invariant_of-result
invariant_of-result g c = record {
  autocommit = c.known_salt.ensures.mode c.in-Ok.ensures.fresh;
  ready = λ _ clean.
      let early : HasCleanDisk (state g.S.Store c.in-Ok.conn) = omega (arith, c.known_salt.ensures.survives.clean) in
      let ready = rest_ready book_schema (state g.S.Store c.in-Ok.conn) (c.in-Ok.ensures.rests early)
      (sym c.schema.ensures.value ∙ c.is_book.ensures c.if-is_book.true) in
      read_committed book_schema (state g.S.Store c.in-Ok.conn) (state g.S.Store c.known_salt.new.conn) (c.in-Ok-Some.ensures.same clean ready.now) ready;
  salted = λ _ clean.
      let early : HasCleanDisk (state g.S.Store c.in-Ok.conn) = omega (arith, c.known_salt.ensures.survives.clean) in
      let ready = rest_ready book_schema (state g.S.Store c.in-Ok.conn) (c.in-Ok.ensures.rests early)
      (sym c.schema.ensures.value ∙ c.is_book.ensures c.if-is_book.true) in
      ap (λ (d : Database). d.trees 0) (c.in-Ok-Some.ensures.same clean ready.now).0.now_is
      ∙ (rw c.in-Ok-Some.field-0-is at (c.in-Ok-Some.ensures.salt clean ready.now));
}

pub returns-in-Ok-Some-clause-kept : goal.returns-in-Ok-Some-clause-kept
returns-in-Ok-Some-clause-kept g c clean salt t left =
    let early : HasCleanDisk (state g.S.Store c.in-Ok.conn) = omega (arith, c.known_salt.ensures.survives.clean) in
    let ready = rest_ready book_schema (state g.S.Store c.in-Ok.conn) (c.in-Ok.ensures.rests early)
    (sym c.schema.ensures.value ∙ c.is_book.ensures c.if-is_book.true) in
    let after = read_committed book_schema (state g.S.Store c.in-Ok.conn) (state g.S.Store c.known_salt.new.conn) (c.in-Ok-Some.ensures.same clean ready.now)
    ready in
    let new = state g.S.Store c.known_salt.new.conn in
    opens_kept salt new.now new.committed left.0 t after.now after.committed (g.met.S.Store.settled c.known_salt.new.conn.store left.0 after.is_open left.1)
    left.2

-- an empty database

pub returns-in-Ok-make_book-clause-kept : goal.returns-in-Ok-make_book-clause-kept
returns-in-Ok-make_book-clause-kept g c clean salt t left =
    let made = c.in-Ok-make_book.ensures.made clean (sym c.schema-2.ensures.value ∙ c.is_empty.ensures (search rules)) in
    let new = state g.S.Store c.make_book.new.conn in
    opens_kept salt new.now new.committed left.0 t made.all.now made.all.committed
    (g.met.S.Store.settled c.make_book.new.conn.store left.0 made.all.is_open left.1) left.2

-- what a refusal leaves is opened as it would have been

pub returns-in-Err-clause-again : goal.returns-in-Err-clause-again
returns-in-Err-clause-again g c clean fine t u is left =
    opens_again c.args.salt.now _ _ t u (g.met.S.Store.settled c.args.conn.store left.0 fine (c.in-Err.ensures.left left.0 left.1)) is left.2

pub returns-in-Ok-None-clause-again : goal.returns-in-Ok-None-clause-again
returns-in-Ok-None-clause-again g c clean fine t u is left =
    let early : HasCleanDisk (state g.S.Store c.in-Ok.conn) = omega (arith, c.known_salt.ensures.survives.clean) in
    let ready = rest_ready book_schema (state g.S.Store c.in-Ok.conn) (c.in-Ok.ensures.rests early)
    (sym c.schema.ensures.value ∙ c.is_book.ensures c.if-is_book.true) in
    elim (c.known_salt.ensures.survives.crash clean left.0 left.1) [
      | inl was ↦ opens_again c.args.salt.now _ _ t u (g.met.S.Store.settled c.args.conn.store left.0 fine (c.in-Ok.ensures.same early left.0 was)) is left.2
      | inr never ↦ absurd (never ready.now)
    ]

pub returns-in-Err-known_salt-clause-again : goal.returns-in-Err-known_salt-clause-again
returns-in-Err-known_salt-clause-again g c clean fine t u is left =
    let early : HasCleanDisk (state g.S.Store c.in-Ok.conn) = omega (arith, c.known_salt.ensures.survives.clean) in
    let ready = rest_ready book_schema (state g.S.Store c.in-Ok.conn) (c.in-Ok.ensures.rests early)
    (sym c.schema.ensures.value ∙ c.is_book.ensures c.if-is_book.true) in
    elim (c.known_salt.ensures.survives.crash clean left.0 left.1) [
      | inl was ↦ opens_again c.args.salt.now _ _ t u (g.met.S.Store.settled c.args.conn.store left.0 fine (c.in-Ok.ensures.same early left.0 was)) is left.2
      | inr never ↦ absurd (never ready.now)
    ]

pub returns-then-not-is_empty-clause-again : goal.returns-then-not-is_empty-clause-again
returns-then-not-is_empty-clause-again g c clean fine t u is left =
    opens_again c.args.salt.now _ _ t u (g.met.S.Store.settled c.args.conn.store left.0 fine (c.in-Ok.ensures.same clean left.0 left.1)) is left.2

pub returns-in-Err-make_book-clause-again : goal.returns-in-Err-make_book-clause-again
returns-in-Err-make_book-clause-again g c clean fine t u is left =
    let early : HasCleanDisk (state g.S.Store c.in-Ok.conn) = omega (arith, c.make_book.ensures.crash.clean) in
    let rest = c.in-Ok.ensures.rests early in
    let was = c.in-Ok.ensures.kept early in
    let schema = sym c.schema-2.ensures.value ∙ c.is_empty.ensures (search rules) in
    let trees = ap (λ (d : Database). d.trees) rest.committed ∙ was.0 in
    let none : IsSound no_schema (state g.S.Store c.args.conn).committed.trees =
    subst (λ (t : Trees). IsSound no_schema t) trees (subst (λ (s : Schema). IsSound s (state g.S.Store c.in-Ok.conn).now.trees) schema rest.sound) in
    elim (c.make_book.ensures.crash.crash clean left.0 left.1) [
      | inl was ↦ opens_again c.args.salt.now _ _ t u (g.met.S.Store.settled c.args.conn.store left.0 fine (c.in-Ok.ensures.same early left.0 was)) is left.2
      | inr made ↦ (let there = made schema in
          opens_book c.args.salt.now left.0 u there.0 left.2 ∙ new_is c.as_slice.result.now left.0 there.1 ∙ ap new_tables c.as_slice.ensures ∙ sym
          (opens_empty c.args.salt.now _ t none is))
    ]
