use Rattle.std.proofs.Common.{Err, ◌≡◌, ◌∙◌, sym, ap, subst, rules, arith, inl, inr}
use Rattle.sqlite.specs.Effect.{Database}
use Rattle.sqlite.specs.Held.{state}
use Rattle.sqlite.specs.State.{HasCleanDisk}
use Rattle.sqlite_catalog.specs.Listing.{IsSound}
use Rattle.sqlite_schema.specs.declared.schema.Schema.{Schema}
use Rattle.sqlite_trees.specs.Tree.{Trees}
use Rattle.journal_rows.specs.Faults.{IsFaultAs}
use Rattle.journal_rows.specs.Tables.{first_tables_of, tables_of}
use Rattle.journal_rows.specs.Convert.{converted}
use Rattle.journal_rows.specs.declared.layout.Layout.TheVariants.{First}
use Rattle.journal_tables.specs.Parts.{AreParts}
use Rattle.journal_tables.specs.Schema.{first_schema, journal_schema}
use Rattle.journal_store.specs.Making.{no_schema}
use Rattle.journal_tables.specs.declared.parts.Parts.{Parts}
use Rattle.journal_store.specs.Converted.{NamesFault}
use Rattle.journal_store.proofs.Opens.{opens_again, opens_empty, opens_first, opens_kept, opens_sound}
use Rattle.journal_store.proofs.ViewsKept.{view_kept, view_left, view_same}
use Rattle.journal_store.proofs.OpenLemmas.{fault_bad, fault_names, store_bad, store_names}
use Rattle.journal_store.proofs.RestLemmas.{read_committed, rest_first, rest_ready}
use Rattle.journal_store.proofs.journal.Journal.open.Goals as goal

-- a journal of layout 2, whose parts are read

pub invariant_of-result : goal.invariant_of-result
invariant_of-result g c = record {
  autocommit = c.known_parts.ensures.mode c.in-Ok.ensures.fresh;
  ready = λ _ clean.
      let early : HasCleanDisk (state g.S.Store c.in-Ok.conn) = omega (arith, c.known_parts.ensures.survives.clean) in
      let ready = rest_ready (state g.S.Store c.in-Ok.conn) (c.in-Ok.ensures.rests early)
      (sym c.schema.ensures.value ∙ c.is_journal.ensures c.if-is_journal.true) in
      read_committed (state g.S.Store c.in-Ok.conn) (state g.S.Store c.known_parts.new.conn) (c.in-Ok-known_parts.ensures.same clean ready.now) ready;
  stands = λ _ _. tt;
  named = λ _ clean knows.
      let early : HasCleanDisk (state g.S.Store c.in-Ok.conn) = omega (arith, c.known_parts.ensures.survives.clean) in
      let ready = rest_ready (state g.S.Store c.in-Ok.conn) (c.in-Ok.ensures.rests early)
      (sym c.schema.ensures.value ∙ c.is_journal.ensures c.if-is_journal.true) in
      subst (λ (d : Database). AreParts c.in-Ok-known_parts.parts (tables_of d.trees).part)
      (sym (c.in-Ok-known_parts.ensures.same clean ready.now).0.now_is) (c.in-Ok-known_parts.ensures.knows clean ready.now knows);
}

pub returns-in-Ok-known_parts-clause-kept : goal.returns-in-Ok-known_parts-clause-kept
returns-in-Ok-known_parts-clause-kept g c clean t left =
    let early : HasCleanDisk (state g.S.Store c.in-Ok.conn) = omega (arith, c.known_parts.ensures.survives.clean) in
    let ready = rest_ready (state g.S.Store c.in-Ok.conn) (c.in-Ok.ensures.rests early)
    (sym c.schema.ensures.value ∙ c.is_journal.ensures c.if-is_journal.true) in
    let after = read_committed (state g.S.Store c.in-Ok.conn) (state g.S.Store c.known_parts.new.conn)
    (c.in-Ok-known_parts.ensures.same clean ready.now) ready in
    let new = state g.S.Store c.known_parts.new.conn in
    opens_kept new.now new.committed left.0 t after.now after.committed (g.met.S.Store.settled c.known_parts.new.conn.store left.0 after.is_open left.1) left.2

pub returns-in-Ok-known_parts-clause-clean : goal.returns-in-Ok-known_parts-clause-clean
returns-in-Ok-known_parts-clause-clean g c = omega (arith, c.in-Ok.ensures.clean, c.known_parts.ensures.survives.clean)

pub returns-in-Ok-known_parts-clause-opened : goal.returns-in-Ok-known_parts-clause-opened
returns-in-Ok-known_parts-clause-opened g c clean =
    let early : HasCleanDisk (state g.S.Store c.in-Ok.conn) = omega (arith, c.known_parts.ensures.survives.clean) in
    let rest = c.in-Ok.ensures.rests early in
    let was = c.in-Ok.ensures.kept early in
    let schema = sym c.schema.ensures.value ∙ c.is_journal.ensures c.if-is_journal.true in
    let ready = rest_ready (state g.S.Store c.in-Ok.conn) rest schema in
    let trees = ap (λ (d : Database). d.trees) rest.committed ∙ was.0 in
    let same = ap (λ (d : Database). d.trees) (c.in-Ok-known_parts.ensures.same clean ready.now).0.now_is in (
      was.1,
      inl (
        subst (λ (t : Trees). IsSound journal_schema t) trees (subst (λ (s : Schema). IsSound s (state g.S.Store c.in-Ok.conn).now.trees) schema
            rest.sound),
        ap tables_of (same ∙ trees),
      ),
    )

pub returns-in-Err-known_parts-clause-left : goal.returns-in-Err-known_parts-clause-left
returns-in-Err-known_parts-clause-left g c clean db left =
    let early : HasCleanDisk (state g.S.Store c.in-Ok.conn) = omega (arith, c.known_parts.ensures.survives.clean) in
    let ready = rest_ready (state g.S.Store c.in-Ok.conn) (c.in-Ok.ensures.rests early)
    (sym c.schema.ensures.value ∙ c.is_journal.ensures c.if-is_journal.true) in
    elim (c.known_parts.ensures.survives.crash clean db left) [ inl was ↦ inl (c.in-Ok.ensures.same early db was) | inr never ↦ absurd (never ready.now) ]

-- a journal of layout 1, which is converted

pub invariant_of-result-in-Ok-convert_first : goal.invariant_of-result-in-Ok-convert_first
invariant_of-result-in-Ok-convert_first g c = record {
  autocommit = c.convert_first.ensures.autocommit;
  ready = λ _ clean.
      let early : HasCleanDisk (state g.S.Store c.in-Ok.conn) = omega (arith, c.convert_first.ensures.crash.clean) in
      let first = rest_first (state g.S.Store c.in-Ok.conn) (c.in-Ok.ensures.rests early)
      (sym c.schema-2.ensures.value ∙ c.is_first.ensures c.if-is_first.true) in
      let was = c.in-Ok-convert_first.ensures.converted clean first in
      record { is_open = was.is_open; now = was.now; committed = was.committed };
  stands = λ _ _. tt;
  named = λ _ clean _.
      let early : HasCleanDisk (state g.S.Store c.in-Ok.conn) = omega (arith, c.convert_first.ensures.crash.clean) in
      let first = rest_first (state g.S.Store c.in-Ok.conn) (c.in-Ok.ensures.rests early)
      (sym c.schema-2.ensures.value ∙ c.is_first.ensures c.if-is_first.true) in
      (c.in-Ok-convert_first.ensures.converted clean first).parts_are;
}

pub returns-in-Ok-convert_first-clause-kept : goal.returns-in-Ok-convert_first-clause-kept
returns-in-Ok-convert_first-clause-kept g c clean t left =
    let early : HasCleanDisk (state g.S.Store c.in-Ok.conn) = omega (arith, c.convert_first.ensures.crash.clean) in
    let first = rest_first (state g.S.Store c.in-Ok.conn) (c.in-Ok.ensures.rests early)
    (sym c.schema-2.ensures.value ∙ c.is_first.ensures c.if-is_first.true) in
    let was = c.in-Ok-convert_first.ensures.converted clean first in
    let new = state g.S.Store c.convert_first.new.conn in
    opens_kept new.now new.committed left.0 t was.now was.committed (g.met.S.Store.settled c.convert_first.new.conn.store left.0 was.is_open left.1) left.2

pub returns-in-Ok-convert_first-clause-clean : goal.returns-in-Ok-convert_first-clause-clean
returns-in-Ok-convert_first-clause-clean g c = omega (arith, c.in-Ok.ensures.clean, c.convert_first.ensures.crash.clean)

pub returns-in-Ok-convert_first-clause-opened : goal.returns-in-Ok-convert_first-clause-opened
returns-in-Ok-convert_first-clause-opened g c clean =
    let early : HasCleanDisk (state g.S.Store c.in-Ok.conn) = omega (arith, c.convert_first.ensures.crash.clean) in
    let rest = c.in-Ok.ensures.rests early in
    let was = c.in-Ok.ensures.kept early in
    let schema = sym c.schema-2.ensures.value ∙ c.is_first.ensures c.if-is_first.true in
    let all = c.in-Ok-convert_first.ensures.converted clean (rest_first (state g.S.Store c.in-Ok.conn) rest schema) in
    let trees = ap (λ (d : Database). d.trees) rest.committed ∙ was.0 in (
      was.1,
      inr (inl (
        subst (λ (t : Trees). IsSound first_schema t) trees (subst (λ (s : Schema). IsSound s (state g.S.Store c.in-Ok.conn).now.trees) schema
            rest.sound),
        subst (λ (t : Trees). IsFaultAs First (first_tables_of t) Rattle.std.proofs.Common.None) trees all.fine,
        all.tables ∙ ap (λ (t : Trees). converted (first_tables_of t)) trees,
      )),
    )

pub returns-in-Err-convert_first-clause-left : goal.returns-in-Err-convert_first-clause-left
returns-in-Err-convert_first-clause-left g c clean db left =
    let early : HasCleanDisk (state g.S.Store c.in-Ok.conn) = omega (arith, c.convert_first.ensures.crash.clean) in
    let rest = c.in-Ok.ensures.rests early in
    let was_kept = c.in-Ok.ensures.kept early in
    let first = rest_first (state g.S.Store c.in-Ok.conn) rest (sym c.schema-2.ensures.value ∙ c.is_first.ensures c.if-is_first.true) in
    let trees = ap (λ (d : Database). d.trees) rest.committed ∙ was_kept.0 in
    elim (c.convert_first.ensures.crash.crash clean db left) [
      | inl was ↦ inl (c.in-Ok.ensures.same early db was)
      | inr made ↦ inr (inr (
        subst (λ (t : Trees). IsFaultAs First (first_tables_of t) Rattle.std.proofs.Common.None) trees (made first).0,
        (made first).2 ∙ ap (λ (t : Trees). converted (first_tables_of t)) trees,
      ))
    ]

-- an empty database

pub returns-in-Ok-make_journal-clause-kept : goal.returns-in-Ok-make_journal-clause-kept
returns-in-Ok-make_journal-clause-kept g c clean t left =
    let made = c.in-Ok-make_journal.ensures.made clean (sym c.schema-3.ensures.value ∙ c.is_empty.ensures (search rules)) in
    let new = state g.S.Store c.make_journal.new.conn in
    opens_kept new.now new.committed left.0 t made.now made.committed (g.met.S.Store.settled c.make_journal.new.conn.store left.0 made.is_open left.1) left.2

pub returns-in-Err-clause-left : goal.returns-in-Err-clause-left
returns-in-Err-clause-left g c clean db left = inl (c.in-Err.ensures.left db left)

pub returns-then-not-is_empty-clause-left : goal.returns-then-not-is_empty-clause-left
returns-then-not-is_empty-clause-left g c clean db left = inl (c.in-Ok.ensures.same clean db left)

pub returns-in-Ok-make_journal-clause-clean : goal.returns-in-Ok-make_journal-clause-clean
returns-in-Ok-make_journal-clause-clean g c = omega (arith, c.in-Ok.ensures.clean, c.make_journal.ensures.crash.clean)

pub returns-in-Ok-make_journal-clause-opened : goal.returns-in-Ok-make_journal-clause-opened
returns-in-Ok-make_journal-clause-opened g c clean =
    let early : HasCleanDisk (state g.S.Store c.in-Ok.conn) = omega (arith, c.make_journal.ensures.crash.clean) in
    let rest = c.in-Ok.ensures.rests early in
    let was = c.in-Ok.ensures.kept early in
    let schema = sym c.schema-3.ensures.value ∙ c.is_empty.ensures (search rules) in
    let made = c.in-Ok-make_journal.ensures.made clean schema in
    let trees = ap (λ (d : Database). d.trees) rest.committed ∙ was.0 in (
      was.1,
      inr (inr (
        subst (λ (t : Trees). IsSound no_schema t) trees (subst (λ (s : Schema). IsSound s (state g.S.Store c.in-Ok.conn).now.trees) schema
            rest.sound),
        made.tables,
      )),
    )

pub returns-in-Err-make_journal-clause-left : goal.returns-in-Err-make_journal-clause-left
returns-in-Err-make_journal-clause-left g c clean db left =
    let early : HasCleanDisk (state g.S.Store c.in-Ok.conn) = omega (arith, c.make_journal.ensures.crash.clean) in
    let schema = sym c.schema-3.ensures.value ∙ c.is_empty.ensures (search rules) in
    elim (c.make_journal.ensures.crash.crash clean db left) [
      | inl was ↦ inl (c.in-Ok.ensures.same early db was)
      | inr made ↦ inr (inl (made schema).1)
    ]

-- the row that a refusal names

pub returns-in-Err-clause-names : goal.returns-in-Err-clause-names
returns-in-Err-clause-names g c clean = store_names (state g.S.Store c.args.conn).committed.trees c.cause_of.result c.cause_of.ensures

pub returns-in-Err-known_parts-clause-names : goal.returns-in-Err-known_parts-clause-names
returns-in-Err-known_parts-clause-names g c clean = store_names (state g.S.Store c.args.conn).committed.trees c.cause_of-in-Err-known_parts.result
    c.cause_of-in-Err-known_parts.ensures

pub returns-in-Err-make_journal-clause-names : goal.returns-in-Err-make_journal-clause-names
returns-in-Err-make_journal-clause-names g c clean = store_names (state g.S.Store c.args.conn).committed.trees c.cause_of-in-Err-make_journal.result
    c.cause_of-in-Err-make_journal.ensures

pub returns-in-Err-convert_first-clause-names : goal.returns-in-Err-convert_first-clause-names
returns-in-Err-convert_first-clause-names g c clean =
    let early : HasCleanDisk (state g.S.Store c.in-Ok.conn) = omega (arith, c.convert_first.ensures.crash.clean) in
    let rest = c.in-Ok.ensures.rests early in
    let was_kept = c.in-Ok.ensures.kept early in
    let schema = sym c.schema-2.ensures.value ∙ c.is_first.ensures c.if-is_first.true in
    let first = rest_first (state g.S.Store c.in-Ok.conn) rest schema in
    let trees = ap (λ (d : Database). d.trees) rest.committed ∙ was_kept.0 in
    let sound = subst (λ (t : Trees). IsSound first_schema t) trees (subst (λ (s : Schema). IsSound s (state g.S.Store c.in-Ok.conn).now.trees) schema
    rest.sound) in
    fault_names (state g.S.Store c.args.conn).committed.trees c.in-Err-convert_first.error sound
    (subst (λ (t : Trees). NamesFault {A = Parts} (first_tables_of t) (Err c.in-Err-convert_first.error)) trees
    (c.in-Err-convert_first.ensures.names clean first))

-- a database with a row at fault is left as it was

pub returns-in-Err-clause-unchanged : goal.returns-in-Err-clause-unchanged
returns-in-Err-clause-unchanged g c = store_bad _ c.cause_of.result c.cause_of.ensures

pub returns-in-Err-known_parts-clause-unchanged : goal.returns-in-Err-known_parts-clause-unchanged
returns-in-Err-known_parts-clause-unchanged g c = store_bad _ c.cause_of-in-Err-known_parts.result c.cause_of-in-Err-known_parts.ensures

pub returns-in-Err-make_journal-clause-unchanged : goal.returns-in-Err-make_journal-clause-unchanged
returns-in-Err-make_journal-clause-unchanged g c = store_bad _ c.cause_of-in-Err-make_journal.result c.cause_of-in-Err-make_journal.ensures

pub returns-in-Err-convert_first-clause-unchanged : goal.returns-in-Err-convert_first-clause-unchanged
returns-in-Err-convert_first-clause-unchanged g c =
    fault_bad _ (state g.S.Store c.in-Ok.conn) (state g.S.Store c.convert_first.new.conn) c.in-Err-convert_first.error c.in-Err-convert_first.ensures.read
    (λ reads clean db left.
    let early : HasCleanDisk (state g.S.Store c.in-Ok.conn) = omega (arith, c.convert_first.ensures.crash.clean) in
    let first = rest_first (state g.S.Store c.in-Ok.conn) (c.in-Ok.ensures.rests early)
    (sym c.schema-2.ensures.value ∙ c.is_first.ensures c.if-is_first.true) in
    elim (reads.crash clean db left) [ inl was ↦ c.in-Ok.ensures.same early db was | inr never ↦ absurd (never first) ])

-- what a refusal leaves is opened as this would have been

pub returns-in-Err-clause-again : goal.returns-in-Err-clause-again
returns-in-Err-clause-again g c clean fine t u is left = opens_again _ _ t u
    (g.met.S.Store.settled c.args.conn.store left.0 fine (c.in-Err.ensures.left left.0 left.1)) is left.2

pub returns-then-not-is_empty-clause-again : goal.returns-then-not-is_empty-clause-again
returns-then-not-is_empty-clause-again g c clean fine t u is left =
    opens_again _ _ t u (g.met.S.Store.settled c.args.conn.store left.0 fine (c.in-Ok.ensures.same clean left.0 left.1)) is left.2

pub returns-in-Err-known_parts-clause-again : goal.returns-in-Err-known_parts-clause-again
returns-in-Err-known_parts-clause-again g c clean fine t u is left =
    let early : HasCleanDisk (state g.S.Store c.in-Ok.conn) = omega (arith, c.known_parts.ensures.survives.clean) in
    let ready = rest_ready (state g.S.Store c.in-Ok.conn) (c.in-Ok.ensures.rests early)
    (sym c.schema.ensures.value ∙ c.is_journal.ensures c.if-is_journal.true) in
    elim (c.known_parts.ensures.survives.crash clean left.0 left.1) [
      | inl was ↦ opens_again _ _ t u (g.met.S.Store.settled c.args.conn.store left.0 fine (c.in-Ok.ensures.same early left.0 was)) is left.2
      | inr never ↦ absurd (never ready.now)
    ]

pub returns-in-Err-convert_first-clause-again : goal.returns-in-Err-convert_first-clause-again
returns-in-Err-convert_first-clause-again g c clean fine t u is left =
    let early : HasCleanDisk (state g.S.Store c.in-Ok.conn) = omega (arith, c.convert_first.ensures.crash.clean) in
    let rest = c.in-Ok.ensures.rests early in
    let was_kept = c.in-Ok.ensures.kept early in
    let schema = sym c.schema-2.ensures.value ∙ c.is_first.ensures c.if-is_first.true in
    let first = rest_first (state g.S.Store c.in-Ok.conn) rest schema in
    let trees = ap (λ (d : Database). d.trees) rest.committed ∙ was_kept.0 in
    let sound : IsSound first_schema (state g.S.Store c.args.conn).committed.trees =
    subst (λ (t : Trees). IsSound first_schema t) trees (subst (λ (s : Schema). IsSound s (state g.S.Store c.in-Ok.conn).now.trees) schema rest.sound) in
    elim (c.convert_first.ensures.crash.crash clean left.0 left.1) [
      | inl was ↦ opens_again _ _ t u (g.met.S.Store.settled c.args.conn.store left.0 fine (c.in-Ok.ensures.same early left.0 was)) is left.2
      | inr made ↦ (let there = made first in
          opens_sound left.0 u there.1 left.2 ∙ there.2 ∙ ap (λ (t : Trees). converted (first_tables_of t)) trees ∙ sym (opens_first _ t sound is))
    ]

pub returns-in-Err-make_journal-clause-again : goal.returns-in-Err-make_journal-clause-again
returns-in-Err-make_journal-clause-again g c clean fine t u is left =
    let early : HasCleanDisk (state g.S.Store c.in-Ok.conn) = omega (arith, c.make_journal.ensures.crash.clean) in
    let rest = c.in-Ok.ensures.rests early in
    let was = c.in-Ok.ensures.kept early in
    let schema = sym c.schema-3.ensures.value ∙ c.is_empty.ensures (search rules) in
    let trees = ap (λ (d : Database). d.trees) rest.committed ∙ was.0 in
    let none : IsSound no_schema (state g.S.Store c.args.conn).committed.trees =
    subst (λ (t : Trees). IsSound no_schema t) trees (subst (λ (s : Schema). IsSound s (state g.S.Store c.in-Ok.conn).now.trees) schema rest.sound) in
    elim (c.make_journal.ensures.crash.crash clean left.0 left.1) [
      | inl was ↦ opens_again _ _ t u (g.met.S.Store.settled c.args.conn.store left.0 fine (c.in-Ok.ensures.same early left.0 was)) is left.2
      | inr made ↦ (let there = made schema in opens_sound left.0 u there.0 left.2 ∙ there.1 ∙ sym (opens_empty _ t none is))
    ]

-- a connection that finds what a stop left of a journal

pub returns-in-Ok-known_parts-clause-found : goal.returns-in-Ok-known_parts-clause-found
returns-in-Ok-known_parts-clause-found g c clean old left = (
  (state g.S.Store c.args.conn).committed.trees,
  left,
  (returns-in-Ok-known_parts-clause-opened g c clean).1,
)

pub returns-in-Ok-convert_first-clause-found : goal.returns-in-Ok-convert_first-clause-found
returns-in-Ok-convert_first-clause-found g c clean old left = (
  (state g.S.Store c.args.conn).committed.trees,
  left,
  (returns-in-Ok-convert_first-clause-opened g c clean).1,
)

pub returns-in-Ok-make_journal-clause-found : goal.returns-in-Ok-make_journal-clause-found
returns-in-Ok-make_journal-clause-found g c clean old left =
    ((state g.S.Store c.args.conn).committed.trees, left, (returns-in-Ok-make_journal-clause-opened g c clean).1)

-- the view of the database

pub returns-in-Ok-known_parts-clause-view : goal.returns-in-Ok-known_parts-clause-view
returns-in-Ok-known_parts-clause-view g c clean db v same is =
    let here = view_kept _ _ (returns-in-Ok-known_parts-clause-opened g c clean).1 db v same is in
    (here, λ t left. view_same _ t v (returns-in-Ok-known_parts-clause-kept g c clean t left) here)

pub returns-in-Ok-convert_first-clause-view : goal.returns-in-Ok-convert_first-clause-view
returns-in-Ok-convert_first-clause-view g c clean db v same is =
    let here = view_kept _ _ (returns-in-Ok-convert_first-clause-opened g c clean).1 db v same is in
    (here, λ t left. view_same _ t v (returns-in-Ok-convert_first-clause-kept g c clean t left) here)

pub returns-in-Ok-make_journal-clause-view : goal.returns-in-Ok-make_journal-clause-view
returns-in-Ok-make_journal-clause-view g c clean db v same is =
    let here = view_kept _ _ (returns-in-Ok-make_journal-clause-opened g c clean).1 db v same is in
    (here, λ t left. view_same _ t v (returns-in-Ok-make_journal-clause-kept g c clean t left) here)

pub returns-in-Err-clause-view_left : goal.returns-in-Err-clause-view_left
returns-in-Err-clause-view_left g c clean fine db v same is t left = view_left _ t (λ u o. returns-in-Err-clause-again g c clean fine u t o left) db v same is

pub returns-in-Err-known_parts-clause-view_left : goal.returns-in-Err-known_parts-clause-view_left
returns-in-Err-known_parts-clause-view_left g c clean fine db v same is t left =
    view_left _ t (λ u o. returns-in-Err-known_parts-clause-again g c clean fine u t o left) db v same is

pub returns-in-Err-convert_first-clause-view_left : goal.returns-in-Err-convert_first-clause-view_left
returns-in-Err-convert_first-clause-view_left g c clean fine db v same is t left =
    view_left _ t (λ u o. returns-in-Err-convert_first-clause-again g c clean fine u t o left) db v same is

pub returns-then-not-is_empty-clause-view_left : goal.returns-then-not-is_empty-clause-view_left
returns-then-not-is_empty-clause-view_left g c clean fine db v same is t left =
    view_left _ t (λ u o. returns-then-not-is_empty-clause-again g c clean fine u t o left) db v same is

pub returns-in-Err-make_journal-clause-view_left : goal.returns-in-Err-make_journal-clause-view_left
returns-in-Err-make_journal-clause-view_left g c clean fine db v same is t left =
    view_left _ t (λ u o. returns-in-Err-make_journal-clause-again g c clean fine u t o left) db v same is
