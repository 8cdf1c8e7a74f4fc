use Rattle.sqlite.specs.Effect.{Database}
use Rattle.std.proofs.Common.{ap, subst, ◌≡◌, ◌∙◌, sym, IsTrue, arith, false, rules}
use Rattle.std.proofs.lemmas.Bool.{true_from_ne_false, both_ways}
use Rattle.std.proofs.lemmas.Result.{IfErr-weaker}
use Rattle.sqlite.specs.Held.{state}
use Rattle.sqlite_trees.specs.View.{IsClean}
use Rattle.store_base.proofs.RestLemmas.{shaped_by, if_ok_then, if_ok_both}
use Rattle.store_base.proofs.again.reread.Goals as goal

pub returns-clause-rests : goal.returns-clause-rests
returns-clause-rests g c =
    let store = c.into_store-store.result in
    let v = g.S.Store.view store in
    if_ok_then _ _ c.over.result (λ conn h clean.
    let early : IsClean v = omega (arith, h.0) in
    let sound : v.is_broken ≡ false = sym (c.is_broken.ensures early) ∙ c.if-is_broken.false in
    let opens = h.1.0 clean in
    let is = (opens.1 opens.0.is_open).0 in
    record {
      is_open = opens.0.is_open;
      autocommit = opens.0.autocommit;
      committed = opens.0.clean;
      sound = is;
      shaped = shaped_by v (state g.S.Store conn).now (h.1.1 clean) (g.met.S.Alter.listed store sound) (g.met.S.Store.ordered store sound) is;
    })
    (if_ok_both _ _ c.over.result c.over.ensures.clean (if_ok_both _ _ c.over.result c.over.ensures.opens c.over.ensures.trees))

pub returns-clause-kept : goal.returns-clause-kept
returns-clause-kept g c =
    let store = c.into_store-store.result in
    let v = g.S.Store.view store in
    if_ok_then _ _ c.over.result (λ conn h clean.
    let early : IsClean v = omega (arith, h.0) in
    let sound : v.is_broken ≡ false = sym (c.is_broken.ensures early) ∙ c.if-is_broken.false in
    let live : IsTrue v.is_open = true_from_ne_false _ (λ shut. both_ways _ sound (g.met.S.Store.broken_if_shut store shut)) in
    let opens = h.1.0 clean in
    let undone = c.into_store-store.ensures.undone in
    (sym (search rules) ∙ h.1.1 clean ∙ (undone.undone live).0, (undone.kept early).was_open live))
    (if_ok_both _ _ c.over.result c.over.ensures.clean (if_ok_both _ _ c.over.result c.over.ensures.opens c.over.ensures.trees))

pub returns-clause-same : goal.returns-clause-same
returns-clause-same g c =
    let store = c.into_store-store.result in
    let v = g.S.Store.view store in
    let old = c.args.conn.store in
    if_ok_then _ _ c.over.result (λ conn h clean db left.
    let early : IsClean v = omega (arith, h.0) in
    let sound : v.is_broken ≡ false = sym (c.is_broken.ensures early) ∙ c.if-is_broken.false in
    let live : IsTrue v.is_open = true_from_ne_false _ (λ shut. both_ways _ sound (g.met.S.Store.broken_if_shut store shut)) in
    let opens = h.1.0 clean in
    let undone = c.into_store-store.ensures.undone in
    let last : (g.S.Store.view conn.store).committed ≡ (g.S.Store.view old).committed = sym (ap (λ (d : Database). d.trees) opens.0.clean) ∙ h.1.1 clean
    ∙ (undone.undone live).0 in
    subst (g.S.Store.recovers old) (sym (g.met.S.Store.settled conn.store db opens.0.is_open left ∙ last))
    (g.met.S.Store.stays old ((undone.kept early).was_open live)))
    (if_ok_both _ _ c.over.result c.over.ensures.clean (if_ok_both _ _ c.over.result c.over.ensures.opens c.over.ensures.trees))

pub returns-clause-fresh : goal.returns-clause-fresh
returns-clause-fresh g c = if_ok_then _ _ c.over.result (λ conn h. h.autocommit) c.over.ensures.fresh

pub returns-clause-clean : goal.returns-clause-clean
returns-clause-clean g c = if_ok_then _ _ c.over.result (λ conn h. omega (arith, c.into_store-store.ensures.quiet.clean)) c.over.ensures.clean

pub returns-clause-left : goal.returns-clause-left
returns-clause-left g c = IfErr-weaker c.over.result _ _ (λ e h db left. c.into_store-store.ensures.quiet.outcomes db (h.outcomes db left))
    c.over.ensures.unharmed

pub returns-then-is_broken : goal.returns-then-is_broken
returns-then-is_broken g c = record { fresh = tt; rests = tt; clean = tt; kept = tt; same = tt; left = c.into_store-store.ensures.quiet.outcomes }

pub over-requires : goal.over-requires
over-requires g c clean =
    let store = c.into_store-store.result in
    let v = g.S.Store.view store in
    let sound : v.is_broken ≡ false = sym (c.is_broken.ensures clean) ∙ c.if-is_broken.false in
    let live : IsTrue v.is_open = true_from_ne_false _ (λ shut. both_ways _ sound (g.met.S.Store.broken_if_shut store shut)) in
    let undone = c.into_store-store.ensures.undone in
    let kept = undone.kept clean in
    record {
      sound = sound;
      numbered = c.into_store-store.ensures.numbered clean;
      clean = (undone.undone live).0 ∙ sym (kept.committed live);
      unmarked = kept.marks live;
    }
