use Rattle.std.proofs.Common.{◌≡◌, pos, ◌+◌, length, OnOk, arith, sym, ap, subst, ◌∙◌}
use Rattle.sqlite.specs.Held.{state}
use Rattle.journal_rows.specs.Tables.{Tables, with_last, with_member}
use Rattle.journal_tables.specs.Parts.{Named}
use Rattle.journal_tables.proofs.ChainLemmas.{last_of}
use Rattle.journal_tables.proofs.changes.put_last.Goals as goal

pub returns-clause-steps : goal.returns-clause-steps
returns-clause-steps g c clean ready live are =
    let old = state g.S.Store c.args.tx.now.conn.now in
    let new = state g.S.Store c.put_name.new.tx.conn.now in
    let id = c.args.id in
    let before = c.in-Some.before.now in
    let name = c.in-Some.last.now in
    let place : 0 + length before ≡ length before = omega arith in
    let same = λ (t : Tables).
    ap (λ names. with_last id 0 names t) c.in-Some.ensures.cases.0 ∙ last_of id 0 before name t ∙ ap (λ k. with_member (pos id) (pos k) name t) place in
    subst (λ (f : Tables → Tables). OnOk c.put_name.result (Named c.put_name.new.parts f old new)) (sym (λ i t. same t i))
    (c.put_name.ensures.steps clean ready live are)
