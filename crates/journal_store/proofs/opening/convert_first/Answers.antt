use Rattle.std.proofs.Common.{arith, sym, subst, ◌∙◌}
use Rattle.sqlite.specs.Held.{state}
use Rattle.sqlite.specs.State.{HasCleanDisk}
use Rattle.journal_rows.specs.Tables.{first_tables_of}
use Rattle.journal_tables.specs.Converting.{IsFirst}
use Rattle.journal_tables.specs.declared.parts.Parts.{Parts}
use Rattle.journal_store.proofs.OpenLemmas.{IsRead, fault_read, store_read, fine_of, names_of, only_read, converting, was_converted}
use Rattle.journal_store.proofs.opening.convert_first.Goals as goal

pub returns-in-Ok-convert-clause-converted : goal.returns-in-Ok-convert-clause-converted
returns-in-Ok-convert-clause-converted g c clean first =
    let a = state g.S.Store c.args.conn.now in
    let b = state g.S.Store c.read_first.new.conn in
    let d = state g.S.Store c.convert.new.conn in
    let early : HasCleanDisk b = omega (arith, c.convert.ensures.crash.clean) in
    let same = (c.in-Ok.ensures.same early first).0.now_is in
    let holds = c.in-Ok.ensures.rows early first in
    let read : IsRead a b c.as_slice.result.now = record {
      same = same;
      are = c.as_slice.ensures.value ∙ holds.members;
      fine =
          fine_of (first_tables_of (state g.S.Store c.args.conn.now).now.trees) c.in-Ok-read_as.view
          (c.in-Ok-read_as.ensures.reads (first_tables_of (state g.S.Store c.args.conn.now).now.trees) holds);
    } in
    was_converted a b d c.as_slice.result.now c.in-Ok-convert.parts read (c.in-Ok-convert.ensures.converted clean (subst IsFirst (sym same) first))

pub returns-in-Ok-convert-clause-crash : goal.returns-in-Ok-convert-clause-crash
returns-in-Ok-convert-clause-crash g c =
    converting (state g.S.Store c.args.conn.now) (state g.S.Store c.read_first.new.conn) (state g.S.Store c.convert.new.conn) c.as_slice.result.now
    (λ early first.
    let holds = c.in-Ok.ensures.rows early first in
    record {
      same = (c.in-Ok.ensures.same early first).0.now_is;
      are = c.as_slice.ensures.value ∙ holds.members;
      fine =
          fine_of (first_tables_of (state g.S.Store c.args.conn.now).now.trees) c.in-Ok-read_as.view
          (c.in-Ok-read_as.ensures.reads (first_tables_of (state g.S.Store c.args.conn.now).now.trees) holds);
    })
    c.read_first.ensures.survives c.convert.ensures.crash

pub returns-in-Err-read_as-clause-names : goal.returns-in-Err-read_as-clause-names
returns-in-Err-read_as-clause-names g c clean first = names_of Parts (first_tables_of (state g.S.Store c.args.conn.now).now.trees) c.in-Err-read_as.error
    (c.in-Err-read_as.ensures.reads (first_tables_of (state g.S.Store c.args.conn.now).now.trees) (c.in-Ok.ensures.rows clean first))

pub returns-in-Err-read_as-clause-crash : goal.returns-in-Err-read_as-clause-crash
returns-in-Err-read_as-clause-crash g c = only_read (state g.S.Store c.args.conn.now) (state g.S.Store c.read_first.new.conn) c.read_first.ensures.survives

pub returns-clause-crash : goal.returns-clause-crash
returns-clause-crash g c =
    converting (state g.S.Store c.args.conn.now) (state g.S.Store c.read_first.new.conn) (state g.S.Store c.convert.new.conn) c.as_slice.result.now
    (λ early first.
    let holds = c.in-Ok.ensures.rows early first in
    record {
      same = (c.in-Ok.ensures.same early first).0.now_is;
      are = c.as_slice.ensures.value ∙ holds.members;
      fine =
          fine_of (first_tables_of (state g.S.Store c.args.conn.now).now.trees) c.in-Ok-read_as.view
          (c.in-Ok-read_as.ensures.reads (first_tables_of (state g.S.Store c.args.conn.now).now.trees) holds);
    })
    c.read_first.ensures.survives c.convert.ensures.crash

pub returns-in-Err-clause-read : goal.returns-in-Err-clause-read
returns-in-Err-clause-read g c = store_read _ _ c.cause_of.result c.cause_of.ensures

pub returns-clause-read : goal.returns-clause-read
returns-clause-read g c = store_read _ _ c.cause_of-in-Err-convert.result c.cause_of-in-Err-convert.ensures

pub returns-in-Err-read_as-clause-read : goal.returns-in-Err-read_as-clause-read
returns-in-Err-read_as-clause-read g c = fault_read (state g.S.Store c.args.conn.now) (state g.S.Store c.read_first.new.conn) c.in-Err-read_as.error
    c.read_first.ensures.survives
