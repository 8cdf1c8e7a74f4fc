use Rattle.std.proofs.Common.{[], ◌∷◌, to_z-of_z}
use Rattle.sqlite.specs.Held.{state}
use Rattle.sqlite.specs.declared.types.Value.TheVariants.{Int}
use Rattle.store_base.proofs.ReadLemmas.{only_reads, same_if}
use Rattle.book_store.specs.Schema.{book_schema}
use Rattle.book_store.specs.Texts.{next_items_text}
use Rattle.book_store.proofs.QueryLemmas.{reads_next}
use Rattle.book_store.proofs.TextFacts.{next_items_asks, next_names, next_query}
use Rattle.book_store.proofs.reading.next_items.Goals as goal

pub returns-clause-rows : goal.returns-clause-rows
returns-clause-rows g c clean ready = reads_next (state g.S.Store c.args.conn.now) (state g.S.Store c.query_all.new.self) ready c.args.after c.args.day
    c.args.most c.query_all.result
    (rw (to_z-of_z c.ranges.after, to_z-of_z c.ranges.day, to_z-of_z c.ranges.most) at (c.query_all.ensures.ok clean))

pub returns-clause-same : goal.returns-clause-same
returns-clause-same g c clean ready = same_if book_schema next_items_text next_query next_names next_items_asks (state g.S.Store c.args.conn.now)
    (state g.S.Store c.query_all.new.self) ready.schema_is (Int c.args.after ∷ Int c.args.day ∷ Int c.args.most ∷ []) c.query_all.result (rw (
      to_z-of_z
          c.ranges.after,
      to_z-of_z c.ranges.day,
      to_z-of_z c.ranges.most,
    ) at (c.query_all.ensures.ok clean))

pub returns-clause-survives : goal.returns-clause-survives
returns-clause-survives g c = only_reads book_schema next_items_text next_items_asks.plain (Int c.args.after ∷ Int c.args.day ∷ Int c.args.most ∷ [])
    (state g.S.Store c.args.conn.now)
    (state g.S.Store c.query_all.new.self) (rw (to_z-of_z c.ranges.after, to_z-of_z c.ranges.day, to_z-of_z c.ranges.most) at (c.query_all.ensures.survives))
