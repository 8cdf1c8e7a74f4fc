use Rattle.std.proofs.Common.{◌∙◌}
use Rattle.book_store.proofs.reading.open_item.Goals as goal

pub returns-clause-found : goal.returns-clause-found
returns-clause-found g c clean ready = c.open_in.ensures _ (c.as_slice.ensures.value ∙ c.in_ok-rows.ensures.rows clean ready)
