-- What a history begins from after a stop or a cut, and what an opening's history holds.
use Rattle.std.specs.Prelude.{ℕ, List, [], ◌∷◌, filter, nat_lt, Option, Some, if◌then◌else◌}
use Rattle.flow_model.specs.declared.flow.Flow.{Flow}
use Rattle.tx_history.specs.declared.event.Event.{Event}
use Rattle.tx_history.specs.declared.event.Event.TheVariants.{Closed}
use Rattle.tx_history.specs.declared.journal.Row.{Row}
use Rattle.tx_history.specs.History.{Start, first_unfinished, is_ended, queue, state_of}
use Rattle.tx_history.specs.Journal.{journal, to_close}

-- closing entries of these transactions, in order, on top of what was there
abbrev pub closes_of : List ℕ → List Event → List Event
closes_of [] past = past
closes_of (id ∷ ids) past = closes_of ids (Closed id ∷ past)

-- the history of an opening
abbrev pub opened : Flow → Start → List Event
opened f v = closes_of (to_close f v.view.rows) []

-- a stop leaves only the journal
abbrev pub stopped : Flow → Start → List Event → Start
stopped f v past = record { view = journal f v past; queue = []; breaks = [] }

-- a cut hands on queue and breakpoints
abbrev pub after_cut : Flow → Start → List Event → List ℕ → Start
after_cut f v past breaks = record { view = journal f v past; queue = queue f v past; breaks = breaks }

-- whom session 0 recovers after an item for the journalled transaction: the same one while it is unfinished, then the
-- first one after it with somebody to notify
abbrev pub recovering_next : Flow → Start → List Event → ℕ → Option ℕ
recovering_next f v past id =
    if is_ended f (state_of f v past id) then first_unfinished f (filter (λ (p : ℕ × Row). nat_lt id p.0) v.view.rows) (λ j. [])
    else Some id
