-- Histories.
--
-- A history is the list of accepted events, the newest first, from a `Start`: a journal's view, a
-- queue and breakpoints.
--
-- - *Whose items.* `serves` is the transaction of a session: session 0 the first journalled one
--   that is unfinished (`recovering`), otherwise the one that the session took last; `holds` the
--   same while it is unfinished. `own_items` are the items of one transaction: those that
--   sessions gave while they served it. `state_of` is where they lead, from the take or, for a
--   journalled one, from its row (`reopened`: committing where the row says so, otherwise
--   aborting, with the participant of `doing` as a member).
-- - *Queue and shelf.* `arrivals` are the contexts offered and released, in order. `queue` are
--   those without as many of the first as there were takes. `shelf` are the contexts of
--   transactions that ended by `shelve` since the last release, with one try fewer, ids rising.
--   `next_id` is the id of the next take.
-- - *Debugger.* `has_break`, `is_let_go`, `is_held`: a call is held where its participant has a
--   breakpoint and the session was not let go since the call became due. `restores` is the
--   `recover` call that is due before an outcome.
-- - *Journal.* `journal` is what the history makes of the view: next id, the row of each
--   unfinished transaction (a journalled one keeps its row until a member was notified), shelf,
--   advices. `change` is the newest entry's change, `applied` the journal after a change, `Leads`
--   that the one leads to the other.
-- - *Lawful.* `IsAccepted` is each event's condition, `IsLawful` that each was accepted after
--   those before it, closing entries first, at most 1,048,576 entries. `IsOk` (`Views.antt`) is a
--   journal that an engine may be opened on, `StartFits` a start all of whose participants the
--   flow has; `stopped` and `after_cut` (`Lives.antt`) are what the next life, or the history
--   after a cut, begins from.
pub mod Keys
pub mod History
pub mod Journal
pub mod Views
pub mod Lives
pub mod Held
pub mod Checks
