-- Sources and intakes.
--
-- - *Source.* A source has `given` a list of contexts, has `ended` (answered that none is left)
--   or not, and `ends_with` those lists that it may have given when it ends; no call allows it
--   others. So a source that was handed out and came back ended has given what it was to give. A
--   `Listing` is a list with the number of contexts that it has given, and ends with the whole
--   list.
-- - *Rule of an intake.* What was put is what was got, and then what the intake holds, 4,096
--   items at most (`Passed`), and what was put keeps a law (`Lawful`): items pass it in order, and
--   none is lost, added or doubled. Contracts see an offer as the bytes of its context. Each end
--   knows its own part of the rule (`Side`): the putter alone may put, and knows all that was put; the getter alone may get, and
--   knows all that was got. Each of these steps keeps the rule, at whatever moment it comes: the
--   intake is made with its two ends, a put, a put that is refused, a get, a get of none, and the
--   joining of the ends (`settle`).
-- - *Ends.* An `End` is of one intake, and of what has `passed` it. `WasFull`: what had been put
--   is some items, and then as many as the capacity. `IsBehind`: what was got is the beginning
--   of what was put. No clause says that the first of these items had been got, or that a get of
--   none found the intake empty, since neither end knows what passed the other.
pub mod Ends
pub mod Rule
pub mod Listings
