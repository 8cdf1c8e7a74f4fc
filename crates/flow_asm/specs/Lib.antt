-- Numbered steps.
--
-- `layout`: a flow's groups, each as its entries at their places. `stages` says what each step
-- is: each entry's call, after a selector's call its pick, a return at the end of each group, the
-- groups one after the other; `steps_of` is the same without the entries. `IsStepView` says what
-- stands at a step. `first_step` is the number of steps before a group; `place_of` the place of
-- the entry of a step; `call_of` the step of an entry's call. `listed` is the flow that steps
-- represent; `IsAssembly` says that steps, starts and participants are those of the listed flow,
-- which is checked.
pub mod Steps
pub mod Listing
pub mod Emit
pub mod Places
pub mod CallSearch
pub mod Views
pub mod Numbering
